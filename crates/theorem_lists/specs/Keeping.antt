-- What keeps `Held`: a blocker that enters, leaves or stays, one slot anew; and that an opened dock has it. Assumes nothing.
use Rattle.std.specs.Prelude.{◌≡◌, Bool, ◌≢◌, List, [], ℕ, ◌+◌, ◌<◌, length, get_or, set, Ok}
use Rattle.std.proofs.Math.Path.{refl, sym, ap}
use Rattle.std.proofs.Common.{◌∙◌, subst, arith, length-set, get_or-set_same, get_or-set_other}
use Rattle.std.proofs.Math.Bool.{true, false}
use Rattle.std.proofs.Math.Decide.{ℕ_discrete}
use Rattle.std.proofs.lemmas.List.{get_or-replicate, length-replicate}
use Rattle.arithmetic.specs.Rounding.{pick}
use Rattle.arithmetic.specs.Settings.{opening_of}
use Rattle.arithmetic.specs.declared.offsets.Range.{Range}
use Rattle.arithmetic.specs.declared.settings.Settings.{Settings}
use Rattle.arithmetic.specs.declared.settings.Buffers.{Buffers}
use Rattle.vectors.specs.Vectors.{vector_of}
use Rattle.vectors.specs.declared.vector.IoVector.{IoVector}
use Rattle.blockers.specs.Blockers.{present, is_entered, blocker_at, no_blockers, vacant as no_blocker, nowhere as past, entered_of}
use Rattle.blockers.specs.Blockers.{left_of}
use Rattle.blockers.specs.Blockers.{strength}
use Rattle.blockers.specs.Reached.{Reached}
use Rattle.blockers.specs.Laws.{enter_done, entered_other, entered_own, enter_reached, ranked, leave_done, left_kind, left_range, left_own}
use Rattle.blockers.specs.Laws.{leave_reached, none_reached}
use Rattle.blockers.specs.declared.Kind.{Kind}
use Rattle.blockers.specs.declared.Kind.TheVariants.{Absent}
use Rattle.blockers.specs.declared.Blocker.{Blocker}
use Rattle.blockers.specs.declared.Blockers.{Blockers}
use Rattle.blockers.specs.Blockers.{Changed}
use Rattle.stages.specs.Stages.{blocked_of, is_blocking, is_sound}
use Rattle.stages.specs.declared.state.Stage.{Stage}
use Rattle.stages.specs.declared.state.State.{State}
use Rattle.dock.specs.Dock.{no_state, no_vector, vacant, fresh, vector_at}
use Rattle.dock.specs.Begin.{blockers_with}
use Rattle.dock.specs.Tell.{blockers_without}
use Rattle.dock.specs.declared.dock.Dock.{Dock}
use Rattle.stages.specs.Laws.{never}
use Rattle.theorem_lists.specs.Courses.{is_regular}
use Rattle.theorem_lists.specs.Held.{Encloses, SlotHeld, SlotOf, Held}

-- ---- the blockers, as one slot's enters or leaves

-- The slot p has the blocker of the job y, or none where y has none; the other slots have theirs as before.
pub record Changes (b : Blockers) (p : ℕ) (y : State) (c : Changed) : Type 0 where
  pub done : c.outcome ≡ Ok tt
  pub rank : ℕ → ℕ
  pub clock : ℕ
  pub reached : Reached c.blockers rank clock
  pub kinds : (q : ℕ) → q ≢ p → (blocker_at c.blockers q).kind ≡ (blocker_at b q).kind
  pub ranges : (q : ℕ) → q ≢ p → (blocker_at c.blockers q).range ≡ (blocker_at b q).range
  pub entered : present (blocker_at c.blockers p).kind ≡ is_blocking y.phase
  pub own : is_blocking y.phase ≡ true
      → ((blocker_at c.blockers p).kind ≡ strength y.stage.strong) × Encloses (blocker_at c.blockers p).range y.stage.request

-- all that is asked of a stage's blocked range
blocked_encloses : (g : Stage) (r : Range) → r ≡ blocked_of g → Encloses r g.request
blocked_encloses g r e =
    let a : r.start.0 ≡ g.request.start.0 = ap (λ (k : Range). k.start.0) e in
    let b : r.end.0 ≡ g.request.end.0 = ap (λ (k : Range). k.end.0) e in
    record { from = omega arith; to = omega arith }

strong_present : (t : Bool) → present (strength t) ≡ true
strong_present true = refl
strong_present false = refl

module _ (b : Blockers) (p : ℕ) (y : State) (rank : ℕ → ℕ) (clock : ℕ) (R : Reached b rank clock) where
  -- the blockers stay as they are
  unchanged : is_entered (blocker_at b p) ≡ is_blocking y.phase
      → (is_blocking y.phase ≡ true
      → ((blocker_at b p).kind ≡ strength y.stage.strong) × Encloses (blocker_at b p).range y.stage.request)
      → Changes b p y (record { blockers = b; outcome = (Ok (tt {0})) })
  unchanged e o = record {
    done = refl;
    rank = rank;
    clock = clock;
    reached = R;
    kinds = λ q n. refl;
    ranges = λ q n. refl;
    entered = e;
    own = o;
  }

  -- no blocker was there, and none comes
  pub none_changes : is_entered (blocker_at b p) ≡ false → is_blocking y.phase ≡ false
      → Changes b p y (record { blockers = b; outcome = (Ok tt) })
  none_changes e f = unchanged (e ∙ sym f) (λ u. never (sym f ∙ u))

module _ (b : Blockers) (p : ℕ) (y : State) (rank : ℕ → ℕ) (clock : ℕ) (R : Reached b rank clock) (h : p < 8) where
  -- a blocker enters into a vacant slot
  pub enter_changes : is_entered (blocker_at b p) ≡ false → Changes b p y (blockers_with b p y)
  unfolding blockers_with
  enter_changes e = go (is_blocking y.phase) refl
    where
      k : Kind
      k = strength y.stage.strong

      r : Range
      r = blocked_of y.stage

      go : (t : Bool) → is_blocking y.phase ≡ t → Changes b p y (pick t (entered_of k p r b) (record { blockers = b; outcome = (Ok tt) }))
      go true t =
          let o = entered_own k p r b R.slots h e in
          record {
            done = ap (λ (c : Changed). c.outcome) (enter_done k p r b h e);
            rank = ranked rank clock p;
            clock = clock + 1;
            reached = enter_reached k p r b rank clock (strong_present y.stage.strong) R h e;
            kinds = λ q n. ap (λ (x : Blocker). x.kind) (entered_other k p r b q n);
            ranges = λ q n. ap (λ (x : Blocker). x.range) (entered_other k p r b q n);
            entered = ap (λ (x : Blocker). is_entered x) o ∙ strong_present y.stage.strong ∙ sym t;
            own = λ u. (ap (λ (x : Blocker). x.kind) o, blocked_encloses y.stage _ (ap (λ (x : Blocker). x.range) o));
          }
      go false t = none_changes b p y rank clock R e t

  -- the blocker of the job x leaves
  pub leave_changes : (x : State) → is_entered (blocker_at b p) ≡ is_blocking x.phase → is_blocking y.phase ≡ false
      → Changes b p y (blockers_without b p x)
  unfolding blockers_without
  leave_changes x e f = go (is_blocking x.phase) refl
    where
      go : (t : Bool) → is_blocking x.phase ≡ t → Changes b p y (pick t (left_of p b) (record { blockers = b; outcome = (Ok tt) }))
      go true t =
          let o = left_own p b h (e ∙ t) in
          record {
            done = ap (λ (c : Changed). c.outcome) (leave_done p b h (e ∙ t));
            rank = rank;
            clock = clock;
            reached = leave_reached p b rank clock R;
            kinds = λ q n. left_kind p b q n;
            ranges = λ q n. left_range p b q n;
            entered = ap (λ (x : Blocker). is_entered x) o ∙ sym f;
            own = λ u. never (sym f ∙ u);
          }
      go false t = none_changes b p y rank clock R (e ∙ t) f

  -- the blocker of the job x stays, and the job is y now, in the same stage
  pub stay_changes : (x : State) → y.stage ≡ x.stage → is_blocking y.phase ≡ is_blocking x.phase
      → present (blocker_at b p).kind ≡ is_blocking x.phase
      → (is_blocking x.phase ≡ true
      → ((blocker_at b p).kind ≡ strength x.stage.strong) × Encloses (blocker_at b p).range x.stage.request)
      → Changes b p y (record { blockers = b; outcome = (Ok tt) })
  stay_changes x g f e o = unchanged b p y rank clock R (e ∙ sym f) (λ u. rw g (o (sym f ∙ u)))

-- ---- one slot anew

abbrev pub renewed : Dock → ℕ → Blockers → State → List IoVector → Dock
renewed d p b x vs = record { settings = d.settings; buffers = d.buffers; blockers = b; states = set d.states p x; vectors = vs }

module _ (d : Dock) (H : Held d) (p : ℕ) (h : p < 8) (x : State) (vs : List IoVector) (c : Changed) (C : Changes d.blockers p x c) where
  pub slot_anew : length vs ≡ 8 → ((q : ℕ) → q ≢ p → get_or vs q no_vector ≡ vector_at d q)
      → SlotHeld d.settings.bounce d.buffers.«data».length x (get_or vs p no_vector) (blocker_at c.blockers p).kind
      (blocker_at c.blockers p).range
      → Held (renewed d p c.blockers x vs)
  slot_anew l others own = record {
    opened = H.opened;
    states = length-set d.states p x ∙ H.states;
    vectors = l;
    rank = C.rank;
    clock = C.clock;
    blockers = C.reached;
    slots = each;
  }
    where
      same : SlotOf (renewed d p c.blockers x vs) p
      same = rw (get_or-set_same d.states p x no_state (rw H.states h)) own

      other : (q : ℕ) → q < 8 → q ≢ p → SlotOf (renewed d p c.blockers x vs) q
      other q g n = rw (get_or-set_other d.states p q x no_state n, others q n, C.kinds q n, C.ranges q n) (H.slots q g)

      each : (q : ℕ) → q < 8 → SlotOf (renewed d p c.blockers x vs) q
      each q g = elim (ℕ_discrete q p) [
        | yes i ↦ subst (λ (k : ℕ). SlotOf (renewed d p c.blockers x vs) k) (sym i) same
        | no n ↦ other q g n
      ]

-- a free slot
pub none_held : (n m : ℕ) (v : IoVector) (k : Kind) (r : Range) → present k ≡ false → SlotHeld n m vacant v k r
unfolding vacant is_sound is_regular
none_held n m v k r e = record {
  sound = refl;
  on_store = never;
  regular = refl;
  sole = λ f. never (sym f);
  vector = λ f. never (sym f);
  entered = e;
  blocker = never;
}

-- ---- opening

pub fresh_held : (s : Settings) (b : Buffers) → opening_of s b ≡ (Ok tt) → Held (fresh s b)
unfolding fresh no_blockers
fresh_held s b e = record {
  opened = e;
  states = length-replicate 8 vacant;
  vectors = length-replicate 8 (vector_of []);
  rank = λ p. 0;
  clock = 0;
  blockers = none_reached;
  slots =
      λ p h. rw (
        get_or-replicate 8 p vacant no_state h,
        get_or-replicate 8 p (vector_of []) no_vector h,
        get_or-replicate 8 p no_blocker past h,
      )
      (none_held s.bounce b.«data».length (vector_of []) Absent no_blocker.range refl);
}
