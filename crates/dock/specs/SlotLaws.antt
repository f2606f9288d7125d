-- What the calls on a slot rely on: which jobs are sound there, what is filled and copied out then, the lowest free slot, and how a begin
-- is decided. Assumes nothing.
use Rattle.std.specs.Prelude.{◌≡◌, refl, Bool, true, false, ◌&&◌, ◌||◌, List, [], ◌∷◌, ℕ, zero, suc, ◌+◌, ◌*◌, ◌<◌, leb, ltb, eqb, length}
use Rattle.std.specs.Prelude.{get_or, Result, Ok, Err, Option, Some, None}
use Rattle.std.proofs.Common.{sym, ap, ◌∙◌, add-one, arith, ltb-true, lt-ltb, le-leb}
use Rattle.arithmetic.specs.Rounding.{pick}
use Rattle.arithmetic.specs.Refusals.{when_done}
use Rattle.arithmetic.specs.Loops.{any_below}
use Rattle.arithmetic.specs.declared.refusals.Refusal.TheVariants.{Overlap, Full, Buffer, NoAnswer}
use Rattle.arithmetic.specs.Settings.{opening_of}
use Rattle.arithmetic.specs.SettingsLaws.{and_left, and_right, opened}
use Rattle.arithmetic.specs.declared.settings.Settings.{Settings}
use Rattle.arithmetic.specs.declared.settings.Buffers.{Buffers}
use Rattle.arithmetic.specs.declared.offsets.StoreOffset.{StoreOffset}
use Rattle.vectors.specs.Vectors.{is_valid}
use Rattle.vectors.specs.declared.vector.IoVector.{IoVector}
use Rattle.stages.specs.Stages.{is_free, is_sound, uses_bounce, told_of}
use Rattle.stages.specs.Laws.{told_stays, told_enters, read_opens, write_opens, zero_opens, discard_opens}
use Rattle.stages.specs.declared.state.Phase.{Phase}
use Rattle.stages.specs.declared.state.Phase.TheVariants.{Free, Ended, DirectRead, BouncedRead, FirstRead, SecondRead, BouncedWrite}
use Rattle.stages.specs.declared.state.Phase.TheVariants.{DirectWrite, ZeroRequest, DiscardRequest}
use Rattle.stages.specs.declared.state.Job.{Job}
use Rattle.stages.specs.declared.state.Job.TheVariants.{Read, Write, Zeroes, AllocatedZeroes, Discard}
use Rattle.stages.specs.declared.state.State.{State}
use Rattle.stages.specs.declared.told.Step.{Step}
use Rattle.stages.specs.declared.told.Step.TheVariants.{Stays, Ends, Enters}
use Rattle.dock.specs.Dock.{no_state, lent_fits, lent_of, meets_at, meets_itself, overlaps_of, first_free}
use Rattle.dock.specs.Begin.{Filled, fills, is_bounced_write, merged, filled, decided_of, admit_at, stored_with, selected_of}
use Rattle.dock.specs.Begin.{plan_of, begin_of}
use Rattle.dock.specs.Next.{is_sound_in, is_sound_at}
use Rattle.dock.specs.Tell.{Handed, hands, is_bounced_read, copied_out, handed, answered_of}
use Rattle.dock.specs.Slots.{filled_share, handed_share, PlanSound, StepSound}
use Rattle.dock.specs.declared.dock.Dock.{Dock}
use Rattle.dock.specs.declared.begin.Asked.{Asked}
use Rattle.arithmetic.specs.declared.refusals.Refusal.{Refusal}

-- ---- a sound job is sound in each of the eight slots, over the buffers of opening

pub sound_here : (p : ℕ) (x : State) (s : Settings) (b : Buffers) (m n : ℕ) → p < 8 → lent_fits b m n ≡ true → is_sound_in x s b ≡ true →
    is_sound_at p x s b n ≡ true
unfolding is_sound_at lent_fits
sound_here p x s b m n h l k = simp (lt-ltb p 8 h, k) (and_right (eqb m b.«data».length) (eqb n b.scratch.length) l)

-- ---- what is filled, and copied out, then

pub filled_share_lem : (p : ℕ) (s : Settings) (b : Buffers) (x : State) (v : IoVector) (memory scratch : List ℕ) →
    is_sound_at p x s b (length scratch) ≡ true
    → filled_share p s b x v memory scratch ≡ filled (p * s.bounce) x v memory scratch
unfolding filled_share filled
filled_share_lem p s b x v memory scratch e = rw e (go (is_bounced_write x.phase) (merged (p * s.bounce) x v memory scratch)
    (fills (Ok tt) scratch))
  where
    go : (t : Bool) (k z : Filled) → pick t (pick t k z) z ≡ pick t k z
    go true k z = refl
    go false k z = refl

pub handed_share_lem : (p : ℕ) (s : Settings) (b : Buffers) (x : State) (code : ℕ) (v : IoVector) (memory scratch : List ℕ) →
    is_sound_at p x s b (length scratch) ≡ true
    → handed_share p s b x code v memory scratch ≡ handed (p * s.bounce) x code v memory scratch
unfolding handed_share handed
handed_share_lem p s b x code v memory scratch e = rw e (go (is_bounced_read x.phase && eqb code 0)
    (copied_out (p * s.bounce) x v memory scratch) (hands (Ok tt) memory))
  where
    go : (t : Bool) (k z : Handed) → pick t (pick t k z) z ≡ pick t k z
    go true k z = refl
    go false k z = refl

-- ---- a code is told

-- a code that leads on leads where the stage says
pub leads_told : (s : Settings) (x : State) (code : ℕ) (t : Step) → answered_of s x code ≡ Ok t → told_of s x code ≡ t
unfolding answered_of
leads_told s x code t e = leads (ltb code 200) e
  where
    leads : (u : Bool) → pick u (Ok (told_of s x code)) (Err NoAnswer) ≡ Ok t → told_of s x code ≡ t
    leads true e = cc
    leads false e = let z : ◌≡◌ {A = ℕ} 0 1 = cc in absurd (omega arith)

-- a job whose stage is sound is sound where another one is
sound_too : (x y : State) (s : Settings) (b : Buffers) → is_sound_in x s b ≡ true → is_sound s.bounce y ≡ true → is_sound_in y s b ≡ true
unfolding is_sound_in
sound_too x y s b k e = rw e (and_right (is_sound s.bounce x) (leb (8 * s.bounce) b.scratch.length) k)

pub sound_share : (x : State) (s : Settings) (b : Buffers) → is_sound_in x s b ≡ true → is_sound s.bounce x ≡ true
unfolding is_sound_in
sound_share x s b k = and_left (is_sound s.bounce x) (leb (8 * s.bounce) b.scratch.length) k

pub leads_sound : (p : ℕ) (s : Settings) (b : Buffers) (x : State) (code m n : ℕ) → p < 8 → lent_fits b m n ≡ true
    → is_sound_in x s b ≡ true →
    (t : Step) → answered_of s x code ≡ Ok t
    → StepSound p s b x n t
leads_sound p s b x code m n h l k t e = by t (leads_told s x code t e)
  where
    by : (t : Step) → told_of s x code ≡ t → StepSound p s b x n t
    by (Stays y) e = sound_here p y s b m n h l (sound_too x y s b k ((told_stays s x code y e).sound (sound_share x s b k)))
    by (Ends y) e = sound_here p x s b m n h l k
    by (Enters y) e = sound_here p y s b m n h l (sound_too x y s b k (told_enters s x code y e).sound)

-- the phases whose bytes are filled in use the bounce buffer
pub writes_use : (ph : Phase) → is_bounced_write ph ≡ true → uses_bounce ph ≡ true
writes_use Free e = e
writes_use Ended e = e
writes_use DirectRead e = e
writes_use BouncedRead e = refl
writes_use FirstRead e = refl
writes_use SecondRead e = refl
writes_use BouncedWrite e = refl
writes_use DirectWrite e = e
writes_use ZeroRequest e = e
writes_use DiscardRequest e = e

-- ---- a begin meets the vectors of other jobs, one slot after the other

pub met_none : (a : Bool) (f : ℕ → Bool) → a ≡ (a || any_below 0 f)
unfolding any_below
met_none true f = refl
met_none false f = refl

pub met_more : (met m : Bool) (i : ℕ) (a : Bool) (f : ℕ → Bool) → met ≡ (a || any_below i f) → m ≡ f i
    → (met || m) ≡ (a || any_below (i + 1) f)
unfolding any_below
met_more met m i a f p q = rw (p, q, add-one) (assoc a (any_below i f) (f i))
  where
    assoc : (a b c : Bool) → ((a || b) || c) ≡ (a || (b || c))
    assoc true b c = refl
    assoc false b c = refl

pub met_all : (xs : List State) (vs : List IoVector) (j : Job) (v : IoVector) (met : Bool) (i : ℕ) → i ≡ 8
    → met ≡ (meets_itself j v || any_below i (meets_at xs vs j v)) → met ≡ overlaps_of xs vs j v
unfolding overlaps_of
met_all xs vs j v met i h e = e ∙ ap (λ (n : ℕ). meets_itself j v || any_below n (meets_at xs vs j v)) h

-- ---- the lowest free slot

-- none of the first i slots is free
abbrev pub NoneFree : List State → ℕ → Type 0
NoneFree xs i = (k : ℕ) → k < i → is_free (get_or xs k no_state).phase ≡ false

pub lowest_here : (xs : List State) (i : ℕ) → NoneFree xs i → i < length xs → is_free (get_or xs i no_state).phase ≡ true
    → i ≡ first_free xs
unfolding first_free
lowest_here [] i f h e = absurd (omega arith)
lowest_here (x ∷ xs) zero f h e = simp e
lowest_here (x ∷ xs) (suc i) f h e = simp (f 0 (omega arith))
    (omega (arith, lowest_here xs i (λ k l. f (suc k) (omega arith)) (omega arith) e))

pub lowest_none : (xs : List State) → NoneFree xs (length xs) → length xs ≡ first_free xs
unfolding first_free
lowest_none [] f = refl
lowest_none (x ∷ xs) f = simp (f 0 (omega arith)) (omega (arith, lowest_none xs (λ k l. f (suc k) (omega arith))))

-- it is free
pub lowest_free : (xs : List State) → first_free xs < length xs → is_free (get_or xs (first_free xs) no_state).phase ≡ true
unfolding first_free
lowest_free [] h = absurd (omega arith)
lowest_free (x ∷ xs) h = go (is_free x.phase) refl h (λ l. lowest_free xs l)
  where
    go : (t : Bool) → is_free x.phase ≡ t → pick t 0 (suc (first_free xs)) < suc (length xs)
        → (first_free xs < length xs → is_free (get_or xs (first_free xs) no_state).phase ≡ true)
        → is_free (get_or (x ∷ xs) (pick t 0 (suc (first_free xs))) no_state).phase ≡ true
    go true e h f = e
    go false e h f = f (omega arith)

-- ---- a begin is decided

-- the first stage of a plan is sound
pub plan_sound : (j : Job) (s : Settings) (b : Buffers) (o : StoreOffset) (n : ℕ) (v : IoVector) (x : State)
    → plan_of j s b o n v ≡ (Ok (Some x)) → is_sound s.bounce x ≡ true
plan_sound Read s b o n v x e = (read_opens s o v.total _ x e).sound
plan_sound Write s b o n v x e = (write_opens s o v.total _ x e).sound
plan_sound Zeroes s b o n v x e = (zero_opens s o n false x e).sound
plan_sound AllocatedZeroes s b o n v x e = (zero_opens s o n true x e).sound
plan_sound Discard s b o n v x e = (discard_opens s o n x e).sound

-- a plan that was decided to start: nothing refused it, and it has its slot
pub record Permitted (l : Result (Unit {0}) Refusal) (t : Bool) (plan : Result (Option State) Refusal) (met : Bool) (f : ℕ) (x : State) :
    Type 0 where
  pub lent : l ≡ Ok tt
  pub valid : t ≡ true
  pub planned : plan ≡ Ok (Some x)
  pub apart : met ≡ false
  pub slot : f < 8

pub started : (l : Result (Unit {0}) Refusal) (t : Bool) (plan : Result (Option State) Refusal) (met : Bool) (f : ℕ) (x : State)
    → decided_of l t plan met f ≡ (Ok (Some x)) →
    Permitted l t plan met f x
started (Err r) t plan met f x e = absurd (let z : ◌≡◌ {A = ℕ} 0 1 = cc in omega arith)
started (Ok _) false plan met f x e = absurd (let z : ◌≡◌ {A = ℕ} 0 1 = cc in omega arith)
started (Ok _) true (Ok None) met f x e = absurd (let z : ◌≡◌ {A = ℕ} 0 1 = cc in omega arith)
started (Ok _) true (Err r) met f x e = absurd (let z : ◌≡◌ {A = ℕ} 0 1 = cc in omega arith)
started (Ok _) true (Ok (Some y)) met f x e = go met (ltb f 8) refl e
  where
    go : (a u : Bool) → ltb f 8 ≡ u → pick a (Err Overlap) (pick u (Ok (Some y)) (Err Full)) ≡ (Ok (Some x)) →
        Permitted (Ok (tt {0})) true (Ok (Some y)) a f x
    go true u h e = absurd (let z : ◌≡◌ {A = ℕ} 0 1 = cc in omega arith)
    go false true h e = record { lent = refl; valid = refl; planned = e; apart = refl; slot = ltb-true f 8 h }
    go false false h e = absurd (let z : ◌≡◌ {A = ℕ} 0 1 = cc in omega arith)

-- what is lent fits: as at opening, and the lengths
pub lent_done : (s : Settings) (b : Buffers) (m n : ℕ) → lent_of s b m n ≡ (Ok tt) → (opening_of s b ≡ (Ok tt)) × (lent_fits b m n ≡ true)
unfolding lent_of
lent_done s b m n e = go (opening_of s b) (lent_fits b m n) e
  where
    go : (o : Result (Unit {0}) Refusal) (t : Bool) → when_done o (pick t (Ok (tt {0})) (Err Buffer)) Err ≡ (Ok (tt {0}))
        → (o ≡ (Ok (tt {0}))) × (t ≡ true)
    go (Ok _) true e = (refl, refl)
    go (Ok _) false e = let z : ◌≡◌ {A = ℕ} 0 1 = cc in absurd (omega arith)
    go (Err r) t e = let z : ◌≡◌ {A = ℕ} 0 1 = cc in absurd (omega arith)

-- over what a begin is lent, a job whose stage is sound is sound in a slot of the eight
lent_sound : (s : Settings) (b : Buffers) (m n p : ℕ) (x : State) → lent_of s b m n ≡ (Ok tt) → p < 8 → is_sound s.bounce x ≡ true →
    is_sound_at p x s b n ≡ true
unfolding is_sound_at is_sound_in
lent_sound s b m n p x d h w =
    let k = lent_done s b m n d in
    sound_here p x s b m n h k.1 (simp w (le-leb (8 * s.bounce) b.scratch.length (omega (arith, (opened s b k.0).room))))

pub decided_sound : (j : Job) (s : Settings) (b : Buffers) (o : StoreOffset) (k : ℕ) (v : IoVector) (m n : ℕ) (l : Result (Unit {0})
    Refusal)
    → l ≡ lent_of s b m n → (t : Bool) (plan : Result (Option State) Refusal) → plan ≡ plan_of j s b o k v
    → (met : Bool) (f : ℕ) (q : Result (Option State) Refusal) → q ≡ decided_of l t plan met f → PlanSound f s b n q
decided_sound j s b o k v m n l le t plan pe met f (Ok None) e = tt
decided_sound j s b o k v m n l le t plan pe met f (Err r) e = tt
decided_sound j s b o k v m n l le t plan pe met f (Ok (Some x)) e =
    let w = started l t plan met f x (sym e) in
    lent_sound s b m n f x (sym le ∙ w.lent) w.slot (plan_sound j s b o k v x (sym pe ∙ w.planned))

-- what is asked, planned, decided and admitted, each as its definition says, is begun
module _ (d : Dock) (q : Asked) (memory scratch : List ℕ) (v : IoVector) (ve : v ≡ selected_of q.job q.vector) (met : Bool)
    (me : met ≡ overlaps_of d.states d.vectors q.job v)
    (l : Result (Unit {0}) Refusal) (le : l ≡ lent_of d.settings d.buffers (length memory) (length scratch)) (f : ℕ) (fe : f ≡ first_free
    d.states)
    (plan : Result (Option State) Refusal) (pe : plan ≡ plan_of q.job d.settings d.buffers q.offset q.length q.vector) (t : Bool)
    (te : t ≡ is_valid (length memory) v)
    (r : Result (Option State) Refusal) (re : r ≡ decided_of l t plan met f) where
  pub begin_whole : stored_with d v (admit_at d.blockers f d.settings.bounce v memory scratch r) ≡ begin_of d q memory scratch
  unfolding begin_of
  begin_whole = cc
