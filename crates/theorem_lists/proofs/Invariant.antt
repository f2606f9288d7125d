-- What holds of the two sides after every list of events: of each slot by itself, by which request is out; and that it stays where only other slots change. Assumes nothing.
use Rattle.std.specs.Prelude.{Option, Some, None}
use mathlib.Core.Path.{◌≡◌, refl, sym, ap, ◌∙◌}
use mathlib.Core.Bool.{Bool, true, false, ◌&&◌}
use mathlib.Core.Logic.{⊎_elim}
use mathlib.Core.List.{List}
use Prim.Native.Nat.{ℕ, ◌+◌, ◌*◌, ◌<◌, ◌≤◌}
use native.Mathlib.Omega.{arith}
use lib.Dec.{leb}
use lib.ListN.{length, get_or}
use borrow.Author.Tests.{leb-true}
use Rattle.arithmetic.specs.SettingsLaws.{and_left, and_right}
use Rattle.arithmetic.specs.Content.{Bytes}
use Rattle.arithmetic.specs.declared.offsets.Range.{Range}
use Rattle.arithmetic.specs.declared.settings.Settings.{Settings}
use Rattle.vectors.specs.Vectors.{segments_of, bytes_of}
use Rattle.vectors.specs.declared.vector.IoVector.{IoVector}
use Rattle.stages.specs.Stages.{size_of, is_pending, is_blocking, uses_bounce, second_at, lies_in, is_sound}
use Rattle.stages.specs.Laws.{StageOnStore}
use Rattle.stages.specs.declared.state.Job.{Job}
use Rattle.stages.specs.declared.state.Job.TheVariants.{Read, Write, Zeroes, AllocatedZeroes, Discard}
use Rattle.stages.specs.declared.state.Phase.{Phase}
use Rattle.stages.specs.declared.state.Phase.TheVariants.{Free, Ended, DirectRead, BouncedRead, FirstRead, SecondRead, BouncedWrite, DirectWrite, ZeroRequest, DiscardRequest}
use Rattle.stages.specs.declared.state.Stage.{Stage}
use Rattle.stages.specs.declared.state.State.{State}
use Rattle.dock.specs.Begin.{is_write_job, vector_for}
use Rattle.dock.specs.declared.begin.Asked.{Asked}
use Rattle.theorem_lists.specs.Courses.{is_zero_job, has_vector, is_regular}
use Rattle.theorem_lists.specs.Calls.{write_vector, read_vector, direct_reads}
use Rattle.theorem_lists.specs.PlainStore.{yielded, wrote, zeroed, range_for, Tracked, new_bytes, standing}
use Rattle.theorem_lists.specs.Histories.{Among, OwedBy}
use Rattle.theorem_lists.proofs.Geometry.{Beside, ReadBy, Geo, Unread, AsAsked, Zoned}
use Rattle.theorem_lists.proofs.Progress.{Before}

-- ---- one slot

-- byte i of slot p's share of the scratch, where a share has n bytes
abbrev pub share : List ℕ → ℕ → ℕ → ℕ → ℕ
share scratch n p i = get_or scratch (p * n + i) 0

-- the job's last write has put its bytes
abbrev pub Wrote : State → Tracked → Type 0
Wrote x j = Among (wrote x.stage.asked 0 (new_bytes x.job x.stage.asked.start.0 j.bytes)) j.steps

-- the first n bytes of the share are the store's, from the request's start on
abbrev pub Fetched : Bytes → (ℕ → ℕ) → State → ℕ → Type 0
Fetched s sh x i = sh i ≡ s (x.stage.request.start.0 + i)

-- by which request is out: sh is the slot's share, car the code with which the request was carried out
abbrev pub Fact : Phase → Bytes → List ℕ → (ℕ → ℕ) → State → IoVector → Option ℕ → Tracked → Type 0
Fact Free s memory sh x v car j = Unit {0}
Fact Ended s memory sh x v car j = x.answer ≡ 0 → OwedBy x.job x.range v j memory
Fact DirectRead s memory sh x v car j = car ≡ Some 0 → OwedBy Read x.range v j memory
Fact BouncedRead s memory sh x v car j =
    car ≡ Some 0 → (bs : List ℕ) × Among (yielded x.range bs) j.steps × (length bs ≡ size_of x.stage.asked)
    × ((i : ℕ) → i < size_of x.stage.asked → sh (x.stage.head.0 + i) ≡ get_or bs i 0)
Fact FirstRead s memory sh x v car j = car ≡ Some 0 → (i : ℕ) → i < size_of x.stage.first → Fetched s sh x i
Fact SecondRead s memory sh x v car j =
    (car ≡ None → (i : ℕ) → i < size_of x.stage.first → Fetched s sh x i)
    × (car ≡ Some 0 → (i : ℕ) → i < size_of x.stage.request → ReadBy x.stage i → Fetched s sh x i)
Fact BouncedWrite s memory sh x v car j =
    ((i : ℕ) → i < size_of x.stage.asked → sh (x.stage.head.0 + i) ≡ new_bytes x.job x.stage.asked.start.0 j.bytes (x.stage.asked.start.0 + i))
    × ((i : ℕ) → i < size_of x.stage.request → Beside x.stage i → Fetched s sh x i)
    × (car ≡ Some 0 → Wrote x j)
Fact DirectWrite s memory sh x v car j = car ≡ Some 0 → Wrote x j
Fact ZeroRequest s memory sh x v car j = car ≡ Some 0 → Among (zeroed x.stage.request 0) j.steps
Fact DiscardRequest s memory sh x v car j = Unit {0}

-- the job x with the vector v is what was asked
pub record AskedFor (q : Asked) (x : State) (v : IoVector) : Type 0 where
  pub job : q.job ≡ x.job
  pub range : range_for q ≡ x.range
  pub vector : vector_for q ≡ v

pub asked_on : {q : Asked} {x y : State} {v : IoVector} → AskedFor q x v → y.job ≡ x.job → y.range ≡ x.range → AskedFor q y v
asked_on k e f = record { job = k.job ∙ sym e; range = k.range ∙ sym f; vector = k.vector }

-- a job in flight, and what the plain byte store has of it
pub record Flight (t : Settings) (s : Bytes) (memory : List ℕ) (sh : ℕ → ℕ) (x : State) (v : IoVector) (car : Option ℕ) (wait : Bool) (j : Tracked) : Type 0 where
  pub stands : standing t j.first j.codes ≡ x
  pub asked : AskedFor j.asked x v
  pub source : is_write_job x.job ≡ true → bytes_of memory (segments_of v) ≡ j.bytes
  pub geo : Geo x.stage
  pub zoned : is_pending x.phase ≡ true → Zoned x
  pub as_asked : AsAsked x.phase x.stage
  pub before : is_pending x.phase ≡ true → is_zero_job x.job ≡ true → Before x.course x.stage.asked x.range x.middle j.steps
  pub fact : Fact x.phase s memory sh x v car j
  -- a job that waits has no request carried out, and has read nothing
  pub fresh : wait ≡ true → (car ≡ None) × Unread x.phase x.stage

-- ---- where others change

some_none : {A : Type 0} (c : Option ℕ) (n : ℕ) → c ≡ None → c ≡ Some n → A
some_none c n e f = let z : ◌≡◌ {A = ℕ} 0 1 = cc in absurd (omega arith)

pub no_padding : (g : Stage) → Geo g → size_of g.first ≡ 0 → size_of g.second ≡ 0 → (i : ℕ) → i < size_of g.request → Beside g i → ⊥
no_padding g k e f i h b = ⊎_elim (λ l. omega (arith, e, l)) (λ l. omega (arith, f, l.0)) (k.cover i h b)

-- the four sizes of a sound stage are within the share
pub record Within (n : ℕ) (g : Stage) : Type 0 where
  pub whole : g.head.0 + size_of g.asked ≤ n
  pub size : size_of g.request ≤ n
  pub first : size_of g.first ≤ n
  pub second : second_at g + size_of g.second ≤ n

pub within : (n : ℕ) (x : State) → is_sound n x ≡ true → uses_bounce x.phase ≡ true → Within n x.stage
unfolding is_sound lies_in
within n x e u =
    let g = x.stage in
    let l : lies_in n g ≡ true = rw u at e in
    let a = leb (g.head.0 + size_of g.asked) n in
    let b = leb (size_of g.request) n in
    let c = leb (size_of g.first) n in
    let d = leb (second_at g + size_of g.second) n in
    record {
      whole = leb-true _ n (and_left a b (and_left (a && b) c (and_left (a && b && c) d l)));
      size = leb-true _ n (and_right a b (and_left (a && b) c (and_left (a && b && c) d l)));
      first = leb-true _ n (and_right (a && b) c (and_left (a && b && c) d l));
      second = leb-true _ n (and_right (a && b && c) d l);
    }

owed_frame : (k : Job) (r : Range) (v : IoVector) (j : Tracked) (memory memory' : List ℕ) → (has_vector k ≡ true → bytes_of memory' (segments_of v) ≡ bytes_of memory (segments_of v)) → OwedBy k r v j memory → OwedBy k r v j memory'
owed_frame Read r v j memory memory' e o = (o.0, o.1, e refl ∙ o.2)
owed_frame Write r v j memory memory' e o = o
owed_frame Zeroes r v j memory memory' e o = o
owed_frame AllocatedZeroes r v j memory memory' e o = o
owed_frame Discard r v j memory memory' e o = o

module _ (t : Settings) (s s' : Bytes) (memory memory' : List ℕ) (sh sh' : ℕ → ℕ) (x : State) (v : IoVector) (car : Option ℕ) (wait wait' : Bool) (j : Tracked)
    (sound : is_sound t.bounce x ≡ true) (on_store : is_pending x.phase ≡ true → StageOnStore x.stage) (regular : is_regular x ≡ true)
    (data-same : has_vector x.job ≡ true → bytes_of memory' (segments_of v) ≡ bytes_of memory (segments_of v))
    (share-same : (i : ℕ) → i < t.bounce → sh' i ≡ sh i)
    (store_same : wait ≡ false → x.stage.strong ≡ true → is_blocking x.phase ≡ true → (i : ℕ) → i < size_of x.stage.request → s' (x.stage.request.start.0 + i) ≡ s (x.stage.request.start.0 + i))
    (wait_less : wait' ≡ true → wait ≡ true)
    (F : Flight t s memory sh x v car wait j) where
  -- a byte of the store that a fact of this job speaks of
  agree : is_blocking x.phase ≡ true → (i : ℕ) → i < size_of x.stage.request → (wait ≡ true → ⊥) → (x.stage.strong ≡ false → ⊥) → s (x.stage.request.start.0 + i) ≡ s' (x.stage.request.start.0 + i)
  agree p i h a b = go wait x.stage.strong refl refl
    where
      go : (c d : Bool) → wait ≡ c → x.stage.strong ≡ d → s (x.stage.request.start.0 + i) ≡ s' (x.stage.request.start.0 + i)
      go true d e f = absurd (a e)
      go false true e f = sym (store_same e f p i h)
      go false false e f = absurd (b f)

  first_within : StageOnStore x.stage → (i : ℕ) → i < size_of x.stage.first → i < size_of x.stage.request
  first_within k i h = omega (arith, k.first_starts (omega arith), k.first_ends (omega arith))

  by_phase : (ph : Phase) → x.phase ≡ ph → Fact ph s memory sh x v car j → Fact ph s' memory' sh' x v car j
  by_phase Free e f = tt
  by_phase Ended e f = λ a. owed_frame x.job x.range v j memory memory' data-same (f a)
  by_phase DirectRead e f = λ c. owed_frame Read x.range v j memory memory' (λ u. data-same (reads e)) (f c)
    where
      reads : x.phase ≡ DirectRead → has_vector x.job ≡ true
      reads e = read_vector x.job (direct_reads x regular e)
  by_phase BouncedRead e f = λ c. let k = f c in (k.0, k.1, k.2, λ i h. share-same (x.stage.head.0 + i) (omega (arith, w.whole)) ∙ k.3 i h)
    where
      w : Within t.bounce x.stage
      w = within t.bounce x sound (ap uses_bounce e)
  by_phase FirstRead e f = λ c i h.
      share-same i (omega (arith, w.first)) ∙ f c i h
      ∙ agree (ap is_blocking e) i (first_within (on_store (ap is_pending e)) i h) (λ a. some_none car 0 (F.fresh a).0 c) (λ a. omega (arith, (F.geo.weak a).2, h))
    where
      w : Within t.bounce x.stage
      w = within t.bounce x sound (ap uses_bounce e)
  by_phase SecondRead e f = (
    λ c i h.
        share-same i (omega (arith, w.first)) ∙ f.0 c i h
        ∙ agree (ap is_blocking e) i (first_within (on_store (ap is_pending e)) i h) (λ a. let z : size_of x.stage.first ≡ 0 = unread a in omega (arith, z, h)) (λ a. omega (arith, (F.geo.weak a).2, h)),
    λ c i h r.
        share-same i (omega (arith, w.size)) ∙ f.1 c i h r
        ∙ agree (ap is_blocking e) i h (λ a. some_none car 0 (F.fresh a).0 c) (λ a. ⊎_elim (λ l. omega (arith, (F.geo.weak a).2, l)) (λ l. omega (arith, (F.geo.weak a).3, l.0)) r),
  )
    where
      w : Within t.bounce x.stage
      w = within t.bounce x sound (ap uses_bounce e)

      unread : wait ≡ true → size_of x.stage.first ≡ 0
      unread a = rw e at (F.fresh a).1
  by_phase BouncedWrite e f = (
    λ i h. share-same (x.stage.head.0 + i) (omega (arith, w.whole)) ∙ f.0 i h,
    (λ i h b.
        share-same i (omega (arith, w.size)) ∙ f.1 i h b
        ∙ agree (ap is_blocking e) i h (λ a. no_padding x.stage F.geo (unread a).0 (unread a).1 i h b) (λ a. no_padding x.stage F.geo (F.geo.weak a).2 (F.geo.weak a).3 i h b)),
    f.2,
  )
    where
      w : Within t.bounce x.stage
      w = within t.bounce x sound (ap uses_bounce e)

      unread : wait ≡ true → (size_of x.stage.first ≡ 0) × (size_of x.stage.second ≡ 0)
      unread a = rw e at (F.fresh a).1
  by_phase DirectWrite e f = f
  by_phase ZeroRequest e f = f
  by_phase DiscardRequest e f = tt

  pub flight_frame : Flight t s' memory' sh' x v car wait' j
  flight_frame = record {
    stands = F.stands;
    asked = F.asked;
    source = λ u. data-same (write_vector x.job u) ∙ F.source u;
    geo = F.geo;
    zoned = F.zoned;
    as_asked = F.as_asked;
    before = F.before;
    fact = by_phase x.phase refl F.fact;
    fresh = λ a. F.fresh (wait_less a);
  }
