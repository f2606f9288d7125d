-- Lists of events on an opened dock over a store: the real side runs the dock's own definitions; what a list may assume; what is claimed of
-- every list.
use Rattle.std.specs.Prelude.{Option, Some, None}
use Rattle.std.specs.Prelude.{◌≡◌, Bool, true, false, ◌&&◌, List, [], ◌∷◌, ℕ, ◌-◌, eqb, length, get_or, Result, Ok, Err}
use Rattle.arithmetic.specs.Refusals.{when_done}
use Rattle.arithmetic.specs.Rounding.{pick}
use Rattle.arithmetic.specs.Content.{Bytes, in_range}
use Rattle.arithmetic.specs.declared.offsets.Range.{Range}
use Rattle.arithmetic.specs.declared.settings.Settings.{Settings}
use Rattle.arithmetic.specs.declared.settings.Buffers.{Buffers}
use Rattle.vectors.specs.Vectors.{segments_of, bytes_of}
use Rattle.vectors.specs.Places.{covered}
use Rattle.vectors.specs.declared.vector.Segment.{Segment}
use Rattle.vectors.specs.declared.vector.IoVector.{IoVector}
use Rattle.stages.specs.declared.state.Job.{Job}
use Rattle.stages.specs.declared.state.Job.TheVariants.{Read, Write, Zeroes, AllocatedZeroes, Discard}
use Rattle.stages.specs.declared.state.Request.{Request}
use Rattle.dock.specs.Dock.{open_of, lent_fits}
use Rattle.dock.specs.Begin.{Begins, vector_for, begin_of}
use Rattle.dock.specs.Next.{next_of}
use Rattle.dock.specs.Tell.{Told, tell_of, collect_of}
use Rattle.dock.specs.declared.dock.Dock.{Dock}
use Rattle.dock.specs.declared.begin.Asked.{Asked}
use Rattle.dock.specs.declared.next.Due.{Due}
use Rattle.dock.specs.declared.next.Due.TheVariants.{Waiting, Make, Answer}
use Rattle.dock.specs.declared.tell.Collects.{Collects}
use Rattle.theorem_lists.specs.Store.{Choice, pieces_from, gathered, range_asked, store_after, fetched}
use Rattle.theorem_lists.specs.PlainStore.{Item, begin, carry, tell, collect, nothing, Did, yielded, wrote, zeroed, discarded}
use Rattle.theorem_lists.specs.PlainStore.{range_for}
use Rattle.theorem_lists.specs.PlainStore.{Tracked, Plain, plain_opened, plain_step, set_at}
use Rattle.arithmetic.specs.declared.refusals.Refusal.{Refusal}

-- ---- events

-- the buffers that a call is lent
pub record Lends : Type 0 where
  pub memory : List ℕ
  pub scratch : List ℕ

pub data Event : Type 0 where
  begins : Asked → Lends → Event
  carries : ℕ → ℕ → Choice → Event
  tells : ℕ → ℕ → Lends → Event
  collects : ℕ → Lends → Event

-- ---- the real side

-- the dock last returned, the store, the buffers as the last event left them, and with which code each request that is out was carried out
pub record World : Type 0 where
  pub dock : Dock
  pub store : Bytes
  pub memory : List ℕ
  pub scratch : List ℕ
  pub carried : ℕ → Option ℕ

-- after a call: the dock that it returned, and the buffers as it left them
abbrev pub called : World → Dock → List ℕ → List ℕ → World
called w d memory scratch = record { dock = d; store = w.store; memory = memory; scratch = scratch; carried = w.carried }

-- after an accepted tell: its request is out no more
abbrev pub answered : World → ℕ → Dock → List ℕ → List ℕ → World
answered w p d memory scratch =
    record { dock = d; store = w.store; memory = memory; scratch = scratch; carried = set_at w.carried p None }

-- after the store's act on a request of slot p, with this code
abbrev pub acted : World → ℕ → ℕ → Bytes → List ℕ → List ℕ → World
acted w p code store memory scratch =
    record { dock = w.dock; store = store; memory = memory; scratch = scratch; carried = set_at w.carried p (Some code) }

abbrev pub opened : Settings → Buffers → Bytes → List ℕ → List ℕ → World
opened s b content memory scratch =
    record { dock = (open_of s b).dock; store = content; memory = memory; scratch = scratch; carried = λ p. None }

-- a call that is lent buffers of other lengths is refused (205), and touches none of these
abbrev pub fits_lent : World → Lends → Bool
fits_lent w l = lent_fits w.dock.buffers (length l.memory) (length l.scratch)

abbrev pub after_begin : World → Lends → Begins → World
after_begin w l b = pick (fits_lent w l) (called w b.dock l.memory b.scratch) w

abbrev pub told : Result (Unit {0}) Refusal → World → ℕ → Told → World
told o w p t = when_done o (answered w p t.dock t.memory t.scratch) (λ r. called w t.dock t.memory t.scratch)

abbrev pub after_tell : World → ℕ → Lends → Told → World
after_tell w p l t = pick (fits_lent w l) (told t.outcome w p t) w

abbrev pub after_collect : World → Lends → Collects → World
after_collect w l c = pick (fits_lent w l) (called w c.dock l.memory w.scratch) w

-- "it carries out one request that is out, once, and fixes its code"
abbrev pub carries_out : World → ℕ → ℕ → Choice → Request → World
carries_out w p code c q =
    let ps = pieces_from w.dock p (length w.memory) (length w.scratch) 0 q.segments in
    let b = fetched q.kind q ps code c w.store w.memory w.scratch in
    acted w p code (store_after q.kind (range_asked q) code c (gathered ps w.memory w.scratch) w.store) b.memory b.scratch

-- the request that is out in a slot and was not carried out yet
abbrev pub unless : Option ℕ → Option Request → Option Request
unless None q = q
unless (Some code) q = None

abbrev pub made : Result Due Refusal → Option Request
made (Ok Waiting) = None
made (Ok (Make q)) = Some q
made (Ok (Answer a)) = None
made (Err r) = None

abbrev pub out_in : World → ℕ → Option Request
out_in w p = unless (w.carried p) (made (next_of w.dock p (length w.memory) (length w.scratch)))

abbrev pub after_carry : Option Request → World → ℕ → ℕ → Choice → World
after_carry None w p code c = w
after_carry (Some q) w p code c = carries_out w p code c q

unfoldable pub step : World → Event → World
step w (begins q l) = after_begin w l (begin_of w.dock q l.memory l.scratch)
step w (carries p code c) = after_carry (out_in w p) w p code c
step w (tells p code l) = after_tell w p l (tell_of w.dock p code l.memory l.scratch)
step w (collects p l) = after_collect w l (collect_of w.dock p (length l.memory) (length l.scratch))

-- ---- what the plain byte store is fed of an event

abbrev pub carry_item : Option Request → ℕ → ℕ → Choice → Item
carry_item None p code c = nothing
carry_item (Some q) p code c = carry p code c

unfoldable pub fed : World → Event → Item
fed w (begins q l) = begin q l.memory (begin_of w.dock q l.memory l.scratch).answer
fed w (carries p code c) = carry_item (out_in w p) p code c
fed w (tells p code l) = tell p code (tell_of w.dock p code l.memory l.scratch).outcome
fed w (collects p l) = collect p (collect_of w.dock p (length l.memory) (length l.scratch)).answer

-- ---- what a list may assume

-- the data of the job in a slot: its vector's, as it was handed to begin
abbrev pub data_of : Option Tracked → List Segment
data_of None = []
data_of (Some j) = segments_of (vector_for j.asked)

-- "scratch and the data of jobs in flight are as the last event left them, other data may change, and a call refused with 205 may be lent
-- other buffers"
abbrev pub LentOf : World → Plain → Lends → Type 0
LentOf w m l =
    fits_lent w l ≡ true →
    (l.scratch ≡ w.scratch) × ((p k : ℕ) → covered (data_of (m.jobs p)) k ≡ true → get_or l.memory k 0 ≡ get_or w.memory k 0)

-- the code of a carry; a request that was not carried out has none
abbrev pub CodeOf : Option ℕ → ℕ → Type 0
CodeOf None code = ⊥
CodeOf (Some c) code = c ≡ code

-- "An accepted tell follows its request's carry and hands in that code; a refused one may hand in any."
abbrev pub HandsIn : World → ℕ → ℕ → Lends → Type 0
HandsIn w p code l = (tell_of w.dock p code l.memory l.scratch).outcome ≡ (Ok tt) → CodeOf (w.carried p) code

abbrev pub Allowed : World → Plain → Event → Type 0
Allowed w m (begins q l) = LentOf w m l
Allowed w m (carries p code c) = Unit {0}
Allowed w m (tells p code l) = LentOf w m l × HandsIn w p code l
Allowed w m (collects p l) = LentOf w m l

abbrev pub Lawful : World → Plain → List Event → Type 0
Lawful w m [] = Unit {0}
Lawful w m (e ∷ es) = Allowed w m e × Lawful (step w e) (plain_step m (fed w e)) es

-- ---- what is claimed

-- "every byte of the store equals that of document 01's plain byte store": at every offset
abbrev pub Same : World → Plain → Type 0
Same w m = (x : ℕ) → w.store x ≡ m.bytes x

-- one of a job's steps
pub data Among (d : Did) : List Did → Type 0 where
  here : {ds : List Did} → Among d (d ∷ ds)
  later : {e : Did} {ds : List Did} → Among d ds → Among d (e ∷ ds)

-- a step of the job with code 0 that put a byte at x
abbrev pub puts : Did → ℕ → Bool
puts (yielded r bs) x = false
puts (wrote r code new) x = eqb code 0 && in_range r x
puts (zeroed r code) x = eqb code 0 && in_range r x
puts (discarded r) x = false

abbrev pub put_by : List Did → ℕ → Bool
put_by [] x = false
put_by (d ∷ ds) x = pick (puts d x) true (put_by ds x)

-- "Owed besides", by what was handed to begin: the kind of the job, its range r, its vector v; j has its bytes then and its steps, memory
-- is the data at collect
abbrev pub OwedBy : Job → Range → IoVector → Tracked → List ℕ → Type 0
-- "A read answered 0 holds at collect what its step yielded."
OwedBy Read r v j memory = (bs : List ℕ) × Among (yielded r bs) j.steps × (bytes_of memory (segments_of v) ≡ bs)
-- "a write step of that job, code 0, with its vector's bytes over its asked range"
OwedBy Write r v j memory =
    (new : Bytes) × Among (wrote r 0 new) j.steps × ((x : ℕ) → in_range r x ≡ true → new x ≡ get_or j.bytes (x - r.start.0) 0)
-- "every byte of the job's range is covered by a write or zero step of that job with code 0"
OwedBy Zeroes r v j memory = (x : ℕ) → in_range r x ≡ true → put_by j.steps x ≡ true
OwedBy AllocatedZeroes r v j memory = (x : ℕ) → in_range r x ≡ true → put_by j.steps x ≡ true
OwedBy Discard r v j memory = Unit {0}

abbrev pub OwedTo : Option Tracked → List ℕ → Type 0
OwedTo None memory = ⊥
OwedTo (Some j) memory = OwedBy j.asked.job (range_for j.asked) (vector_for j.asked) j memory

-- "Answered 0: collect returned 0."
abbrev pub Owed : World → Plain → Event → Type 0
Owed w m (begins q l) = Unit {0}
Owed w m (carries p code c) = Unit {0}
Owed w m (tells p code l) = Unit {0}
Owed w m (collects p l) =
    (collect_of w.dock p (length l.memory) (length l.scratch)).answer ≡ Ok 0 → OwedTo (m.jobs p) l.memory

-- after every event, and at every collect that answers 0
abbrev pub Claim : World → Plain → List Event → Type 0
Claim w m [] = Same w m
Claim w m (e ∷ es) = Same w m × Owed w m e × Claim (step w e) (plain_step m (fed w e)) es

-- ---- THE THEOREM

-- for all settings and buffers that open accepts, every content of the store, all data and scratch of these lengths, and every list of
-- begin, carry, tell and collect, refused ones included: a lawful list has the claim. Proved in proofs/Theorem.antt.
abbrev pub EveryList : Type 0
EveryList =
    (s : Settings) (b : Buffers) → (open_of s b).outcome ≡ (Ok tt) → (content : Bytes) (memory scratch : List ℕ)
    → lent_fits b (length memory) (length scratch) ≡ true → (es : List Event)
    → Lawful (opened s b content memory scratch) (plain_opened s b content) es
    → Claim (opened s b content memory scratch) (plain_opened s b content) es
