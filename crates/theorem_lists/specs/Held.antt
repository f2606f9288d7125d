-- What holds of every dock that calls made from an opened one: of each slot by itself, and of the blockers together.
use Rattle.std.specs.Prelude.{◌≡◌, true, false, List, ℕ, ◌<◌, ◌≤◌, length, Result, Ok}
use Rattle.arithmetic.specs.Settings.{opening_of}
use Rattle.arithmetic.specs.declared.offsets.Range.{Range}
use Rattle.arithmetic.specs.declared.settings.Settings.{Settings}
use Rattle.arithmetic.specs.declared.settings.Buffers.{Buffers}
use Rattle.vectors.specs.Vectors.{is_valid}
use Rattle.vectors.specs.declared.vector.IoVector.{IoVector}
use Rattle.blockers.specs.Blockers.{present, blocker_at, strength}
use Rattle.blockers.specs.Reached.{Reached}
use Rattle.blockers.specs.declared.Kind.{Kind}
use Rattle.stages.specs.Stages.{size_of, is_free, is_pending, is_blocking, is_sound}
use Rattle.stages.specs.Laws.{StageOnStore}
use Rattle.stages.specs.declared.state.State.{State}
use Rattle.dock.specs.Dock.{state_at, vector_at, open_of, open_by}
use Rattle.dock.specs.Begin.{begin_of}
use Rattle.dock.specs.Tell.{tell_of, collect_of}
use Rattle.dock.specs.declared.dock.Dock.{Dock}
use Rattle.dock.specs.declared.begin.Asked.{Asked}
use Rattle.theorem_lists.specs.Courses.{has_vector, is_regular}
use Rattle.arithmetic.specs.declared.refusals.Refusal.{Refusal}
use Rattle.arithmetic.specs.declared.settings.Alignments.{Alignments}

-- one range lies inside another
pub record Encloses (r q : Range) : Type 0 where
  pub from : r.start.0 ≤ q.start.0
  pub to : q.end.0 ≤ r.end.0

-- One slot: its job x, its vector v, and the kind and range of its blocker, where a share has n bytes and the data m.
pub record SlotHeld (n m : ℕ) (x : State) (v : IoVector) (k : Kind) (r : Range) : Type 0 where
  -- its bytes lie in its share, its ranges on the store
  pub sound : is_sound n x ≡ true
  pub on_store : is_pending x.phase ≡ true → StageOnStore x.stage
  -- its phase is one of its job's
  pub regular : is_regular x ≡ true
  -- a read or write has one stage, and a vector over the data of as many bytes
  pub sole : is_free x.phase ≡ false → has_vector x.job ≡ true → x.stage.asked ≡ x.range
  pub vector : is_free x.phase ≡ false → has_vector x.job ≡ true → (is_valid m v ≡ true) × (v.total ≡ size_of x.range)
  -- a blocker is entered exactly where the phase has one: as strong as its stage says, and its request's range lies inside the blocker's
  pub entered : present k ≡ is_blocking x.phase
  pub blocker : is_blocking x.phase ≡ true → (k ≡ strength x.stage.strong) × Encloses r x.stage.request

abbrev pub SlotOf : Dock → ℕ → Type 0
SlotOf d p =
    SlotHeld d.settings.bounce d.buffers.«data».length (state_at d p) (vector_at d p) (blocker_at d.blockers p).kind
    (blocker_at d.blockers p).range

-- The dock; rank and clock say when each slot's blocker was entered.
pub record Held (d : Dock) : Type 0 where
  pub opened : opening_of d.settings d.buffers ≡ Ok tt
  pub states : length d.states ≡ 8
  pub vectors : length d.vectors ≡ 8
  pub rank : ℕ → ℕ
  pub clock : ℕ
  pub blockers : Reached d.blockers rank clock
  pub slots : (p : ℕ) → p < 8 → SlotOf d p

-- A dock that calls made: opened, then begun on, told and collected in any order, with any arguments and any lent buffers, refused calls
-- included.
pub data Made : Dock → Type 0 where
  opens : (s : Settings) (b : Buffers) → (open_of s b).outcome ≡ (Ok (tt {0})) → Made (open_of s b).dock
  opens_by : (f : Result Alignments Refusal) (n : ℕ) (b : Buffers) → (open_by f n b).outcome ≡ (Ok (tt {0})) → Made (open_by f n b).dock
  begins : {d : Dock} → Made d → (q : Asked) (memory scratch : List ℕ) → Made (begin_of d q memory scratch).dock
  tells : {d : Dock} → Made d → (p code : ℕ) (memory scratch : List ℕ) → Made (tell_of d p code memory scratch).dock
  collects : {d : Dock} → Made d → (p m n : ℕ) → Made (collect_of d p m n).dock
