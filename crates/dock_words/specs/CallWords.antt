-- What a call leaves in lent words, and what it should: a tell's step stored in its slot, a begin's job with its vector. Held beside the
-- dock by `tell_stored` and `begin_stored` of CallWordsLaws.
use Rattle.std.specs.Prelude.{◌≡◌, Bool, true, false, List, ℕ, set, Result, Ok, Err, Option, Some, None}
use Rattle.arithmetic.specs.Refusals.{when_done, is_done}
use Rattle.vectors.specs.declared.vector.IoVector.{IoVector}
use Rattle.blockers.specs.declared.Blockers.{Blockers}
use Rattle.blockers.specs.Blockers.{Changed}
use Rattle.stages.specs.declared.state.State.{State}
use Rattle.dock.specs.Begin.{blockers_with, Admits, Begins, begins}
use Rattle.dock.specs.Tell.{blockers_without, Stepped, Told, tells}
use Rattle.dock.specs.declared.dock.Dock.{Dock}
use Rattle.dock.specs.declared.open.Opened.{Opened}
use Rattle.dock_words.specs.View.{Rows, blockers_of, states_of, vectors_of, dock_of}
use Rattle.arithmetic.specs.declared.refusals.Refusal.{Refusal}

abbrev pub is_admitted : Result (Option ℕ) Refusal → Bool
is_admitted (Ok None) = false
is_admitted (Ok (Some p)) = true
is_admitted (Err r) = false

abbrev pub is_final : Result ℕ Refusal → Bool
is_final (Ok code) = true
is_final (Err r) = false

-- "Each, as a refusal, leaves dock [..] unchanged": where a call is not carried out, every word after it is the one before it
unfoldable pub same_unless : {A : Type 0} → Bool → List A → List A → Type 0
same_unless true before after = Unit {0}
same_unless false before after = after ≡ before

-- the dock that an opening makes, where it is carried out
unfoldable pub opens_as : Bool → Dock → Dock → Type 0
opens_as true d made = d ≡ made
opens_as false d made = Unit {0}

-- the same of two arrays of rows, and of three
abbrev pub same_two : Bool → Rows → Rows → Rows → Rows → Type 0
same_two t a b a' b' = same_unless t a a' × same_unless t b b'

abbrev pub same_three : Bool → Rows → Rows → Rows → Rows → Rows → Rows → Type 0
same_three t a b c a' b' c' = same_unless t a a' × same_unless t b b' × same_unless t c c'

-- a call on the words of the blockers answers and leaves what c says, and where it is refused, every word
abbrev pub ChangesBlockers : Changed → Result (Unit {0}) Refusal → Rows → Rows → Type 0
ChangesBlockers c r before after = (r ≡ c.outcome) × (blockers_of after ≡ c.blockers) × same_unless (is_done r) before after

-- an opening over words of settings, blockers, states and vectors: the dock that it makes, or every word as it was
abbrev pub opens_over : Opened → List ℕ → Rows → Rows → Rows → List ℕ → Rows → Rows → Rows → Type 0
opens_over o s b x v s' b' x' v' =
    opens_as (is_done o.outcome) (dock_of s' b' x' v') o.dock
    × same_unless (is_done o.outcome) s s' × same_three (is_done o.outcome) b x v b' x' v'

-- ---- tell

-- the blocker of slot p leaves for the stage of x, and enters for that of y: what comes of it
abbrev pub changes : Blockers → ℕ → State → State → Result (Unit {0}) Refusal
changes b p x y = when_done (blockers_without b p x).outcome (blockers_with (blockers_without b p x).blockers p y).outcome Err

pub record ToldWords : Type 0 where
  pub outcome : Result (Unit {0}) Refusal
  pub blockers : Blockers
  pub states : List State
  pub memory : List ℕ
  pub scratch : List ℕ

-- what a call left, by its words
abbrev pub tells_words : Result (Unit {0}) Refusal → Rows → Rows → List ℕ → List ℕ → ToldWords
tells_words o b x memory scratch =
    record { outcome = o; blockers = blockers_of b; states = states_of x; memory = memory; scratch = scratch }

-- a step of slot p, stored where it is done
abbrev pub stored_words_by : Result (Unit {0}) Refusal → Blockers → List State → ℕ → Stepped → ToldWords
stored_words_by o b xs p t =
    when_done o (record {
      outcome = (Ok tt);
      blockers = t.blockers;
      states = set xs p t.state;
      memory = t.memory;
      scratch = t.scratch;
    }) (λ r. record { outcome = Err r; blockers = b; states = xs; memory = t.memory; scratch = t.scratch })

abbrev pub stored_words : Blockers → List State → ℕ → Stepped → ToldWords
stored_words b xs p t = stored_words_by t.outcome b xs p t

-- over words b of blockers and x of states a call answers o, and leaves b', x', this data and this scratch: the step t of slot p, stored
abbrev pub StoresStep : Stepped → ℕ → Rows → Rows → Result (Unit {0}) Refusal → Rows → Rows → List ℕ → List ℕ → Type 0
StoresStep t p b x o b' x' memory scratch = tells_words o b' x' memory scratch ≡ stored_words (blockers_of b) (states_of x) p t

-- ---- begin

pub record BegunWords : Type 0 where
  pub answer : Result (Option ℕ) Refusal
  pub blockers : Blockers
  pub states : List State
  pub vectors : List IoVector
  pub scratch : List ℕ

abbrev pub begins_words : Result (Option ℕ) Refusal → Rows → Rows → Rows → List ℕ → BegunWords
begins_words a b x v scratch =
    record { answer = a; blockers = blockers_of b; states = states_of x; vectors = vectors_of v; scratch = scratch }

-- a job with the vector v, in the slot that it is admitted to
abbrev pub stored_job_by : Result (Option ℕ) Refusal → Blockers → List State → List IoVector → IoVector → Admits → BegunWords
stored_job_by (Ok None) b xs vs v a = record { answer = (Ok None); blockers = b; states = xs; vectors = vs; scratch = a.scratch }
stored_job_by (Ok (Some p)) b xs vs v a = record {
  answer = (Ok (Some p));
  blockers = a.blockers;
  states = set xs p a.state;
  vectors = set vs p v;
  scratch = a.scratch;
}
stored_job_by (Err r) b xs vs v a =
    record { answer = Err r; blockers = b; states = xs; vectors = vs; scratch = a.scratch }

abbrev pub stored_job : Blockers → List State → List IoVector → IoVector → Admits → BegunWords
stored_job b xs vs v a = stored_job_by a.answer b xs vs v a

-- over words b, x and v of blockers, states and vectors a call answers r, and leaves b', x', v' and this scratch: the job of a, stored with
-- its vector w
abbrev pub StoresJob : Admits → IoVector → Rows → Rows → Rows → Result (Option ℕ) Refusal → Rows → Rows → Rows → List ℕ → Type 0
StoresJob a w b x v r b' x' v' scratch =
    begins_words r b' x' v' scratch ≡ stored_job (blockers_of b) (states_of x) (vectors_of v) w a

-- ---- a call on all words of a dock: what it answers, and the dock that it leaves

abbrev pub begins_in : Result (Option ℕ) Refusal → List ℕ → Rows → Rows → Rows → List ℕ → Begins
begins_in r s b x v scratch = begins (record { answer = r; dock = dock_of s b x v }) scratch

abbrev pub tells_in : Result (Unit {0}) Refusal → List ℕ → Rows → Rows → Rows → List ℕ → List ℕ → Told
tells_in o s b x v memory scratch = tells (record { outcome = o; dock = dock_of s b x v }) memory scratch
