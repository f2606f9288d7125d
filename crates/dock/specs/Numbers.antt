-- Document 01's number and values for each case of an answer: "Where an answer is an enum, a definition gives this paper's number and
-- values".
use Rattle.std.specs.Prelude.{List, [], ◌∷◌, ℕ, Result, Ok, Err, Option, Some, None}
use Rattle.arithmetic.specs.Refusals.{number_of}
use Rattle.stages.specs.declared.state.Kind.{Kind}
use Rattle.stages.specs.declared.state.Kind.TheVariants.{Read, Write, Zero, AllocatedZero, Discard}
use Rattle.dock.specs.declared.next.Due.{Due}
use Rattle.dock.specs.declared.next.Due.TheVariants.{Waiting, Make, Answer}
use Rattle.dock.specs.declared.next.Piece.{Piece}
use Rattle.dock.specs.declared.next.Piece.TheVariants.{InData, InScratch}
use Rattle.arithmetic.specs.declared.refusals.Refusal.{Refusal}

-- a number, where the paper has one, and the values beside it
pub record Paper : Type 0 where
  pub number : Option ℕ
  pub values : List ℕ

abbrev pub numbered : ℕ → Paper
numbered n = record { number = Some n; values = [] }

abbrev pub valued : List ℕ → Paper
valued l = record { number = None; values = l }

-- begin: "A job with no request to make returns 0"; a job that gets a place has the place as its value, and no number: place 0 is not 0
abbrev pub begun_paper : Result (Option ℕ) Refusal → Paper
begun_paper (Ok None) = numbered 0
begun_paper (Ok (Some p)) = valued (p ∷ [])
begun_paper (Err r) = numbered (number_of r)

abbrev pub kind_number : Kind → ℕ
kind_number Read = 0
kind_number Write = 1
kind_number Zero = 2
kind_number AllocatedZero = 3
kind_number Discard = 4

-- next: "waiting, the request, or the final answer"; a request is its kind, store offset, length and number of pieces
abbrev pub due_paper : Result Due Refusal → Paper
due_paper (Ok Waiting) = valued []
due_paper (Ok (Make q)) = valued (kind_number q.kind ∷ q.offset.0 ∷ q.length ∷ q.segments ∷ [])
due_paper (Ok (Answer a)) = numbered a
due_paper (Err r) = numbered (number_of r)

-- a request's piece: 0 for the data, 1 for the scratch, then its start and its length there
abbrev pub piece_paper : Result Piece Refusal → Paper
piece_paper (Ok (InData s)) = valued (0 ∷ s.start ∷ s.length ∷ [])
piece_paper (Ok (InScratch s)) = valued (1 ∷ s.start ∷ s.length ∷ [])
piece_paper (Err r) = numbered (number_of r)

-- "Collect returns the final answer."
abbrev pub collected_paper : Result ℕ Refusal → Paper
collected_paper (Ok a) = numbered a
collected_paper (Err r) = numbered (number_of r)
