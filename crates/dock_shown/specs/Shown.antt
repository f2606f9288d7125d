-- The combined calls: a call, and then what `next` says of its slot with the first piece of the request, or the final answer, collected.
-- Each is made of the definitions of the separate calls.
use Rattle.std.specs.Prelude.{◌≡◌, Bool, true, false, List, [], ◌∷◌, ℕ, length, Result, Ok, Err, Option, Some, None}
use Rattle.arithmetic.specs.Refusals.{number_of, when_done}
use Rattle.arithmetic.specs.declared.refusals.Refusal.{Refusal}
use Rattle.stages.specs.declared.state.Request.{Request}
use Rattle.dock.specs.Begin.{begin_of}
use Rattle.dock.specs.Next.{next_of, piece_of}
use Rattle.dock.specs.Tell.{Told, tell_of, collect_of}
use Rattle.dock.specs.Numbers.{kind_number}
use Rattle.dock.specs.declared.dock.Dock.{Dock}
use Rattle.dock.specs.declared.begin.Asked.{Asked}
use Rattle.dock.specs.declared.next.Due.{Due}
use Rattle.dock.specs.declared.next.Due.TheVariants.{Waiting, Make, Answer}
use Rattle.dock.specs.declared.next.Piece.{Piece}
use Rattle.dock.specs.declared.next.Piece.TheVariants.{InData, InScratch}

-- refused; the final answer, the slot is free again; the slot waits; its request is out, with its first piece
pub data Shown : Type 0 where
  NotShown : Refusal → Shown
  Final : ℕ → Shown
  Waits : ℕ → Shown
  Asks : ℕ → Request → Result Piece Refusal → Shown

-- an answer in nine words: which of these it is; a number of document 01's, or the slot; kind, offset, length and pieces of the request;
-- buffer, start and length of its first piece. 0 where there is none
abbrev pub piece_words : Result Piece Refusal → List ℕ
piece_words (Ok (InData s)) = 0 ∷ s.start ∷ s.length ∷ []
piece_words (Ok (InScratch s)) = 1 ∷ s.start ∷ s.length ∷ []
piece_words (Err r) = 0 ∷ 0 ∷ 0 ∷ []

abbrev pub short_words : ℕ → ℕ → List ℕ
short_words what n = what ∷ n ∷ 0 ∷ 0 ∷ 0 ∷ 0 ∷ 0 ∷ 0 ∷ 0 ∷ []

abbrev pub shown_words : Shown → List ℕ
shown_words (NotShown r) = short_words 0 (number_of r)
shown_words (Final a) = short_words 1 a
shown_words (Waits p) = short_words 2 p
shown_words (Asks p q c) = 3 ∷ p ∷ kind_number q.kind ∷ q.offset.0 ∷ q.length ∷ q.segments ∷ piece_words c

abbrev pub is_collected : Shown → Bool
is_collected (NotShown r) = false
is_collected (Final a) = true
is_collected (Waits p) = false
is_collected (Asks p q c) = false

-- ---- show: `next` of slot p, over m bytes of data and n of scratch, and its first piece; a final answer is collected

pub record Shows : Type 0 where
  pub answer : Shown
  pub dock : Dock

abbrev pub show_by : Result Due Refusal → Dock → ℕ → ℕ → ℕ → Shows
show_by (Err r) d p m n = record { answer = NotShown r; dock = d }
show_by (Ok (Answer a)) d p m n = record { answer = Final a; dock = (collect_of d p m n).dock }
show_by (Ok Waiting) d p m n = record { answer = Waits p; dock = d }
show_by (Ok (Make q)) d p m n = record { answer = Asks p q (piece_of d p 0 m n); dock = d }

unfoldable pub show_of : Dock → ℕ → ℕ → ℕ → Shows
show_of d p m n = show_by (next_of d p m n) d p m n

-- a call left these nine words and this dock
abbrev pub ShowsAs : Shows → List ℕ → Dock → Type 0
ShowsAs s words d = (words ≡ shown_words s.answer) × (d ≡ s.dock)

-- ---- submit: begin, and show of the slot that the job got; where there is nothing to do, the final answer 0

abbrev pub shown_begun : Result (Option ℕ) Refusal → Dock → ℕ → ℕ → Shows
shown_begun (Ok None) d m n = record { answer = Final 0; dock = d }
shown_begun (Err r) d m n = record { answer = NotShown r; dock = d }
shown_begun (Ok (Some p)) d m n = show_of d p m n

unfoldable pub submit_of : Dock → Asked → List ℕ → List ℕ → Shows
submit_of d q memory scratch =
    shown_begun (begin_of d q memory scratch).answer (begin_of d q memory scratch).dock (length memory) (length scratch)

-- ---- complete: tell, and show of the slot where the code was accepted

unfoldable pub complete_of : Dock → ℕ → ℕ → List ℕ → List ℕ → Shows
complete_of d p code memory scratch =
    let t = tell_of d p code memory scratch in
    when_done t.outcome (show_of t.dock p (length memory) (length scratch)) (λ r. record { answer = NotShown r; dock = t.dock })

-- and the bytes that the tell leaves
abbrev pub LeavesBytes : Told → List ℕ → List ℕ → Type 0
LeavesBytes t memory scratch = (memory ≡ t.memory) × (scratch ≡ t.scratch)
