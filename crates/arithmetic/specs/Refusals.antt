-- Document 01, "What a call gives back", and document 02: the number that each refusal returns.
use Rattle.std.specs.Prelude.{◌≡◌, refl, Bool, true, false, ℕ, ◌<◌, Result, Ok, Err}
use Rattle.std.proofs.Common.{arith}
use Rattle.arithmetic.specs.declared.refusals.Refusal.{Refusal}
use Rattle.arithmetic.specs.declared.refusals.Refusal.TheVariants.{Unfit, Segment, Overlap, Full, Buffer, TooLong, Overflow, Slot}
use Rattle.arithmetic.specs.declared.refusals.Refusal.TheVariants.{NoAnswer, Unaligned, Table, Row, Saved, Undo, Reservation, Map}
use Rattle.arithmetic.specs.declared.refusals.Refusal.TheVariants.{Window}
use Rattle.arithmetic.specs.declared.refusals.Refusal.TheVariants.{Script, Output, Sheet}

unfoldable pub number_of : Refusal → ℕ
number_of Unfit = 201
number_of Segment = 202
number_of Overlap = 203
number_of Full = 204
number_of Buffer = 205
number_of TooLong = 206
number_of Overflow = 207
number_of Slot = 208
number_of NoAnswer = 209
number_of Unaligned = 210
number_of Table = 211
number_of Row = 212
number_of Saved = 213
number_of Undo = 214
number_of Reservation = 215
number_of Map = 216
number_of Window = 217
number_of Script = 218
number_of Output = 219
number_of Sheet = 220

-- no refusal has the number of a code of the store
pub refusal_some : (r : Refusal) → 200 < number_of r
unfolding number_of
refusal_some Unfit = omega arith
refusal_some Segment = omega arith
refusal_some Overlap = omega arith
refusal_some Full = omega arith
refusal_some Buffer = omega arith
refusal_some TooLong = omega arith
refusal_some Overflow = omega arith
refusal_some Slot = omega arith
refusal_some NoAnswer = omega arith
refusal_some Unaligned = omega arith
refusal_some Table = omega arith
refusal_some Row = omega arith
refusal_some Saved = omega arith
refusal_some Undo = omega arith
refusal_some Reservation = omega arith
refusal_some Map = omega arith
refusal_some Window = omega arith
refusal_some Script = omega arith
refusal_some Output = omega arith
refusal_some Sheet = omega arith

-- 0 for a call that was carried out
abbrev pub outcome_number : Result (Unit {0}) Refusal → ℕ
outcome_number (Ok tt) = 0
outcome_number (Err r) = number_of r

-- go on where a step was carried out; a refusal gives what it gives
abbrev pub when_done : {A : Type 0} → Result (Unit {0}) Refusal → A → (Refusal → A) → A
when_done (Ok tt) k z = k
when_done (Err r) k z = z r

abbrev pub is_done : Result (Unit {0}) Refusal → Bool
is_done o = when_done o true (λ r. false)

pub is_done_lem : (o : Result (Unit {0}) Refusal) → is_done o ≡ true → o ≡ Ok tt
is_done_lem (Ok tt) e = refl
is_done_lem (Err r) e = let z : ◌≡◌ {A = ℕ} 0 1 = cc in absurd (omega arith)
