-- `dock_words::arrays::piece` meets its contract: 205, 208, then the piece of the slot's job. Assumes nothing.
use Rattle.std.specs.Prelude.{Result, Err}
use borrow.Author.Tests.{lt-ltb, le-ltb}
use mathlib.Core.Path.{◌≡◌, sym, ◌∙◌}
use mathlib.Core.Bool.{true, false, and-false}
use Prim.Native.Nat.{ℕ, ◌<◌}
use Rattle.arithmetic.specs.declared.refusals.Refusal.TheVariants.{Slot}
use Rattle.arithmetic.specs.declared.settings.Settings.{Settings}
use Rattle.arithmetic.specs.declared.settings.Buffers.{Buffers}
use Rattle.vectors.specs.declared.vector.IoVector.{IoVector}
use Rattle.stages.specs.declared.state.State.{State}
use Rattle.dock.specs.Dock.{lent_fits, state_at, vector_at, is_out_by, is_out}
use Rattle.dock.specs.Next.{is_sound_of, piece_in, piece_of}
use Rattle.dock.specs.declared.next.Piece.{Piece}
use Rattle.dock.specs.declared.dock.Dock.{Dock}
use Rattle.dock_words.specs.View.{buffers_of, dock_of}
use Rattle.std.proofs.Common.{arith}
use Rattle.dock_words.specs.Laws.{state_row, vector_row}
use Rattle.dock_words.proofs.arrays.piece.Goals as goal
use Rattle.arithmetic.specs.declared.refusals.Refusal.{Refusal}

module _ (d : Dock) (p i m n : ℕ) (f : lent_fits d.buffers m n ≡ true) where
  piece_not : is_out_by d.blockers (state_at d p) p ≡ false → Err Slot ≡ piece_of d p i m n
  unfolding piece_of is_out
  piece_not o = simp (f, o, and-false)

  piece_there : p < 8 → {r : Result Piece Refusal} {x : State} {s : Settings} {b : Buffers} {v : IoVector} → x ≡ state_at d p → is_out_by d.blockers x p ≡ true → s ≡ d.settings → b ≡ d.buffers → v ≡ vector_at d p
      → r ≡ piece_in p s b x v i m → r ≡ piece_of d p i m n
  unfolding piece_of is_out is_sound_of piece_in
  piece_there h x o s b v e = let q : is_out_by d.blockers (state_at d p) p ≡ true = rw x at o in simp (f, lt-ltb p 8 h, q) (e ∙ rw (x, s, b, v) (simp (lt-ltb p 8 h)))

pub returns-then-not-lent_fits : goal.returns-then-not-lent_fits
unfolding piece_of
returns-then-not-lent_fits c = let a = c.args in let f : lent_fits (buffers_of a.settings.now) a.data_len a.scratch_len ≡ false = rw (← c.buffers_of-lent.ensures) (sym c.lent_fits.ensures ∙ c.if-not-lent_fits.true) in simp f

pub returns-then-slot-ge-SLOTS : goal.returns-then-slot-ge-SLOTS
unfolding piece_of is_out
returns-then-slot-ge-SLOTS c = let a = c.args in let f : lent_fits (buffers_of a.settings.now) a.data_len a.scratch_len ≡ true = rw (← c.buffers_of-lent.ensures) (sym c.lent_fits.ensures ∙ c.if-not-lent_fits.false) in simp (f, le-ltb a.slot 8 c.if-slot-ge-SLOTS.true)

pub returns-then-not-is_out : goal.returns-then-not-is_out
returns-then-not-is_out c = let a = c.args in piece_not (dock_of a.settings.now a.blockers.now a.states.now a.vectors.now) a.slot a.i a.data_len a.scratch_len (rw (← c.buffers_of-lent.ensures) (sym c.lent_fits.ensures ∙ c.if-not-lent_fits.false)) (rw (← (c.get_state-x.ensures ∙ state_row a.states.now a.slot (omega (arith, c.if-slot-ge-SLOTS.false, c.told-states)))) (sym c.is_out.ensures ∙ c.if-not-is_out.true))

pub returns : goal.returns
returns c = let a = c.args in piece_there (dock_of a.settings.now a.blockers.now a.states.now a.vectors.now) a.slot a.i a.data_len a.scratch_len (rw (← c.buffers_of-lent.ensures) (sym c.lent_fits.ensures ∙ c.if-not-lent_fits.false)) c.if-slot-ge-SLOTS.false (c.get_state-x.ensures ∙ state_row a.states.now a.slot (omega (arith, c.if-slot-ge-SLOTS.false, c.told-states))) (sym c.is_out.ensures ∙ c.if-not-is_out.false) c.settings_of-s.ensures c.buffers_of-lent.ensures (c.get_vector-v.ensures ∙ vector_row a.vectors.now a.slot (omega (arith, c.if-slot-ge-SLOTS.false, c.told-vectors))) c.piece_in.ensures
