-- `dock_words::arrays::next` meets its contract: 205, 208, then what is due. Assumes nothing.
use Rattle.std.specs.Prelude.{Result}
use borrow.Author.Tests.{lt-ltb, le-ltb}
use mathlib.Core.Path.{◌≡◌, sym, ap, ◌∙◌}
use mathlib.Core.Bool.{Bool, true, false}
use Prim.Native.Nat.{ℕ, ◌<◌}
use Rattle.blockers.specs.Blockers.{waits_of}
use Rattle.stages.specs.declared.state.State.{State}
use Rattle.dock.specs.Dock.{lent_fits, state_at, vector_at}
use Rattle.dock.specs.Next.{due_in, next_of}
use Rattle.dock.specs.declared.next.Due.{Due}
use Rattle.dock.specs.declared.dock.Dock.{Dock}
use Rattle.dock_words.specs.View.{buffers_of, dock_of}
use Rattle.std.proofs.Common.{arith}
use Rattle.vectors.specs.declared.vector.IoVector.{IoVector}
use Rattle.dock_words.specs.Laws.{state_row, vector_row}
use Rattle.dock_words.proofs.arrays.next.Goals as goal
use Rattle.arithmetic.specs.declared.refusals.Refusal.{Refusal}

-- what is due, where the lent buffers fit and the slot is one of the eight
module _ (d : Dock) (p m n : ℕ) (f : lent_fits d.buffers m n ≡ true) (h : p < 8) where
  due_there : {r : Result Due Refusal} {x : State} {w : Bool} {k : ℕ} → x ≡ state_at d p → w ≡ waits_of p d.blockers → k ≡ (vector_at d p).count → r ≡ due_in x w k → r ≡ next_of d p m n
  unfolding next_of
  due_there x w k e = simp (f, lt-ltb p 8 h) (e ∙ rw (x, w, k))

pub returns-then-not-lent_fits : goal.returns-then-not-lent_fits
unfolding next_of
returns-then-not-lent_fits c = let a = c.args in let f : lent_fits (buffers_of a.settings.now) a.data_len a.scratch_len ≡ false = rw (← c.buffers_of-lent.ensures) (sym c.lent_fits.ensures ∙ c.if-not-lent_fits.true) in simp f

pub returns-then-slot-ge-SLOTS : goal.returns-then-slot-ge-SLOTS
unfolding next_of
returns-then-slot-ge-SLOTS c = let a = c.args in let f : lent_fits (buffers_of a.settings.now) a.data_len a.scratch_len ≡ true = rw (← c.buffers_of-lent.ensures) (sym c.lent_fits.ensures ∙ c.if-not-lent_fits.false) in simp (f, le-ltb a.slot 8 c.if-slot-ge-SLOTS.true)

pub returns : goal.returns
returns c = let a = c.args in due_there (dock_of a.settings.now a.blockers.now a.states.now a.vectors.now) a.slot a.data_len a.scratch_len (rw (← c.buffers_of-lent.ensures) (sym c.lent_fits.ensures ∙ c.if-not-lent_fits.false)) c.if-slot-ge-SLOTS.false (c.get_state.ensures ∙ state_row a.states.now a.slot (omega (arith, c.if-slot-ge-SLOTS.false, c.told-states))) c.waits-waiting.ensures (c.buffer_count.ensures ∙ ap (λ (v : IoVector). v.count) (vector_row a.vectors.now a.slot (omega (arith, c.if-slot-ge-SLOTS.false, c.told-vectors)))) c.due_now.ensures
