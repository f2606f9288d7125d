-- `dock_words::arrays::collect` meets its contract: 205, 208, then the answer, and the slot's rows are vacant. Assumes nothing.
use Rattle.std.specs.Prelude.{Ok, Err}
use borrow.Author.Tests.{lt-ltb, le-ltb}
use mathlib.Core.Path.{◌≡◌, refl, sym, ap, ◌∙◌}
use mathlib.Core.Bool.{true, false}
use mathlib.Core.List.{[]}
use Prim.Native.Nat.{ℕ, ◌<◌, ◌≤◌}
use lib.ListN.{set}
use Rattle.arithmetic.specs.declared.refusals.Refusal.TheVariants.{Buffer, Slot}
use Rattle.vectors.specs.Vectors.{vector_of}
use Rattle.stages.specs.Stages.{has_ended}
use Rattle.stages.specs.declared.state.State.{State}
use Rattle.dock.specs.Dock.{lent_fits, state_at, vacant}
use Rattle.dock.specs.Tell.{collect_of}
use Rattle.dock.specs.declared.dock.Dock.{Dock}
use Rattle.dock_words.specs.View.{dock_of}
use Rattle.dock_words.specs.CallWordsLaws.{same_words, done_words}
use Rattle.std.proofs.Common.{rules, arith}
use Rattle.arithmetic.specs.Loops.{array_long}
use Rattle.dock_words.specs.Laws.{state_row, state_put, vector_put}
use Rattle.dock_words.proofs.arrays.collect.Goals as goal

-- what a collect answers: 205, 208 for a slot past the eight and for a job that has not ended, else the answer
module _ (d : Dock) (p m n : ℕ) where
  unlent : lent_fits d.buffers m n ≡ false → (Err Buffer ≡ (collect_of d p m n).answer) × (d ≡ (collect_of d p m n).dock)
  unfolding collect_of
  unlent f = simp f (refl, refl)

  module _ (f : lent_fits d.buffers m n ≡ true) where
    no_slot : 8 ≤ p → (Err Slot ≡ (collect_of d p m n).answer) × (d ≡ (collect_of d p m n).dock)
    unfolding collect_of
    no_slot h = simp (f, le-ltb p 8 h) (refl, refl)

    not_ended : p < 8 → has_ended (state_at d p).phase ≡ false → (Err Slot ≡ (collect_of d p m n).answer) × (d ≡ (collect_of d p m n).dock)
    unfolding collect_of
    not_ended h e = simp (f, lt-ltb p 8 h, e) (refl, refl)

    collected : (c : Dock) → p < 8 → has_ended (state_at d p).phase ≡ true → c ≡ record { settings = d.settings; buffers = d.buffers; blockers = d.blockers; states = set d.states p vacant; vectors = set d.vectors p (vector_of []) } → (Ok (state_at d p).answer ≡ (collect_of d p m n).answer) × (c ≡ (collect_of d p m n).dock)
    unfolding collect_of
    collected c h e i = simp (f, lt-ltb p 8 h, e) (refl, i)

pub returns-then-not-lent_fits : goal.returns-then-not-lent_fits
returns-then-not-lent_fits c = record { dock = (let a = c.args in unlent (dock_of a.settings.now a.blockers.now a.states.now a.vectors.now) a.slot a.data_len a.scratch_len (rw (← c.buffers_of-lent.ensures) (sym c.lent_fits.ensures ∙ c.if-not-lent_fits.true))); words = (same_words _ _, same_words _ _) }

pub returns-then-slot-ge-SLOTS : goal.returns-then-slot-ge-SLOTS
returns-then-slot-ge-SLOTS c = record { dock = (let a = c.args in no_slot (dock_of a.settings.now a.blockers.now a.states.now a.vectors.now) a.slot a.data_len a.scratch_len (rw (← c.buffers_of-lent.ensures) (sym c.lent_fits.ensures ∙ c.if-not-lent_fits.false)) c.if-slot-ge-SLOTS.true); words = (same_words _ _, same_words _ _) }

pub returns-then-not-has_ended : goal.returns-then-not-has_ended
returns-then-not-has_ended c = record { dock = (let a = c.args in not_ended (dock_of a.settings.now a.blockers.now a.states.now a.vectors.now) a.slot a.data_len a.scratch_len (rw (← c.buffers_of-lent.ensures) (sym c.lent_fits.ensures ∙ c.if-not-lent_fits.false)) c.if-slot-ge-SLOTS.false (rw (← (c.get_state-x.ensures ∙ state_row a.states.now a.slot (omega (arith, c.if-slot-ge-SLOTS.false, c.told-states)))) (sym c.has_ended.ensures ∙ c.if-not-has_ended.true))); words = (same_words _ _, same_words _ _) }

pub returns : goal.returns
returns c = record {
  dock = (let a = c.args in let x = c.get_state-x.ensures ∙ state_row a.states.now a.slot (omega (arith, c.if-slot-ge-SLOTS.false, c.told-states)) in
      let xs = state_put a.states.now a.slot c.make_vacant.result _ c.put_state.ensures (search rules) in
      let vs = vector_put a.vectors.now a.slot c.new.result _ c.put_vector.ensures (search (rules, array_long)) in
      let r = collected (dock_of a.settings.now a.blockers.now a.states.now a.vectors.now) a.slot a.data_len a.scratch_len (rw (← c.buffers_of-lent.ensures) (sym c.lent_fits.ensures ∙ c.if-not-lent_fits.false)) (dock_of a.settings.now a.blockers.now _ _) c.if-slot-ge-SLOTS.false (rw (← x) (sym c.has_ended.ensures ∙ c.if-not-has_ended.false)) (rw (xs, vs, c.make_vacant.ensures, c.new.ensures)) in (ap (λ (y : State). Ok y.answer) x ∙ r.0, r.1));
  words = (done_words _ _ _ refl, done_words _ _ _ refl);
}
