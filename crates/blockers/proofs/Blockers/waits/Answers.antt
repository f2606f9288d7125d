-- `blockers::Blockers::waits` meets its contract: the loop leaves at the first noted slot that is entered; before it none is one.
use borrow.Author.Rules.{rules}
use native.Mathlib.Omega.{arith}
use borrow.Author.Count.{below_more}
use mathlib.Core.Path.{sym, ap, ◌∙◌}
use mathlib.Core.Bool.{Bool, ◌&&◌}
use Rattle.arithmetic.specs.Loops.{any_here, any_none}
use Rattle.blockers.specs.Blockers.{waits_of, has_noted}
use Rattle.blockers.specs.Laws.{past_free}
use Rattle.blockers.proofs.Slots.{eight}
use Rattle.blockers.proofs.Blockers.waits.Goals as goal
use Rattle.blockers.proofs.Blockers.waits.Goals.{After-is_entered}

-- the loop's test, of whether the other slot is entered
abbrev tested : After-is_entered → Bool → Bool
tested c t =
    has_noted c.args.self c.args.slot c.loop-i.i && t

pub returns-then-slot-ge-SLOTS : goal.returns-then-slot-ge-SLOTS
returns-then-slot-ge-SLOTS c = sym (past_free c.args.self c.args.slot (eight c.args.self _ c.well_formed.0) c.if-slot-ge-SLOTS.true)

pub returns-then-own-i : goal.returns-then-own-i
unfolding waits_of
returns-then-own-i c = sym (any_here 8 _ c.loop-i.i (search rules) (ap (tested c.before) (sym c.is_entered.ensures) ∙ c.if-own-i.true))

pub loop-i-preserved : goal.loop-i-preserved
loop-i-preserved c = below_more _ _ c.loop-i.invariant (ap (tested c.before) (sym c.is_entered.ensures) ∙ c.if-own-i.false)

pub returns : goal.returns
unfolding waits_of
returns c = let l = c.loop-i in sym (any_none 8 _ (λ k h. l.invariant k (omega (arith, eight c.args.self _ c.well_formed.0))))
