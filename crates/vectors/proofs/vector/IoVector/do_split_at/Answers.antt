-- `vectors::vector::IoVector::do_split_at` meets its contract: at or past the total no segment is looked at; before it a walk from the nearer end finds the position. Assumes nothing.
use mathlib.Core.Path.{◌≡◌, ◌∙◌}
use Prim.Native.Nat.{◌<◌}
use native.Mathlib.Omega.{arith}
use lib.ListN.{length}
use borrow.Author.Rules.{rules}
use Rattle.arithmetic.specs.Loops.{array_long}
use Rattle.vectors.proofs.Walking.{past_end, forth_start, forth_few, forth_clean, forth_inside, forth_next}
use Rattle.vectors.proofs.Walking.{back_start, back_few, back_here, back_next}
use Rattle.vectors.proofs.vector.IoVector.do_split_at.Goals as goal
use Rattle.vectors.proofs.vector.IoVector.do_split_at.Goals.{Else-self-mid, Start}

wide_of : (c : Start) → length c.args.self.now.segments ≡ 16
wide_of c = search (rules, array_long)

before_end : (c : Else-self-mid) → c.args.mid < c.args.self.now.total
before_end c = omega (arith, c.if-self-mid.false)

pub returns-then-self-mid : goal.returns-then-self-mid
returns-then-self-mid c = c.meet.ensures ∙ past_end _ (wide_of (goal.at.returns-then-self-mid c).Start) c.requires _ (omega (arith, c.if-self-mid.true))

pub overflow_sub-self : goal.overflow_sub-self
overflow_sub-self c = omega (arith, before_end (goal.at.overflow_sub-self c).Else-self-mid)

pub overflow_sub-rest : goal.overflow_sub-rest
overflow_sub-rest c = omega (arith, before_end (goal.at.overflow_sub-rest c).Else-self-mid)

pub loop-rest-init : goal.loop-rest-init
loop-rest-init c = back_start _ _ (wide_of (goal.at.loop-rest-init c).Start) c.requires (before_end (goal.at.loop-rest-init c).Else-self-mid) (omega (arith, c.if-self-mid-2.true))

pub overflow_sub-i : goal.overflow_sub-i
overflow_sub-i c = (back_few _ _ _ _ c.loop-rest.invariant).0

pub offset_bounds-self-i : goal.offset_bounds-self-i
offset_bounds-self-i c = omega (arith, back_few _ _ _ _ c.loop-rest.invariant, c.loop-rest.invariant.reach)

pub bounds-self-i : goal.bounds-self-i
bounds-self-i c = omega (arith, back_few _ _ _ _ c.loop-rest.invariant, c.loop-rest.invariant.reach)

pub overflow_sub-n : goal.overflow_sub-n
overflow_sub-n c = omega (arith, c.loop-rest.invariant.reach)

pub overflow_sub-rest-in-loop-rest : goal.overflow_sub-rest-in-loop-rest
overflow_sub-rest-in-loop-rest c = omega (arith, c.if-rest-length.false)

pub loop-rest-smaller : goal.loop-rest-smaller
loop-rest-smaller c = omega (arith, back_few _ _ _ _ c.loop-rest.invariant)

pub loop-rest-preserved : goal.loop-rest-preserved
loop-rest-preserved c = back_next _ _ _ _ c.loop-rest.invariant (omega (arith, c.if-rest-length.false))

pub returns-then-self-mid-2 : goal.returns-then-self-mid-2
returns-then-self-mid-2 c = c.meet-split.ensures ∙ back_here _ _ _ _ c.loop-rest.invariant (omega (arith, c.if-rest-length.true))

pub loop-rest-2-init : goal.loop-rest-2-init
loop-rest-2-init c = forth_start _ _ (wide_of (goal.at.loop-rest-2-init c).Start) c.requires (before_end (goal.at.loop-rest-2-init c).Else-self-mid) (omega (arith, c.if-self-mid-2.false))

pub offset_bounds-self-i-in-loop-rest-2 : goal.offset_bounds-self-i-in-loop-rest-2
offset_bounds-self-i-in-loop-rest-2 c = omega (arith, forth_few _ _ _ _ c.loop-rest-2.invariant)

pub bounds-self-i-in-loop-rest-2 : goal.bounds-self-i-in-loop-rest-2
bounds-self-i-in-loop-rest-2 c = omega (arith, forth_few _ _ _ _ c.loop-rest-2.invariant)

pub overflow_add-i : goal.overflow_add-i
overflow_add-i c = omega (arith, forth_few _ _ _ _ c.loop-rest-2.invariant)

pub overflow_add-i-in-loop-rest-2 : goal.overflow_add-i-in-loop-rest-2
overflow_add-i-in-loop-rest-2 c = omega (arith, forth_few _ _ _ _ c.loop-rest-2.invariant)

pub loop-rest-2-smaller : goal.loop-rest-2-smaller
loop-rest-2-smaller c = omega (arith, forth_few _ _ _ _ c.loop-rest-2.invariant)

pub loop-rest-2-preserved : goal.loop-rest-2-preserved
loop-rest-2-preserved c = forth_next _ _ _ _ c.loop-rest-2.invariant (omega (arith, c.if-rest-length-2.false))

pub returns-then-rest-eq0 : goal.returns-then-rest-eq0
returns-then-rest-eq0 c = c.meet-split-then-rest-eq0.ensures ∙ forth_clean _ _ _ _ c.loop-rest-2.invariant c.if-rest-eq0.true

pub returns-then-rest-length-2 : goal.returns-then-rest-length-2
returns-then-rest-length-2 c = c.meet-split-then-rest-length-2.ensures ∙ forth_inside _ _ _ _ c.loop-rest-2.invariant c.if-rest-eq0.false (omega (arith, c.if-rest-length-2.true))
