-- `dock::dock::first_free` meets its contract: after i turns none of the first i slots is free. Assumes nothing.
use borrow.Author.Rules.{rules}
use native.Mathlib.Omega.{arith}
use mathlib.Core.Path.{◌≡◌, sym, ◌∙◌}
use lib.ListN.{length}
use Rattle.arithmetic.specs.Loops.{array_long}
use Rattle.dock.specs.SlotLaws.{lowest_here, lowest_none}
use Rattle.dock.proofs.dock.first_free.Goals as goal

pub returns-then-is_free : goal.returns-then-is_free
returns-then-is_free c = lowest_here c.args.states c.loop-i.i c.loop-i.invariant (search rules) (sym c.is_free.ensures ∙ c.if-is_free.true)

pub returns : goal.returns
returns c = let w : length c.args.states ≡ 8 = search (rules, array_long) in
    let e : length c.args.states ≡ c.loop-i.i = omega (arith, w) in
    sym w ∙ lowest_none c.args.states (rw e c.loop-i.invariant)
