-- `vectors::vector::IoVector::lengthen` meets its contract: the last segment becomes the two in one. Assumes nothing.
use mathlib.Core.Path.{◌≡◌}
use native.Mathlib.Omega.{arith}
use lib.ListN.{length}
use Rattle.arithmetic.specs.Loops.{array_long}
use Rattle.vectors.proofs.Gluing.{some_left, last_length, lengthened}
use borrow.Author.Rules.{rules}
use Rattle.vectors.proofs.vector.IoVector.lengthen.Goals as goal
use Rattle.vectors.proofs.vector.IoVector.lengthen.Goals.{Start}

wide_of : (c : Start) → length c.args.self.now.segments ≡ 16
wide_of c = search (rules, array_long)

pub overflow_sub-self : goal.overflow_sub-self
overflow_sub-self c = let wide : length c.args.self.now.segments ≡ 16 = search (rules, array_long) in some_left _ c.args.next wide c.requires

pub overflow_add-self : goal.overflow_add-self
overflow_add-self c = omega (arith, last_length c.args.self.now c.args.next (wide_of (goal.at.overflow_add-self c).Start) c.requires, c.requires.asked.small)

pub overflow_add-self-2 : goal.overflow_add-self-2
overflow_add-self-2 c = omega (arith, c.requires.asked.small)

pub returns : goal.returns
returns c = lengthened c.args.self.now c.args.next (wide_of (goal.at.returns c).Start) c.requires
