-- `dock::next::piece_of` meets its contract: each arm's phase is its case of the definition; a sound second read starts in its share. Assumes nothing.
use native.Mathlib.Omega.{arith}
use mathlib.Core.Path.{ap}
use Rattle.arithmetic.specs.declared.offsets.BufferOffset.{BufferOffset}
use Rattle.dock.proofs.SlotsOf.{second_in}
use Rattle.dock.proofs.next.piece_of.Goals as goal

pub overflow_add-share : goal.overflow_add-share
overflow_add-share c = let l = second_in c.args.bounce c.args.x c.in-SecondRead.is c.requires.0 in
    omega (arith, ap (λ (b : BufferOffset). b.0) c.second_at-place.ensures)
