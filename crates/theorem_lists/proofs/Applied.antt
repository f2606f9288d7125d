-- The theorem, applied to the example's list.
use Rattle.std.specs.Prelude.{Ok}
use mathlib.Core.Path.{◌≡◌, refl}
use mathlib.Core.Bool.{true}
use lib.ListN.{length}
use Rattle.dock.specs.Dock.{open_of, lent_fits}
use Rattle.dock.specs.Computing.{computing}
use Rattle.theorem_lists.specs.Histories.{Claim}
use Rattle.theorem_lists.specs.Acts.{events_of}
use Rattle.theorem_lists.specs.Example.{settings, buffers, world, plain, whole_list}
use Rattle.theorem_lists.proofs.Example.{example}
use Rattle.theorem_lists.proofs.Theorem.{every_list}

pub opens : (open_of settings buffers).outcome ≡ Ok tt
unfolding computing
opens = refl

pub lends : lent_fits buffers (length world.memory) (length world.scratch) ≡ true
unfolding computing
lends = refl

pub claimed : Claim world plain (events_of world whole_list)
claimed = every_list settings buffers opens world.store world.memory world.scratch lends (events_of world whole_list) example
