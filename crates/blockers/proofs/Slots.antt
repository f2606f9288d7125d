-- Any value of type `Blockers` has 8 slots. Assumes nothing.
use mathlib.Core.Path.{◌≡◌}
use mathlib.Core.List.{List}
use lib.ListN.{length}
use mir.Val.{Val}
use denote.Laws.{Is}
use denote.Struct.Declared.{row}
use Rattle.blockers.specs.declared.Blockers.{Blockers}
use Rattle.blockers.specs.contracts.Blockers.{the_type}

pub eight : (b : Blockers) (vs : List Val) → Is (row the_type) b vs → length b.slots ≡ 8
eight b vs p = p.1.1.0.1.0.1
