-- `dock_words::blocker_steps::change_blocker` meets its contract: it leaves, then enters. Assumes nothing.
use mathlib.Core.Path.{ap, ◌∙◌}
use Rattle.blockers.specs.declared.Blockers.{Blockers}
use Rattle.dock.specs.Begin.{blockers_with}
use Rattle.dock_words.proofs.blocker_steps.change_blocker.Goals as goal

pub returns : goal.returns
returns c = let a = c.args in c.enter_blocker.ensures.1 ∙ ap (λ (z : Blockers). (blockers_with z a.slot a.y).blockers) c.leave_blocker.ensures.1
