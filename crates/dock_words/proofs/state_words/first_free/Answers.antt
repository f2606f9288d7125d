-- `dock_words::state_words::first_free` meets its contract: the first row that is a free slot's. Assumes nothing.
use Rattle.dock_words.proofs.Sought.{lowest}
use Rattle.dock_words.proofs.state_words.first_free.Goals as goal

pub returns : goal.returns
returns c = lowest c.args.states.now _ _ c.find_free.ensures c.unwrap_or.ensures c.told-states
