-- `dock_words::arrays::open` meets its contract: a refused opening writes no word, an accepted one those of a dock with free slots. Assumes nothing.
use Rattle.std.proofs.lemmas.Result.{err_from_is_err_and}
use Rattle.dock.specs.Dock.{open_of}
use Rattle.dock_words.specs.CallWordsLaws.{refused_opening, done_opening}
use Rattle.dock_words.proofs.arrays.open.Goals as goal

pub returns-in_err-check_opening : goal.returns-in_err-check_opening
unfolding open_of
returns-in_err-check_opening c = let p = err_from_is_err_and c.from_residual.result c.from_residual.ensures.1 in rw (p.1, p.2, ← c.in_err-check_opening.was) (refused_opening _ _ c.check_opening.ensures _ _ _ _ _ c.in_err-check_opening.was)

pub returns : goal.returns
unfolding open_of
returns c = done_opening _ _ c.check_opening.ensures _ _ _ _ c.in_ok-check_opening.was _ _ _ _ c.set_fresh.ensures
