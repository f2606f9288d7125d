-- `dock_words::arrays::open_by` meets its contract: each profile is its case of the definition. Assumes nothing.
use mathlib.Core.Path.{refl}
use Rattle.std.proofs.lemmas.Result.{err_from_is_err_and}
use Rattle.dock_words.specs.CallWordsLaws.{not_opened, same_words}
use Rattle.dock_words.proofs.arrays.open_by.Goals as goal

pub returns-in_err-align : goal.returns-in_err-align
returns-in_err-align c = let p = err_from_is_err_and c.from_residual.result c.from_residual.ensures.1 in rw (p.1, p.2) (simp c.in_err-align.was (refl, (not_opened _ _ _ refl, same_words _ _, (same_words _ _, same_words _ _, same_words _ _))))
