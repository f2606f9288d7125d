-- `dock_words::blocker_words::forget` meets its contract: after i turns the first i rows have forgotten `slot`. Assumes nothing.
use Rattle.std.specs.Prelude.{◌≡◌, refl, [], ◌∷◌, map, ℕ, ◌+◌, set}
use Rattle.std.proofs.Common.{rules, ap, ◌∙◌}
use Rattle.std.proofs.lemmas.List.{length-map}
use Rattle.arithmetic.specs.Loops.{like_all}
use Rattle.blockers.specs.Blockers.{forgetting}
use Rattle.dock_words.specs.View.{Rows, blocker_of}
use Rattle.dock_words.specs.Laws.{row_forgets}
use Rattle.dock_words.proofs.blocker_words.forget.Goals as goal

forgets : (q : ℕ) (w : Rows) → map blocker_of (map (λ r. set r (3 + q) 0) w) ≡ map (forgetting q) (map blocker_of w)
forgets q [] = refl
forgets q (r ∷ w) = rw (row_forgets r q, forgets q w)

pub returns : goal.returns
returns c = ap (map blocker_of) (like_all _ _ c.loop-row.row-index (search (rules, length-map)) c.loop-row.invariant.0) ∙ forgets c.args.slot c.args.all.now
