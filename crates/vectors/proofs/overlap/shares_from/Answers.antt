-- `vectors::overlap::shares_from` meets its contract: a segment shares a byte with one of those from `start` on where the search finds one. Assumes nothing.
use Rattle.std.specs.Prelude.{◌≡◌, refl, true, false}
use Rattle.std.proofs.Common.{rules, tests}
use Rattle.std.proofs.lemmas.Iterator.{cases_from_any, YieldsList-from_range}
use Rattle.vectors.specs.Vectors.{shares}
use Rattle.vectors.proofs.Pass.{nth}
use Rattle.vectors.proofs.Testing.{any_from}
use Rattle.vectors.proofs.overlap.shares_from.Goals as goal

pub returns : goal.returns
returns g c = let v = g.V.Segments.vector c.args.v.now in
    any_from v _ c.used_count.ensures (shares c.args.segment) c.args.start c.any.result (cases_from_any _ _ _ (λ i. shares c.args.segment (nth v i) ≡ true) (λ i. shares c.args.segment (nth v i) ≡ false) c.any.ensures.ran (YieldsList-from_range c.args.start _ _ refl refl) (λ x q k. search (rules, tests)) (λ x q k. search (rules, tests)))
