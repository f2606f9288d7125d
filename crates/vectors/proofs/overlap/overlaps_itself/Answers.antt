-- `vectors::overlap::overlaps_itself` meets its contract: a vector overlaps itself where a segment shares a byte with a later one. Assumes nothing.
use Rattle.std.specs.Prelude.{◌≡◌, refl, true, false, ◌+◌, drop}
use Rattle.std.proofs.Common.{rules, tests}
use Rattle.std.proofs.lemmas.Iterator.{cases_from_any, YieldsList-from_range}
use Rattle.vectors.specs.Vectors.{segments_of, shares, any_segment}
use Rattle.vectors.proofs.Pass.{nth}
use Rattle.vectors.proofs.Testing.{self_from}
use Rattle.vectors.proofs.overlap.overlaps_itself.Goals as goal

pub returns : goal.returns
returns g c = let v = g.V.Segments.vector c.args.v.now in
    self_from v _ c.used_count.ensures c.any.result (cases_from_any _ _ _ (λ i. any_segment (shares (nth v i)) (drop (i + 1) (segments_of v)) ≡ true) (λ i. any_segment (shares (nth v i)) (drop (i + 1) (segments_of v)) ≡ false) c.any.ensures.ran (YieldsList-from_range 0 _ _ refl refl) (λ x q k. search (rules, tests)) (λ x q k. search (rules, tests)))
