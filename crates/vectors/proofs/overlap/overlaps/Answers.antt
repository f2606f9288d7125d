-- `vectors::overlap::overlaps` meets its contract: two vectors share a byte where a segment of one shares a byte with one of the other. Assumes nothing.
use Rattle.std.specs.Prelude.{◌≡◌, refl, true, false}
use Rattle.std.proofs.Common.{rules, tests}
use Rattle.std.proofs.lemmas.Iterator.{cases_from_any, YieldsList-from_range}
use Rattle.vectors.specs.Vectors.{segments_of, shares, any_segment}
use Rattle.vectors.proofs.Pass.{nth}
use Rattle.vectors.proofs.Testing.{overlap_from}
use Rattle.vectors.proofs.overlap.overlaps.Goals as goal

pub returns : goal.returns
returns g c = let v = g.V.Segments.vector c.args.v.now in
    let qs = segments_of (g.W.Segments.vector c.args.w.now) in
    overlap_from v _ c.used_count.ensures qs c.any.result (cases_from_any _ _ _ (λ i. any_segment (shares (nth v i)) qs ≡ true) (λ i. any_segment (shares (nth v i)) qs ≡ false) c.any.ensures.ran (YieldsList-from_range 0 _ _ refl refl) (λ x q k. search (rules, tests)) (λ x q k. search (rules, tests)))
