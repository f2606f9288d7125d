-- `vectors::alignment::lies_aligned` meets its contract: the segments lie aligned where each does. Assumes nothing.
use Rattle.std.specs.Prelude.{◌≡◌, refl, true, false}
use Rattle.std.proofs.Common.{rules, tests}
use Rattle.std.proofs.lemmas.Iterator.{cases_from_all, YieldsList-from_range}
use Rattle.vectors.specs.Vectors.{is_aligned_at}
use Rattle.vectors.proofs.Pass.{nth}
use Rattle.vectors.proofs.Testing.{lies_from}
use Rattle.vectors.proofs.alignment.lies_aligned.Goals as goal

pub returns : goal.returns
returns g c = let v = g.V.Segments.vector c.args.v.now in
    let a = c.args in
    lies_from v _ c.used_count.ensures a.address a.mem a.len c.all.result (cases_from_all _ _ _ (λ i. is_aligned_at a.address a.mem a.len (nth v i) ≡ true) (λ i. is_aligned_at a.address a.mem a.len (nth v i) ≡ false) c.all.ensures.ran (YieldsList-from_range 0 _ _ refl refl) (λ x q k. search (rules, tests)) (λ x q k. search (rules, tests)))
