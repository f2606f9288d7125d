-- `vectors::segments::is_valid` meets its contract: the segments before i lie in the data and sum up to what was added, which stays at most 1,048,576. Assumes nothing.
use Rattle.std.specs.Prelude.{◌<◌}
use Rattle.std.proofs.Common.{arith, sym, ap, ◌∙◌}
use Rattle.std.proofs.lemmas.Bool.{lt-leb}
use Rattle.vectors.specs.Vectors.{is_valid, lies_in}
use Rattle.vectors.proofs.Pass.{check_bad, check_next}
use Rattle.vectors.proofs.segments.is_valid.Goals as goal

pub returns-then-n-gt-MAX_COUNT : goal.returns-then-n-gt-MAX_COUNT
unfolding is_valid
returns-then-n-gt-MAX_COUNT g c = let h : 16 < (g.V.Segments.vector c.args.v.now).count = omega (arith, c.buffer_count-n.ensures.count) in simp (lt-leb _ _ h)

pub returns-then-not-lies_in : goal.returns-then-not-lies_in
returns-then-not-lies_in g c = check_bad _ _ _ _ c.loop-i.invariant (rw c.buffer_count-n.ensures.count at c.loop-i-test.true) (ap (lies_in _) (sym c.segment_at-p.ensures) ∙ sym c.lies_in.ensures ∙ c.if-not-lies_in.true)

pub loop-i-preserved : goal.loop-i-preserved
loop-i-preserved g c = rw c.segment_at-p.ensures (check_next _ _ _ _ c.loop-i.invariant (rw c.buffer_count-n.ensures.count at c.loop-i-test.true) (ap (lies_in _) (sym c.segment_at-p.ensures) ∙ sym c.lies_in.ensures ∙ c.if-not-lies_in.false) (rw c.segment_at-p.ensures at c.if-sum-p.false))
