-- `vectors::bytes::gather` meets its contract: what is to be gathered is what is to be gathered from segment i on. Assumes nothing.
use Rattle.std.specs.Prelude.{◌+◌, ◌≤◌, ◌<◌, length}
use Rattle.vectors.specs.ByteLaws.{copied_back}
use Rattle.vectors.proofs.Moving.{gather_fits, gather_step, gather_end, gather_start}
use Rattle.vectors.proofs.bytes.gather.Goals as goal
use Rattle.vectors.proofs.bytes.gather.Goals.{After-segment_at-p}

-- what the segment read fits in
fits : (g : _) (c : After-segment_at-p g) → (c.segment_at-p.result.start + c.segment_at-p.result.length ≤ length c.args.«data».now) × (c.loop-i.filled + c.segment_at-p.result.length ≤ length c.loop-i.slice) × (length c.loop-i.slice ≤ 1048576) × (c.loop-i.i < 16)
fits g c = rw c.segment_at-p.ensures (gather_fits _ _ _ _ _ c.loop-i.invariant (rw c.buffer_count-i-end.ensures.count at c.loop-i-test.true))

pub loop-i-init : goal.loop-i-init
loop-i-init g c = gather_start _ _ _ c.buffer_count-i-end.ensures.wide c.requires

pub loop-i-preserved : goal.loop-i-preserved
loop-i-preserved g c = let l = c.loop-i in
    let p = c.segment_at-p.result in
    let f = fits g (goal.at.loop-i-preserved g c).After-segment_at-p in
    rw (copied_back l.slice c.args.«data».now l.filled p.length p.start c.copy_bytes.new.part f.1 f.0 c.copy_bytes.ensures, c.segment_at-p.ensures)
    (gather_step _ _ _ _ _ l.invariant (rw c.buffer_count-i-end.ensures.count at c.loop-i-test.true))

pub returns : goal.returns
returns g c = gather_end _ _ _ _ _ c.loop-i.invariant (rw c.buffer_count-i-end.ensures.count at c.loop-i-test.false)
