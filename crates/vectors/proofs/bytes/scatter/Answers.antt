-- `vectors::bytes::scatter` meets its contract: what is to be scattered is what is to be scattered from segment i on. Assumes nothing.
use Rattle.std.specs.Prelude.{◌+◌, ◌≤◌, ◌<◌, length}
use Rattle.vectors.specs.ByteLaws.{copied_back}
use Rattle.vectors.proofs.Moving.{scatter_fits, scatter_step, scatter_end, scatter_start}
use Rattle.vectors.proofs.bytes.scatter.Goals as goal
use Rattle.vectors.proofs.bytes.scatter.Goals.{After-segment_at-p}

-- what the segment read fits in
fits : (g : _) (c : After-segment_at-p g) → (c.segment_at-p.result.start + c.segment_at-p.result.length ≤ length c.loop-i.«data») × (c.loop-i.taken + c.segment_at-p.result.length ≤ length c.args.slice.now) × (length c.args.slice.now ≤ 1048576) × (c.loop-i.i < 16)
fits g c = rw c.segment_at-p.ensures (scatter_fits _ _ _ _ _ _ c.loop-i.invariant (rw c.buffer_count-i-end.ensures.count at c.loop-i-test.true))

pub loop-i-init : goal.loop-i-init
loop-i-init g c = scatter_start _ _ _ c.buffer_count-i-end.ensures.wide c.requires

pub loop-i-preserved : goal.loop-i-preserved
loop-i-preserved g c = let l = c.loop-i in
    let p = c.segment_at-p.result in
    let f = fits g (goal.at.loop-i-preserved g c).After-segment_at-p in
    rw (copied_back l.«data» c.args.slice.now p.start p.length l.taken c.copy_bytes.new.part f.0 f.1 c.copy_bytes.ensures, c.segment_at-p.ensures)
    (scatter_step _ _ _ _ _ _ l.invariant (rw c.buffer_count-i-end.ensures.count at c.loop-i-test.true))

pub returns : goal.returns
returns g c = scatter_end _ _ _ _ _ _ c.loop-i.invariant (rw c.buffer_count-i-end.ensures.count at c.loop-i-test.false)
