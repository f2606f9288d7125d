-- `vectors::bytes::fill_segments` meets its contract: what is to be filled is what is to be filled from segment i on. Assumes nothing.
use Rattle.std.specs.Prelude.{◌+◌, ◌≤◌, ◌<◌, length}
use Rattle.vectors.proofs.Moving.{fill_fits, fill_step, fill_end, fill_start, filled_back}
use Rattle.vectors.proofs.bytes.fill_segments.Goals as goal
use Rattle.vectors.proofs.bytes.fill_segments.Goals.{After-segment_at-p}

-- what the segment read fits in
fits : (g : _) (c : After-segment_at-p g) → (c.segment_at-p.result.start + c.segment_at-p.result.length ≤ length c.loop-i.«data») × (c.loop-i.i < 16)
fits g c = rw c.segment_at-p.ensures (fill_fits _ _ _ _ _ c.loop-i.invariant (rw c.buffer_count-i-end.ensures.count at c.loop-i-test.true))

pub loop-i-init : goal.loop-i-init
loop-i-init g c = fill_start _ _ _ c.buffer_count-i-end.ensures.wide c.requires

pub loop-i-preserved : goal.loop-i-preserved
loop-i-preserved g c = let l = c.loop-i in
    let p = c.segment_at-p.result in
    let f = fits g (goal.at.loop-i-preserved g c).After-segment_at-p in
    rw (filled_back l.«data» p.start p.length c.args.value c.fill_bytes.new.part f.0 c.fill_bytes.ensures, c.segment_at-p.ensures)
    (fill_step _ _ _ _ _ l.invariant (rw c.buffer_count-i-end.ensures.count at c.loop-i-test.true))

pub returns : goal.returns
returns g c = fill_end _ _ _ _ _ c.loop-i.invariant (rw c.buffer_count-i-end.ensures.count at c.loop-i-test.false)
