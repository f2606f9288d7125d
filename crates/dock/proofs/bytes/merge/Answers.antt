-- `dock::bytes::merge` meets its contract: the vector for a write, zeroes for any other job, and the scratch around that part stays. Assumes nothing.
use mathlib.Core.Path.{sym, ◌∙◌}
use Rattle.dock.proofs.Merging.{merged_write, merged_zeroes}
use Rattle.dock.proofs.bytes.merge.Goals as goal

pub returns-then-is_write_job : goal.returns-then-is_write_job
returns-then-is_write_job c = let a = c.args in
    merged_write a.start a.n a.job a.v a.«data».now a.scratch.now c.requires (sym c.is_write_job.ensures ∙ c.if-is_write_job.true) _ _ (sym c.in-Ok.is ∙ c.copy_into_slice-copied.ensures.outcome) c.copy_into_slice-copied.ensures.bytes

pub returns : goal.returns
returns c = let a = c.args in
    merged_zeroes a.start a.n a.job a.v a.«data».now a.scratch.now c.requires (sym c.is_write_job.ensures ∙ c.if-is_write_job.false) _ c.fill_bytes.ensures
