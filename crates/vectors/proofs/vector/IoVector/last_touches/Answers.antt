-- `vectors::vector::IoVector::last_touches` meets its contract: the last segment in use is the last of the list. Assumes nothing.
use Rattle.std.proofs.Common.{◌∙◌}
use Rattle.vectors.proofs.Gluing.{none_last, last_of}
use Rattle.vectors.proofs.vector.IoVector.last_touches.Goals as goal

pub returns-in-empty : goal.returns-in-empty
returns-in-empty c = none_last _ _ c.in-empty.len_below

pub returns-in-len1-up : goal.returns-in-len1-up
returns-in-len1-up c = c.touches.ensures ∙ last_of _ c.args.next c.in-len1-up.len_at_least
