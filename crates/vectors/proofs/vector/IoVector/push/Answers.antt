-- `vectors::vector::IoVector::push` meets its contract: it is an insert at the end. Assumes nothing.
use mathlib.Core.Path.{◌∙◌}
use Rattle.vectors.proofs.Editing.{push_is}
use Rattle.vectors.proofs.vector.IoVector.push.Goals as goal

pub returns : goal.returns
returns c = c.insert.ensures ∙ push_is c.args.data_len c.args.self c.args.segment
