-- `vectors::vector::IoVector::new` meets its contract: sixteen empty segments are those past the count. Assumes nothing.
use Rattle.std.proofs.Common.{refl}
use Rattle.vectors.specs.Vectors.{vector_of, size_of}
use Rattle.vectors.proofs.vector.IoVector.new.Goals as goal

pub returns : goal.returns
unfolding vector_of size_of
returns c = refl
