-- `records::u16_of` meets its contract: the library's number of two bytes is theirs. Assumes nothing.
use native.Mathlib.Omega.{arith}
use Rattle.records.specs.Records.{little_endian}
use Rattle.records.proofs.u16_of.Goals as goal

pub returns : goal.returns
unfolding little_endian
returns c = omega (arith, c.from.ensures, c.from_le_bytes.ensures)
