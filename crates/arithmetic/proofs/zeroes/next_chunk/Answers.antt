-- `arithmetic::zeroes::next_chunk` meets its contract: 201, an empty range, then the chunk, which lies within the range. Assumes nothing.
use mathlib.Core.Path.{◌≡◌, sym, ◌∙◌}
use mathlib.Core.Bool.{true}
use borrow.Author.Tests.{ltb-true}
use lib.Dec.{ltb}
use Prim.Native.Nat.{◌<◌}
use native.Mathlib.Omega.{arith}
use Rattle.arithmetic.specs.Settings.{settings_fit}
use Rattle.arithmetic.specs.SettingsLaws.{accepted}
use Rattle.arithmetic.specs.ZeroesLaws.{chunk_within}
use Rattle.arithmetic.proofs.zeroes.next_chunk.Goals as goal
use Rattle.arithmetic.proofs.zeroes.next_chunk.Goals.{Else-not-has_bytes, Else-not-is_fit}

-- past the first test the settings fit, past the second the range is not empty
fit_is : (c : Else-not-is_fit) → settings_fit c.args.settings ≡ true
fit_is c = sym c.is_fit.ensures ∙ c.if-not-is_fit.false

some : (c : Else-not-has_bytes) → ltb c.args.range.start.0 c.args.range.end.0 ≡ true
some c = sym c.has_bytes.ensures ∙ c.if-not-has_bytes.false

less : (c : Else-not-has_bytes) → c.args.range.start.0 < c.args.range.end.0
less c = ltb-true c.args.range.start.0 c.args.range.end.0 (some c)

pub chunk_length-n-requires : goal.chunk_length-n-requires
chunk_length-n-requires c = (accepted c.args.settings (fit_is c.before.before.before.before.before.before.before)).align.req.positive

pub overflow_add-chunk_end : goal.overflow_add-chunk_end
overflow_add-chunk_end c = omega (arith, less c.before.before.before.before.before.before.before, c.chunk_length-n.ensures, chunk_within c.args.settings.align.req c.args.settings.bounce c.args.range.start.0 c.args.range.end.0)
