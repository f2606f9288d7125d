-- `arithmetic::settings::Buffers::is_fit` meets its contract: settings that fit bound the shares. Assumes nothing.
use native.Mathlib.Omega.{arith}
use Rattle.arithmetic.specs.SettingsLaws.{accepted}
use Rattle.arithmetic.proofs.settings.Buffers.is_fit.Goals as goal

pub overflow_mul-result : goal.overflow_mul-result
overflow_mul-result c = omega (arith, (accepted c.args.s c.requires).most)
