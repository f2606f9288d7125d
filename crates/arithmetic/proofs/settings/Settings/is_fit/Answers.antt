-- `arithmetic::settings::Settings::is_fit` meets its contract. Assumes nothing.
use mathlib.Core.Path.{◌≡◌, sym, ◌∙◌}
use mathlib.Core.Bool.{true}
use native.Mathlib.Omega.{arith}
use Rattle.arithmetic.specs.Settings.{alignments_fit}
use Rattle.arithmetic.specs.SettingsLaws.{Aligned, aligned}
use Rattle.arithmetic.proofs.settings.Settings.is_fit.Goals as goal
use Rattle.arithmetic.proofs.settings.Settings.is_fit.Goals.{Else-not-is_fit}

-- past the test the alignments fit
fit_is : (c : Else-not-is_fit) → alignments_fit c.args.self.align ≡ true
fit_is c = sym c.is_fit.ensures ∙ c.if-not-is_fit.false

known : (c : Else-not-is_fit) → Aligned c.args.self.align
known c = aligned c.args.self.align (fit_is c)

pub overflow_mul-result : goal.overflow_mul-result
overflow_mul-result c = omega (arith, (known c.before.before.before).zero.most)

pub overflow_mul-result-2 : goal.overflow_mul-result-2
overflow_mul-result-2 c = omega (arith, c.length_align-l.ensures, (known c.before.before.before).most)

pub overflow_add-result : goal.overflow_add-result
overflow_add-result c = omega (arith, c.length_align-l.ensures, (known c.before.before.before).most, (known c.before.before.before).zero.most)
