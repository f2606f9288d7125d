-- `arithmetic::planner::check` meets its contract: 201, 210, 207. Assumes nothing.
use mathlib.Core.Path.{◌≡◌, sym, ◌∙◌}
use mathlib.Core.Bool.{true, ◌&&◌}
use Rattle.arithmetic.specs.Rounding.{is_multiple}
use Rattle.arithmetic.specs.RoundingLaws.{room}
use Rattle.arithmetic.specs.Settings.{settings_fit}
use Rattle.arithmetic.specs.Planner.{plan_outcome}
use borrow.Author.Rules.{rules}
use borrow.Author.Tests.{lt-leb, le-leb}
use Rattle.arithmetic.proofs.planner.check.Goals as goal
use Rattle.arithmetic.proofs.planner.check.Goals.{After-is_multiple-ends, Else-not-is_fit}

-- past the first test the settings fit
fit_is : (c : Else-not-is_fit) → settings_fit c.args.settings ≡ true
fit_is c = sym c.is_fit.ensures ∙ c.if-not-is_fit.false

-- the second test is that offset and length are multiples of R
both_are : (c : After-is_multiple-ends) → (c.is_multiple-starts.result && c.is_multiple-ends.result)
    ≡ (let a = c.args in
    is_multiple a.offset.0 a.settings.align.req && is_multiple a.length a.settings.align.req)
both_are c = simp (c.is_multiple-starts.ensures, c.is_multiple-ends.ensures)

pub returns-then-not-length-at : goal.returns-then-not-length-at
unfolding plan_outcome
returns-then-not-length-at c = let a = c.args in
    simp (fit_is c.before.before.before.before.before, sym (both_are c.before.before) ∙ c.if-not-starts-ends.false, sym (room a.offset.0 a.length (search rules)) ∙ lt-leb _ _ c.if-not-length-at.true)

pub returns : goal.returns
unfolding plan_outcome
returns c = let a = c.args in
    simp (fit_is c.before.before.before.before.before, sym (both_are c.before.before) ∙ c.if-not-starts-ends.false, sym (room a.offset.0 a.length (search rules)) ∙ le-leb _ _ c.if-not-length-at.false)
