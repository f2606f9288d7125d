-- `stages::plan::plan_vector` meets its contract: each answer of the padding is its case of the definition. Assumes nothing.
use mathlib.Core.Path.{sym, ap, ◌∙◌}
use Rattle.std.proofs.Common.{◌≡◌, refl, ◌+◌, ◌<◌, ◌^◌, ℕ, Bool}
use Rattle.std.specs.Prelude.{Ok}
use Rattle.std.proofs.lemmas.Bool.{ne_eqb}
use Rattle.arithmetic.specs.Padding.{transfer_of}
use Rattle.arithmetic.specs.declared.offsets.StoreOffset.{StoreOffset}
use Rattle.arithmetic.specs.declared.padding.Transfer.{Transfer}
use Rattle.arithmetic.specs.declared.padding.Transfer.TheVariants.{Direct, Bounced}
use Rattle.arithmetic.specs.declared.settings.Alignments.{Alignments}
use Rattle.stages.specs.Transfers.{direct, bounced, holds, asked_fits}
use Rattle.stages.proofs.plan.plan_vector.Goals as goal

fits : (a : Alignments) (o : StoreOffset) (n : ℕ) (t : Bool) (x : Transfer) → transfer_of a o n t ≡ Ok x → o.0 + n < 2 ^ 64
fits a o n t (Direct r) e = (direct a o n t r e).fits
fits a o n t (Bounced s) e = asked_fits (bounced a o n t s e)

pub asked_range-range-requires : goal.asked_range-range-requires
asked_range-range-requires c = let a = c.args in
    fits a.settings.align a.offset a.n a.aligned c.in_ok-transfer.transfer (sym c.plan_transfer.ensures ∙ c.in_ok-transfer.was)

pub returns-in_default : goal.returns-in_default
returns-in_default c = let a = c.args in
    let e = sym c.plan_transfer.ensures ∙ (c.in_ok-transfer.was ∙ ap Ok c.in_default.is) in
    let d = direct a.settings.align a.offset a.n a.aligned c.in_default.field-0 e in
    rw (c.start.ensures, c.nowhere.ensures, c.direct_stage-stage.ensures, c.asked_range-range.ensures, e, d.is, ne_eqb a.n 0 c.if-n-eq0.false) refl

pub padded_stage-stage-requires : goal.padded_stage-stage-requires
padded_stage-stage-requires c = let a = c.args in
    holds (bounced a.settings.align a.offset a.n a.aligned c.in-Bounced.span (sym c.plan_transfer.ensures ∙ (c.in_ok-transfer.was ∙ ap Ok c.in-Bounced.is)))
