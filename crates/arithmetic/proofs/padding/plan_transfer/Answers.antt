-- `arithmetic::padding::plan_transfer` meets its contract: 201, 207, direct, then as padded. Assumes nothing.
use mathlib.Core.Path.{◌≡◌, sym, ap, ◌∙◌}
use mathlib.Core.Bool.{true}
use Rattle.arithmetic.specs.Settings.{alignments_fit}
use Rattle.arithmetic.specs.SettingsLaws.{Aligned, aligned}
use Rattle.arithmetic.specs.Rounding.{fits}
use Rattle.arithmetic.specs.RoundingLaws.{sum_had, sum_lacked, sum_fits, sum_over, Passed}
use Rattle.arithmetic.specs.Padding.{transfer_of, bounced}
use Rattle.std.proofs.lemmas.Result.{err_from_is_err_and}
use Prim.Native.Nat.{◌+◌}
use Rattle.arithmetic.proofs.padding.plan_transfer.Goals as goal
use Rattle.arithmetic.proofs.padding.plan_transfer.Goals.{Else-not-is_fit, In-Some}

-- past the first test the alignments fit
fit_is : (c : Else-not-is_fit) → alignments_fit c.args.align ≡ true
fit_is c = sym c.is_fit.ensures ∙ c.if-not-is_fit.false

known : (c : Else-not-is_fit) → Aligned c.args.align
known c = aligned c.args.align (fit_is c)

-- past the first sum it fits
end_is : (c : In-Some) → Passed (fits (c.args.offset.0 + c.args.length)) (c.args.offset.0 + c.args.length) c.in-Some.end
end_is c = sum_fits _ _ _ (sum_had _ _ _ _ c.checked_add.ensures c.in-Some.is)

pub returns-in_default : goal.returns-in_default
unfolding transfer_of
returns-in_default c = let a = c.args in simp (fit_is c.before.before, sum_over a.offset.0 a.length (sum_lacked _ _ _ c.checked_add.ensures c.in_default.not-Some))

pub is_direct-requires : goal.is_direct-requires
unfolding transfer_of
is_direct-requires c = (known c.before.before).req.positive

pub returns-then-is_direct : goal.returns-then-is_direct
unfolding transfer_of
returns-then-is_direct c = simp (fit_is c.before.before.before.before, (end_is c.before.before).ok, ← (end_is c.before.before).is, sym c.is_direct.ensures ∙ c.if-is_direct.true)

pub pad_to-requires : goal.pad_to-requires
unfolding transfer_of
pad_to-requires c = let k = known c.before.before.before.before.before in rw c.length_align.ensures (k.req.positive, k.positive, k.req_le, k.of_req)

pub returns-in_err-span : goal.returns-in_err-span
unfolding transfer_of
returns-in_err-span c =
    let p = err_from_is_err_and c.from_residual.result c.from_residual.ensures.1 in
    let n = sym c.is_direct.ensures ∙ c.if-is_direct.false in
    rw (p.1, p.2) (simp (fit_is c.before.before.before.before.before.before.before.before.before, (end_is c.before.before.before.before.before.before.before).ok, n) (ap bounced (sym c.in_err-span.was ∙ (rw c.length_align.ensures at c.pad_to.ensures))))

pub returns : goal.returns
unfolding transfer_of
returns c =
    let n = sym c.is_direct.ensures ∙ c.if-is_direct.false in
    simp (fit_is c.before.before.before.before.before.before.before.before, (end_is c.before.before.before.before.before.before).ok, n) (ap bounced (sym c.in_ok-span.was ∙ (rw c.length_align.ensures at c.pad_to.ensures)))
