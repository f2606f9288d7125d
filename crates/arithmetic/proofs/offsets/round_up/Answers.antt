-- `arithmetic::offsets::round_up` meets its contract: the sum with r - 1, where it fits, rounded down. Assumes nothing.
use Rattle.std.proofs.Common.{sym, rules, ◌-◌}
use Rattle.arithmetic.specs.Rounding.{up_of, round_up}
use Rattle.arithmetic.specs.RoundingLaws.{up_zero, sum_had, sum_lacked, sum_fits, sum_over}
use Rattle.arithmetic.proofs.offsets.round_up.Goals as goal

pub returns-then-r-eq0 : goal.returns-then-r-eq0
returns-then-r-eq0 c = rw c.if-r-eq0.true (sym (up_zero c.args.x (search rules)))

pub returns-in_default : goal.returns-in_default
unfolding up_of
returns-in_default c =
    let a = c.args in
    simp (sum_over a.x (a.r - 1) (sum_lacked _ _ _ c.checked_add.ensures c.in_default.not-Some))

pub returns : goal.returns
unfolding up_of round_up
returns c =
    let a = c.args in
    let s = sum_fits a.x (a.r - 1) c.in-Some.last (sum_had _ _ _ _ c.checked_add.ensures c.in-Some.is) in
    rw (c.round_down.ensures, s.is) (simp s.ok)
