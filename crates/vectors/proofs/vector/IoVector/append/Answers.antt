-- `vectors::vector::IoVector::append` meets its contract: each step glues what the tests showed to fit. Assumes nothing.
use Rattle.std.proofs.Common.{Err, ap, ◌≡◌, sym, ◌∙◌, true, ◌&&◌, [], length, arith, rules}
use Rattle.std.proofs.lemmas.Result.{err_from_is_err_and}
use Rattle.arithmetic.specs.Loops.{array_long}
use Rattle.vectors.specs.Vectors.{is_valid}
use Rattle.vectors.proofs.Building.{grown}
use Rattle.vectors.proofs.Gluing.{refused_is}
use Rattle.vectors.proofs.Editing.{both_are, append_not, append_valid, append_long, append_first, append_rest, append_over, append_done}
use Rattle.vectors.proofs.vector.IoVector.append.Goals as goal
use Rattle.vectors.proofs.vector.IoVector.append.Goals.{Else-not-is_asked, Start}

-- what the tests have shown
wide_of : (c : Start) → length c.args.self.segments ≡ 16
wide_of c = search (rules, array_long)

wide_other : (c : Start) → length c.args.other.segments ≡ 16
wide_other c = search (rules, array_long)

asked_of : (c : Else-not-is_asked) → (is_valid c.args.data_len c.args.other && is_valid c.args.data_len c.args.self) ≡ true
asked_of c = sym (both_are c.is_valid.ensures c.is_valid-2.ensures) ∙ c.if-not-is_asked.false

pub returns-then-not-is_asked : goal.returns-then-not-is_asked
returns-then-not-is_asked c = append_not _ _ _ (sym (both_are c.is_valid.ensures c.is_valid-2.ensures) ∙ c.if-not-is_asked.true)

pub overflow_sub-self : goal.overflow_sub-self
overflow_sub-self c = let v = append_valid _ _ _ (wide_of (goal.at.overflow_sub-self c).Start) (wide_other (goal.at.overflow_sub-self c).Start) (asked_of (goal.at.overflow_sub-self c).Else-not-is_asked) in
    omega (arith, v.total, v.fit.small)

pub returns-then-self-other : goal.returns-then-self-other
returns-then-self-other c = append_long _ _ _ (wide_of (goal.at.returns-then-self-other c).Start) (wide_other (goal.at.returns-then-self-other c).Start) (asked_of (goal.at.returns-then-self-other c).Else-not-is_asked) c.if-self-other.true

pub join-requires : goal.join-requires
join-requires c = append_first _ _ _ (wide_of (goal.at.join-requires c).Start) (wide_other (goal.at.join-requires c).Start) (asked_of (goal.at.join-requires c).Else-not-is_asked) _ c.new-whole.ensures

pub glue_all-requires : goal.glue_all-requires
glue_all-requires c = append_rest _ _ _ (wide_of (goal.at.glue_all-requires c).Start) (wide_other (goal.at.glue_all-requires c).Start) (asked_of (goal.at.glue_all-requires c).Else-not-is_asked) c.if-self-other.false _ (grown [] _ c.new-whole.ensures c.join.ensures)

pub returns-in_err-ok_or : goal.returns-in_err-ok_or
returns-in_err-ok_or c = let p = err_from_is_err_and c.from_residual.result c.from_residual.ensures.1 in
    let o = c.in_err-ok_or.ensures in
    p.1 ∙ ap Err (p.2 ∙ refused_is o.ok_part o.value)
    ∙ append_over _ _ _ (wide_of (goal.at.returns-in_err-ok_or c).Start) (wide_other (goal.at.returns-in_err-ok_or c).Start) (asked_of (goal.at.returns-in_err-ok_or c).Else-not-is_asked) c.if-self-other.false
    _ (grown [] _ c.new-whole.ensures c.join.ensures) (rw o.ok_part at c.glue_all.ensures)

pub returns : goal.returns
returns c = append_done _ _ _ (wide_of (goal.at.returns c).Start) (wide_other (goal.at.returns c).Start) (asked_of (goal.at.returns c).Else-not-is_asked) c.if-self-other.false
    _ (grown [] _ c.new-whole.ensures c.join.ensures) _ (rw c.in_ok-ok_or.ensures.ok_part at c.glue_all.ensures)
