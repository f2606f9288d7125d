-- `vectors::vector::IoVector::insert` meets its contract: each step glues what the tests showed to fit. Assumes nothing.
use Rattle.std.proofs.Common.{Err, ◌≡◌, sym, ap, ◌∙◌, true, ◌&&◌, [], leb, length, arith, rules}
use Rattle.std.proofs.lemmas.Result.{err_from_is_err_and}
use Rattle.arithmetic.specs.Loops.{array_long}
use Rattle.vectors.specs.Vectors.{lies_in, is_valid}
use Rattle.vectors.proofs.Building.{grown}
use Rattle.vectors.proofs.Gluing.{refused_is}
use Rattle.vectors.proofs.Editing.{tests_are, insert_not, insert_valid, insert_long, insert_first, insert_glues, insert_full}
use Rattle.vectors.proofs.Editing.{insert_reach, insert_rest, insert_over, insert_done}
use Rattle.vectors.proofs.vector.IoVector.insert.Goals as goal
use Rattle.vectors.proofs.vector.IoVector.insert.Goals.{Else-not-is_asked, Start}

-- what the tests have shown
wide_of : (c : Start) → length c.args.self.segments ≡ 16
wide_of c = search (rules, array_long)

asked_of : (c : Else-not-is_asked) → (((leb c.args.index c.args.self.count && is_valid c.args.data_len c.args.self) && lies_in c.args.data_len c.args.segment) ≡ true)
asked_of c = sym (tests_are (leb c.args.index c.args.self.count) c.is_valid.ensures c.lies_in.ensures) ∙ c.if-not-is_asked.false

pub returns-then-not-is_asked : goal.returns-then-not-is_asked
returns-then-not-is_asked c = insert_not _ _ _ _ (sym (tests_are (leb c.args.index c.args.self.count) c.is_valid.ensures c.lies_in.ensures) ∙ c.if-not-is_asked.true)

pub overflow_sub-self : goal.overflow_sub-self
overflow_sub-self c = let v = insert_valid _ _ _ _ (wide_of (goal.at.overflow_sub-self c).Start) (asked_of (goal.at.overflow_sub-self c).Else-not-is_asked) in
    omega (arith, v.total, v.fit.small)

pub returns-then-self-segment : goal.returns-then-self-segment
returns-then-self-segment c = insert_long _ _ _ _ (wide_of (goal.at.returns-then-self-segment c).Start) (asked_of (goal.at.returns-then-self-segment c).Else-not-is_asked) c.if-self-segment.true

pub join-requires : goal.join-requires
join-requires c = insert_first _ _ _ _ (wide_of (goal.at.join-requires c).Start) (asked_of (goal.at.join-requires c).Else-not-is_asked) c.if-self-segment.false _ c.new-whole.ensures

pub glue-requires : goal.glue-requires
glue-requires c = insert_glues _ _ _ _ (wide_of (goal.at.glue-requires c).Start) (asked_of (goal.at.glue-requires c).Else-not-is_asked) c.if-self-segment.false _ (grown [] _ c.new-whole.ensures c.join.ensures)

pub returns-in_err-ok_or : goal.returns-in_err-ok_or
returns-in_err-ok_or c = let p = err_from_is_err_and c.from_residual.result c.from_residual.ensures.1 in
    let o = c.in_err-ok_or.ensures in
    p.1 ∙ ap Err (p.2 ∙ refused_is o.ok_part o.value)
    ∙ insert_full _ _ _ _ (wide_of (goal.at.returns-in_err-ok_or c).Start) (asked_of (goal.at.returns-in_err-ok_or c).Else-not-is_asked) c.if-self-segment.false
    _ (grown [] _ c.new-whole.ensures c.join.ensures) (rw o.ok_part at c.glue.ensures)

pub overflow_sub-n : goal.overflow_sub-n
overflow_sub-n c = insert_reach _ _ _ _ (wide_of (goal.at.overflow_sub-n c).Start) (asked_of (goal.at.overflow_sub-n c).Else-not-is_asked)

pub glue_all-requires : goal.glue_all-requires
glue_all-requires c = insert_rest _ _ _ _ (wide_of (goal.at.glue_all-requires c).Start) (asked_of (goal.at.glue_all-requires c).Else-not-is_asked) c.if-self-segment.false _ (grown [] _ c.new-whole.ensures c.join.ensures) _ (rw c.in_ok-ok_or.ensures.ok_part at c.glue.ensures)

pub returns-in_err-ok_or-2 : goal.returns-in_err-ok_or-2
returns-in_err-ok_or-2 c = let p = err_from_is_err_and c.from_residual-in_err-ok_or-2.result c.from_residual-in_err-ok_or-2.ensures.1 in let o = c.in_err-ok_or-2.ensures in p.1 ∙ ap Err (p.2 ∙ refused_is o.ok_part o.value) ∙ insert_over _ _ _ _ (wide_of (goal.at.returns-in_err-ok_or-2 c).Start) (asked_of (goal.at.returns-in_err-ok_or-2 c).Else-not-is_asked) c.if-self-segment.false _ (grown [] _ c.new-whole.ensures c.join.ensures) _ (rw c.in_ok-ok_or.ensures.ok_part at c.glue.ensures) (rw o.ok_part at c.glue_all.ensures)

pub returns : goal.returns
returns c = insert_done _ _ _ _ (wide_of (goal.at.returns c).Start) (asked_of (goal.at.returns c).Else-not-is_asked) c.if-self-segment.false _ (grown [] _ c.new-whole.ensures c.join.ensures) _ (rw c.in_ok-ok_or.ensures.ok_part at c.glue.ensures) _ (rw c.in_ok-ok_or-2.ensures.ok_part at c.glue_all.ensures)
