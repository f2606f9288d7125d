-- `records::first_record` meets its contract: each test of the code decides what the bytes start with. Assumes nothing.
use native.Mathlib.Omega.{arith}
use mathlib.Core.Path.{sym, ap, ◌∙◌}
use mathlib.Core.Logic.{inl, inr}
use Rattle.records.specs.Records.{little_endian}
use Rattle.records.specs.RecordsLaws.{start_none, start_few, start_broken, start_record, two_from}
use borrow.Author.Rules.{rules}
use Rattle.records.proofs.first_record.Goals as goal

pub returns-then-n-eq0 : goal.returns-then-n-eq0
returns-then-n-eq0 c = sym (start_none c.args.bytes.now (search rules))

pub returns-in_default : goal.returns-in_default
returns-in_default c = sym (start_few c.args.bytes.now (search rules) (search rules))

pub returns-then-length-lt2 : goal.returns-then-length-lt2
returns-then-length-lt2 c = let bs = c.args.bytes.now in
    let e = c.u16_of-length.ensures ∙ ap little_endian (sym (two_from bs 0 (search rules))) in
    sym (start_broken bs (search rules) (inr (omega (arith, e, c.if-length-lt2.true))))

pub returns-then-n-length : goal.returns-then-n-length
returns-then-n-length c = let bs = c.args.bytes.now in
    let e = c.u16_of-length.ensures ∙ ap little_endian (sym (two_from bs 0 (search rules))) in
    sym (start_broken bs (search rules) (inl (omega (arith, e, c.if-n-length.true))))

pub returns : goal.returns
returns c = let bs = c.args.bytes.now in
    let e = c.u16_of-length.ensures ∙ ap little_endian (sym (two_from bs 0 (search rules))) in
    let k = c.u16_of.ensures ∙ ap little_endian (sym (two_from bs 2 (search rules))) in
    rw (k, e) (sym (start_record bs (search rules) (omega (arith, e, c.if-n-length.false)) (omega (arith, e, c.if-length-lt2.false))))
