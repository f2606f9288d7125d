-- `vectors::words::segment_at` meets its contract: segment i stands in the two words from 2 + 2 i on, and there are 16. Assumes nothing.
use Rattle.std.specs.Prelude.{◌≡◌, ◌≤◌, length, get_or}
use Rattle.std.proofs.Common.{rules, sym, arith}
use Rattle.std.proofs.Math.ListN.{get_or-eq_default}
use Rattle.vectors.specs.Vectors.{none}
use Rattle.vectors.specs.Words.{vector_from}
use Rattle.vectors.specs.WordLaws.{segment_words_lem, vector_wide}
use Rattle.vectors.proofs.words.segment_at.Goals as goal

pub returns-then-i-lt-MAX_COUNT : goal.returns-then-i-lt-MAX_COUNT
returns-then-i-lt-MAX_COUNT c = segment_words_lem c.args.words.now c.args.i c.if-i-lt-MAX_COUNT.true

pub returns : goal.returns
returns c = let w = c.args.words.now in
    let h : length (vector_from w).segments ≤ c.args.i = omega (arith, vector_wide w) in
    let e : none ≡ get_or (vector_from w).segments c.args.i none = sym (get_or-eq_default (vector_from w).segments none h) in search rules
