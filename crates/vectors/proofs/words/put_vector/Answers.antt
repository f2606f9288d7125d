-- `vectors::words::put_vector` meets its contract: after i turns the words of the first i segments are written. Assumes nothing.
use Rattle.std.specs.Prelude.{◌≡◌, refl, ◌+◌, ◌*◌, length}
use Rattle.std.proofs.Common.{rules, arith, sym, ◌∙◌, set}
use Rattle.arithmetic.specs.Loops.{array_long, like_more}
use Rattle.vectors.specs.Words.{vector_words}
use Rattle.vectors.specs.WordLaws.{vector_width, vector_start, vector_length}
use Rattle.vectors.proofs.words.put_vector.Goals as goal

pub loop-i-init : goal.loop-i-init
loop-i-init c = let w = c.args.words.now in
    let v = c.args.v in
    let m : length v.segments ≡ 16 = search (rules, array_long) in
    let k = vector_width v m in
    let l : length w ≡ 34 = search rules in
    let one = like_more (vector_words v) w 0 1 v.count 0 refl (omega arith) (l ∙ sym k, refl) refl in
    (k, like_more (vector_words v) (set w 0 v.count) 1 2 v.total 0 refl (omega arith) one refl)

pub loop-i-preserved : goal.loop-i-preserved
loop-i-preserved c = let l = c.loop-i in
    let v = c.args.v in
    let i = l.i in
    let first = like_more (vector_words v) l.words (2 + 2 * i) (3 + 2 * i) _ 0 (omega arith) (search rules) l.invariant.1 (vector_start v i) in
    (l.invariant.0, like_more (vector_words v) _ (3 + 2 * i) (2 + 2 * (i + 1)) _ 0 (omega arith) (search rules) first (vector_length v i))
