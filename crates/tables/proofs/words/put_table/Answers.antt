-- `tables::words::put_table` meets its contract: after i turns the count and the words of the first i rows are written. Assumes nothing.
use native.Mathlib.Omega.{arith}
use native.Mathlib.Numerals.{add-one}
use Prim.Native.Nat.{ℕ, ◌+◌, ◌*◌, ◌≤◌}
use mathlib.Core.Path.{◌≡◌, refl, sym, ap, ◌∙◌}
use mathlib.Core.List.{List, [], ◌∷◌, ◌++◌, append_assoc}
use lib.ListN.{length, take, get_or, length-append, length-set}
use lib.Seq.{take_at, take_all, take-suc, take-suc-set, length-take-le}
use borrow.Rule.Slice.PartMut.{same_len_mid}
use Rattle.arithmetic.specs.Loops.{array_long}
use Rattle.arithmetic.specs.declared.settings.Alignments.{Alignments}
use Rattle.tables.specs.Tables.{no_row}
use Rattle.tables.specs.Words.{row_words}
use Rattle.tables.specs.WordsLaws.{row_words_more}
use borrow.Author.Rules.{rules}
use Rattle.tables.proofs.words.put_table.Goals as goal

-- four words put behind those that are written
four_more : (n i j : ℕ) (w u d : List ℕ) (rs : List Alignments) (a : Alignments) → j ≡ 1 + 4 * (i + 1)
    → u ≡ row_words (a ∷ []) → 1 + 4 * i ≤ length w → take (1 + 4 * i) w ≡ n ∷ row_words rs
    → take j (take (1 + 4 * i) w ++ (u ++ d)) ≡ n ∷ row_words (rs ++ a ∷ [])
four_more n i j w u d rs a e s l h =
    let k : length (take (1 + 4 * i) w ++ u) ≡ j =
    length-append (take (1 + 4 * i) w) u ∙ omega (arith, length-take-le (1 + 4 * i) w l, e, ap length s) in
    ap (take j) (sym (append_assoc (take (1 + 4 * i) w) u d))
    ∙ take_at (take (1 + 4 * i) w ++ u) d j k
    ∙ rw (h, s) (ap (λ (l : List ℕ). n ∷ l) (sym (row_words_more rs a)))

pub loop-i-init : goal.loop-i-init
loop-i-init c = (
  length-set c.args.words.now 0 c.args.t.count ∙ c.told-words,
  take-suc-set c.args.words.now 0 c.args.t.count (omega (arith, c.told-words)),
)

pub loop-i-preserved : goal.loop-i-preserved
loop-i-preserved c =
    let i = c.loop-i.i in
    let rs = c.args.t.rows in
    let n : length rs ≡ 64 = search (rules, array_long) in
    let l = c.loop-i.invariant.0 in
    let t : take (i + 1) rs ≡ take i rs ++ get_or rs i no_row ∷ [] = rw add-one (take-suc rs i no_row (omega (arith, n, c.loop-i-test.true))) in (
      same_len_mid (1 + 4 * i) _ c.loop-i.words _ c.copy_from_slice.ensures.len ∙ l,
      four_more c.args.t.count i (1 + 4 * (i + 1)) c.loop-i.words _ _ (take i rs) (get_or rs i no_row) refl c.copy_from_slice.ensures.after
          (omega (arith, l, c.loop-i-test.true)) c.loop-i.invariant.1
          ∙ ap (λ (l : List Alignments). c.args.t.count ∷ row_words l) (sym t),
    )

pub returns : goal.returns
returns c =
    let rs = c.args.t.rows in
    let n : length rs ≡ 64 = search (rules, array_long) in
    let l = c.loop-i.invariant.0 in
    sym (take_all (1 + 4 * c.loop-i.i) c.loop-i.words (omega (arith, l, c.loop-i-test.false)))
    ∙ c.loop-i.invariant.1
    ∙ ap (λ (l : List Alignments). c.args.t.count ∷ row_words l) (take_all c.loop-i.i rs (omega (arith, n, c.loop-i-test.false)))
