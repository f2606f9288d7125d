-- A vector in words: what is written is what is read, and the words of each segment. Assumes nothing.
use Rattle.std.specs.Prelude.{◌≡◌, refl, List, [], ◌∷◌, ℕ, zero, suc, ◌+◌, ◌*◌, ◌<◌, length, drop, get_or}
use Rattle.std.proofs.Common.{sym, ap, arith, get_or-drop}
use Rattle.arithmetic.specs.Rows.{rows, rows_get, rows_length, row_word}
use Rattle.vectors.specs.declared.vector.Segment.{Segment}
use Rattle.vectors.specs.declared.vector.IoVector.{IoVector}
use Rattle.vectors.specs.Vectors.{segment, none}
use Rattle.vectors.specs.Words.{segment_of, segment_words, vector_from, vector_words}

segments_back : (n : ℕ) (l : List Segment) → length l ≡ n → rows segment_of 2 n (segment_words l) ≡ l
unfolding rows
segments_back zero [] e = refl
segments_back zero (s ∷ l) e = absurd (omega arith)
segments_back (suc n) [] e = absurd (omega arith)
segments_back (suc n) (s ∷ l) e = ap (λ (r : List Segment). s ∷ r) (segments_back n l (omega arith))

pub vector_back : (v : IoVector) → length v.segments ≡ 16 → vector_from (vector_words v) ≡ v
unfolding vector_from
vector_back v h = rw (segments_back 16 v.segments h)

-- and words of a vector are those of the vector that they stand for: one that a refusal leaves is left in every word
segments_same : (n : ℕ) (w : List ℕ) → length w ≡ n + n → segment_words (rows segment_of 2 n w) ≡ w
unfolding rows
segments_same zero [] e = refl
segments_same zero (a ∷ w) e = absurd (omega arith)
segments_same (suc n) [] e = absurd (omega arith)
segments_same (suc n) (a ∷ []) e = absurd (omega arith)
segments_same (suc n) (a ∷ b ∷ w) e = ap (λ (r : List ℕ). a ∷ b ∷ r) (segments_same n w (omega arith))

pub vector_same : (w : List ℕ) → length w ≡ 34 → vector_words (vector_from w) ≡ w
unfolding vector_from
vector_same [] e = absurd (omega arith)
vector_same (a ∷ []) e = absurd (omega arith)
vector_same (a ∷ b ∷ w) e = ap (λ (r : List ℕ). a ∷ b ∷ r) (segments_same 16 w (omega arith))

segment_width : (n : ℕ) (l : List Segment) → length l ≡ n → length (segment_words l) ≡ n + n
segment_width n [] e = omega arith
segment_width zero (s ∷ l) e = absurd (omega arith)
segment_width (suc n) (s ∷ l) e = omega (arith, segment_width n l (omega arith))

pub vector_width : (v : IoVector) → length v.segments ≡ 16 → length (vector_words v) ≡ 34
vector_width v h = omega (arith, segment_width 16 v.segments h)

-- ---- a vector by its words

pub vector_wide : (w : List ℕ) → length (vector_from w).segments ≡ 16
unfolding vector_from
vector_wide w = rows_length segment_of 2 16 (drop 2 w)

pub vector_count : (w : List ℕ) → get_or w 0 0 ≡ (vector_from w).count
unfolding vector_from
vector_count w = refl

pub vector_total : (w : List ℕ) → get_or w 1 0 ≡ (vector_from w).total
unfolding vector_from
vector_total w = refl

-- segment i, by its two words
pub segment_words_lem : (w : List ℕ) (i : ℕ) → i < 16
    → segment (get_or w (2 + 2 * i) 0) (get_or w (3 + 2 * i) 0) ≡ get_or (vector_from w).segments i none
unfolding vector_from
segment_words_lem w i h =
    let e : 2 + 2 * i ≡ 2 + (i * 2 + 0) = omega arith in
    let f : 3 + 2 * i ≡ 2 + (i * 2 + 1) = omega arith in
    rw (
      rows_get segment_of 2 16 i (drop 2 w) none h,
      row_word 2 i (drop 2 w) 0 (omega arith),
      row_word 2 i (drop 2 w) 1
          (omega arith),
      get_or-drop 2 w (i * 2 + 0) 0,
      get_or-drop 2 w (i * 2 + 1) 0,
      e,
      f,
    )

-- and the two words of segment i, as they are written
start_word : (l : List Segment) (i : ℕ) → get_or (segment_words l) (2 * i) 0 ≡ (get_or l i none).start
start_word [] i = refl
start_word (s ∷ l) zero = refl
start_word (s ∷ l) (suc i) = let e : 2 * suc i ≡ suc (suc (2 * i)) = omega arith in rw e (start_word l i)

length_word : (l : List Segment) (i : ℕ) → get_or (segment_words l) (suc (2 * i)) 0 ≡ (get_or l i none).length
length_word [] i = refl
length_word (s ∷ l) zero = refl
length_word (s ∷ l) (suc i) = let e : 2 * suc i ≡ suc (suc (2 * i)) = omega arith in rw e (length_word l i)

pub vector_start : (v : IoVector) (i : ℕ) → (get_or v.segments i none).start ≡ get_or (vector_words v) (2 + 2 * i) 0
vector_start v i = let e : 2 + 2 * i ≡ suc (suc (2 * i)) = omega arith in rw e (sym (start_word v.segments i))

pub vector_length : (v : IoVector) (i : ℕ) → (get_or v.segments i none).length ≡ get_or (vector_words v) (3 + 2 * i) 0
vector_length v i = let e : 3 + 2 * i ≡ suc (suc (suc (2 * i))) = omega arith in rw e (sym (length_word v.segments i))
