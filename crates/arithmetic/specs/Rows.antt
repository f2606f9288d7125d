-- Words that stand in n rows of k words each, every row read by a decoder: what row i is, and what a row put in its place changes. Assumes
-- nothing.
use Prim.Native.Nat.{ℕ, zero, suc, ◌+◌, ◌-◌, ◌*◌, ◌≤◌, ◌<◌}
use Rattle.std.proofs.Common.{suc-mul, add_comm, arith, sym, ◌∙◌, append_assoc, take-add, get_or-take, get_or-drop}
use Rattle.std.proofs.Math.Nat.{zero-mul}
use Rattle.std.specs.Prelude.{◌≡◌, List, [], ◌∷◌, ◌++◌, take, drop, get_or, set, replicate}
use Rattle.std.proofs.Math.Path.{refl, ap}
use borrow.Rule.Slice.PartMut.{set_mid_at}
use Rattle.std.proofs.Math.ListN.{length, length-drop}
use Rattle.std.proofs.lemmas.List.{length-replicate, replicate-append-replicate}
use Rattle.std.proofs.Math.Seq.{take_at, drop_at, drop-drop, length-take-le}

unfoldable pub rows : {A : Type 0} → (List ℕ → A) → ℕ → ℕ → List ℕ → List A
rows dec k zero w = []
rows dec k (suc n) w = dec (take k w) ∷ rows dec k n (drop k w)

-- row i
abbrev pub row : ℕ → ℕ → List ℕ → List ℕ
row k i w = take k (drop (i * k) w)

-- the words w with b in the place of row i
abbrev pub put : ℕ → ℕ → List ℕ → List ℕ → List ℕ
put k i w b = take (i * k) w ++ (b ++ drop k (drop (i * k) w))

-- ---- a row as code takes it out and puts it back: the part from i * k up to i * k + k

module _ (k i : ℕ) (w : List ℕ) where
  same : i * k + k - i * k ≡ k
  same = omega arith

  pub row_part : take (i * k + k - i * k) (drop (i * k) w) ≡ row k i w
  row_part = rw same

  pub part_put : (b : List ℕ) → take (i * k) w ++ (b ++ drop (i * k + k - i * k) (drop (i * k) w)) ≡ put k i w b
  part_put b = rw same

  pub row_length : i * k + k ≤ length w → length (row k i w) ≡ k
  row_length h = length-take-le k (drop (i * k) w) (rw length-drop (omega arith))

  pub part_length : i * k + k ≤ length w → length (take (i * k + k - i * k) (drop (i * k) w)) ≡ k
  part_length h = rw row_part (row_length h)

  -- a word of the row
  pub row_word : (j : ℕ) → j < k → get_or (row k i w) j 0 ≡ get_or w (i * k + j) 0
  row_word j h = get_or-take k (drop (i * k) w) j 0 h ∙ get_or-drop (i * k) w j 0

  -- a word written in the row is that word of the whole
  pub row_set : (j v : ℕ) → j < k → i * k + k ≤ length w → set w (i * k + j) v ≡ put k i w (set (row k i w) j v)
  row_set j v h l = sym (set_mid_at (i * k) k j w v (rw (row_length l) h))

-- ---- the rows decoded

module _ {A : Type 0} (dec : List ℕ → A) (k : ℕ) where
  pub rows_length : (n : ℕ) (w : List ℕ) → length (rows dec k n w) ≡ n
  unfolding rows
  rows_length zero w = refl
  rows_length (suc n) w = ap suc (rows_length n (drop k w))

  swap : (i : ℕ) → suc i * k ≡ k + i * k
  swap i = suc-mul i k ∙ add_comm _ _

  pub rows_get : (n i : ℕ) (w : List ℕ) (d : A) → i < n → get_or (rows dec k n w) i d ≡ dec (row k i w)
  unfolding rows
  rows_get zero i w d h = absurd (omega arith)
  rows_get (suc n) zero w d h = rw zero-mul
  rows_get (suc n) (suc i) w d h = rows_get n i (drop k w) d (omega arith) ∙ rw (swap i, ← drop-drop (i * k) k w)

  put_first : (w b : List ℕ) → put k 0 w b ≡ b ++ drop k w
  put_first w b = rw zero-mul

  put_later : (i : ℕ) (w b : List ℕ) → put k (suc i) w b ≡ take k w ++ put k i (drop k w) b
  put_later i w b = rw (swap i, take-add k (i * k) w, ← drop-drop (i * k) k w, append_assoc)

  -- a row put in its place is that row, and the others stay
  pub rows_put : (n i : ℕ) (w b : List ℕ) → i < n → n * k ≤ length w → length b ≡ k
      → rows dec k n (put k i w b) ≡ set (rows dec k n w) i (dec b)
  unfolding rows
  rows_put zero i w b h l e = absurd (omega arith)
  rows_put (suc n) zero w b h l e = rw (put_first w b, take_at b (drop k w) k e, drop_at b (drop k w) k e)
  rows_put (suc n) (suc i) w b h l e =
      let m : n * k + k ≤ length w = rw (suc-mul n k) at l in
      let t : length (take k w) ≡ k = length-take-le k w (omega arith) in
      let q = put k i (drop k w) b in
      rw (
        put_later i w b,
        take_at (take k w) q k t,
        drop_at (take k w) q k t,
        rows_put n i (drop k w) b (omega arith)
            (rw length-drop (omega arith)) e,
      )

-- where all words are 0, all rows are the same
pub rows_same : {A : Type 0} (dec : List ℕ → A) (k n : ℕ) → rows dec k n (replicate (n * k) 0) ≡ replicate n (dec (replicate k 0))
unfolding rows
rows_same dec k zero = refl
rows_same dec k (suc n) =
    let e : replicate {A = ℕ} (suc n * k) 0 ≡ replicate {A = ℕ} k 0 ++ replicate {A = ℕ} (n * k) 0 =
    ap (λ (m : ℕ). replicate {A = ℕ} m 0) (suc-mul n k ∙ add_comm (n * k) k) ∙ sym (replicate-append-replicate {A = ℕ} k (n * k) 0) in
    rw (
      e,
      take_at (replicate {A = ℕ} k 0) (replicate {A = ℕ} (n * k) 0) k (length-replicate {A = ℕ} k 0),
      drop_at (replicate {A = ℕ} k 0)
          (replicate {A = ℕ} (n * k) 0) k (length-replicate {A = ℕ} k 0),
      rows_same dec k n,
    )
