-- Laws of the sweep: ranges cut at the offset that it has come to, and what a stretch adds to them. Assumes nothing.
use mathlib.Core.Path.{◌≡◌, refl, sym, ap, ◌∙◌}
use mathlib.Core.Bool.{Bool, true, false, ◌&&◌, ◌||◌, and-false, and-true}
use mathlib.Core.List.{List, [], ◌∷◌, ◌++◌, append_assoc, append-nil}
use Prim.Native.Nat.{ℕ, suc, ◌+◌, ◌-◌, ◌*◌, ◌<◌, ◌≤◌, min, max}
use native.Mathlib.Omega.{arith}
use native.Mathlib.Decide.{dec_lt}
use lib.Dec.{ltb}
use lib.ListN.{length, drop, length-append}
use lib.Seq.{take_at, drop_at, drop-drop}
use borrow.Author.Tests.{lt-ltb, le-ltb, ltb-true, ltb-false}
use Rattle.arithmetic.specs.Rounding.{pick}
use Rattle.arithmetic.specs.Offsets.{range_of}
use Rattle.arithmetic.specs.Rows.{put as putRow}
use Rattle.arithmetic.specs.Content.{Bytes, in_range, window, in_range_lem, not_in_before, not_in_behind, window_more}
use Rattle.arithmetic.specs.declared.offsets.Range.{Range}
use Rattle.vectors.specs.Vectors.{put}
use Rattle.sheets.specs.Sheets.{write_as, row_of, words_of, insert, size_of, total_of, packed, placed, in_front}
use Rattle.sheets.specs.OneTrip.{Ascends, in_ranges}
use Rattle.sheets.specs.RangeLaws.{Ends, Place, ahead, past, joint, place, Inserted, weaken, below, behind}
use Rattle.sheets.specs.RangeLaws.{insert_ascends, insert_covers, unique}
use Rattle.sheets.specs.TripLaws.{words_length}

-- ---- ranges cut at an offset

-- what of them lies before `at`
unfoldable pub clipped : ℕ → List Range → List Range
clipped at [] = []
clipped at (r ∷ rs) = pick (ltb r.start.0 at) (range_of r.start.0 (min at r.end.0) ∷ clipped at rs) []

pub clipped_ascends : (rs : List Range) (lo at : ℕ) → Ascends lo rs → Ascends lo (clipped at rs)
unfolding clipped
clipped_ascends [] lo at a = tt
clipped_ascends (r ∷ rs) lo at a = go (ltb r.start.0 at) refl (clipped_ascends rs (suc r.end.0) at a.2)
  where
    go : (b : Bool) → ltb r.start.0 at ≡ b → Ascends (suc r.end.0) (clipped at rs)
        → Ascends lo (pick b (range_of r.start.0 (min at r.end.0) ∷ clipped at rs) [])
    go true p f =
        let h = ltb-true r.start.0 at p in
        (a.0, omega (arith, h, a.1), weaken (suc (min at r.end.0)) (suc r.end.0) (clipped at rs) (omega arith) f)
    go false p f = tt

pub clipped_ends : (rs : List Range) (at : ℕ) → Ends at (clipped at rs)
unfolding clipped
clipped_ends [] at = tt
clipped_ends (r ∷ rs) at = go (ltb r.start.0 at) (clipped_ends rs at)
  where
    go : (b : Bool) → Ends at (clipped at rs) → Ends at (pick b (range_of r.start.0 (min at r.end.0) ∷ clipped at rs) [])
    go true f = (omega arith, f)
    go false f = tt

-- a range cut at `at`
cut_range : (r : Range) (at k : ℕ) → in_range (range_of r.start.0 (min at r.end.0)) k ≡ (in_range r k && ltb k at)
cut_range r at k = elim (dec_lt k at) [
  | yes l ↦ elim (dec_lt k r.end.0) [
    | yes m ↦ elim (dec_lt k r.start.0) [
      | yes n ↦ rw (not_in_before r k n, not_in_before (range_of r.start.0 (min at r.end.0)) k n)
      | no n ↦
          rw (
            in_range_lem r k (omega arith) m,
            in_range_lem (range_of r.start.0 (min at r.end.0)) k (omega arith) (omega arith),
            lt-ltb k at l,
          )
    ]
    | no m ↦ rw (not_in_behind r k (omega arith), not_in_behind (range_of r.start.0 (min at r.end.0)) k (omega arith))
  ]
  | no l ↦
      rw (le-ltb k at (omega arith), and-false (in_range r k))
      (not_in_behind (range_of r.start.0 (min at r.end.0)) k (omega arith))
]

and_or : (a b c : Bool) → ((a && c) || (b && c)) ≡ ((a || b) && c)
and_or true true true = refl
and_or true true false = refl
and_or true false true = refl
and_or true false false = refl
and_or false b c = refl

pub clipped_covers : (rs : List Range) (lo at : ℕ) → Ascends lo rs → (k : ℕ) → in_ranges (clipped at rs) k ≡ (in_ranges rs k && ltb k at)
unfolding clipped in_ranges
clipped_covers [] lo at a k = refl
clipped_covers (r ∷ rs) lo at a k = go (ltb r.start.0 at) refl (clipped_covers rs (suc r.end.0) at a.2 k)
  where
    go : (b : Bool) → ltb r.start.0 at ≡ b → in_ranges (clipped at rs) k ≡ (in_ranges rs k && ltb k at)
        → in_ranges (pick b (range_of r.start.0 (min at r.end.0) ∷ clipped at rs) []) k ≡ ((in_range r k || in_ranges rs k) && ltb k at)
    go true p f = rw (cut_range r at k, f) (and_or (in_range r k) (in_ranges rs k) (ltb k at))
    go false p f = elim (dec_lt k at) [
      | yes l ↦
          let h = ltb-false r.start.0 at p in
          rw (
            not_in_before r k (omega (arith, h)),
            below (suc r.end.0) rs a.2 k (omega (arith, h, a.1)),
          )
      | no l ↦ rw (le-ltb k at (omega arith), and-false (in_range r k || in_ranges rs k))
    ]

pub clipped_few : (rs : List Range) (at : ℕ) → length (clipped at rs) ≤ length rs
unfolding clipped
clipped_few [] at = omega arith
clipped_few (r ∷ rs) at = go (ltb r.start.0 at) (clipped_few rs at)
  where
    go : (b : Bool) → length (clipped at rs) ≤ length rs
        → length (pick b (range_of r.start.0 (min at r.end.0) ∷ clipped at rs) []) ≤ suc (length rs)
    go true f = omega (arith, f)
    go false f = omega arith

pub clipped_total : (rs : List Range) (at : ℕ) → total_of (clipped at rs) ≤ total_of rs
unfolding clipped total_of
clipped_total [] at = omega arith
clipped_total (r ∷ rs) at = go (ltb r.start.0 at) (clipped_total rs at)
  where
    go : (b : Bool) → total_of (clipped at rs) ≤ total_of rs
        → total_of (pick b (range_of r.start.0 (min at r.end.0) ∷ clipped at rs) []) ≤ size_of r + total_of rs
    go true f = omega (arith, f)
    go false f = omega arith

pub clipped_none : (rs : List Range) → clipped 0 rs ≡ []
unfolding clipped
clipped_none [] = refl
clipped_none (r ∷ rs) = rw (le-ltb r.start.0 0 (omega arith))

pub clipped_all : (rs : List Range) (lo at : ℕ) → Ascends lo rs → Ends at rs → clipped at rs ≡ rs
clipped_all rs lo at a e = unique (clipped at rs) rs lo (clipped_ascends rs lo at a) a (λ k. clipped_covers rs lo at a k ∙ go k)
  where
    go : (k : ℕ) → (in_ranges rs k && ltb k at) ≡ in_ranges rs k
    go k = elim (dec_lt k at) [
      | yes l ↦ rw (lt-ltb k at l) (and-true (in_ranges rs k))
      | no l ↦ rw (behind at rs e k (omega arith))
    ]

-- ---- a stretch, from `at` up to e

module _ (rs : List Range) (a : Ascends 0 rs) (at e : ℕ) (l : at < e) where
  -- of which no byte is in a range
  pub swept_past : ((k : ℕ) → at ≤ k → k < e → in_ranges rs k ≡ false) → clipped e rs ≡ clipped at rs
  swept_past f =
      unique (clipped e rs) (clipped at rs) 0 (clipped_ascends rs 0 e a) (clipped_ascends rs 0 at a)
      (λ k. clipped_covers rs 0 e a k ∙ go k ∙ sym (clipped_covers rs 0 at a k))
    where
      go : (k : ℕ) → (in_ranges rs k && ltb k e) ≡ (in_ranges rs k && ltb k at)
      go k = elim (dec_lt k at) [
        | yes m ↦ rw (lt-ltb k at m, lt-ltb k e (omega arith))
        | no m ↦ elim (dec_lt k e) [
          | yes n ↦ rw (f k (omega arith) n)
          | no n ↦ rw (le-ltb k at (omega arith), le-ltb k e (omega arith))
        ]
      ]

  -- of which every byte is
  pub swept_over : ((k : ℕ) → at ≤ k → k < e → in_ranges rs k ≡ true) → clipped e rs ≡ insert at e (clipped at rs)
  swept_over f =
      unique (clipped e rs) (insert at e (clipped at rs)) 0 (clipped_ascends rs 0 e a)
      (insert_ascends (clipped at rs) 0 at e (omega arith) l (clipped_ascends rs 0 at a))
      (λ k. clipped_covers rs 0 e a k ∙ go k ∙ sym (insert_covers (clipped at rs) 0 at e l (clipped_ascends rs 0 at a) k))
    where
      go : (k : ℕ) → (in_ranges rs k && ltb k e) ≡ (in_range (range_of at e) k || in_ranges (clipped at rs) k)
      go k = elim (dec_lt k at) [
        | yes m ↦ rw (not_in_before (range_of at e) k m, clipped_covers rs 0 at a k, lt-ltb k at m, lt-ltb k e (omega arith))
        | no m ↦ elim (dec_lt k e) [
          | yes n ↦ rw (in_range_lem (range_of at e) k (omega arith) n, f k (omega arith) n, lt-ltb k e n)
          | no n ↦
              rw (
                not_in_behind (range_of at e) k (omega arith),
                clipped_covers rs 0 at a k,
                le-ltb k at (omega arith),
                le-ltb k e (omega arith),
              )
        ]
      ]

-- ---- what a stretch behind all ranges adds

none_behind : (rs : List Range) (m : ℕ) → Ascends (suc m) rs → Ends m rs → rs ≡ []
none_behind [] m a e = refl
none_behind (r ∷ rs) m a e = absurd (omega (arith, a.0, a.1, e.0))

module _ (at e : ℕ) (l : at < e) where
  pub total_more : (rs : List Range) (lo : ℕ) → Ascends lo rs → Ends at rs → total_of (insert at e rs) ≡ total_of rs + (e - at)
  unfolding insert total_of
  total_more [] lo a n = omega arith
  total_more (r ∷ rs) lo a n =
      go (ltb e r.start.0) (ltb r.end.0 at) (place at e r.start.0 r.end.0) (total_more rs (suc r.end.0) a.2 n.1)
    where
      go : (x y : Bool) → Place at e r.start.0 r.end.0 x y → total_of (insert at e rs) ≡ total_of rs + (e - at)
          → total_of (Inserted at e r rs x y) ≡ size_of r + total_of rs + (e - at)
      go _ y (ahead p) f = absurd (omega (arith, p, a.1, n.0, l))
      go _ _ (past p) f = omega (arith, f)
      go _ _ (joint p q) f =
          let z : r.end.0 ≡ at = omega (arith, q, n.0) in
          let none : rs ≡ [] = none_behind rs at (rw (← z) a.2) n.1 in
          rw none (omega (arith, z, a.1, l))

  module _ (v : Bytes) where
    pub packed_more : (rs : List Range) (lo : ℕ) → Ascends lo rs → Ends at rs
        → packed v (insert at e rs) ≡ packed v rs ++ window v at (e - at)
    unfolding insert packed
    packed_more [] lo a n = append-nil (window v at (e - at))
    packed_more (r ∷ rs) lo a n =
        go (ltb e r.start.0) (ltb r.end.0 at) (place at e r.start.0 r.end.0)
        (packed_more rs (suc r.end.0) a.2 n.1)
      where
        go : (x y : Bool) → Place at e r.start.0 r.end.0 x y → packed v (insert at e rs) ≡ packed v rs ++ window v at (e - at)
            → packed v (Inserted at e r rs x y) ≡ (window v r.start.0 (size_of r) ++ packed v rs) ++ window v at (e - at)
        go _ y (ahead p) f = absurd (omega (arith, p, a.1, n.0, l))
        go _ _ (past p) f =
            ap (λ (bs : List ℕ). window v r.start.0 (size_of r) ++ bs) f
            ∙ sym (append_assoc (window v r.start.0 (size_of r)) (packed v rs) (window v at (e - at)))
        go _ _ (joint p q) f =
            let z : r.end.0 ≡ at = omega (arith, q, n.0) in
            let none : rs ≡ [] = none_behind rs at (rw (← z) a.2) n.1 in
            let first : min at r.start.0 ≡ r.start.0 = omega (arith, z, a.1) in
            let last : max e r.end.0 - r.start.0 ≡ size_of r + (e - at) = omega (arith, z, a.1, l) in
            let here : r.start.0 + size_of r ≡ at = omega (arith, z, a.1) in
            let more : window v r.start.0 (size_of r + (e - at)) ≡ window v r.start.0 (size_of r) ++ window v at (e - at) =
            rw here at (window_more v r.start.0 (size_of r) (e - at)) in
            rw (none, first, last, append-nil, append-nil) more

-- ---- the last range

-- every range ends before m
abbrev pub Below : ℕ → List Range → Type 0
Below m [] = Unit {0}
Below m (r ∷ rs) = (r.end.0 < m) × Below m rs

pub below_more : (rs : List Range) (m n : ℕ) → m ≤ n → Below m rs → Below n rs
below_more [] m n h b = tt
below_more (r ∷ rs) m n h b = (omega (arith, h, b.0), below_more rs m n h b.1)

pub below_last : (rs : List Range) (r : Range) (m n : ℕ) → m ≤ n → r.end.0 < n → Below m rs → Below n (rs ++ r ∷ [])
below_last [] r m n h l b = (l, tt)
below_last (q ∷ rs) r m n h l b = (omega (arith, h, b.0), below_last rs r m n h l b.1)

module _ (at e : ℕ) (l : at < e) where
  -- a stretch apart from all is a range more
  pub insert_behind : (rs : List Range) (lo : ℕ) → Ascends lo rs → Below at rs → insert at e rs ≡ rs ++ range_of at e ∷ []
  unfolding insert
  insert_behind [] lo a b = refl
  insert_behind (r ∷ rs) lo a b =
      rw (le-ltb e r.start.0 (omega (arith, a.1, b.0, l)), lt-ltb r.end.0 at b.0)
      (ap (λ (x : List Range). r ∷ x) (insert_behind rs (suc r.end.0) a.2 b.1))

  -- one that touches the last lengthens it
  pub insert_onto : (first : ℕ) → first < at → (rs : List Range) (lo : ℕ) → Ascends lo (rs ++ range_of first at ∷ []) → Below first rs
      → insert at e (rs ++ range_of first at ∷ []) ≡ rs ++ range_of first e ∷ []
  unfolding insert
  insert_onto first h [] lo a b =
      let p : min at first ≡ first = omega (arith, h) in
      let q : max e at ≡ e = omega (arith, l) in
      rw (le-ltb e first (omega (arith, h, l)), le-ltb at at (omega arith), p, q)
  insert_onto first h (r ∷ rs) lo a b =
      rw (le-ltb e r.start.0 (omega (arith, a.1, b.0, h, l)), lt-ltb r.end.0 at (omega (arith, b.0, h)))
      (ap (λ (x : List Range). r ∷ x) (insert_onto first h rs (suc r.end.0) a.2 b.1))

-- ---- its row

pub words_more : (rs : List Range) (at : ℕ) (r : Range)
    → words_of (placed at (rs ++ r ∷ [])) ≡ words_of (placed at rs) ++ row_of (write_as r.start.0 (at + total_of rs) (size_of r))
unfolding words_of placed total_of
words_more [] at r = let z : at + 0 ≡ at = omega arith in rw z
words_more (q ∷ rs) at r =
    let z : at + (size_of q + total_of rs) ≡ at + size_of q + total_of rs = omega arith in
    rw (z, words_more rs (at + size_of q) r)

-- put behind the rows of rs, in the place of what stands there
module _ (rs : List Range) (r : Range) (w : List ℕ) where
  abbrev rows_so_far : List ℕ
  rows_so_far = words_of (placed 0 rs)

  abbrev its_row : List ℕ
  its_row = row_of (write_as r.start.0 (total_of rs) (size_of r))

  long : length rows_so_far ≡ length rs * 3
  long = omega (arith, words_length rs 0)

  -- words that start with these rows
  behind_rows : (x : List ℕ) → putRow 3 (length rs) (rows_so_far ++ x) its_row ≡ rows_so_far ++ (its_row ++ drop 3 x)
  behind_rows x =
      rw (
        take_at rows_so_far x (length rs * 3) long,
        drop_at rows_so_far x (length rs * 3) long,
      )

  all_rows : words_of (placed 0 (rs ++ r ∷ [])) ≡ rows_so_far ++ its_row
  all_rows = let z : 0 + total_of rs ≡ total_of rs = omega arith in rw z at (words_more rs 0 r)

  in_front_lem : rows_so_far ++ (its_row ++ drop (length rows_so_far + 3) w) ≡ in_front (words_of (placed 0 (rs ++ r ∷ []))) w
  unfolding put
  in_front_lem =
      let n : length (rows_so_far ++ its_row) ≡ length rows_so_far + 3 = length-append rows_so_far its_row in
      rw (all_rows, n) (sym (append_assoc rows_so_far its_row (drop (length rows_so_far + 3) w)))

  -- a row more
  pub row_behind : putRow 3 (length rs) (in_front rows_so_far w) its_row ≡ in_front (words_of (placed 0 (rs ++ r ∷ []))) w
  unfolding put
  row_behind =
      behind_rows (drop (length rows_so_far) w)
      ∙ ap (λ (x : List ℕ). rows_so_far ++ (its_row ++ x)) (drop-drop 3 (length rows_so_far) w)
      ∙ in_front_lem

  -- the last one anew
  pub row_anew : (q : Range) → putRow 3 (length rs) (in_front (words_of (placed 0 (rs ++ q ∷ []))) w) its_row
      ≡ in_front (words_of (placed 0 (rs ++ r ∷ []))) w
  unfolding put
  row_anew q =
      let old = row_of (write_as q.start.0 (total_of rs) (size_of q)) in
      let z : 0 + total_of rs ≡ total_of rs = omega arith in
      let is : words_of (placed 0 (rs ++ q ∷ [])) ≡ rows_so_far ++ old = rw z at (words_more rs 0 q) in
      let n : length (rows_so_far ++ old) ≡ length rows_so_far + 3 = length-append rows_so_far old in
      rw (is, n, append_assoc rows_so_far old (drop (length rows_so_far + 3) w))
      (behind_rows (old ++ drop (length rows_so_far + 3) w) ∙ in_front_lem)
