-- Laws of ascending ranges: what putting a range in keeps, covers and adds; they are the only ones over their bytes. Assumes nothing.
use Rattle.std.specs.Prelude.{◌≡◌, refl, Bool, true, false, ◌||◌, List, [], ◌∷◌, ℕ, suc, ◌+◌, ◌-◌, ◌<◌, ◌≤◌, min, max, ltb, length}
use Rattle.std.proofs.Common.{sym, ap, ◌∙◌, arith, ltb-true, ltb-false}
use Rattle.std.proofs.Math.Decide.{dec_lt}
use Rattle.arithmetic.specs.Rounding.{pick}
use Rattle.arithmetic.specs.Offsets.{store_at, range_of}
use Rattle.arithmetic.specs.Content.{in_range, in_range_lem, not_in_before, not_in_behind}
use Rattle.arithmetic.specs.declared.offsets.Range.{Range}
use Rattle.sheets.specs.Sheets.{insert, total_of}
use Rattle.sheets.specs.OneTrip.{Ascends, in_ranges}

-- ---- bytes

pub never : {A : Type 0} → ◌≡◌ {A = Bool} false true → A
never e = let z : ◌≡◌ {A = ℕ} 0 1 = cc in absurd (omega arith)

pub or_swap : (a b c : Bool) → (a || (b || c)) ≡ (b || (a || c))
or_swap true true c = refl
or_swap true false c = refl
or_swap false b c = refl

or_assoc : (a b c : Bool) → ((a || b) || c) ≡ (a || (b || c))
or_assoc true b c = refl
or_assoc false b c = refl

-- two ranges that overlap or touch are one
union : (a e b f k : ℕ) → b ≤ e → a ≤ f → a < e → b < f
    → in_range (range_of (min a b) (max e f)) k ≡ (in_range (range_of a e) k || in_range (range_of b f) k)
union a e b f k p q u v = elim (dec_lt k a) [
  | yes l ↦ elim (dec_lt k b) [
    | yes m ↦
        rw (
          not_in_before (range_of a e) k l,
          not_in_before (range_of b f) k m,
          not_in_before (range_of (min a b) (max e f)) k (omega arith),
        )
    | no m ↦ elim (dec_lt k f) [
      | yes n ↦
          rw (
            not_in_before (range_of a e) k l,
            in_range_lem (range_of b f) k (omega arith) n,
            in_range_lem (range_of (min a b) (max e f)) k (omega arith) (omega arith),
          )
      | no n ↦ absurd (omega arith)
    ]
  ]
  | no l ↦ elim (dec_lt k e) [
    | yes m ↦ rw (in_range_lem (range_of a e) k (omega arith) m, in_range_lem (range_of (min a b) (max e f)) k (omega arith) (omega arith))
    | no m ↦ elim (dec_lt k f) [
      | yes n ↦
          rw (
            not_in_behind (range_of a e) k (omega arith),
            in_range_lem (range_of b f) k (omega arith) n,
            in_range_lem (range_of (min a b) (max e f)) k (omega arith) (omega arith),
          )
      | no n ↦
          rw (
            not_in_behind (range_of a e) k (omega arith),
            not_in_behind (range_of b f) k (omega arith),
            not_in_behind (range_of (min a b) (max e f)) k (omega arith),
          )
    ]
  ]
]

-- ---- ascending ranges

pub weaken : (lo hi : ℕ) (rs : List Range) → lo ≤ hi → Ascends hi rs → Ascends lo rs
weaken lo hi [] h k = tt
weaken lo hi (r ∷ rs) h k = (omega (arith, k.0), k.1, k.2)

pub below : (lo : ℕ) (rs : List Range) → Ascends lo rs → (k : ℕ) → k < lo → in_ranges rs k ≡ false
unfolding in_ranges
below lo [] a k h = refl
below lo (r ∷ rs) a k h =
    let p = not_in_before r k (omega (arith, a.0)) in
    rw p (below (suc r.end.0) rs a.2 k (omega (arith, a.0, a.1)))

-- every range ends at m at most
abbrev pub Ends : ℕ → List Range → Type 0
Ends m [] = Unit {0}
Ends m (r ∷ rs) = (r.end.0 ≤ m) × Ends m rs

pub behind : (m : ℕ) (rs : List Range) → Ends m rs → (k : ℕ) → m ≤ k → in_ranges rs k ≡ false
unfolding in_ranges
behind m [] a k h = refl
behind m (r ∷ rs) a k h = rw (not_in_behind r k (omega (arith, a.0))) (behind m rs a.1 k h)

-- ranges between lo and m have at most the bytes between
pub total_most : (rs : List Range) (lo m : ℕ) → Ascends lo rs → Ends m rs → total_of rs ≤ m - lo
unfolding total_of
total_most [] lo m a k = omega arith
total_most (r ∷ rs) lo m a k = omega (arith, total_most rs (suc r.end.0) m a.2 k.1, a.0, a.1, k.0)

-- ---- putting a range in

-- where it lies to one of the ranges
pub data Place (a e b f : ℕ) : Bool → Bool → Type 0 where
  ahead : {y : Bool} → e < b → Place a e b f true y
  past : f < a → Place a e b f false true
  joint : b ≤ e → a ≤ f → Place a e b f false false

pub place : (a e b f : ℕ) → Place a e b f (ltb e b) (ltb f a)
place a e b f = go (ltb e b) (ltb f a) refl refl
  where
    go : (x y : Bool) → ltb e b ≡ x → ltb f a ≡ y → Place a e b f x y
    go true y p q = ahead (ltb-true e b p)
    go false true p q = past (ltb-true f a q)
    go false false p q = joint (let h = ltb-false e b p in omega (arith, h)) (let h = ltb-false f a q in omega (arith, h))

-- what is put in before, behind or into the first range
abbrev pub Inserted : ℕ → ℕ → Range → List Range → Bool → Bool → List Range
Inserted a e r rs x y =
    pick x (range_of a e ∷ r ∷ rs) (pick y (r ∷ insert a e rs) (insert (min a r.start.0) (max e r.end.0) rs))

pub insert_ascends : (rs : List Range) (lo a e : ℕ) → lo ≤ a → a < e → Ascends lo rs → Ascends lo (insert a e rs)
unfolding insert
insert_ascends [] lo a e h l k = (h, l, tt)
insert_ascends (r ∷ rs) lo a e h l k =
    go (insert_ascends rs) (ltb e r.start.0) (ltb r.end.0 a) (place a e r.start.0 r.end.0)
  where
    go : ((lo a e : ℕ) → lo ≤ a → a < e → Ascends lo rs → Ascends lo (insert a e rs)) → (x y : Bool)
        → Place a e r.start.0 r.end.0 x y → Ascends lo (Inserted a e r rs x y)
    go f _ y (ahead p) = (h, l, (omega arith, k.1, k.2))
    go f _ _ (past p) = (k.0, k.1, f (suc r.end.0) a e (omega arith) l k.2)
    go f _ _ (joint p q) =
        f lo (min a r.start.0) (max e r.end.0) (omega (arith, k.0)) (omega arith)
        (weaken lo (suc r.end.0) rs (omega (arith, k.0, k.1)) k.2)

pub insert_covers : (rs : List Range) (lo a e : ℕ) → a < e → Ascends lo rs
    → (i : ℕ) → in_ranges (insert a e rs) i ≡ (in_range (range_of a e) i || in_ranges rs i)
unfolding insert in_ranges
insert_covers [] lo a e l k i = refl
insert_covers (r ∷ rs) lo a e l k i =
    go (λ a e h. insert_covers rs (suc r.end.0) a e h k.2 i) (ltb e r.start.0) (ltb r.end.0 a)
    (place a e r.start.0 r.end.0)
  where
    go : ((a e : ℕ) → a < e → in_ranges (insert a e rs) i ≡ (in_range (range_of a e) i || in_ranges rs i)) → (x y : Bool)
        → Place a e r.start.0 r.end.0 x y
        → in_ranges (Inserted a e r rs x y) i ≡ (in_range (range_of a e) i || (in_range r i || in_ranges rs i))
    go f _ y (ahead p) = refl
    go f _ _ (past p) =
        ap (λ (b : Bool). in_range r i || b) (f a e l) ∙ or_swap (in_range r i) (in_range (range_of a e) i) (in_ranges rs i)
    go f _ _ (joint p q) =
        f (min a r.start.0) (max e r.end.0) (omega arith)
        ∙ ap (λ (b : Bool). b || in_ranges rs i) (union a e r.start.0 r.end.0 i p q l k.1)
        ∙ or_assoc (in_range (range_of a e) i) (in_range r i) (in_ranges rs i)

pub insert_few : (rs : List Range) (a e : ℕ) → length (insert a e rs) ≤ suc (length rs)
unfolding insert
insert_few [] a e = omega arith
insert_few (r ∷ rs) a e = go (insert_few rs) (ltb e r.start.0) (ltb r.end.0 a)
  where
    go : ((a e : ℕ) → length (insert a e rs) ≤ suc (length rs)) → (x y : Bool) → length (Inserted a e r rs x y) ≤ suc (suc (length rs))
    go f true y = omega arith
    go f false true = omega (arith, f a e)
    go f false false = omega (arith, f (min a r.start.0) (max e r.end.0))

pub insert_ends : (rs : List Range) (m a e : ℕ) → e ≤ m → Ends m rs → Ends m (insert a e rs)
unfolding insert
insert_ends [] m a e h k = (h, tt)
insert_ends (r ∷ rs) m a e h k = go (λ a e h. insert_ends rs m a e h k.1) (ltb e r.start.0) (ltb r.end.0 a)
  where
    go : ((a e : ℕ) → e ≤ m → Ends m (insert a e rs)) → (x y : Bool) → Ends m (Inserted a e r rs x y)
    go f true y = (h, (k.0, k.1))
    go f false true = (k.0, f a e h)
    go f false false = f (min a r.start.0) (max e r.end.0) (omega (arith, k.0))

pub insert_total : (rs : List Range) (lo a e : ℕ) → a < e → Ascends lo rs → total_of (insert a e rs) ≤ total_of rs + (e - a)
unfolding insert total_of
insert_total [] lo a e l k = omega arith
insert_total (r ∷ rs) lo a e l k =
    go (λ a e h. insert_total rs (suc r.end.0) a e h k.2) (ltb e r.start.0) (ltb r.end.0 a)
    (place a e r.start.0 r.end.0)
  where
    go : ((a e : ℕ) → a < e → total_of (insert a e rs) ≤ total_of rs + (e - a)) → (x y : Bool) → Place a e r.start.0 r.end.0 x y
        → total_of (Inserted a e r rs x y) ≤ r.end.0 - r.start.0 + total_of rs + (e - a)
    go f _ y (ahead p) = omega arith
    go f _ _ (past p) = omega (arith, f a e l)
    go f _ _ (joint p q) = omega (arith, f (min a r.start.0) (max e r.end.0) (omega (arith, l)), p, q, l, k.1)

-- ---- they are the only ones

range_ext : (r q : Range) → r.start.0 ≡ q.start.0 → r.end.0 ≡ q.end.0 → r ≡ q
range_ext r q a b = λ i. record { start = store_at (a i); end = store_at (b i) }

abbrev Same : List Range → List Range → Type 0
Same rs qs = (k : ℕ) → in_ranges rs k ≡ in_ranges qs k

first_in : (r : Range) (rs : List Range) → r.start.0 < r.end.0 → in_ranges (r ∷ rs) r.start.0 ≡ true
unfolding in_ranges
first_in r rs h = rw (in_range_lem r r.start.0 (omega arith) h)

-- of two lists over the same bytes the second starts no later, and its first range ends no later
starts_le : (r q : Range) (rs qs : List Range) (lo : ℕ) → Ascends lo (r ∷ rs) → Ascends lo (q ∷ qs) → Same (r ∷ rs) (q ∷ qs)
    → q.start.0 ≤ r.start.0
starts_le r q rs qs lo a b f = elim (dec_lt r.start.0 q.start.0) [
  | yes l ↦
      never
      (sym (below q.start.0 (q ∷ qs) (omega arith, b.1, b.2) r.start.0 l) ∙ (sym (f r.start.0) ∙ first_in r rs a.1))
  | no l ↦ omega arith
]

ends_le : (r q : Range) (rs qs : List Range) (lo : ℕ) → Ascends lo (r ∷ rs) → Ascends lo (q ∷ qs) → r.start.0 ≡ q.start.0
    → Same (r ∷ rs) (q ∷ qs) → q.end.0 ≤ r.end.0
unfolding in_ranges
ends_le r q rs qs lo a b e f = elim (dec_lt r.end.0 q.end.0) [
  | yes l ↦
      let k = r.end.0 in
      let out : in_ranges (r ∷ rs) k ≡ false = rw (not_in_behind r k (omega arith)) (below (suc k) rs a.2 k (omega arith)) in
      let has : in_ranges (q ∷ qs) k ≡ true = rw (in_range_lem q k (omega (arith, a.1)) l) in
      never (sym out ∙ (f k ∙ has))
  | no l ↦ omega arith
]

-- what follows a common first range is over the same bytes
rest_same : (r : Range) (rs qs : List Range) → Ascends (suc r.end.0) rs → Ascends (suc r.end.0) qs → Same (r ∷ rs) (r ∷ qs)
    → Same rs qs
unfolding in_ranges
rest_same r rs qs a b f k = elim (dec_lt k (suc r.end.0)) [
  | yes l ↦ below (suc r.end.0) rs a k l ∙ sym (below (suc r.end.0) qs b k l)
  | no l ↦ let o = not_in_behind r k (omega arith) in rw o at (f k)
]

pub unique : (rs qs : List Range) (lo : ℕ) → Ascends lo rs → Ascends lo qs → Same rs qs → rs ≡ qs
unfolding in_ranges
unique [] [] lo a b f = refl
unique [] (q ∷ qs) lo a b f = never (f q.start.0 ∙ first_in q qs b.1)
unique (r ∷ rs) [] lo a b f = never (sym (f r.start.0) ∙ first_in r rs a.1)
unique (r ∷ rs) (q ∷ qs) lo a b f =
    let g : Same (q ∷ qs) (r ∷ rs) = λ k. sym (f k) in
    let s : r.start.0 ≡ q.start.0 = omega (arith, starts_le r q rs qs lo a b f, starts_le q r qs rs lo b a g) in
    let e : r.end.0 ≡ q.end.0 = omega (arith, ends_le r q rs qs lo a b s f, ends_le q r qs rs lo b a (sym s) g) in
    let x = range_ext r q s e in
    let c : Ascends (suc r.end.0) qs = weaken (suc r.end.0) (suc q.end.0) qs (omega arith) b.2 in
    let m = rest_same r rs qs a.2 c (λ k. f k ∙ ap (λ (z : Range). in_ranges (z ∷ qs) k) (sym x)) in
    let y = unique rs qs (suc r.end.0) a.2 c m in
    λ i. x i ∷ y i
