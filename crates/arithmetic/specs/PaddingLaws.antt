-- Laws of padding: the padded range holds the asked one, its length is the least multiple of L that holds h + length, H and T are 0 or L,
-- and the reads cover what is not asked; a transfer is refused for its alignments or for a sum. Assumes nothing.
use Rattle.std.specs.Prelude.{◌≡◌, refl, Bool, true, false, ◌&&◌, ◌||◌, ◌⊎◌, ℕ, ◌+◌, ◌-◌, ◌%◌, ◌^◌, ◌<◌, ◌≤◌, eqb, Result, Ok, Err}
use Rattle.std.proofs.Math.Path.{ap}
use Rattle.std.proofs.Common.{◌∙◌, inl, inr, ⊎_elim, mod-eq_of_lt, le-leb, lt-ltb, eq-eqb, ne_eqb, eqb-true, arith}
use Rattle.std.proofs.Math.Bool.{or-true}
use Rattle.std.proofs.Math.Nat.{mod_self, zero-mod}
use Rattle.std.proofs.Math.Decide.{dec_lt, ℕ_discrete}
use Rattle.arithmetic.specs.Rounding.{pick, fits, is_multiple, round_up}
use Rattle.arithmetic.specs.Offsets.{range_of}
use Rattle.arithmetic.specs.RoundingLaws.{multiple_add, multiple_sub, multiple_trans, multiple_le, down_le, down_near, down_multiple}
use Rattle.arithmetic.specs.RoundingLaws.{up_ge, up_near, up_multiple, up_least, up_same, true_fits}
use Rattle.arithmetic.specs.Settings.{alignments_fit, length_align}
use Rattle.arithmetic.specs.SettingsLaws.{and_left, and_right, Aligned, aligned, both}
use Rattle.arithmetic.specs.Padding.{padded_start, rounded_end, padded_length, padded_end, padding_fits, head_of, tail_of, span_of}
use Rattle.arithmetic.specs.Padding.{padded_of}
use Rattle.arithmetic.specs.Padding.{padding_of, is_direct, bounced, transfer_of, padding_refusal, reads_of, within, is_read}
use Rattle.arithmetic.specs.declared.refusals.Refusal.{Refusal}
use Rattle.arithmetic.specs.declared.refusals.Refusal.TheVariants.{Unfit, Overflow}
use Rattle.arithmetic.specs.declared.offsets.StoreOffset.{StoreOffset}
use Rattle.arithmetic.specs.declared.settings.Alignments.{Alignments}
use Rattle.arithmetic.specs.declared.padding.Span.{Span}
use Rattle.arithmetic.specs.declared.offsets.Range.{Range}
use Rattle.arithmetic.specs.declared.padding.Transfer.{Transfer}
use Rattle.arithmetic.specs.declared.padding.Transfer.TheVariants.{Direct, Bounced}

-- x rounded up to r and then to l, a multiple of r, is x rounded up to l
pub up_twice : (x r l : ℕ) → 0 < r → 0 < l → l % r ≡ 0 → round_up (round_up x r) l ≡ round_up x l
up_twice x r l hr hl m =
    let a = up_least (round_up x r) l (round_up x l) hl (up_multiple x l)
    (up_least x r (round_up x l) hr (multiple_trans (round_up x l) l r (up_multiple x l) m) (up_ge x l hl)) in
    let b = up_least x l (round_up (round_up x r) l) hl (up_multiple (round_up x r) l)
    (omega (arith, up_ge x r hr, up_ge (round_up x r) l hl)) in
    omega (arith, a, b)

-- rounding up counts from any multiple
pub up_from : (x s r : ℕ) → 0 < r → s % r ≡ 0 → s ≤ x → round_up x r - s ≡ round_up (x - s) r
up_from x s r h m l =
    let a = up_least (x - s) r (round_up x r - s) h (multiple_sub (round_up x r) s r (up_multiple x r) m) (omega (arith, up_ge x r h)) in
    let b = up_least x r (round_up (x - s) r + s) h (multiple_add (round_up (x - s) r) s r (up_multiple (x - s) r) m)
    (omega (arith, up_ge (x - s) r h)) in
    omega (arith, a, b, up_ge x r h)

-- a multiple of l from 1 to l is l
multiple_between : (l y : ℕ) → y % l ≡ 0 → 0 < y → y ≤ l → y ≡ l
multiple_between l y m p q = elim (dec_lt y l) [
  | yes h ↦ absurd (omega (arith, mod-eq_of_lt h))
  | no h ↦ omega arith
]

-- what is below l rounds up to l, or to 0
pub up_edge : (x l : ℕ) → 0 < x → x < l → round_up x l ≡ l
up_edge x l p h =
    let q : 0 < l = omega arith in
    multiple_between l (round_up x l) (up_multiple x l) (omega (arith, up_ge x l q)) (up_least x l l q (mod_self l) (omega arith))

pub up_nothing : (l : ℕ) → 0 < l → round_up 0 l ≡ 0
up_nothing l h = up_same 0 l h (zero-mod l)

-- an edge of x bytes is rounded up to nothing or to l
pub data Edge (x l : ℕ) : Type 0 where
  none : x ≡ 0 → round_up x l ≡ 0 → Edge x l
  whole : 0 < x → round_up x l ≡ l → Edge x l

pub edge : (x l : ℕ) → x < l → Edge x l
edge x l h = elim (dec_lt 0 x) [
  | yes p ↦ whole p (up_edge x l p h)
  | no p ↦ let z : x ≡ 0 = omega arith in none z (rw z (up_nothing l (omega arith)))
]

-- a request of n bytes at o, for alignments r and l, l a multiple of r
module _ (r l o n : ℕ) (hr : 0 < r) (hl : 0 < l) (m : l % r ≡ 0) where
  -- h is below R
  pub head_below : head_of r o < r
  unfolding padded_start
  head_below = omega (arith, down_near o r hr, down_le o r)

  pub start_le : padded_start r o ≤ o
  unfolding padded_start
  start_le = down_le o r

  -- it starts at a multiple of R
  pub start_multiple : padded_start r o % r ≡ 0
  unfolding padded_start
  start_multiple = down_multiple o r

  pub rounded_ge : padded_start r o ≤ rounded_end r o n
  unfolding rounded_end
  rounded_ge = omega (arith, start_le, up_ge (o + n) r hr)

  -- its length is the least multiple of L that holds h + length
  pub length_is : padded_length r l o n ≡ round_up (head_of r o + n) l
  unfolding padded_length rounded_end
  length_is =
      let e : o + n - padded_start r o ≡ head_of r o + n = omega (arith, start_le) in
      ap (λ (x : ℕ). round_up x l) (up_from (o + n) (padded_start r o) r hr start_multiple (omega (arith, start_le))
      ∙ ap (λ (x : ℕ). round_up x r) e)
      ∙ up_twice (head_of r o + n) r l hr hl m

  pub length_multiple : padded_length r l o n % l ≡ 0
  unfolding padded_length
  length_multiple = up_multiple (rounded_end r o n - padded_start r o) l

  pub length_least : (k : ℕ) → k % l ≡ 0 → head_of r o + n ≤ k → padded_length r l o n ≤ k
  length_least k p h = rw length_is (up_least (head_of r o + n) l k hl p h)

  -- it holds the asked range
  pub end_ge : o + n ≤ padded_end r l o n
  end_ge = omega (arith, length_is, up_ge (head_of r o + n) l hl, start_le)

  -- t is below L
  pub tail_below : tail_of r l o n < l
  tail_below = omega (arith, length_is, up_near (head_of r o + n) l hl, start_le)

  -- "H and T are h and t rounded up to L": each is 0 or L
  pub prefix_edge : Edge (head_of r o) l
  prefix_edge = edge (head_of r o) l (omega (arith, head_below, multiple_le l r hl m))

  pub suffix_edge : Edge (tail_of r l o n) l
  suffix_edge = edge (tail_of r l o n) l tail_below

-- ---- the reads of a padded write

either_left : (a b : Bool) → a ≡ true → (a || b) ≡ true
either_left a b p = rw p

either_right : (a b : Bool) → b ≡ true → (a || b) ≡ true
either_right a b p = rw p (or-true a)

-- a byte of the range among its first H or its last T bytes is read
pub read_edges : (s : Span) (k : ℕ) → s.start.0 ≤ k → k < s.end.0 → (k < s.start.0 + s.prefix) ⊎ (s.end.0 - s.suffix ≤ k)
    → is_read s (reads_of s) k ≡ true
unfolding is_read reads_of
read_edges s k a b c = elim (ℕ_discrete (s.prefix + s.suffix) s.length) [
  | yes w ↦ simp (eq-eqb _ _ w) (both _ _ (le-leb _ _ a) (lt-ltb _ _ b))
  | no w ↦
      elim (ℕ_discrete s.prefix 0) [
        | yes p ↦
            let t : s.end.0 - s.suffix ≤ k = ⊎_elim (λ x. omega arith) (λ x. x) c in
            elim (ℕ_discrete s.suffix 0) [
              | yes q ↦ absurd (omega arith)
              | no q ↦ simp (ne_eqb _ _ w, eq-eqb _ _ p, ne_eqb _ _ q) (both _ _ (le-leb _ _ t) (lt-ltb _ _ b))
            ]
        | no p ↦
            elim (ℕ_discrete s.suffix 0) [
              | yes q ↦
                  let h : k < s.start.0 + s.prefix = ⊎_elim (λ x. x) (λ x. omega arith) c in
                  simp (ne_eqb _ _ w, ne_eqb _ _ p, eq-eqb _ _ q) (both _ _ (le-leb _ _ a) (lt-ltb _ _ h))
              | no q ↦
                  simp (ne_eqb _ _ w, ne_eqb _ _ p, ne_eqb _ _ q)
                  (⊎_elim (λ x. either_left (within s.start.0 (s.start.0 + s.prefix) k) _ (both _ _ (le-leb _ _ a) (lt-ltb _ _ x)))
                  (λ x. either_right (within s.start.0 (s.start.0 + s.prefix) k) (within (s.end.0 - s.suffix) s.end.0 k)
                  (both _ _ (le-leb _ _ x) (lt-ltb _ _ b))) c)
            ]
      ]
]

-- every byte of the padded range that is not asked is read
pub read_outside : (r l o n k : ℕ) → 0 < r → 0 < l → l % r ≡ 0 → padded_start r o ≤ k → k < padded_end r l o n → (k < o) ⊎ (o + n ≤ k)
    → is_read (span_of r l o n) (reads_of (span_of r l o n)) k ≡ true
unfolding span_of
read_outside r l o n k hr hl m a b c =
    read_edges (span_of r l o n) k a b
    (⊎_elim
    (λ x. inl (omega (arith, up_ge (head_of r o) l hl, start_le r l o n hr hl m)))
    (λ x. inr (omega (arith, up_ge (tail_of r l o n) l hl, end_ge r l o n hr hl m)))
    c)

-- ---- what `pad` gives

-- a padded range of n bytes at o
pub record Spans (a : Alignments) (o n : ℕ) (s : Span) : Type 0 where
  pub is : s ≡ span_of a.req (length_align a) o n
  pub fits : s.end.0 < 2 ^ 64
  pub end : s.end.0 ≡ s.start.0 + s.length
  pub from : s.start.0 + s.head.0 ≡ o
  pub holds : s.head.0 + n ≤ s.length
  pub whole : s.length % length_align a ≡ 0
  pub start : s.start.0 % a.req ≡ 0
  pub least : (k : ℕ) → k % length_align a ≡ 0 → s.head.0 + n ≤ k → s.length ≤ k
  pub prefix : Edge s.head.0 (length_align a)
  pub prefix_is : s.prefix ≡ round_up s.head.0 (length_align a)
  pub prefix_le : s.prefix ≤ s.length
  pub suffix : Edge (s.end.0 - (o + n)) (length_align a)
  pub suffix_is : s.suffix ≡ round_up (s.end.0 - (o + n)) (length_align a)
  pub suffix_le : s.suffix ≤ s.length

spans_of : (a : Alignments) (o n : ℕ) → Aligned a → padding_fits a.req (length_align a) o n ≡ true →
    Spans a o n (span_of a.req (length_align a) o n)
unfolding span_of padding_fits
spans_of a o n k e =
    let r = a.req in
    let l = length_align a in
    let p = k.req.positive in
    let q = k.positive in
    let m = k.of_req in
    record {
      is = refl;
      fits = true_fits (padded_end r l o n) (and_right (fits (o + n) && fits (o + n + (r - 1)) && fits
          (rounded_end r o n - padded_start r o + (l - 1))) (fits (padded_end r l o n)) e);
      end = refl;
      from = omega (arith, start_le r l o n p q m);
      holds = omega (arith, end_ge r l o n p q m, start_le r l o n p q m);
      whole = length_multiple r l o n p q m;
      start = start_multiple r l o n p q m;
      least = length_least r l o n p q m;
      prefix = prefix_edge r l o n p q m;
      prefix_is = refl;
      prefix_le = up_least (head_of r o) l (padded_length r l o n) q (length_multiple r l o n p q m)
          (omega (arith, end_ge r l o n p q m, start_le r l o n p q m));
      suffix = suffix_edge r l o n p q m;
      suffix_is = refl;
      suffix_le = up_least (tail_of r l o n) l (padded_length r l o n) q (length_multiple r l o n p q m)
          (omega (arith, end_ge r l o n p q m, start_le r l o n p q m));
    }

padded_spans : (a : Alignments) (o n : ℕ) (s : Span) → Aligned a → padded_of a.req (length_align a) o n ≡ Ok s → Spans a o n s
unfolding padded_of
padded_spans a o n s k e = go (padding_fits a.req (length_align a) o n) refl e
  where
    go : (y : Bool) → padding_fits a.req (length_align a) o n ≡ y →
        pick y (Ok (span_of a.req (length_align a) o n)) (Err Overflow) ≡ Ok s → Spans a o n s
    go true q e =
        let i : span_of a.req (length_align a) o n ≡ s = cc in
        rw i at (spans_of a o n k q)
    go false q e = let z : ◌≡◌ {A = ℕ} 0 1 = cc in absurd (omega arith)

pub spans : (a : Alignments) (o : StoreOffset) (n : ℕ) (s : Span) → padding_of a o n ≡ Ok s → Spans a o.0 n s
unfolding padding_of
spans a o n s e = go (alignments_fit a) refl e
  where
    go : (x : Bool) → alignments_fit a ≡ x → pick x (padded_of a.req (length_align a) o.0 n) (Err Unfit) ≡ Ok s →
        Spans a o.0 n s
    go true p e = padded_spans a o.0 n s (aligned a p) e
    go false p e = let z : ◌≡◌ {A = ℕ} 0 1 = cc in absurd (omega arith)

-- ---- what `plan_transfer` gives

-- direct: the asked range, at multiples of R
pub record Directs (a : Alignments) (o n : ℕ) (x : Range) : Type 0 where
  pub is : x ≡ range_of o (o + n)
  pub fits : o + n < 2 ^ 64
  pub start : o % a.req ≡ 0
  pub whole : n % a.req ≡ 0

-- what a transfer that is not refused says
unfoldable pub Transfers : Alignments → ℕ → ℕ → Result Transfer Refusal → Type 0
Transfers a o n (Ok (Direct x)) = Directs a o n x
Transfers a o n (Ok (Bounced s)) = Spans a o n s
Transfers a o n (Err r) = Unit {0}

transfers_by : (a : Alignments) (o n : ℕ) → Aligned a → (p : Result Span Refusal) → padded_of a.req (length_align a) o n ≡ p →
    Transfers a o n (bounced p)
unfolding Transfers
transfers_by a o n k (Ok s) e = padded_spans a o n s k e
transfers_by a o n k (Err r) e = tt

pub transfers : (a : Alignments) (o : StoreOffset) (n : ℕ) (t : Bool) → Transfers a o.0 n (transfer_of a o n t)
unfolding transfer_of is_direct Transfers is_multiple
transfers a o n t = go (alignments_fit a) (fits (o.0 + n)) (t && eqb (o.0 % a.req) 0 && eqb (n % a.req) 0) refl refl refl
  where
    go : (x y z : Bool) → alignments_fit a ≡ x → fits (o.0 + n) ≡ y → (t && eqb (o.0 % a.req) 0 && eqb (n % a.req) 0) ≡ z
        → Transfers a o.0 n (pick x (pick y (pick z (Ok (Direct (range_of o.0 (o.0 + n))))
        (bounced (padded_of a.req (length_align a) o.0 n))) (Err Overflow)) (Err Unfit))
    go true true true p q d = record {
      is = refl;
      fits = true_fits (o.0 + n) q;
      start = eqb-true _ _ (and_right t _ (and_left _ (eqb (n % a.req) 0) d));
      whole = eqb-true _ _ (and_right (t && eqb (o.0 % a.req) 0) _ d);
    }
    go true true false p q d = transfers_by a o.0 n (aligned a p) (padded_of a.req (length_align a) o.0 n) refl
    go true false z p q d = tt
    go false y z p q d = tt

refused_by : (r l o n : ℕ) (x : Refusal) → bounced (padded_of r l o n) ≡ Err x → x ≡ Overflow
unfolding padded_of
refused_by r l o n x e = go (padding_fits r l o n) e
  where
    go : (y : Bool) → bounced (pick y (Ok (span_of r l o n)) (Err Overflow)) ≡ Err x → x ≡ Overflow
    go true e = let z : ◌≡◌ {A = ℕ} 0 1 = cc in absurd (omega arith)
    go false e = cc

-- refused: 201 for its alignments, else 207 for a sum
pub transfer_refused : (a : Alignments) (o : StoreOffset) (n : ℕ) (t : Bool) (x : Refusal) → transfer_of a o n t ≡ Err x
    → x ≡ padding_refusal a
unfolding transfer_of
transfer_refused a o n t x e = go (alignments_fit a) (fits (o.0 + n)) (is_direct a.req o.0 n t) e
  where
    go : (u v w : Bool)
        → pick u (pick v (pick w (Ok (Direct (range_of o.0 (o.0 + n)))) (bounced (padded_of a.req (length_align a) o.0 n)))
        (Err Overflow)) (Err Unfit) ≡ Err x
        → x ≡ pick u Overflow Unfit
    go true true true e = let z : ◌≡◌ {A = ℕ} 0 1 = cc in absurd (omega arith)
    go true true false e = refused_by a.req (length_align a) o.0 n x e
    go true false w e = cc
    go false v w e = cc
