-- Laws of cuts and chunks: head, middle and tail are adjacent and together the range; chunks are not empty, at most the share, adjacent and
-- together the range; every write of a zero job pads to at most the share. Assumes nothing.
use Rattle.std.specs.Prelude.{◌≡◌, refl, true, false, List, [], ◌∷◌, ℕ, zero, suc, ◌+◌, ◌-◌, ◌*◌, ◌%◌, ◌^◌, ◌<◌, ◌≤◌, min, eqb}
use Rattle.std.proofs.Math.Nat.{mod-lt, mod-le, mod_self}
use Rattle.std.proofs.Common.{div-add-mod', ltb-false, eq-eqb, ne_eqb}
use Rattle.std.proofs.Math.Decide.{ℕ_discrete}
use native.Mathlib.Omega.{arith}
use Rattle.arithmetic.specs.Rounding.{pick, fits, round_down, is_multiple}
use Rattle.arithmetic.specs.RoundingLaws.{true_fits, multiple_add, down_is, down_le, down_near, down_multiple, up_ge, up_near}
use Rattle.arithmetic.specs.RoundingLaws.{up_multiple}
use Rattle.arithmetic.specs.Offsets.{range_of}
use Rattle.arithmetic.specs.Settings.{length_align}
use Rattle.arithmetic.specs.SettingsLaws.{and_left, and_right, Accepted}
use Rattle.arithmetic.specs.Padding.{padded_start, padded_length, head_of}
use Rattle.arithmetic.specs.PaddingLaws.{head_below, length_least}
use Rattle.arithmetic.specs.Zeroes.{cut_fits, middle_start, middle_end, has_middle, cut_of, chunk_length}
use Rattle.arithmetic.specs.declared.offsets.Range.{Range}
use Rattle.arithmetic.specs.declared.settings.Settings.{Settings}

-- the sums of a cut that fits
pub record CutSums (z o n : ℕ) : Type 0 where
  pub end : o + n < 2 ^ 64
  pub rounded : o + (z - 1) < 2 ^ 64

pub cut_sums : (z o n : ℕ) → cut_fits z o n ≡ true → CutSums z o n
unfolding cut_fits
cut_sums z o n e = record {
  end = true_fits (o + n) (and_left (fits (o + n)) (fits (o + (z - 1))) e);
  rounded = true_fits (o + (z - 1)) (and_right (fits (o + n)) (fits (o + (z - 1))) e);
}

-- a chunk lies within the rest of the range
pub chunk_within : (r share o e : ℕ) → chunk_length r share o (e - o) ≤ e - o
unfolding chunk_length
chunk_within r share o e = omega arith

-- ---- cuts

-- head, middle and tail are adjacent and together the range; head and tail are shorter than Z
pub record Tiled (z o n : ℕ) : Type 0 where
  pub starts : (cut_of z o n).head.start.0 ≡ o
  pub middle : (cut_of z o n).head.end ≡ (cut_of z o n).middle.start
  pub tail : (cut_of z o n).middle.end ≡ (cut_of z o n).tail.start
  pub ends : (cut_of z o n).tail.end.0 ≡ o + n
  pub head_ordered : o ≤ middle_start z o
  pub head_short : middle_start z o < o + z
  pub tail_ordered : middle_end z o n ≤ o + n
  pub tail_short : o + n < middle_end z o n + z
  pub start_whole : middle_start z o % z ≡ 0
  pub end_whole : middle_end z o n % z ≡ 0

pub tiled : (z o n : ℕ) → 0 < z → Tiled z o n
unfolding cut_of
tiled z o n h = record {
  starts = refl;
  middle = refl;
  tail = refl;
  ends = refl;
  head_ordered = up_ge o z h;
  head_short = up_near o z h;
  tail_ordered = down_le (o + n) z;
  tail_short = down_near (o + n) z h;
  start_whole = up_multiple o z;
  end_whole = down_multiple (o + n) z;
}

-- a range without a middle is shorter than 2Z
pub whole_short : (z o n : ℕ) → 0 < z → has_middle z o n ≡ false → n < 2 * z
unfolding has_middle
whole_short z o n h e =
    let t = tiled z o n h in
    let l = ltb-false (middle_start z o) (middle_end z o n) e in
    omega (arith, l, t.head_short, t.tail_short)

-- ---- chunks

module _ (r share o n : ℕ) (hr : 0 < r) where
  -- off R a chunk ends at the next multiple of R or at the range's end; on R it is full or the rest
  pub chunk_off : (o % r ≡ 0 → ⊥) → chunk_length r share o n ≡ min n (r - o % r)
  unfolding chunk_length is_multiple
  chunk_off z = simp (ne_eqb (o % r) 0 z)

  pub chunk_on : o % r ≡ 0 → chunk_length r share o n ≡ min n share
  unfolding chunk_length is_multiple
  chunk_on z = simp (eq-eqb (o % r) 0 z)

  pub chunk_some : 0 < share → 0 < n → 0 < chunk_length r share o n
  chunk_some s p = elim (ℕ_discrete (o % r) 0) [
    | yes z ↦ omega (arith, chunk_on z)
    | no z ↦ omega (arith, chunk_off z, mod-lt o hr)
  ]

  pub chunk_most : r ≤ share → chunk_length r share o n ≤ share
  chunk_most s = elim (ℕ_discrete (o % r) 0) [
    | yes z ↦ omega (arith, chunk_on z)
    | no z ↦ omega (arith, chunk_off z)
  ]

  pub chunk_le : chunk_length r share o n ≤ n
  unfolding chunk_length
  chunk_le = omega arith

  -- where a chunk ends before the range does, it ends at a multiple of R
  pub chunk_ends : share % r ≡ 0 → chunk_length r share o n < n → (o + chunk_length r share o n) % r ≡ 0
  chunk_ends m p = elim (ℕ_discrete (o % r) 0) [
    | yes z ↦ let e : chunk_length r share o n ≡ share = omega (arith, chunk_on z) in rw e (multiple_add o share r z m)
    | no z ↦
        let e : chunk_length r share o n ≡ r - o % r = omega (arith, chunk_off z) in
        let f : o + (r - o % r) ≡ round_down o r + r = omega (arith, down_is o r, div-add-mod' o r, mod-lt o hr) in
        rw (e, f) (multiple_add (round_down o r) r r (down_multiple o r) (mod_self r))
  ]

-- the ranges of a list are adjacent, not empty, at most `most` long, and together the bytes from o up to e
pub data Tiles (most : ℕ) : ℕ → ℕ → List Range → Type 0 where
  done : {o : ℕ} → Tiles most o o []
  next : {o m e : ℕ} {xs : List Range} → o < m → m ≤ o + most → Tiles most m e xs → Tiles most o e (range_of o m ∷ xs)

-- the chunks of n bytes at o, one after the other; `turns` bounds their number
unfoldable pub chunks_of : ℕ → ℕ → ℕ → ℕ → ℕ → List Range
chunks_of r share zero o n = []
chunks_of r share (suc turns) o n =
    pick (eqb n 0) [] (range_of o (o + chunk_length r share o n) ∷ chunks_of r share turns (o + chunk_length r share o n)
    (n - chunk_length r share o n))

pub chunks_tile : (r share : ℕ) → 0 < r → 0 < share → r ≤ share → (turns o n : ℕ) → n ≤ turns →
    Tiles share o (o + n) (chunks_of r share turns o n)
unfolding chunks_of
chunks_tile r share hr hs le zero o n h = let e : o + n ≡ o = omega arith in rw e done
chunks_tile r share hr hs le (suc turns) o n h = elim (ℕ_discrete n 0) [
  | yes z ↦ let e : o + n ≡ o = omega arith in simp (eq-eqb n 0 z) (rw e done)
  | no z ↦
      let c = chunk_length r share o n in
      let p = chunk_some r share o n hr hs (omega arith) in
      let q = chunk_le r share o n hr in
      let e : o + c + (n - c) ≡ o + n = omega arith in
      simp (ne_eqb n 0 z)
      (next {o = o} {m = o + c} (omega arith) (omega (arith, chunk_most r share o n hr le))
      (rw e at (chunks_tile r share hr hs le turns (o + c) (n - c) (omega arith))))
]

-- ---- every write of a zero job pads to at most the share

module _ (s : Settings) (k : Accepted s) where
  abbrev R : ℕ
  R = s.align.req

  abbrev Z : ℕ
  Z = s.align.zero

  abbrev L : ℕ
  L = length_align s.align

  -- what is shorter than 2Z + L, with its head
  pads : (o n : ℕ) → head_of R o + n ≤ s.bounce → padded_length R L o n ≤ s.bounce
  pads o n h = length_least R L o n k.align.req.positive k.align.positive k.align.of_req s.bounce k.whole h

  short : (o n : ℕ) → n < 2 * Z → padded_length R L o n ≤ s.bounce
  short o n h = pads o n (omega (
    arith,
    head_below R L o n k.align.req.positive k.align.positive
        k.align.of_req,
    k.least,
    k.align.req_le,
  ))

  pub head_pads : (o : ℕ) → padded_length R L o (middle_start Z o - o) ≤ s.bounce
  head_pads o = short o (middle_start Z o - o) (omega (arith, (tiled Z o 0 k.align.zero.positive).head_short))

  pub tail_pads : (o n : ℕ) → padded_length R L (middle_end Z o n) (o + n - middle_end Z o n) ≤ s.bounce
  tail_pads o n = short (middle_end Z o n) (o + n - middle_end Z o n) (omega (arith, (tiled Z o n k.align.zero.positive).tail_short))

  pub whole_pads : (o n : ℕ) → has_middle Z o n ≡ false → padded_length R L o n ≤ s.bounce
  whole_pads o n e = short o n (whole_short Z o n k.align.zero.positive e)

  pub chunk_pads : (o n : ℕ) → padded_length R L o (chunk_length R s.bounce o n) ≤ s.bounce
  unfolding padded_start round_down
  chunk_pads o n = elim (ℕ_discrete (o % R) 0) [
    | yes z ↦ pads o (chunk_length R s.bounce o n) (omega (arith, chunk_on R s.bounce o n k.align.req.positive z))
    | no z ↦
        pads o (chunk_length R s.bounce o n)
        (omega (
          arith,
          chunk_off R s.bounce o n k.align.req.positive z,
          mod-lt o
              k.align.req.positive,
          mod-le o R,
          k.align.req_le,
          k.least,
        ))
  ]
