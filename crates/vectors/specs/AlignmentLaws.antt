-- The alignment of a vector over data whose addresses fit is that of its segments, of which each address fits. Assumes nothing.
use Rattle.std.specs.Prelude.{◌≡◌, Ok, Bool, true, false, ◌&&◌, ◌||◌, ℕ, ◌+◌, ◌<◌, max, eqb}
use Rattle.std.proofs.Math.Path.{refl}
use Rattle.std.proofs.Common.{sym, arith, eqb-true}
use mathlib.Core.List.{List, [], ◌∷◌}
use Rattle.std.proofs.Math.Nat.{mod-one}
use Rattle.arithmetic.specs.Rounding.{is_multiple}
use Rattle.arithmetic.specs.RoundingLaws.{fits_true}
use Rattle.arithmetic.specs.Settings.{alignments_fit, length_align}
use Rattle.arithmetic.specs.SettingsLaws.{and_left, and_right}
use Rattle.arithmetic.specs.declared.settings.Alignments.{Alignments}
use Rattle.arithmetic.specs.declared.settings.Lent.{Lent}
use Rattle.vectors.specs.declared.vector.Segment.{Segment}
use Rattle.vectors.specs.declared.vector.IoVector.{IoVector}
use Rattle.vectors.specs.Vectors.{segments_of, lies_in, all_segments, is_valid, all_aligned, is_aligned_at, lies_aligned}
use Rattle.vectors.specs.Vectors.{is_aligned_of, alignment_of}
use Rattle.vectors.specs.SegmentLaws.{lies, valid}

-- ---- segments inside data whose addresses fit

module _ (address n m l : ℕ) (h : address + n < 18446744073709551616) where
  all_aligned_lem : (ps : List Segment) → all_segments (lies_in n) ps ≡ true → lies_aligned address m l ps ≡ all_aligned address m l ps
  unfolding lies_aligned all_aligned all_segments is_aligned_at
  all_aligned_lem [] e = refl
  all_aligned_lem (p ∷ ps) e =
      let k = lies n p (and_left (lies_in n p) (all_segments (lies_in n) ps) e) in
      let f = fits_true (address + p.start) (omega (arith, k.ends)) in
      let r = all_aligned_lem ps (and_right (lies_in n p) (all_segments (lies_in n) ps) e) in
      rw (f, r)

  pub aligned_valid : (v : IoVector) → is_valid n v ≡ true
      → lies_aligned address m l (segments_of v) ≡ all_aligned address m l (segments_of v)
  aligned_valid v e = all_aligned_lem (segments_of v) (valid n v e).fit.lie

-- ---- M = R = 1

-- every number is a multiple of 1
multiple_one : (x : ℕ) → is_multiple x 1 ≡ true
unfolding is_multiple
multiple_one x = rw (mod-one x)

all_one : (address : ℕ) (ps : List Segment) → all_aligned address 1 1 ps ≡ true
unfolding all_aligned all_segments
all_one address [] = refl
all_one address (p ∷ ps) = rw (multiple_one (address + p.start), multiple_one p.length) (all_one address ps)

-- so that case is no case of its own
pub aligned_one : (a : Alignments) (address : ℕ) (ps : List Segment)
    → is_aligned_of a address ps ≡ all_aligned address a.mem (length_align a) ps
unfolding is_aligned_of length_align
aligned_one a address ps = go (eqb a.mem 1) (eqb a.req 1) refl refl
  where
    go : (s t : Bool) → eqb a.mem 1 ≡ s → eqb a.req 1 ≡ t
        → ((s && t) || all_aligned address a.mem (max a.mem a.req) ps) ≡ all_aligned address a.mem (max a.mem a.req) ps
    go true true p q =
        let m = eqb-true a.mem 1 p in
        let r = eqb-true a.req 1 q in
        sym (rw (m, r) (all_one address ps))
    go true false p q = refl
    go false t p q = refl

-- ---- what is answered where nothing is refused

pub alignment_fit : (a : Alignments) (b : Lent) (v : IoVector) → alignments_fit a ≡ true → b.address + b.length < 18446744073709551616
    → is_valid b.length v ≡ true
    → alignment_of a b v ≡ Ok (lies_aligned b.address a.mem (length_align a) (segments_of v))
unfolding alignment_of
alignment_fit a b v e h f =
    rw (
      e,
      fits_true (b.address + b.length) h,
      f,
      aligned_one a b.address (segments_of v),
      aligned_valid b.address b.length a.mem (length_align a) h v f,
    )
