-- What a transfer, a cut and a chunk say that are not refused, as far as stages use it. Assumes nothing.
use Rattle.std.specs.Prelude.{◌≡◌, refl, Bool, true, false, ℕ, ◌+◌, ◌^◌, ◌<◌, eqb, Ok, Err, Some, None}
use Rattle.std.proofs.Common.{arith}
use Rattle.std.proofs.lemmas.Bool.{eqb-false}
use Rattle.arithmetic.specs.Rounding.{pick}
use Rattle.arithmetic.specs.Offsets.{range_of}
use Rattle.arithmetic.specs.Settings.{alignments_fit}
use Rattle.arithmetic.specs.Padding.{transfer_of, reads_of}
use Rattle.arithmetic.specs.PaddingLaws.{Spans, Directs, Transfers, transfers}
use Rattle.arithmetic.specs.Zeroes.{cut_fits, has_middle, cut_of, zero_cut_of, discard_cut_of}
use Rattle.arithmetic.specs.ZeroesLaws.{CutSums, cut_sums}
use Rattle.arithmetic.specs.declared.refusals.Refusal.TheVariants.{Unfit, Overflow}
use Rattle.arithmetic.specs.declared.offsets.StoreOffset.{StoreOffset}
use Rattle.arithmetic.specs.declared.offsets.Range.{Range}
use Rattle.arithmetic.specs.declared.settings.Alignments.{Alignments}
use Rattle.arithmetic.specs.declared.padding.Span.{Span}
use Rattle.arithmetic.specs.declared.padding.Transfer.TheVariants.{Direct, Bounced}
use Rattle.arithmetic.specs.declared.padding.Reads.TheVariants.{Nothing as NoReads, Whole as ReadWhole, Head, Tail, HeadThenTail}
use Rattle.arithmetic.specs.declared.zeroes.Cut.{Cut}
use Rattle.arithmetic.specs.declared.zeroes.ZeroCut.TheVariants.{Nothing as NoCut, Whole, Split}
use Rattle.stages.specs.Stages.{Holds}

pub direct : (a : Alignments) (o : StoreOffset) (n : ℕ) (t : Bool) (r : Range) → transfer_of a o n t ≡ (Ok (Direct r)) → Directs a o.0 n r
unfolding Transfers
direct a o n t r e = rw e at (transfers a o n t)

pub bounced : (a : Alignments) (o : StoreOffset) (n : ℕ) (t : Bool) (x : Span) → transfer_of a o n t ≡ (Ok (Bounced x)) → Spans a o.0 n x
unfolding Transfers
bounced a o n t x e = rw e at (transfers a o n t)

-- the head and tail reads of a padded range lie on the store, and so does the asked range
pub holds : {a : Alignments} {o n : ℕ} {x : Span} → Spans a o n x → Holds x
holds k = record { first = omega (arith, k.end, k.fits, k.prefix_le); second = omega (arith, k.end, k.suffix_le) }

pub asked_fits : {a : Alignments} {o n : ℕ} {x : Span} → Spans a o n x → o + n < 2 ^ 64
asked_fits k = omega (arith, k.end, k.fits, k.from, k.holds)

-- ---- cuts

-- a cut at z of n bytes at o that has a middle c
pub record Middles (z o n : ℕ) : Type 0 where
  pub sums : CutSums z o n
  pub some : has_middle z o n ≡ true

-- a zero job's cut
pub record Splits (a : Alignments) (o n : ℕ) (c : Cut) : Type 0 where
  pub middles : Middles a.zero o n
  pub is : c ≡ cut_of a.zero o n

pub splits : (a : Alignments) (o : StoreOffset) (n : ℕ) (c : Cut) → zero_cut_of a o n ≡ (Ok (Split c)) → Splits a o.0 n c
unfolding zero_cut_of
splits a o n c e = go (alignments_fit a) (eqb n 0) (cut_fits a.zero o.0 n) (has_middle a.zero o.0 n) refl refl e
  where
    go : (x y z w : Bool) → cut_fits a.zero o.0 n ≡ z → has_middle a.zero o.0 n ≡ w
        → pick x (pick y (Ok NoCut) (pick z (pick w (Ok (Split (cut_of a.zero o.0 n))) (Ok (Whole (range_of o.0 (o.0 + n)))))
        (Err Overflow))) (Err Unfit) ≡ Ok (Split c)
        → Splits a o.0 n c
    go true false true true p q e = record { middles = record { sums = cut_sums _ _ _ p; some = q }; is = cc }
    go true false true false p q e = let z : ◌≡◌ {A = ℕ} 0 1 = cc in absurd (omega arith)
    go true false false w p q e = let z : ◌≡◌ {A = ℕ} 0 1 = cc in absurd (omega arith)
    go true true z w p q e = let z : ◌≡◌ {A = ℕ} 0 1 = cc in absurd (omega arith)
    go false y z w p q e = let z : ◌≡◌ {A = ℕ} 0 1 = cc in absurd (omega arith)

-- a zero job without a middle
pub record Wholes (a : Alignments) (o n : ℕ) (r : Range) : Type 0 where
  pub sums : CutSums a.zero o n
  pub none : has_middle a.zero o n ≡ false
  pub some : 0 < n
  pub is : r ≡ range_of o (o + n)

pub wholes : (a : Alignments) (o : StoreOffset) (n : ℕ) (r : Range) → zero_cut_of a o n ≡ (Ok (Whole r)) → Wholes a o.0 n r
unfolding zero_cut_of
wholes a o n r e = go (alignments_fit a) (eqb n 0) (cut_fits a.zero o.0 n) (has_middle a.zero o.0 n) refl refl refl e
  where
    go : (x y z w : Bool) → eqb n 0 ≡ y → cut_fits a.zero o.0 n ≡ z → has_middle a.zero o.0 n ≡ w
        → pick x (pick y (Ok NoCut) (pick z (pick w (Ok (Split (cut_of a.zero o.0 n))) (Ok (Whole (range_of o.0 (o.0 + n)))))
        (Err Overflow))) (Err Unfit) ≡ Ok (Whole r)
        → Wholes a o.0 n r
    go true false true false i p q e = record {
      sums = cut_sums _ _ _ p;
      none = q;
      some = let h = eqb-false n 0 i in omega (arith, h);
      is = cc;
    }
    go true false true true i p q e = let z : ◌≡◌ {A = ℕ} 0 1 = cc in absurd (omega arith)
    go true false false w i p q e = let z : ◌≡◌ {A = ℕ} 0 1 = cc in absurd (omega arith)
    go true true z w i p q e = let z : ◌≡◌ {A = ℕ} 0 1 = cc in absurd (omega arith)
    go false y z w i p q e = let z : ◌≡◌ {A = ℕ} 0 1 = cc in absurd (omega arith)

-- a discard's middle
pub record Discards (a : Alignments) (o n : ℕ) (r : Range) : Type 0 where
  pub middles : Middles a.discard o n
  pub is : r ≡ (cut_of a.discard o n).middle

pub discards : (a : Alignments) (o : StoreOffset) (n : ℕ) (r : Range) → discard_cut_of a o n ≡ (Ok (Some r)) → Discards a o.0 n r
unfolding discard_cut_of
discards a o n r e = go (alignments_fit a) (cut_fits a.discard o.0 n) (has_middle a.discard o.0 n) refl refl e
  where
    go : (x z w : Bool) → cut_fits a.discard o.0 n ≡ z → has_middle a.discard o.0 n ≡ w
        → pick x (pick z (pick w (Ok (Some (cut_of a.discard o.0 n).middle)) (Ok None)) (Err Overflow))
        (Err Unfit) ≡ Ok (Some r)
        → Discards a o.0 n r
    go true true true p q e = record { middles = record { sums = cut_sums _ _ _ p; some = q }; is = cc }
    go true true false p q e = let z : ◌≡◌ {A = ℕ} 0 1 = cc in absurd (omega arith)
    go true false w p q e = let z : ◌≡◌ {A = ℕ} 0 1 = cc in absurd (omega arith)
    go false z w p q e = let z : ◌≡◌ {A = ℕ} 0 1 = cc in absurd (omega arith)

-- ---- the reads of a padded write

-- H and T in a padded range's reads are its own
pub head_is : (s : Span) (h : ℕ) → reads_of s ≡ Head h → h ≡ s.prefix
unfolding reads_of
head_is s h e = go (eqb (s.prefix + s.suffix) s.length) (eqb s.prefix 0) (eqb s.suffix 0) e
  where
    go : (x y z : Bool) → pick x ReadWhole (pick y (pick z NoReads (Tail s.suffix))
        (pick z (Head s.prefix) (HeadThenTail s.prefix s.suffix))) ≡ Head h → h ≡ s.prefix
    go true y z e = let z : ◌≡◌ {A = ℕ} 0 1 = cc in absurd (omega arith)
    go false true true e = let z : ◌≡◌ {A = ℕ} 0 1 = cc in absurd (omega arith)
    go false true false e = let z : ◌≡◌ {A = ℕ} 0 1 = cc in absurd (omega arith)
    go false false true e = cc
    go false false false e = let z : ◌≡◌ {A = ℕ} 0 1 = cc in absurd (omega arith)

pub tail_is : (s : Span) (t : ℕ) → reads_of s ≡ Tail t → t ≡ s.suffix
unfolding reads_of
tail_is s t e = go (eqb (s.prefix + s.suffix) s.length) (eqb s.prefix 0) (eqb s.suffix 0) e
  where
    go : (x y z : Bool) → pick x ReadWhole (pick y (pick z NoReads (Tail s.suffix))
        (pick z (Head s.prefix) (HeadThenTail s.prefix s.suffix))) ≡ Tail t → t ≡ s.suffix
    go true y z e = let z : ◌≡◌ {A = ℕ} 0 1 = cc in absurd (omega arith)
    go false true true e = let z : ◌≡◌ {A = ℕ} 0 1 = cc in absurd (omega arith)
    go false true false e = cc
    go false false true e = let z : ◌≡◌ {A = ℕ} 0 1 = cc in absurd (omega arith)
    go false false false e = let z : ◌≡◌ {A = ℕ} 0 1 = cc in absurd (omega arith)

pub heads_are : (s : Span) (h t : ℕ) → reads_of s ≡ HeadThenTail h t → (h ≡ s.prefix) × (t ≡ s.suffix)
unfolding reads_of
heads_are s h t e = go (eqb (s.prefix + s.suffix) s.length) (eqb s.prefix 0) (eqb s.suffix 0) e
  where
    go : (x y z : Bool) → pick x ReadWhole (pick y (pick z NoReads (Tail s.suffix))
        (pick z (Head s.prefix) (HeadThenTail s.prefix s.suffix))) ≡ HeadThenTail h t → (h ≡ s.prefix) × (t ≡ s.suffix)
    go true y z e = let z : ◌≡◌ {A = ℕ} 0 1 = cc in absurd (omega arith)
    go false true true e = let z : ◌≡◌ {A = ℕ} 0 1 = cc in absurd (omega arith)
    go false true false e = let z : ◌≡◌ {A = ℕ} 0 1 = cc in absurd (omega arith)
    go false false true e = let z : ◌≡◌ {A = ℕ} 0 1 = cc in absurd (omega arith)
    go false false false e = (cc, cc)
