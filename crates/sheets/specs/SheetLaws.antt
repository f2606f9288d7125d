-- Laws of sheets: what a sound write is; the owner of a byte; the joined ranges, one write after the other. Assumes nothing.
use Rattle.std.specs.Prelude.{◌≡◌, refl, Bool, true, false, ◌&&◌, ◌||◌, List, [], ◌∷◌, ℕ, zero, suc, ◌+◌, ◌^◌, ◌<◌, ◌≤◌, ltb, leb, length}
use Rattle.std.specs.Prelude.{get_or, drop, Option, Some, None}
use Rattle.std.specs.Option.{is_some}
use Rattle.std.proofs.Common.{sym, ap, subst, ◌∙◌, arith, ltb-true, leb-true}
use Rattle.arithmetic.specs.Loops.{or_first}
use Rattle.arithmetic.specs.Rounding.{pick, fits}
use Rattle.arithmetic.specs.RoundingLaws.{true_fits}
use Rattle.arithmetic.specs.SettingsLaws.{and_left, and_right}
use Rattle.arithmetic.specs.Offsets.{range_of}
use Rattle.arithmetic.specs.Content.{in_range}
use Rattle.arithmetic.specs.declared.offsets.Range.{Range}
use Rattle.sheets.specs.Sheets.{no_write, covers, is_sound, all_sound, sheet_fits, insert, ranges_from, ranges_of, total_of}
use Rattle.sheets.specs.Sheets.{owner_from, owner_of}
use Rattle.sheets.specs.OneTrip.{Ascends, in_ranges, is_covered, Ranged, EverySheet}
use Rattle.sheets.specs.Stretches.{lengths_of}
use Rattle.sheets.specs.RangeLaws.{never, Ends, total_most}
use Rattle.sheets.specs.RangeLaws.{insert_ascends, insert_covers, insert_few, insert_ends, insert_total, unique}
use Rattle.sheets.specs.declared.sheet.SheetWrite.{SheetWrite}

-- ---- sound writes

-- not empty, does not wrap, lies in n bytes
pub record Sound (n : ℕ) (w : SheetWrite) : Type 0 where
  pub some : 0 < w.length
  pub end : w.offset.0 + w.length < 2 ^ 64
  pub inside : w.start + w.length ≤ n

pub sound : (n : ℕ) (w : SheetWrite) → is_sound n w ≡ true → Sound n w
unfolding is_sound
sound n w h =
    let a = ltb 0 w.length in
    let b = fits (w.offset.0 + w.length) in
    let c = leb (w.start + w.length) n in
    let ab = and_left (a && b) c h in
    record {
      some = ltb-true 0 w.length (and_left a b ab);
      end = true_fits (w.offset.0 + w.length) (and_right a b ab);
      inside = leb-true (w.start + w.length) n (and_right (a && b) c h);
    }

pub sound_at : (n : ℕ) (ws : List SheetWrite) (i : ℕ) → all_sound n ws ≡ true → i < length ws → Sound n (get_or ws i no_write)
unfolding all_sound
sound_at n [] i f h = absurd (omega arith)
sound_at n (w ∷ ws) zero f h = sound n w (and_left (is_sound n w) (all_sound n ws) f)
sound_at n (w ∷ ws) (suc i) f h = sound_at n ws i (and_right (is_sound n w) (all_sound n ws) f) (omega arith)

-- a sheet that is not refused with 220
pub record Fits (n : ℕ) (ws : List SheetWrite) : Type 0 where
  pub few : length ws ≤ 64
  pub all : all_sound n ws ≡ true

pub sheet_fits_lem : (n : ℕ) (ws : List SheetWrite) → sheet_fits n ws ≡ true → Fits n ws
unfolding sheet_fits
sheet_fits_lem n ws h = record {
  few = leb-true (length ws) 64 (and_left (leb (length ws) 64) (all_sound n ws) h);
  all = and_right (leb (length ws) 64) (all_sound n ws) h;
}

-- ---- the owner of a byte

pub or_left_false : (a b : Bool) → (a || b) ≡ false → a ≡ false
or_left_false true b e = e
or_left_false false b e = refl

pub or_right_false : (a b : Bool) → (a || b) ≡ false → b ≡ false
or_right_false true b e = never (sym e)
or_right_false false b e = e

pub owner_none : (ws : List SheetWrite) (owner : Option SheetWrite) (k : ℕ) → is_covered ws k ≡ false → owner_from owner ws k ≡ owner
unfolding is_covered owner_from
owner_none [] owner k e = refl
owner_none (w ∷ ws) owner k e =
    let a = or_left_false (covers w k) (is_covered ws k) e in
    rw a (owner_none ws owner k (or_right_false (covers w k) (is_covered ws k) e))

-- the owner is the last of the writes that covers k: number m of them, and none behind it does; it is sound where all are
pub record Last (ws : List SheetWrite) (owner : Option SheetWrite) (k : ℕ) : Type 0 where
  pub w : SheetWrite
  pub is : owner ≡ Some w
  pub m : ℕ
  pub there : m < length ws
  pub from : get_or ws m no_write ≡ w
  pub its : covers w k ≡ true
  pub last : is_covered (drop (suc m) ws) k ≡ false
  pub fit : (n : ℕ) → all_sound n ws ≡ true → is_sound n w ≡ true

pub owner_last : (ws : List SheetWrite) (owner : Option SheetWrite) (k : ℕ) → is_covered ws k ≡ true → Last ws (owner_from owner ws k) k
unfolding is_covered owner_from all_sound
owner_last [] owner k e = never e
owner_last (w ∷ ws) owner k e = go (is_covered ws k) refl (owner_last ws (pick (covers w k) (Some w) owner) k)
  where
    go : (b : Bool) → is_covered ws k ≡ b
        → (is_covered ws k ≡ true → Last ws (owner_from (pick (covers w k) (Some w) owner) ws k) k)
        → Last (w ∷ ws) (owner_from (pick (covers w k) (Some w) owner) ws k) k
    go true p f =
        let r = f p in
        record {
          w = r.w;
          is = r.is;
          m = suc r.m;
          there = omega (arith, r.there);
          from = r.from;
          its = r.its;
          last = r.last;
          fit = λ n s. r.fit n (and_right (is_sound n w) (all_sound n ws) s);
        }
    go false p f =
        let h = or_first (covers w k) (rw p at e) in
        let o = owner_none ws (pick (covers w k) (Some w) owner) k p in
        record {
          w = w;
          is = o ∙ rw h;
          m = 0;
          there = omega arith;
          from = refl;
          its = h;
          last = p;
          fit = λ n s. and_left (is_sound n w) (all_sound n ws) s;
        }

-- a byte that has no owner is not covered
pub owned_none : (ws : List SheetWrite) (k : ℕ) → owner_of ws k ≡ None → is_covered ws k ≡ false
owned_none ws k e = go (is_covered ws k) refl
  where
    go : (b : Bool) → is_covered ws k ≡ b → b ≡ false
    go true p =
        let q = sym e ∙ (owner_last ws None k p).is in
        let z : ◌≡◌ {A = ℕ} 0 1 = cc in
        absurd (omega arith)
    go false p = refl

-- one that has an owner is covered by it, and the owner is one of the writes: sound where all are
pub owned_last : (ws : List SheetWrite) (k : ℕ) (w : SheetWrite) → owner_of ws k ≡ Some w → (is_covered ws k ≡ true) × Last ws (Some w) k
owned_last ws k w e = go (is_covered ws k) refl
  where
    go : (b : Bool) → is_covered ws k ≡ b → (b ≡ true) × Last ws (Some w) k
    go true p = (refl, subst (λ (o : Option SheetWrite). Last ws o k) e (owner_last ws None k p))
    go false p =
        let q = sym (owner_none ws None k p) ∙ e in
        let z : ◌≡◌ {A = ℕ} 0 1 = cc in
        absurd (omega arith)

-- so the byte is covered exactly where it has an owner
pub owned_covered : (ws : List SheetWrite) (k : ℕ) (o : Option SheetWrite) → owner_of ws k ≡ o → is_covered ws k ≡ is_some o
owned_covered ws k None e = owned_none ws k e
owned_covered ws k (Some w) e = (owned_last ws k w e).0

-- and its owner is one of the writes, which covers it
pub owner_covers : (ws : List SheetWrite) (k : ℕ) (w : SheetWrite) → owner_of ws k ≡ Some w
    → (covers w k ≡ true) × (m : ℕ) × (m < length ws) × (get_or ws m no_write ≡ w)
owner_covers ws k w e =
    let l = (owned_last ws k w e).1 in
    let same : w ≡ l.w = let i = l.is in cc in
    (ap (λ (u : SheetWrite). covers u k) same ∙ l.its, l.m, l.there, l.from ∙ sym same)

-- ---- the ranges, one write after the other

or_move : (a b c : Bool) → ((a || b) || c) ≡ (b || (a || c))
or_move true true c = refl
or_move true false c = refl
or_move false b c = refl

or_none : (a : Bool) → a ≡ (a || false)
or_none true = refl
or_none false = refl

-- no write covers it
abbrev pub top : ℕ
top = 18446744073709551615

record Collected (rs : List Range) (ws : List SheetWrite) : Type 0 where
  ascends : Ascends 0 (ranges_from rs ws)
  covered : (k : ℕ) → in_ranges (ranges_from rs ws) k ≡ (in_ranges rs k || is_covered ws k)
  few : length (ranges_from rs ws) ≤ length rs + length ws
  most : total_of (ranges_from rs ws) ≤ total_of rs + lengths_of ws
  ends : Ends top (ranges_from rs ws)

collected : (n : ℕ) (ws : List SheetWrite) (rs : List Range) → all_sound n ws ≡ true → Ascends 0 rs → Ends top rs → Collected rs ws
unfolding ranges_from all_sound is_covered lengths_of
collected n [] rs f a t = record { ascends = a; covered = λ k. or_none (in_ranges rs k); few = omega arith; most = omega arith; ends = t }
collected n (w ∷ ws) rs f a t =
    let o = w.offset.0 in
    let s = sound n w (and_left (is_sound n w) (all_sound n ws) f) in
    let l : o < o + w.length = omega (arith, s.some) in
    let r =
    collected n ws (insert o (o + w.length) rs) (and_right (is_sound n w) (all_sound n ws) f)
    (insert_ascends rs 0 o (o + w.length) (omega arith) l a) (insert_ends rs top o (o + w.length) (omega (arith, s.end)) t)
    in
    record {
      ascends = r.ascends;
      covered = λ k.
          r.covered k
          ∙ ap (λ (b : Bool). b || is_covered ws k) (insert_covers rs 0 o (o + w.length) l a k)
          ∙ or_move (in_range (range_of o (o + w.length)) k) (in_ranges rs k) (is_covered ws k);
      few = omega (arith, r.few, insert_few rs o (o + w.length));
      most = omega (arith, r.most, insert_total rs 0 o (o + w.length) l a);
      ends = r.ends;
    }

module _ (n : ℕ) (ws : List SheetWrite) (fit : sheet_fits n ws ≡ true) where
  all_collected : Collected [] ws
  all_collected = collected n ws [] (sheet_fits_lem n ws fit).all tt tt

  pub ranges_end : Ends top (ranges_of ws)
  ranges_end = all_collected.ends

  -- joined they are no longer than the writes in all
  pub ranges_most : total_of (ranges_of ws) ≤ lengths_of ws
  unfolding total_of
  ranges_most = omega (arith, all_collected.most)

  pub ranges_covered : (k : ℕ) → in_ranges (ranges_of ws) k ≡ is_covered ws k
  unfolding in_ranges
  ranges_covered k = all_collected.covered k

  pub ranged : Ranged ws
  ranged = record {
    ascending = all_collected.ascends;
    covered = ranges_covered;
    only = λ rs a f. unique rs (ranges_of ws) 0 a all_collected.ascends (λ k. f k ∙ sym (ranges_covered k));
    few = omega (arith, all_collected.few);
    small = omega (arith, total_most (ranges_of ws) 0 top all_collected.ascends ranges_end);
  }

pub every_sheet : EverySheet
every_sheet n ws fit = ranged n ws fit
