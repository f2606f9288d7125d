-- A stretch is found write by write: how far all bytes have one owner, by the writes that were looked at. Assumes nothing.
use mathlib.Core.Path.{◌≡◌, refl, ap, ◌∙◌}
use mathlib.Core.List.{List}
use Rattle.std.specs.Prelude.{Option, Some, None}
use Prim.Native.Nat.{ℕ, ◌+◌, ◌<◌, ◌≤◌, min}
use native.Mathlib.Numerals.{add-one}
use native.Mathlib.Omega.{arith}
use lib.ListN.{length, drop, get_or, drop_of_length-le}
use lib.Seq.{drop-cons}
use Rattle.arithmetic.specs.Rounding.{pick}
use Rattle.arithmetic.specs.Content.{in_range_lem, not_in_before, not_in_behind}
use Rattle.sheets.specs.Sheets.{no_write, range_for, covers}
use Rattle.sheets.specs.Sheets.{owner_from, owner_of}
use Rattle.sheets.specs.Stretches.{Owned}
use Rattle.sheets.specs.declared.sheet.SheetWrite.{SheetWrite}

-- ---- one owner from `at` up to `end`, by the first i writes

pub record Looked (ws : List SheetWrite) (at : ℕ) (owner : Option SheetWrite) (end i : ℕ) : Type 0 where
  pub most : i ≤ length ws
  pub ahead : at < end
  pub end_most : end ≤ 18446744073709551615
  pub same : (k : ℕ) → at ≤ k → k < end → owner_of ws k ≡ owner_from owner (drop i ws) k

pub looked_none : (ws : List SheetWrite) (at : ℕ) → at < 18446744073709551615 → Looked ws at None 18446744073709551615 0
looked_none ws at h = record { most = omega arith; ahead = h; end_most = omega arith; same = λ k a l. refl }

module _ {ws : List SheetWrite} {at : ℕ} {owner : Option SheetWrite} {end i : ℕ} (s : Looked ws at owner end i) where
  pub looked_same : (o : Option SheetWrite) (e : ℕ) → o ≡ owner → e ≡ end → Looked ws at o e i
  looked_same o e p q = rw (p, q) s

  pub looked_all : length ws ≤ i → Owned ws at (record { owner = owner; end = end })
  unfolding owner_from
  looked_all h = record {
    ahead = s.ahead;
    most = s.end_most;
    owned = λ k a l. s.same k a l ∙ rw (drop_of_length-le ws {i = i} h);
  }

  module _ (h : i < length ws) (w : SheetWrite) (e : w ≡ get_or ws i no_write) where
    owner_next : (k : ℕ) → owner_from owner (drop i ws) k ≡ owner_from (pick (covers w k) (Some w) owner) (drop (i + 1) ws) k
    unfolding owner_from
    owner_next k = rw (drop-cons ws i no_write h, add-one, e)

    -- a bound nearer than the end, before which the write covers all or nothing
    looked_to : (b : ℕ) (o : Option SheetWrite) → at < b → ((k : ℕ) → at ≤ k → k < min end b → pick (covers w k) (Some w) owner ≡ o) → Looked ws at o (min end b) (i + 1)
    looked_to b o l f = record {
      most = omega (arith, h);
      ahead = omega (arith, l, s.ahead);
      end_most = omega (arith, s.end_most);
      same = λ k a m. s.same k a (omega (arith, m)) ∙ owner_next k ∙ ap (λ (j : Option SheetWrite). owner_from j (drop (i + 1) ws) k) (f k a m);
    }

    pub looked_before : at < w.offset.0 → Looked ws at owner (min end w.offset.0) (i + 1)
    looked_before l = looked_to w.offset.0 owner l (λ k a m. rw (not_in_before (range_for w) k (omega (arith, m))))

    pub looked_in : w.offset.0 ≤ at → at < w.offset.0 + w.length → Looked ws at (Some w) (min end (w.offset.0 + w.length)) (i + 1)
    looked_in g l =
        looked_to (w.offset.0 + w.length) (Some w) l (λ k a m. rw (in_range_lem (range_for w) k (omega (arith, g, a)) (omega (arith, m))))

    pub looked_past : w.offset.0 + w.length ≤ at → Looked ws at owner end (i + 1)
    looked_past l =
        let z : min end end ≡ end = omega arith in
        rw z at (looked_to end owner s.ahead (λ k a m. rw (not_in_behind (range_for w) k (omega (arith, l, a)))))
