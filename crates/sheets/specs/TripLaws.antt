-- The joined writes, made in any order, give the content that the originals give in their order; what the call leaves behind the front of
-- its output and its words. Assumes nothing.
use Rattle.std.specs.Prelude.{◌≡◌, refl, Bool, true, false, ◌||◌, List, [], ◌∷◌, ◌++◌, ℕ, suc, ◌+◌, ◌-◌, ◌*◌, ◌/◌, ◌<◌, ◌≤◌, ltb, leb, take}
use Rattle.std.specs.Prelude.{Option, Some, None, Result, Ok, Err}
use Rattle.std.proofs.Common.{sym, ◌∙◌, subst, append_assoc, mul-div_cancel, arith, take_at, drop_at, get_or-take, ltb-true, leb-true}
use Rattle.std.proofs.Math.Path.{ap}
use Rattle.std.proofs.Math.ListN.{length, drop, get_or, length-append, length-drop}
use Rattle.std.proofs.Math.Seq.{get_or-append-add, get_or-drop}
use Rattle.arithmetic.specs.Loops.{or_first}
use Rattle.arithmetic.specs.Rounding.{pick}
use Rattle.arithmetic.specs.Rows.{rows}
use Rattle.arithmetic.specs.SettingsLaws.{and_left, and_right}
use Rattle.arithmetic.specs.Content.{Bytes, changed, window, laid_at, changed_off, window_length, window_at}
use Rattle.arithmetic.specs.declared.offsets.Range.{Range}
use Rattle.arithmetic.specs.declared.refusals.Refusal.{Refusal}
use Rattle.arithmetic.specs.declared.refusals.Refusal.TheVariants.{Output as NoRoom, Sheet as BadSheet}
use Rattle.vectors.specs.Vectors.{put}
use Rattle.sheets.specs.Sheets.{write_as, write_from, writes_in, range_for, covers, sheet_fits, ranges_of, size_of, total_of}
use Rattle.sheets.specs.Sheets.{owner_from, byte_of, byte_by, joined_byte, packed, placed, words_of, in_front}
use Rattle.sheets.specs.Sheets.{refused_as, joined_as, join_of}
use Rattle.sheets.specs.OneTrip.{bytes_of, made, in_order, Ascends, in_ranges, is_covered, Reordered, as_is, keep, swap, both}
use Rattle.sheets.specs.OneTrip.{EveryTrip, LaterWins, Fronts}
use Rattle.sheets.specs.RangeLaws.{never, or_swap}
use Rattle.sheets.specs.SheetLaws.{or_left_false, or_right_false, owner_none}
use Rattle.sheets.specs.SheetLaws.{ranges_covered, ranged}
use Rattle.sheets.specs.declared.sheet.SheetWrite.{SheetWrite}
use Rattle.sheets.specs.declared.joining.Size.{Size}

-- ---- one write

made_off : (memory : List ℕ) (s : Bytes) (w : SheetWrite) (k : ℕ) → covers w k ≡ false → made memory s w k ≡ s k
unfolding made
made_off memory s w k e = changed_off s (range_for w) (λ k. true) (laid_at w.offset.0 (bytes_of memory w)) k e

made_on : (memory : List ℕ) (s : Bytes) (w : SheetWrite) (k : ℕ) → covers w k ≡ true
    → made memory s w k ≡ laid_at w.offset.0 (bytes_of memory w) k
unfolding made changed
made_on memory s w k e = rw e

-- where a write covers k
record Inside (w : SheetWrite) (k : ℕ) : Type 0 where
  from : w.offset.0 ≤ k
  to : k < w.offset.0 + w.length

inside : (w : SheetWrite) (k : ℕ) → covers w k ≡ true → Inside w k
inside w k e =
    let a = leb w.offset.0 k in
    let b = ltb k (w.offset.0 + w.length) in
    record {
      from = leb-true w.offset.0 k (and_left a b e);
      to = ltb-true k (w.offset.0 + w.length) (and_right a b e);
    }

-- the byte that it puts there is the data's
laid_byte : (memory : List ℕ) (w : SheetWrite) (k : ℕ) → covers w k ≡ true → laid_at w.offset.0 (bytes_of memory w) k ≡ byte_of memory w k
laid_byte memory w k e =
    let i = inside w k e in
    get_or-take w.length (drop w.start memory) (k - w.offset.0) 0 (omega (arith, i.from, i.to))
    ∙ get_or-drop w.start memory (k - w.offset.0) 0

-- ---- one after the other

-- what none covers stays
pub stays : (memory : List ℕ) (ws : List SheetWrite) (s : Bytes) (k : ℕ) → is_covered ws k ≡ false → in_order memory s ws k ≡ s k
unfolding is_covered in_order
stays memory [] s k e = refl
stays memory (w ∷ ws) s k e =
    stays memory ws (made memory s w) k (or_right_false (covers w k) (is_covered ws k) e)
    ∙ made_off memory s w k (or_left_false (covers w k) (is_covered ws k) e)

pub later_wins : LaterWins
unfolding in_order
later_wins memory s [] w vs k p q = stays memory vs (made memory s w) k q ∙ made_on memory s w k p
later_wins memory s (u ∷ us) w vs k p q = later_wins memory (made memory s u) us w vs k p q

-- what some cover is the byte of the last that does
last_byte : (memory : List ℕ) (ws : List SheetWrite) (owner : Option SheetWrite) (s : Bytes) (k : ℕ) → is_covered ws k ≡ true
    → in_order memory s ws k ≡ byte_by memory (owner_from owner ws k) k
unfolding is_covered in_order owner_from
last_byte memory [] owner s k e = never e
last_byte memory (w ∷ ws) owner s k e =
    go (is_covered ws k) refl (last_byte memory ws (pick (covers w k) (Some w) owner) (made memory s w) k)
  where
    last : Option SheetWrite
    last = owner_from (pick (covers w k) (Some w) owner) ws k

    go : (b : Bool) → is_covered ws k ≡ b
        → (is_covered ws k ≡ true → in_order memory (made memory s w) ws k ≡ byte_by memory last k)
        → in_order memory (made memory s w) ws k ≡ byte_by memory last k
    go true p f = f p
    go false p f =
        let h = or_first (covers w k) (rw p at e) in
        let o : last ≡ Some w = owner_none ws (pick (covers w k) (Some w) owner) k p ∙ rw h in
        rw o (stays memory ws (made memory s w) k p ∙ made_on memory s w k h ∙ laid_byte memory w k h)

pub covered_byte : (memory : List ℕ) (ws : List SheetWrite) (s : Bytes) (k : ℕ) → is_covered ws k ≡ true
    → in_order memory s ws k ≡ joined_byte memory ws k
unfolding joined_byte
covered_byte memory ws s k e = last_byte memory ws None s k e

-- ---- writes that agree with a content, in any order

abbrev Agrees : List ℕ → Bytes → SheetWrite → Type 0
Agrees memory v w = (k : ℕ) → covers w k ≡ true → laid_at w.offset.0 (bytes_of memory w) k ≡ v k

abbrev AllAgree : List ℕ → Bytes → List SheetWrite → Type 0
AllAgree memory v [] = Unit {0}
AllAgree memory v (w ∷ ws) = Agrees memory v w × AllAgree memory v ws

agreed : (memory : List ℕ) (v : Bytes) (ws : List SheetWrite) (s : Bytes) (k : ℕ) → AllAgree memory v ws → is_covered ws k ≡ true
    → in_order memory s ws k ≡ v k
unfolding is_covered in_order
agreed memory v [] s k h e = never e
agreed memory v (w ∷ ws) s k h e = go (is_covered ws k) refl (agreed memory v ws (made memory s w) k h.1)
  where
    go : (b : Bool) → is_covered ws k ≡ b → (is_covered ws k ≡ true → in_order memory (made memory s w) ws k ≡ v k)
        → in_order memory (made memory s w) ws k ≡ v k
    go true p f = f p
    go false p f =
        let c = or_first (covers w k) (rw p at e) in
        stays memory ws (made memory s w) k p ∙ made_on memory s w k c ∙ h.0 k c

reordered_covers : {xs ys : List SheetWrite} → Reordered xs ys → (k : ℕ) → is_covered xs k ≡ is_covered ys k
unfolding is_covered
reordered_covers as_is k = refl
reordered_covers (keep {x} {xs} {ys} r) k = ap (λ (b : Bool). covers x k || b) (reordered_covers r k)
reordered_covers (swap {x} {y} {xs}) k = or_swap (covers x k) (covers y k) (is_covered xs k)
reordered_covers (both p q) k = reordered_covers p k ∙ reordered_covers q k

reordered_agrees : {xs ys : List SheetWrite} (memory : List ℕ) (v : Bytes) → Reordered xs ys → AllAgree memory v ys → AllAgree memory v xs
reordered_agrees memory v as_is h = h
reordered_agrees memory v (keep r) h = (h.0, reordered_agrees memory v r h.1)
reordered_agrees memory v swap h = (h.1.0, (h.0, h.1.1))
reordered_agrees memory v (both p q) h = reordered_agrees memory v p (reordered_agrees memory v q h)

-- ---- ranges as writes, whose bytes are packed

pub placed_covers : (rs : List Range) (lo at : ℕ) → Ascends lo rs → (k : ℕ) → is_covered (placed at rs) k ≡ in_ranges rs k
unfolding placed is_covered in_ranges
placed_covers [] lo at a k = refl
placed_covers (r ∷ rs) lo at a k =
    let z : r.start.0 + size_of r ≡ r.end.0 = omega (arith, a.1) in
    rw (z, placed_covers rs (suc r.end.0) (at + size_of r) a.2 k)

placed_agree : (v : Bytes) (rs : List Range) (front behind : List ℕ) (at : ℕ) → at ≡ length front
    → AllAgree (front ++ (packed v rs ++ behind)) v (placed at rs)
unfolding placed packed
placed_agree v [] front behind at e = tt
placed_agree v (r ∷ rs) front behind at e = (
  here,
  subst (λ (l : List ℕ). AllAgree l v (placed (at + size_of r) rs)) (sym shift)
      (placed_agree v rs (front ++ its) behind (at + size_of r) long),
)
  where
    its : List ℕ
    its = window v r.start.0 (size_of r)

    size : length its ≡ size_of r
    size = window_length v r.start.0 (size_of r)

    long : at + size_of r ≡ length (front ++ its)
    long = omega (arith, length-append front its, size, e)

    shift : front ++ ((its ++ packed v rs) ++ behind) ≡ (front ++ its) ++ (packed v rs ++ behind)
    shift = ap (λ (l : List ℕ). front ++ l) (append_assoc its (packed v rs) behind) ∙ sym (append_assoc front its (packed v rs ++ behind))

    bytes : bytes_of (front ++ ((its ++ packed v rs) ++ behind)) (write_as r.start.0 at (size_of r)) ≡ its
    bytes =
        ap (take (size_of r)) (drop_at front ((its ++ packed v rs) ++ behind) at (sym e) ∙ append_assoc its (packed v rs) behind)
        ∙ take_at its (packed v rs ++ behind) (size_of r) size

    here : Agrees (front ++ ((its ++ packed v rs) ++ behind)) v (write_as r.start.0 at (size_of r))
    here k c =
        let i = inside (write_as r.start.0 at (size_of r)) k c in
        let z : r.start.0 + (k - r.start.0) ≡ k = omega (arith, i.from) in
        ap (λ (l : List ℕ). get_or l (k - r.start.0) 0) bytes
        ∙ window_at v r.start.0 (size_of r) (k - r.start.0) (omega (arith, i.from, i.to))
        ∙ ap v z

pub packed_length : (v : Bytes) (rs : List Range) → length (packed v rs) ≡ total_of rs
unfolding packed total_of
packed_length v [] = refl
packed_length v (r ∷ rs) =
    omega (
      arith,
      length-append (window v r.start.0 (size_of r)) (packed v rs),
      window_length v r.start.0 (size_of r),
      packed_length v rs,
    )

-- ---- the call that is not refused

pub record Accepted (ws : List SheetWrite) (memory output words : List ℕ) : Type 0 where
  pub fit : sheet_fits (length memory) ws ≡ true
  pub room : total_of (ranges_of ws) ≤ length output
  pub is : join_of ws memory output words ≡ joined_as ws memory output words

abbrev is_refused : Result Size Refusal → Bool
is_refused (Ok s) = false
is_refused (Err r) = true

pub accepted : (ws : List SheetWrite) (memory output words : List ℕ) (size : Size) → (join_of ws memory output words).answer ≡ Ok size
    → Accepted ws memory output words
unfolding join_of
accepted ws memory output words size e = go (sheet_fits (length memory) ws) (leb (total_of (ranges_of ws)) (length output)) refl refl e
  where
    go : (a b : Bool) → sheet_fits (length memory) ws ≡ a → leb (total_of (ranges_of ws)) (length output) ≡ b
        → (pick a (pick b (joined_as ws memory output words) (refused_as NoRoom output words)) (refused_as BadSheet output words)).answer
        ≡ Ok size → Accepted ws memory output words
    go true true p q z = record { fit = p; room = leb-true (total_of (ranges_of ws)) (length output) q; is = rw (p, q) }
    go true false p q z = never (sym (ap is_refused z))
    go false b p q z = never (sym (ap is_refused z))

pub every_trip : EveryTrip
unfolding put
every_trip ws memory output words size e s js p k =
    rw y.is (go (is_covered ws k) refl)
  where
    y : Accepted ws memory output words
    y = accepted ws memory output words size e

    rs : List Range
    rs = ranges_of ws

    v : Bytes
    v = joined_byte memory ws

    after : List ℕ
    after = packed v rs ++ drop (length (packed v rs)) output

    same : is_covered js k ≡ is_covered ws k
    same =
        reordered_covers p k
        ∙ placed_covers rs 0 0 (ranged (length memory) ws y.fit).ascending k
        ∙ ranges_covered (length memory) ws y.fit k

    go : (b : Bool) → is_covered ws k ≡ b → in_order after s js k ≡ in_order memory s ws k
    go true c =
        agreed after v js s k (reordered_agrees after v p (placed_agree v rs [] (drop (length (packed v rs)) output) 0 refl)) (same ∙ c)
        ∙ sym (covered_byte memory ws s k c)
    go false c = stays after js s k (same ∙ c) ∙ sym (stays memory ws s k c)

-- ---- the rest of what the call was lent

pub words_length : (rs : List Range) (at : ℕ) → length (words_of (placed at rs)) ≡ 3 * length rs
unfolding words_of placed
words_length [] at = refl
words_length (r ∷ rs) at = omega (arith, words_length rs (at + size_of r))

-- rows are the writes that they were written for
rows_back : (ws : List SheetWrite) → rows write_from 3 (length ws) (words_of ws) ≡ ws
unfolding rows words_of
rows_back [] = refl
rows_back (w ∷ ws) = ap (λ (l : List SheetWrite). w ∷ l) (rows_back ws)

row_words : (ws : List SheetWrite) → length (words_of ws) ≡ length ws * 3
unfolding words_of
row_words [] = refl
row_words (w ∷ ws) = omega (arith, row_words ws)

pub words_back : (ws : List SheetWrite) → writes_in (words_of ws) ≡ ws
unfolding writes_in
words_back ws =
    let n : length (words_of ws) / 3 ≡ length ws = ap (λ (m : ℕ). m / 3) (row_words ws) ∙ mul-div_cancel (length ws) (omega arith) in
    rw n (rows_back ws)

module _ (new old : List ℕ) where
  front_length : length new ≤ length old → length (in_front new old) ≡ length old
  unfolding put
  front_length h = omega (arith, h, length-append new (drop (length new) old), length-drop (length new) old)

  front_rest : (i : ℕ) → length new ≤ i → get_or (in_front new old) i 0 ≡ get_or old i 0
  unfolding put
  front_rest i h =
      let z : length new + (i - length new) ≡ i = omega (arith, h) in
      ap (λ (j : ℕ). get_or (new ++ drop (length new) old) j 0) (sym z)
      ∙ get_or-append-add new (drop (length new) old) (i - length new) 0
      ∙ get_or-drop (length new) old (i - length new) 0
      ∙ ap (λ (j : ℕ). get_or old j 0) z

pub every_front : (ws : List SheetWrite) (memory output words : List ℕ) → Fronts ws memory output words
unfolding join_of
every_front ws memory output words = go (sheet_fits (length memory) ws) (leb (total_of (ranges_of ws)) (length output)) refl refl
  where
    v : Bytes
    v = joined_byte memory ws

    rs : List Range
    rs = ranges_of ws

    go : (a b : Bool) → sheet_fits (length memory) ws ≡ a → leb (total_of rs) (length output) ≡ b → Fronts ws memory output words
    go true true p q =
        let l = leb-true (total_of rs) (length output) q in
        let n = packed_length v rs in
        let m = words_length rs 0 in
        record {
          output_long = rw (p, q) (front_length (packed v rs) output (omega (arith, l, n)));
          output_rest = λ i h. rw (p, q) (front_rest (packed v rs) output i (omega (arith, h, n)));
          words_rest = λ i h. rw (p, q) (front_rest (words_of (placed 0 rs)) words i (omega (arith, h, m)));
          all_left = λ r e. never (ap is_refused (rw (p, q) at e));
        }
    go true false p q = record {
      output_long = rw (p, q);
      output_rest = λ i h. rw (p, q);
      words_rest = λ i h. rw (p, q);
      all_left = λ r e. rw (p, q) (refl, refl);
    }
    go false b p q = record {
      output_long = rw p;
      output_rest = λ i h. rw p;
      words_rest = λ i h. rw p;
      all_left = λ r e. rw p (refl, refl);
    }
