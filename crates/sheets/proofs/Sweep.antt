-- The sweep, stretch by stretch: the ranges that are joined before an offset, their bytes, and the row of the last one. Assumes nothing.
use mathlib.Core.Path.{◌≡◌, refl, sym, ap, ◌∙◌}
use mathlib.Core.Bool.{Bool, true, false}
use Rattle.std.specs.Prelude.{Option, Some, None}
use Rattle.std.specs.Option.{is_some}
use mathlib.Core.List.{List, [], ◌∷◌, ◌++◌}
use Prim.Native.Nat.{ℕ, suc, ◌+◌, ◌-◌, ◌<◌, ◌≤◌}
use native.Mathlib.Omega.{arith}
use lib.Dec.{ltb, leb}
use lib.ListN.{length, take, drop, get_or, length-append, length-drop}
use lib.Seq.{get_or-take, get_or-drop, length-take-le}
use borrow.Author.Tests.{ltb-true, leb-true}
use Rattle.arithmetic.specs.SettingsLaws.{and_left, and_right}
use Rattle.arithmetic.specs.Offsets.{range_of}
use Rattle.arithmetic.specs.Rows.{put as putRow}
use Rattle.arithmetic.specs.Content.{Bytes, window, list_ext, window_length, window_at}
use Rattle.arithmetic.specs.declared.offsets.Range.{Range}
use Rattle.vectors.specs.Vectors.{put}
use Rattle.vectors.specs.ByteLaws.{length_put, put_behind}
use Rattle.sheets.specs.Sheets.{write_as, no_write, row_of, words_of, byte_by, covers, sheet_fits, insert, ranges_of, total_of, joined_byte, packed}
use Rattle.sheets.specs.Sheets.{placed, in_front}
use Rattle.sheets.specs.Stretches.{Owned, Lies, PacksAs}
use Rattle.sheets.specs.OneTrip.{Ascends, is_covered}
use Rattle.sheets.specs.RangeLaws.{never, Ends, total_most}
use Rattle.sheets.specs.SheetLaws.{top, sheet_fits_lem, sound, Last, owned_none, owned_last, ranges_covered, ranges_end, ranged}
use Rattle.sheets.specs.TripLaws.{packed_length}
use Rattle.sheets.proofs.Clipped.{clipped, clipped_ascends, clipped_ends, clipped_few, clipped_total, clipped_none, clipped_all}
use Rattle.sheets.proofs.Clipped.{swept_past, swept_over, total_more, packed_more, Below, below_more, below_last}
use Rattle.sheets.proofs.Clipped.{insert_behind, insert_onto, row_behind, row_anew}
use Rattle.sheets.specs.declared.sheet.SheetWrite.{SheetWrite}
use Rattle.sheets.specs.declared.joining.Stretch.{Stretch}
use Rattle.sheets.specs.declared.joining.Size.{Size}

-- the write that an owner is
abbrev the_write : Option SheetWrite → SheetWrite
the_write (Some w) = w
the_write None = no_write

the_last : {u w : SheetWrite} → Some w ≡ Some u → w ≡ u
the_last e = ap (λ (o : Option SheetWrite). the_write o) e

pub some_owner : (o : Option SheetWrite) → true ≡ is_some o → (w : SheetWrite) × (o ≡ Some w)
some_owner (Some w) e = (w, refl)
some_owner None e = never (sym e)

pub no_owner : (o : Option SheetWrite) → false ≡ is_some o → o ≡ None
no_owner (Some w) e = never e
no_owner None e = refl

-- the ranges before `at`
abbrev pub So_far : List SheetWrite → ℕ → List Range
So_far ws at = clipped at (ranges_of ws)

module _ (n : ℕ) (ws : List SheetWrite) (fit : sheet_fits n ws ≡ true) where
  asc : Ascends 0 (ranges_of ws)
  asc = (ranged n ws fit).ascending

  pub none_yet : So_far ws 0 ≡ []
  none_yet = clipped_none (ranges_of ws)

  pub none_total : 0 ≡ total_of (So_far ws 0)
  unfolding total_of
  none_total = rw none_yet

  pub all_now : (at : ℕ) → top ≤ at → So_far ws at ≡ ranges_of ws
  all_now at h = clipped_all (ranges_of ws) 0 at asc (ends (ranges_of ws) (ranges_end n ws fit))
    where
      ends : (rs : List Range) → Ends top rs → Ends at rs
      ends [] e = tt
      ends (r ∷ rs) e = (omega (arith, h, e.0), ends rs e.1)

  -- at most as many bytes as lie before
  pub so_far_most : (at : ℕ) → total_of (So_far ws at) ≤ at
  so_far_most at = omega (arith, total_most (So_far ws at) 0 at (clipped_ascends (ranges_of ws) 0 at asc) (clipped_ends (ranges_of ws) at))

  module _ (at : ℕ) (s : Stretch) (o : Owned ws at s) where
    -- a stretch that nobody covers
    pub past : s.owner ≡ None → So_far ws s.end ≡ So_far ws at
    past h =
        swept_past (ranges_of ws) asc at s.end o.ahead
        (λ k a l. ranges_covered n ws fit k ∙ owned_none ws k (o.owned k a l ∙ h))

    -- and one that a write does
    module _ (w : SheetWrite) (h : s.owner ≡ Some w) where
      owned : (k : ℕ) → at ≤ k → k < s.end → (is_covered ws k ≡ true) × Last ws (Some w) k
      owned k a l = owned_last ws k w (o.owned k a l ∙ h)

      pub over : So_far ws s.end ≡ insert at s.end (So_far ws at)
      over = swept_over (ranges_of ws) asc at s.end o.ahead (λ k a l. ranges_covered n ws fit k ∙ (owned k a l).0)

      pub over_total : total_of (So_far ws s.end) ≡ total_of (So_far ws at) + (s.end - at)
      over_total =
          ap total_of over
          ∙ total_more at s.end o.ahead (So_far ws at) 0 (clipped_ascends (ranges_of ws) 0 at asc) (clipped_ends (ranges_of ws) at)

      pub total_over : (total : ℕ) → total ≡ total_of (So_far ws at) → total + (s.end - at) ≡ total_of (So_far ws s.end)
      total_over total e = rw e (sym over_total)

      -- which a number of 64 bits holds, in all
      pub over_most : (total : ℕ) → total ≡ total_of (So_far ws at) → total + (s.end - at) ≤ top
      over_most total e = omega (arith, e, over_total, so_far_most s.end, o.most)

      in_it : (k : ℕ) → at ≤ k → k < s.end → covers w k ≡ true
      in_it k a l = let p = (owned k a l).1 in rw (the_last p.is) p.its

      pub lies : Lies w at s.end n
      lies =
          let a = in_it at (omega arith) o.ahead in
          let b = in_it (s.end - 1) (omega (arith, o.ahead)) (omega (arith, o.ahead)) in
          let f = (owned at (omega arith) o.ahead).1 in
          let end = w.offset.0 + w.length in
          let to = ltb-true (s.end - 1) end (and_right (leb w.offset.0 (s.end - 1)) (ltb (s.end - 1) end) b) in
          record {
            from = leb-true w.offset.0 at (and_left (leb w.offset.0 at) (ltb at end) a);
            ahead = o.ahead;
            to = omega (arith, to, o.ahead);
            most = o.most;
            inside = (sound n w (rw (the_last f.is) (f.fit n (sheet_fits_lem n ws fit).all))).inside;
          }

      -- its bytes
      module _ (memory : List ℕ) (m : length memory ≡ n) where
        abbrev Its : List ℕ
        Its = take (s.end - at) (drop (w.start + (at - w.offset.0)) memory)

        its_length : length Its ≡ s.end - at
        its_length =
            let l = lies in
            length-take-le (s.end - at) (drop (w.start + (at - w.offset.0)) memory)
            (rw (length-drop (w.start + (at - w.offset.0)) memory) (omega (arith, m, l.from, l.ahead, l.to, l.inside)))

        its_bytes : window (joined_byte memory ws) at (s.end - at) ≡ Its
        unfolding joined_byte
        its_bytes =
            list_ext (window (joined_byte memory ws) at (s.end - at)) Its (window_length (joined_byte memory ws) at (s.end - at) ∙ sym its_length)
            (λ i h·. go i (omega (arith, h·, window_length (joined_byte memory ws) at (s.end - at))))
          where
            go : (i : ℕ) → i < s.end - at → get_or (window (joined_byte memory ws) at (s.end - at)) i 0 ≡ get_or Its i 0
            go i l =
                let z : w.start + (at + i - w.offset.0) ≡ w.start + (at - w.offset.0) + i = omega (arith, lies.from) in
                window_at (joined_byte memory ws) at (s.end - at) i l
                ∙ ap (λ (j : Option SheetWrite). byte_by memory j (at + i)) (o.owned (at + i) (omega arith) (omega (arith, l)) ∙ h)
                ∙ ap (λ (j : ℕ). get_or memory j 0) z
                ∙ sym
                (get_or-take (s.end - at) (drop (w.start + (at - w.offset.0)) memory) i 0 l
                ∙ get_or-drop (w.start + (at - w.offset.0)) memory i 0)

        pub over_bytes : packed (joined_byte memory ws) (So_far ws s.end) ≡ packed (joined_byte memory ws) (So_far ws at) ++ Its
        over_bytes =
            ap (packed (joined_byte memory ws)) over
            ∙ packed_more at s.end o.ahead (joined_byte memory ws) (So_far ws at) 0 (clipped_ascends (ranges_of ws) 0 at asc)
            (clipped_ends (ranges_of ws) at)
            ∙ ap (λ (bs : List ℕ). packed (joined_byte memory ws) (So_far ws at) ++ bs) its_bytes

-- ---- the last range, and its row

-- it ended before `at`; or it goes on up to there, from `first` on, behind the ranges qs
pub data Edge (rs : List Range) (count first place at : ℕ) : Bool → Type 0 where
  shut : Below at rs → count ≡ length rs → Edge rs count first place at false
  onto : (qs : List Range) → rs ≡ qs ++ range_of first at ∷ [] → Below first qs → first < at → place ≡ total_of qs → count ≡ suc (length qs)
      → Edge rs count first place at true

counted : {rs : List Range} {count first place at : ℕ} {goes : Bool} → Edge rs count first place at goes → count ≡ length rs
counted (shut b e) = e
counted {first = first} {at = at} (onto qs i b l p e) = rw i (e ∙ omega (arith, length-append qs (range_of first at ∷ [])))

low : {rs : List Range} {count first place at : ℕ} {goes : Bool} (end : ℕ) → at < end → Edge rs count first place at goes → Below end rs
low {rs = rs} {at = at} end l (shut b e) = below_more rs at end (omega (arith, l)) b
low {first = first} {at = at} end l (onto qs i b m p e) = rw i (below_last qs (range_of first at) first end (omega (arith, l, m)) l b)

-- the stretch is taken: from `first` on it is the range behind qs
pub record Taken (ws : List SheetWrite) (count first place at end : ℕ) : Type 0 where
  pub qs : List Range
  pub is : So_far ws end ≡ qs ++ range_of first end ∷ []
  pub before : Below first qs
  pub ahead : first < end
  pub at_place : place ≡ total_of qs
  pub row : count ≡ suc (length qs)
  pub put_there : (w₀ w : List ℕ) → w ≡ in_front (words_of (placed 0 (So_far ws at))) w₀
      → putRow 3 (count - 1) w (row_of (write_as first place (end - first))) ≡ in_front (words_of (placed 0 (So_far ws end))) w₀

module _ (n : ℕ) (ws : List SheetWrite) (fit : sheet_fits n ws ≡ true) (at : ℕ) (s : Stretch) (o : Owned ws at s) (u : SheetWrite) (h : s.owner ≡ Some u) where
  abbrev End : ℕ
  End = s.end

  its : So_far ws End ≡ insert at End (So_far ws at)
  its = over n ws fit at s o u h

  up : Ascends 0 (So_far ws at)
  up = clipped_ascends (ranges_of ws) 0 at (ranged n ws fit).ascending

  -- a range more
  pub taken_new : (count filled first place : ℕ) → Edge (So_far ws at) count first place at false → filled ≡ total_of (So_far ws at)
      → Taken ws (count + 1) at filled at End
  taken_new count filled first place (shut b e) f = record {
    qs = So_far ws at;
    is = i;
    before = b;
    ahead = o.ahead;
    at_place = f;
    row = omega (arith, e);
    put_there = λ w₀ w z.
        let c : count + 1 - 1 ≡ length (So_far ws at) = omega (arith, e) in
        rw (c, z, f, i) (row_behind (So_far ws at) (range_of at End) w₀);
  }
    where
      i : So_far ws End ≡ So_far ws at ++ range_of at End ∷ []
      i = its ∙ insert_behind at End o.ahead (So_far ws at) 0 up b

  -- the last one goes on
  pub taken_on : (count first place : ℕ) → Edge (So_far ws at) count first place at true → Taken ws count first place at End
  taken_on count first place (onto qs r b l p e) = record {
    qs = qs;
    is = i;
    before = b;
    ahead = omega (arith, l, o.ahead);
    at_place = p;
    row = e;
    put_there = λ w₀ w z.
        let c : count - 1 ≡ length qs = omega (arith, e) in
        rw (c, z, p, r, i) (row_anew qs (range_of first End) w₀ (range_of first at));
  }
    where
      i : So_far ws End ≡ qs ++ range_of first End ∷ []
      i = its ∙ ap (insert at End) r ∙ insert_onto at End o.ahead first l qs 0 (rw r at up) b

  -- its row is one of 64
  pub row_there : {count first place : ℕ} → Taken ws count first place at End → (0 < count) × (count ≤ 64)
  row_there {count} {first} t =
      let k : length (So_far ws End) ≡ length t.qs + 1 = ap length t.is ∙ length-append t.qs (range_of first End ∷ []) in
      let f = clipped_few (ranges_of ws) End in
      let g = (ranged n ws fit).few in
      let m = (sheet_fits_lem n ws fit).few in
      (omega (arith, t.row), omega (arith, t.row, k, f, g, m))

-- where the last range starts, and its bytes, while it may go on
abbrev pub first_of : Option SheetWrite → ℕ
first_of (Some w) = w.offset.0
first_of None = 0

abbrev pub place_of : Option SheetWrite → ℕ
place_of (Some w) = w.start
place_of None = 0

-- ---- packing

abbrev pub size_as : ℕ → ℕ → Size
size_as ranges bytes = record { ranges = ranges; bytes = bytes }

size_is : (a b : ℕ) {c d : ℕ} → a ≡ c → b ≡ d → size_as a b ≡ size_as c d
size_is a b p q = λ i. size_as (p i) (q i)

pub record Packing (ws : List SheetWrite) (memory out₀ w₀ : List ℕ) (count filled first place at : ℕ) (goes : Bool) (out w : List ℕ) : Type 0 where
  pub fit : sheet_fits (length memory) ws ≡ true
  pub room : total_of (ranges_of ws) ≤ length out₀
  pub most : at ≤ top
  pub full : filled ≡ total_of (So_far ws at)
  pub bytes : out ≡ in_front (packed (joined_byte memory ws) (So_far ws at)) out₀
  pub rows : w ≡ in_front (words_of (placed 0 (So_far ws at))) w₀
  pub edge : Edge (So_far ws at) count first place at goes

pub packing_none : (ws : List SheetWrite) (memory out₀ w₀ : List ℕ) → sheet_fits (length memory) ws ≡ true
    → total_of (ranges_of ws) ≤ length out₀ → Packing ws memory out₀ w₀ 0 0 0 0 0 false out₀ w₀
unfolding packed put words_of placed
packing_none ws memory out₀ w₀ f r =
    let z = none_yet (length memory) ws f in
    record {
      fit = f;
      room = r;
      most = omega arith;
      full = none_total (length memory) ws f;
      bytes = rw z;
      rows = rw z;
      edge = rw z (shut tt refl);
    }

module _ {ws : List SheetWrite} {memory out₀ w₀ : List ℕ} {count filled first place at : ℕ} {goes : Bool} {out w : List ℕ}
    (p : Packing ws memory out₀ w₀ count filled first place at goes out w) where
  abbrev v : Bytes
  v = joined_byte memory ws

  full_bytes : length (packed v (So_far ws at)) ≡ filled
  full_bytes = packed_length v (So_far ws at) ∙ sym p.full

  pub out_long : length out ≡ length out₀
  out_long =
      rw p.bytes
      (length_put out₀ 0 (packed v (So_far ws at)) (omega (arith, full_bytes, p.full, clipped_total (ranges_of ws) at, p.room)))

  pub count_most : count ≤ 64
  count_most =
      let f = clipped_few (ranges_of ws) at in
      let g = (ranged (length memory) ws p.fit).few in
      omega (arith, counted p.edge, f, g, (sheet_fits_lem (length memory) ws p.fit).few)

  module _ (s : Stretch) (o : Owned ws at s) where
    pub packing_past : {f l : ℕ} → s.owner ≡ None → Packing ws memory out₀ w₀ count filled f l s.end false out w
    packing_past h =
        let z = past (length memory) ws p.fit at s o h in
        record {
          fit = p.fit;
          room = p.room;
          most = o.most;
          full = p.full ∙ ap total_of (sym z);
          bytes = p.bytes ∙ ap (λ (rs : List Range). in_front (packed v rs) out₀) (sym z);
          rows = p.rows ∙ ap (λ (rs : List Range). in_front (words_of (placed 0 rs)) w₀) (sym z);
          edge = rw z (shut (low s.end o.ahead p.edge) (counted p.edge));
        }

    module _ (g : SheetWrite) (h : s.owner ≡ Some g) where
      -- the output has room for the stretch
      pub its_room : filled + (s.end - at) ≤ length out
      its_room =
          let t = total_over (length memory) ws p.fit at s o g h filled p.full in
          omega (arith, t, clipped_total (ranges_of ws) s.end, p.room, out_long)

      pub its_most : filled + (s.end - at) ≤ top
      its_most = over_most (length memory) ws p.fit at s o g h filled p.full

      -- its write lies in the data
      pub its_lies : Lies g at s.end (length memory)
      its_lies = lies (length memory) ws p.fit at s o g h

      -- it starts a range, or goes on with the last one
      pub packing_new : {c f l : ℕ} → goes ≡ false → c ≡ count + 1 → f ≡ at → l ≡ filled → Taken ws c f l at s.end
      packing_new e i j k = rw (i, j, k) (taken_new (length memory) ws p.fit at s o g h count filled first place (rw e at p.edge) p.full)

      pub packing_on : {c f l : ℕ} → goes ≡ true → c ≡ count → f ≡ first → l ≡ place → Taken ws c f l at s.end
      packing_on e i j k = rw (i, j, k) (taken_on (length memory) ws p.fit at s o g h count first place (rw e at p.edge))

      module _ {c f l : ℕ} (t : Taken ws c f l at s.end) where
        pub its_row : c - 1 < 64
        its_row = let r = row_there (length memory) ws p.fit at s o g h t in omega (arith, r.0, r.1)

        abbrev Its_bytes : List ℕ
        Its_bytes = take (s.end - at) (drop (g.start + (at - g.offset.0)) memory)

        pub packing_over : (out· w· : List ℕ) → out· ≡ put out filled Its_bytes → w· ≡ putRow 3 (c - 1) w (row_of (write_as f l (s.end - f)))
            → Packing ws memory out₀ w₀ c (filled + (s.end - at)) f l s.end true out· w·
        packing_over out· w· x y =
            let z : 0 + length (packed v (So_far ws at)) ≡ filled = omega (arith, full_bytes) in
            let b : put (put out₀ 0 (packed v (So_far ws at))) filled Its_bytes ≡ put out₀ 0 (packed v (So_far ws at) ++ Its_bytes) =
            rw z at (put_behind out₀ 0 (packed v (So_far ws at)) Its_bytes (omega arith)) in
            record {
              fit = p.fit;
              room = p.room;
              most = o.most;
              full = total_over (length memory) ws p.fit at s o g h filled p.full;
              bytes =
                  x
                  ∙ ap (λ (bs : List ℕ). put bs filled Its_bytes) p.bytes
                  ∙ b
                  ∙ ap (λ (bs : List ℕ). put out₀ 0 bs) (sym (over_bytes (length memory) ws p.fit at s o g h memory refl));
              rows = y ∙ t.put_there w₀ w p.rows;
              edge = onto t.qs t.is t.before t.ahead t.at_place t.row;
            }

  pub packing_all : top ≤ at → PacksAs ws memory (size_as count filled) out₀ w₀ out w
  packing_all h =
      let z = all_now (length memory) ws p.fit at h in (
        size_is count filled (counted p.edge ∙ ap length z) (p.full ∙ ap total_of z),
        p.bytes ∙ ap (λ (rs : List Range). in_front (packed v rs) out₀) z,
        p.rows ∙ ap (λ (rs : List Range). in_front (words_of (placed 0 rs)) w₀) z,
      )
