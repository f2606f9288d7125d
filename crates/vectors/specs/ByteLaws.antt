-- Laws of the bytes of segments: lengths, joined lists, what scatter and fill keep, and which byte stands where. Assumes nothing.
use Rattle.std.specs.Prelude.{◌≡◌, refl, Bool, true, false, ◌||◌, ◌⊎◌, ℕ, zero, suc, ◌+◌, ◌-◌, ◌≤◌, ◌<◌, get_or, replicate}
use Rattle.std.proofs.Math.Path.{sym, ap, subst}
use Rattle.std.proofs.Common.{◌∙◌, inl, inr, ⊎_elim, zero-add, suc-add, length-append, length-take, drop_of_length-le, take-append-drop}
use Rattle.std.proofs.Common.{take_all, take_at, drop_at, get_or-take, get_or-drop, get_or-append-add, take-add, lt-ltb, le-ltb, le-leb}
use Rattle.std.proofs.Math.Bool.{or-true}
use mathlib.Core.List.{List, [], ◌∷◌, ◌++◌, append_assoc, append-nil}
use Rattle.std.proofs.Math.Decide.{dec_lt}
use native.Mathlib.Omega.{arith}
use Rattle.std.proofs.Math.ListN.{length, take, drop, length-drop, get_or-append}
use Rattle.std.proofs.lemmas.List.{length-replicate, replicate-append-replicate, get_or-replicate, take-append-le}
use Rattle.std.proofs.Math.Seq.{take-take, take-nil, drop-drop, take-append_seam, drop-append-add, length-take-le}
use borrow.Rule.Slice.PartMut.{put_mid}
use Rattle.arithmetic.specs.Loops.{or_first}
use Rattle.arithmetic.specs.SettingsLaws.{and_left, and_right}
use Rattle.vectors.specs.declared.vector.Segment.{Segment}
use Rattle.vectors.specs.Vectors.{size_of, lies_in, all_segments, any_segment, put, bytes_of, scatter_of, fill_of, shares, overlap_of}
use Rattle.vectors.specs.Vectors.{self_overlap_of, seam, glued}
use Rattle.vectors.specs.Places.{in_segment, covered, place_of}
use Rattle.vectors.specs.SegmentLaws.{Lies, lies, size_append}
use Rattle.vectors.specs.SeamLaws.{Touching, seam_cases, glued_size}
use Rattle.vectors.specs.OverlapLaws.{or_left, or_right, or_cases, apart, inside, outside}

-- ---- put

module _ {A : Type 0} where
  take_drop : (k n : ℕ) (l : List A) → take n (drop k l) ≡ drop k (take (k + n) l)
  take_drop zero n l = rw zero-add
  take_drop (suc k) n [] = take-nil n ∙ sym (ap (λ (t : List A). drop (suc k) t) (take-nil (suc k + n)))
  take_drop (suc k) n (a ∷ l) = rw suc-add (take_drop k n l)

  module _ (l : List A) (a : ℕ) (bs : List A) (h : a + length bs ≤ length l) where
    front : length (take a l ++ bs) ≡ a + length bs
    front = length-append (take a l) bs ∙ ap (λ (n : ℕ). n + length bs) (length-take-le a l (omega arith))

    pub length_put : length (put l a bs) ≡ length l
    unfolding put
    length_put = simp (length-append, length-drop, length-take-le a l (omega arith)) (omega arith)

    pub take_put : take (a + length bs) (put l a bs) ≡ take a l ++ bs
    unfolding put
    take_put = rw (← append_assoc) (take_at (take a l ++ bs) (drop (length bs) (drop a l)) (a + length bs) front)

    -- what was put is there
    pub put_same : take (length bs) (drop a (put l a bs)) ≡ bs
    unfolding put
    put_same =
        rw (drop_at (take a l) (bs ++ drop (length bs) (drop a l)) a (length-take-le a l (omega arith)))
        (take-append_seam bs (drop (length bs) (drop a l)))

    -- what lies apart from it is as it was
    pub put_before : (s n : ℕ) → s + n ≤ a → take n (drop s (put l a bs)) ≡ take n (drop s l)
    unfolding put
    put_before s n k =
        let e : s + n ≤ length (take a l) = omega (arith, length-take-le a l (omega arith)) in
        take_drop s n (take a l ++ (bs ++ drop (length bs) (drop a l)))
        ∙ ap (λ (t : List A). drop s t) (take-append-le (s + n) (take a l) (bs ++ drop (length bs) (drop a l)) e ∙ take-take (s + n) a l k)
        ∙ sym (take_drop s n l)

    pub put_after : (s n : ℕ) → a + length bs ≤ s → take n (drop s (put l a bs)) ≡ take n (drop s l)
    unfolding put
    put_after s n k =
        let e : s ≡ length (take a l ++ bs) + (s - (a + length bs)) = omega (arith, front) in
        let f : a + length bs + (s - (a + length bs)) ≡ s = omega arith in
        ap (λ (t : List A). take n t)
        ((rw (← append_assoc) (ap (λ (i : ℕ). drop i ((take a l ++ bs) ++ drop (length bs) (drop a l))) e))
        ∙ drop-append-add (take a l ++ bs) (drop (length bs) (drop a l)) (s - (a + length bs))
        ∙ ap (λ (t : List A). drop (s - (a + length bs)) t) (drop-drop (length bs) a l)
        ∙ drop-drop (s - (a + length bs)) (a + length bs) l
        ∙ ap (λ (i : ℕ). drop i l) f)

-- what a copy leaves of a part as long as its source
pub copied_whole : (p q : List ℕ) → length p ≡ length q → take (length p) q ++ drop (length q) p ≡ q
copied_whole p q e = rw (take_all (length p) q (omega arith), drop_of_length-le p {i = length q} (omega arith)) (append-nil q)

-- the part from a on comes back from a copy of the part of d from f on, n bytes each
pub copied_back : (s d : List ℕ) (a n f : ℕ) (ys : List ℕ) → a + n ≤ length s → f + n ≤ length d
    → ys
    ≡ take (length (take (a + n - a) (drop a s))) (take (f + n - f) (drop f d))
    ++ drop (length (take (f + n - f) (drop f d))) (take (a + n - a) (drop a s))
    → put_mid a (a + n - a) s ys ≡ put s a (take n (drop f d))
unfolding put
copied_back s d a n f ys g h e =
    let k : f + n - f ≡ n = omega arith in
    let m : a + n - a ≡ n = omega arith in
    let l : length (take n (drop f d)) ≡ n = length-take-le n (drop f d) (rw length-drop (omega arith)) in
    let p : length (take n (drop a s)) ≡ n = length-take-le n (drop a s) (rw length-drop (omega arith)) in
    let w : ys ≡ take n (drop f d) = (rw (k, m) at e) ∙ copied_whole (take n (drop a s)) (take n (drop f d)) (p ∙ sym l) in
    rw (m, w, l)

-- two runs of bytes, the second put behind the first, are one
pub put_behind : (l : List ℕ) (a : ℕ) (bs cs : List ℕ) → a ≤ length l → put (put l a bs) (a + length bs) cs ≡ put l a (bs ++ cs)
unfolding put
put_behind l a bs cs h =
    let front : List ℕ = take a l ++ bs in
    let rest : List ℕ = drop (length bs) (drop a l) in
    let n : length front ≡ a + length bs = length-append (take a l) bs ∙ ap (λ (k : ℕ). k + length bs) (length-take-le a l h) in
    let e : take a l ++ (bs ++ rest) ≡ front ++ rest = sym (append_assoc (take a l) bs rest) in
    let d : drop (length cs) rest ≡ drop (length (bs ++ cs)) (drop a l) =
    drop-drop (length cs) (length bs) (drop a l) ∙ ap (λ (k : ℕ). drop k (drop a l)) (sym (length-append bs cs)) in
    ap (λ (t : List ℕ). take (a + length bs) t ++ (cs ++ drop (length cs) (drop (a + length bs) t))) e
    ∙ (rw (take_at front rest (a + length bs) n, drop_at front rest (a + length bs) n)
    (append_assoc (take a l) bs (cs ++ drop (length cs) rest)
    ∙ ap (λ (t : List ℕ). take a l ++ t) (sym (append_assoc bs cs (drop (length cs) rest)) ∙ ap (λ (t : List ℕ). (bs ++ cs) ++ t) d)))

-- one byte, as a run of one
one : (l m : List ℕ) (k : ℕ) → take 1 (drop k l) ≡ take 1 (drop k m) → get_or l k 0 ≡ get_or m k 0
one l m k e =
    let a = get_or-take 1 (drop k l) 0 0 (omega arith) ∙ get_or-drop k l 0 0 in
    let b = get_or-take 1 (drop k m) 0 0 (omega arith) ∙ get_or-drop k m 0 0 in
    let z : k + 0 ≡ k = omega arith in
    ap (λ (i : ℕ). get_or l i 0) (sym z) ∙ sym a ∙ ap (λ (t : List ℕ). get_or t 0 0) e ∙ b ∙ ap (λ (i : ℕ). get_or m i 0) z

module _ (l : List ℕ) (a : ℕ) (bs : List ℕ) (h : a + length bs ≤ length l) (k : ℕ) where
  -- at an index off the bytes put
  pub put_off : (k < a) ⊎ (a + length bs ≤ k) → get_or (put l a bs) k 0 ≡ get_or l k 0
  put_off o = one (put l a bs) l k (⊎_elim (λ x. put_before l a bs h k 1 (omega arith)) (λ x. put_after l a bs h k 1 x) o)

  -- and at one of them
  pub put_on : a ≤ k → k < a + length bs → get_or (put l a bs) k 0 ≡ get_or bs (k - a) 0
  put_on x y =
      let e : a + (k - a) ≡ k = omega arith in
      ap (λ (i : ℕ). get_or (put l a bs) i 0) (sym e)
      ∙ sym (get_or-drop a (put l a bs) (k - a) 0)
      ∙ sym (get_or-take (length bs) (drop a (put l a bs)) (k - a) 0 (omega arith))
      ∙ ap (λ (t : List ℕ). get_or t (k - a) 0) (put_same l a bs h)

-- ---- the bytes of segments

pub bytes_append : (d : List ℕ) (ps qs : List Segment) → bytes_of d (ps ++ qs) ≡ bytes_of d ps ++ bytes_of d qs
unfolding bytes_of
bytes_append d [] qs = refl
bytes_append d (p ∷ ps) qs = rw (bytes_append d ps qs) (sym (append_assoc (take p.length (drop p.start d)) (bytes_of d ps)
    (bytes_of d qs)))

-- the first of the segments lies in the data, and so do the others
head_lies : (n : ℕ) (p : Segment) (ps : List Segment) → all_segments (lies_in n) (p ∷ ps) ≡ true → Lies n p
unfolding all_segments
head_lies n p ps e = lies n p (and_left (lies_in n p) (all_segments (lies_in n) ps) e)

rest_lies : (n : ℕ) (p : Segment) (ps : List Segment) → all_segments (lies_in n) (p ∷ ps) ≡ true → all_segments (lies_in n) ps ≡ true
unfolding all_segments
rest_lies n p ps e = and_right (lies_in n p) (all_segments (lies_in n) ps) e

part_length : (d : List ℕ) (p : Segment) → Lies (length d) p → length (take p.length (drop p.start d)) ≡ p.length
part_length d p l = length-take-le p.length (drop p.start d) (simp length-drop (omega (arith, l.ends)))

pub bytes_length : (d : List ℕ) (ps : List Segment) → all_segments (lies_in (length d)) ps ≡ true → length (bytes_of d ps) ≡ size_of ps
unfolding bytes_of size_of
bytes_length d [] e = refl
bytes_length d (p ∷ ps) e =
    length-append (take p.length (drop p.start d)) (bytes_of d ps)
    ∙ (omega (arith, part_length d p (head_lies (length d) p ps e), bytes_length d ps (rest_lies (length d) p ps e)))

-- byte i of the segments is the data's byte at their place i
pub bytes_at_lem : (d : List ℕ) (ps : List Segment) (i : ℕ) → all_segments (lies_in (length d)) ps ≡ true → i < size_of ps →
    get_or (bytes_of d ps) i 0 ≡ get_or d (place_of ps i) 0
unfolding bytes_of size_of place_of
bytes_at_lem d [] i e h = absurd (omega arith)
bytes_at_lem d (p ∷ ps) i e h =
    let x = take p.length (drop p.start d) in
    let n : length x ≡ p.length = part_length d p (head_lies (length d) p ps e) in
    elim (dec_lt i p.length) [
      | yes l ↦
          get_or-append x (bytes_of d ps) 0 i (omega (arith, n))
          ∙ get_or-take p.length (drop p.start d) i 0 l
          ∙ get_or-drop p.start d i 0
          ∙ (rw (lt-ltb i p.length l))
      | no l ↦
          let g : p.length ≤ i = omega arith in
          let j : i ≡ length x + (i - p.length) = omega (arith, n) in
          ap (λ (k : ℕ). get_or (x ++ bytes_of d ps) k 0) j
          ∙ get_or-append-add x (bytes_of d ps) (i - p.length) 0
          ∙ bytes_at_lem d ps (i - p.length) (rest_lies (length d) p ps e) (omega arith)
          ∙ (rw (le-ltb i p.length g))
    ]

-- ---- scatter and fill, one segment: the bytes of a run no longer than the segment, put at its start

module _ (l : List ℕ) (p : Segment) (ps : List Segment) (bs : List ℕ) (e : all_segments (lies_in (length l)) (p ∷ ps) ≡ true)
    (m : length bs ≤ p.length) where
  fits : p.start + length bs ≤ length l
  fits = omega (arith, (head_lies (length l) p ps e).ends)

  still : all_segments (lies_in (length (put l p.start bs))) ps ≡ true
  still = rw (length_put l p.start bs fits) (rest_lies (length l) p ps e)

  kept : (k : ℕ) → in_segment k p ≡ false → get_or (put l p.start bs) k 0 ≡ get_or l k 0
  kept k o = put_off l p.start bs fits k (⊎_elim (λ x. inl x) (λ x. inr (omega arith)) (outside k p o))

-- how many bytes a segment takes of src
taken : (p : Segment) (src : List ℕ) → length (take p.length src) ≤ p.length
taken p src = omega (arith, length-take p.length src)

filling : (p : Segment) (b : ℕ) → length (replicate p.length b) ≤ p.length
filling p b = omega (arith, length-replicate p.length b)

pub scatter_length : (l : List ℕ) (ps : List Segment) (src : List ℕ) → all_segments (lies_in (length l)) ps ≡ true →
    length (scatter_of l ps src) ≡ length l
unfolding scatter_of
scatter_length l [] src e = refl
scatter_length l (p ∷ ps) src e =
    let bs = take p.length src in
    scatter_length (put l p.start bs) ps (drop p.length src) (still l p ps bs e (taken p src))
    ∙ length_put l p.start bs (fits l p ps bs e (taken p src))

-- a fill is a scatter of one byte over and over
pub fill_is : (l : List ℕ) (ps : List Segment) (b : ℕ) → fill_of l ps b ≡ scatter_of l ps (replicate (size_of ps) b)
unfolding fill_of scatter_of size_of
fill_is l [] b = refl
fill_is l (p ∷ ps) b =
    let n = p.length in
    let m = size_of ps in
    let r = length-replicate n b in
    fill_is (put l p.start (replicate n b)) ps b
    ∙ (rw (← replicate-append-replicate n m b, take_at (replicate n b) (replicate m b) n r, drop_at (replicate n b) (replicate m b) n r))

pub fill_length : (l : List ℕ) (ps : List Segment) (b : ℕ) → all_segments (lies_in (length l)) ps ≡ true
    → length (fill_of l ps b) ≡ length l
fill_length l ps b e = ap length (fill_is l ps b) ∙ scatter_length l ps (replicate (size_of ps) b) e

-- off the segments every byte is as it was
pub scatter_off : (l : List ℕ) (ps : List Segment) (src : List ℕ) (k : ℕ) → all_segments (lies_in (length l)) ps ≡ true
    → covered ps k ≡ false
    → get_or (scatter_of l ps src) k 0 ≡ get_or l k 0
unfolding scatter_of covered any_segment
scatter_off l [] src k e o = refl
scatter_off l (p ∷ ps) src k e o =
    let bs = take p.length src in
    scatter_off (put l p.start bs) ps (drop p.length src) k (still l p ps bs e (taken p src))
    (or_right (in_segment k p) (any_segment (in_segment k) ps) o)
    ∙ kept l p ps bs e (taken p src) k (or_left (in_segment k p) (any_segment (in_segment k) ps) o)

pub fill_off : (l : List ℕ) (ps : List Segment) (b : ℕ) (k : ℕ) → all_segments (lies_in (length l)) ps ≡ true → covered ps k ≡ false →
    get_or (fill_of l ps b) k 0 ≡ get_or l k 0
fill_off l ps b k e o = ap (λ (t : List ℕ). get_or t k 0) (fill_is l ps b) ∙ scatter_off l ps (replicate (size_of ps) b) k e o

-- on them every byte is the one filled in
pub fill_on : (l : List ℕ) (ps : List Segment) (b : ℕ) (k : ℕ) → all_segments (lies_in (length l)) ps ≡ true → covered ps k ≡ true →
    get_or (fill_of l ps b) k 0 ≡ b
unfolding fill_of covered any_segment
fill_on l [] b k e o = absurd (let z : ◌≡◌ {A = ℕ} 0 1 = cc in omega arith)
fill_on l (p ∷ ps) b k e o = go (any_segment (in_segment k) ps) refl
    (λ t. fill_on (put l p.start (replicate p.length b)) ps b k (still l p ps (replicate p.length b) e (filling p b)) t)
  where
    bs : List ℕ
    bs = replicate p.length b

    here : any_segment (in_segment k) ps ≡ false → (in_segment k p || any_segment (in_segment k) ps) ≡ true → in_segment k p ≡ true
    here f t = or_first (in_segment k p) (rw f at t)

    go : (t : Bool) → any_segment (in_segment k) ps ≡ t
        → (any_segment (in_segment k) ps ≡ true → get_or (fill_of (put l p.start bs) ps b) k 0
        ≡ b) → get_or (fill_of (put l p.start bs) ps b) k 0 ≡ b
    go true t f = f t
    go false t f =
        let i = inside k p (here t o) in
        let n = length-replicate p.length b in
        fill_off (put l p.start bs) ps b k (still l p ps bs e (filling p b)) t
        ∙ put_on l p.start bs (fits l p ps bs e (filling p b)) k i.0 (omega (arith, i.1))
        ∙ get_or-replicate p.length (k - p.start) b 0 (omega (arith, i))

-- ---- gather after scatter

-- a segment apart from the others keeps its bytes
scatter_apart : (l : List ℕ) (q : Segment) (ps : List Segment) (src : List ℕ) → 0 < q.length → all_segments (lies_in (length l)) ps ≡ true →
    any_segment (shares q) ps ≡ false
    → take q.length (drop q.start (scatter_of l ps src)) ≡ take q.length (drop q.start l)
unfolding scatter_of any_segment
scatter_apart l q [] src z e o = refl
scatter_apart l q (p ∷ ps) src z e o =
    let bs = take p.length src in
    let t = taken p src in
    let f = fits l p ps bs e t in
    scatter_apart (put l p.start bs) q ps (drop p.length src) z (still l p ps bs e t)
    (or_right (shares q p) (any_segment (shares q) ps) o)
    ∙ ⊎_elim (λ k. put_before l p.start bs f q.start q.length k)
    (λ k. put_after l p.start bs f q.start q.length (omega arith))
    (apart q p z (head_lies (length l) p ps e).positive (or_left (shares q p) (any_segment (shares q) ps) o))

-- and so do all the segments of a list that does not overlap the ones written
pub scatter_others : (l : List ℕ) (qs ps : List Segment) (src : List ℕ) → all_segments (lies_in (length l)) qs ≡ true →
    all_segments (lies_in (length l)) ps ≡ true → overlap_of qs ps ≡ false
    → bytes_of (scatter_of l ps src) qs ≡ bytes_of l qs
unfolding bytes_of overlap_of any_segment
scatter_others l [] ps src d e o = refl
scatter_others l (q ∷ qs) ps src d e o =
    let a = any_segment (shares q) ps in
    let b = any_segment (λ p. any_segment (shares p) ps) qs in
    rw (
      scatter_apart l q ps src (head_lies (length l) q qs d).positive e (or_left a b o),
      scatter_others l qs ps src
          (rest_lies (length l) q qs d) e (or_right a b o),
    )

-- what is scattered over segments that do not overlap is gathered from them again
pub gather_scatter : (l : List ℕ) (ps : List Segment) (src : List ℕ) → all_segments (lies_in (length l)) ps ≡ true
    → self_overlap_of ps ≡ false
    → length src ≡ size_of ps
    → bytes_of (scatter_of l ps src) ps ≡ src
unfolding scatter_of bytes_of size_of self_overlap_of
gather_scatter l [] [] h d e = refl
gather_scatter l [] (x ∷ src) h d e = absurd (let z : suc (length src) ≡ 0 = e in omega arith)
gather_scatter l (p ∷ ps) src h d e =
    let n : ℕ = p.length in
    let bs = take n src in
    let m : List ℕ = put l p.start bs in
    let s : length bs ≡ n = length-take-le n src (omega arith) in
    let k : length (drop n src) ≡ size_of ps = length-drop n src ∙ (omega arith) in
    let t = still l p ps bs h (taken p src) in
    let first : take n (drop p.start (scatter_of m ps (drop n src))) ≡ bs =
    scatter_apart m p ps (drop n src) (head_lies (length l) p ps h).positive t (or_left (any_segment (shares p) ps) (self_overlap_of ps) d)
    ∙ (rw s at (put_same l p.start bs (fits l p ps bs h (taken p src)))) in
    ap (λ (x : List ℕ). x ++ bytes_of (scatter_of m ps (drop n src)) ps) first
    ∙ ap (λ (x : List ℕ). bs ++ x) (gather_scatter m ps (drop n src) t (or_right (any_segment (shares p) ps) (self_overlap_of ps) d) k)
    ∙ take-append-drop n src

-- byte i of src then stands at place i
pub scatter_at : (l : List ℕ) (ps : List Segment) (src : List ℕ) (i : ℕ) → all_segments (lies_in (length l)) ps ≡ true
    → self_overlap_of ps ≡ false → length src ≡ size_of ps → i < size_of ps
    → get_or (scatter_of l ps src) (place_of ps i) 0 ≡ get_or src i 0
scatter_at l ps src i e d n h =
    let long = scatter_length l ps src e in
    sym (bytes_at_lem (scatter_of l ps src) ps i (rw long e) h) ∙ ap (λ (t : List ℕ). get_or t i 0) (gather_scatter l ps src e d n)

-- a place lies in one of the segments
pub place_covered : (ps : List Segment) (i : ℕ) → i < size_of ps → covered ps (place_of ps i) ≡ true
unfolding covered any_segment size_of place_of in_segment
place_covered [] i h = absurd (omega arith)
place_covered (p ∷ ps) i h = elim (dec_lt i p.length) [
  | yes l ↦
      let a : p.start ≤ p.start + i = omega arith in
      let b : p.start + i < p.start + p.length = omega arith in
      rw (lt-ltb i p.length l) (rw (le-leb p.start (p.start + i) a, lt-ltb (p.start + i) (p.start + p.length) b))
  | no l ↦
      let g : p.length ≤ i = omega arith in
      let e : place_of (p ∷ ps) i ≡ place_of ps (i - p.length) = rw (le-ltb i p.length g) refl in
      let c : any_segment (in_segment (place_of ps (i - p.length))) ps ≡ true = place_covered ps (i - p.length) (omega arith) in
      subst (λ (k : ℕ). covered (p ∷ ps) k ≡ true) (sym e)
      (ap (λ (b : Bool). in_segment (place_of ps (i - p.length)) p || b) c ∙ or-true (in_segment (place_of ps (i - p.length)) p))
]

-- and each index in one of them is a place
pub covered_place : (ps : List Segment) (k : ℕ) → covered ps k ≡ true → (i : ℕ) × (i < size_of ps) × (place_of ps i ≡ k)
unfolding covered any_segment size_of place_of
covered_place [] k e = absurd (let z : ◌≡◌ {A = ℕ} 0 1 = cc in omega arith)
covered_place (p ∷ ps) k e = ⊎_elim (λ a. here a) (λ b. there (covered_place ps k b))
    (or_cases (in_segment k p) (any_segment (in_segment k) ps) e)
  where
    here : in_segment k p ≡ true → (i : ℕ) × (i < size_of (p ∷ ps)) × (place_of (p ∷ ps) i ≡ k)
    here a =
        let h = inside k p a in
        let l : k - p.start < p.length = omega (arith, h) in
        (k - p.start, omega arith, rw (lt-ltb (k - p.start) p.length l) (omega (arith, h)))

    there : (i : ℕ) × (i < size_of ps) × (place_of ps i ≡ k) → (i : ℕ) × (i < size_of (p ∷ ps)) × (place_of (p ∷ ps) i ≡ k)
    there r =
        let l : p.length ≤ p.length + r.0 = omega arith in
        let m : p.length + r.0 - p.length ≡ r.0 = omega arith in
        (p.length + r.0, omega (arith, r.1), rw (le-ltb (p.length + r.0) p.length l, m) r.2)

-- ---- segments glued

-- bytes go where they went into the two lists
pub scatter_glued : (l : List ℕ) (ps qs : List Segment) (src : List ℕ) → all_segments (lies_in (length l)) ps ≡ true
    → size_of ps ≤ length src
    → scatter_of l (glued ps qs) src ≡ scatter_of l (ps ++ qs) src
unfolding scatter_of glued seam size_of
scatter_glued l [] qs src e h = refl
scatter_glued l (p ∷ []) qs src e h = at_seam qs
  where
    at_seam : (qs : List Segment) → scatter_of l (seam p qs) src ≡ scatter_of l (p ∷ qs) src
    at_seam [] = refl
    at_seam (q ∷ qs) = ⊎_elim touching (λ a. rw a.is) (seam_cases p q qs)
      where
        touching : Touching p q qs → scatter_of l (seam p (q ∷ qs)) src ≡ scatter_of l (p ∷ (q ∷ qs)) src
        touching t =
            let bs = take p.length src in
            let n : length bs ≡ p.length = length-take-le p.length src (omega arith) in
            let k : p.start + length bs ≡ q.start = omega (arith, t.ends) in
            let a : p.start ≤ length l = omega (arith, (head_lies (length l) p [] e).ends) in
            let cs = take q.length (drop p.length src) in
            let m : List ℕ = put (put l p.start bs) q.start cs in
            let x : m ≡ put l p.start (take (p.length + q.length) src) =
            ap (λ (i : ℕ). put (put l p.start bs) i cs) (sym k)
            ∙ put_behind l p.start bs cs a
            ∙ ap (put l p.start) (sym (take-add p.length q.length src)) in
            rw t.is (ap (λ (y : List ℕ). scatter_of y qs (drop (p.length + q.length) src)) (sym x)
            ∙ ap (scatter_of m qs) (sym (drop-drop q.length p.length src)))
scatter_glued l (p ∷ (r ∷ ps)) qs src e h =
    let bs = take p.length src in
    scatter_glued (put l p.start bs) (r ∷ ps) qs (drop p.length src) (still l p (r ∷ ps) bs e (taken p src))
    (simp length-drop (omega arith))

pub fill_glued : (l : List ℕ) (ps qs : List Segment) (b : ℕ) → all_segments (lies_in (length l)) ps ≡ true
    → fill_of l (glued ps qs) b ≡ fill_of l (ps ++ qs) b
fill_glued l ps qs b e =
    let n : size_of (glued ps qs) ≡ size_of (ps ++ qs) = glued_size qs ps ∙ sym (size_append ps qs) in
    let h : size_of ps ≤ length (replicate (size_of (ps ++ qs)) b) =
    omega (arith, length-replicate (size_of (ps ++ qs)) b, size_append ps qs) in
    fill_is l (glued ps qs) b ∙ ap (λ (k : ℕ). scatter_of l (glued ps qs) (replicate k b)) n
    ∙ scatter_glued l ps qs (replicate (size_of (ps ++ qs)) b) e h ∙ sym (fill_is l (ps ++ qs) b)
