-- Document 01, "Vector": the segments of a vector as a list, and what each call makes of it.
-- A vector that a call returns is `vector_of` its list of segments: what stands past the count is zero.
use Rattle.std.specs.Prelude.{Bool, true, false, ◌&&◌, ◌||◌, List, [], ◌∷◌, ◌++◌, ℕ, ◌+◌, ◌-◌, ◌*◌, max, min, ltb, leb, eqb, length, take}
use Rattle.std.specs.Prelude.{drop, replicate, Result, Ok, Err}
use Rattle.arithmetic.specs.Rounding.{pick, fits, is_multiple}
use Rattle.arithmetic.specs.Settings.{alignments_fit, length_align}
use Rattle.arithmetic.specs.declared.refusals.Refusal.{Refusal}
use Rattle.arithmetic.specs.declared.refusals.Refusal.TheVariants.{Unfit, Segment as BadSegment, Buffer}
use Rattle.arithmetic.specs.declared.settings.Alignments.{Alignments}
use Rattle.arithmetic.specs.declared.settings.Lent.{Lent}
use Rattle.vectors.specs.declared.vector.Segment.{Segment}
use Rattle.vectors.specs.declared.vector.IoVector.{IoVector}
use Rattle.vectors.specs.declared.vector.Halves.{Halves}
use Rattle.vectors.specs.declared.vector.Tail.{Tail}

-- ---- what a vector is

abbrev pub segment : ℕ → ℕ → Segment
segment s n = record { start = s; length = n }

abbrev pub none : Segment
none = segment 0 0

-- the segments in use: the first `count`
abbrev pub segments_of : IoVector → List Segment
segments_of v = take v.count v.segments

-- how many bytes the segments hold
unfoldable pub size_of : List Segment → ℕ
size_of [] = 0
size_of (p ∷ ps) = p.length + size_of ps

-- not empty, and inside data of n bytes
unfoldable pub lies_in : ℕ → Segment → Bool
lies_in n p = ltb 0 p.length && leb (p.start + p.length) n

unfoldable pub all_segments : (Segment → Bool) → List Segment → Bool
all_segments test [] = true
all_segments test (p ∷ ps) = test p && all_segments test ps

unfoldable pub any_segment : (Segment → Bool) → List Segment → Bool
any_segment test [] = false
any_segment test (p ∷ ps) = test p || any_segment test ps

-- "Up to 16 pieces (start, length) of the data, none empty, 1,048,576 bytes in total."
unfoldable pub segments_fit : ℕ → List Segment → Bool
segments_fit n ps = leb (length ps) 16 && (all_segments (lies_in n) ps && leb (size_of ps) 1048576)

-- the vector of a list of at most 16 segments
unfoldable pub vector_of : List Segment → IoVector
vector_of ps = record { segments = ps ++ replicate (16 - length ps) none; count = length ps; total = size_of ps }

-- a vector over data of n bytes: any value of the type may come in, and another than this is 202
unfoldable pub is_valid : ℕ → IoVector → Bool
is_valid n v = leb v.count 16 && (segments_fit n (segments_of v) && eqb v.total (size_of (segments_of v)))

-- ---- push, insert, append: segments that touch become one (document 02, N1)

-- q "starts where" p "ends"
unfoldable pub touches : Segment → Segment → Bool
touches p q = eqb (p.start + p.length) q.start

-- p before qs, where p touches their first as one segment with it
unfoldable pub seam : Segment → List Segment → List Segment
seam p [] = p ∷ []
seam p (q ∷ qs) = pick (touches p q) (segment p.start (p.length + q.length) ∷ qs) (p ∷ (q ∷ qs))

-- ps and then qs: the last of ps and the first of qs are one segment where they touch
unfoldable pub glued : List Segment → List Segment → List Segment
glued [] qs = qs
glued (p ∷ []) qs = seam p qs
glued (p ∷ (r ∷ ps)) qs = p ∷ glued (r ∷ ps) qs

-- what a refused call gives: no vector
abbrev pub refused_vector : Result IoVector Refusal
refused_vector = Err BadSegment

-- the vector that the caller has after a call: a refused one leaves v as it was
abbrev pub vector_after : IoVector → Result IoVector Refusal → IoVector
vector_after v (Ok w) = w
vector_after v (Err r) = v

-- v with the segments ps in the place of its own, where both fit: "The 17th-piece refusal counts pieces after joining", as ps is the
-- joined list
unfoldable pub changed_to : ℕ → IoVector → List Segment → Result IoVector Refusal
changed_to n v ps = pick (is_valid n v && segments_fit n ps) (Ok (vector_of ps)) refused_vector

-- "A push or append whose first new piece starts where the last one ends shall lengthen that last piece." An empty segment is 202
-- wherever it starts.
unfoldable pub push_of : ℕ → IoVector → Segment → Result IoVector Refusal
push_of n v p = pick (lies_in n p) (changed_to n v (glued (segments_of v) (p ∷ []))) refused_vector

-- ps with p before the one at i: "Insert joins on either side"
unfoldable pub inserted_at : ℕ → List Segment → Segment → List Segment
inserted_at i ps p = glued (glued (take i ps) (p ∷ [])) (drop i ps)

-- an index past the count: 202
unfoldable pub insert_of : ℕ → IoVector → ℕ → Segment → Result IoVector Refusal
insert_of n v i p = pick (leb i v.count && lies_in n p) (changed_to n v (inserted_at i (segments_of v) p)) refused_vector

-- as push does, the first of w's segments; the others stay behind it
unfoldable pub append_of : ℕ → IoVector → IoVector → Result IoVector Refusal
append_of n v w = pick (is_valid n w) (changed_to n v (glued (segments_of v) (segments_of w))) refused_vector

-- ---- split

-- the segments of the first mid bytes
unfoldable pub head_of : List Segment → ℕ → List Segment
head_of [] mid = []
head_of (p ∷ ps) mid = pick (eqb mid 0) [] (pick (ltb mid p.length) (segment p.start mid ∷ []) (p ∷ head_of ps (mid - p.length)))

-- the segments of the bytes from mid on
unfoldable pub tail_of : List Segment → ℕ → List Segment
tail_of [] mid = []
tail_of (p ∷ ps) mid =
    pick (eqb mid 0) (p ∷ ps) (pick (ltb mid p.length) (segment (p.start + mid) (p.length - mid) ∷ ps) (tail_of ps (mid - p.length)))

-- "Past half the total" (document 02, N2)
unfoldable pub is_past_half : List Segment → ℕ → Bool
is_past_half ps mid = ltb (size_of ps) (2 * mid)

-- "the number of pieces looked at: past half as many as the tail has, otherwise as many as the head has"
unfoldable pub looked_at : List Segment → ℕ → ℕ
looked_at ps mid = pick (is_past_half ps mid) (length (tail_of ps mid)) (length (head_of ps mid))

-- the two parts, and how many segments the walk to the split looked at
abbrev pub halves_of : IoVector → ℕ → Halves
halves_of v mid =
    record {
      head = vector_of (head_of (segments_of v) mid);
      tail = vector_of (tail_of (segments_of v) mid);
      looked = looked_at (segments_of v) mid;
    }

-- the tail alone, and the same number
abbrev pub rest_of : IoVector → ℕ → Tail
rest_of v mid = record { vector = vector_of (tail_of (segments_of v) mid); looked = looked_at (segments_of v) mid }

-- "A split at or past the total gives the whole and an empty tail. A split at 0 of a vector with pieces gives an empty head." A refused
-- split gives neither, and looks at no segment.
unfoldable pub split_of : ℕ → IoVector → ℕ → Result Halves Refusal
split_of n v mid = pick (is_valid n v) (Ok (halves_of v mid)) (Err BadSegment)

unfoldable pub split_tail_of : ℕ → IoVector → ℕ → Result Tail Refusal
split_tail_of n v mid = pick (is_valid n v) (Ok (rest_of v mid)) (Err BadSegment)

-- what the caller has after a split: of a refused one the vector as it was and an empty one, and "looked at" is 0
abbrev pub halves_after : IoVector → Result Halves Refusal → Halves
halves_after v (Ok h) = h
halves_after v (Err r) = record { head = v; tail = vector_of []; looked = 0 }

-- and after one for the tail alone: of a refused one the vector as it was
abbrev pub tail_after : IoVector → Result Tail Refusal → Tail
tail_after v (Ok t) = t
tail_after v (Err r) = record { vector = v; looked = 0 }

-- ---- bytes: "each area is filled or used up before the next" (POSIX readv, writev)

-- bs in the place of l's elements from a on
unfoldable pub put : {A : Type 0} → List A → ℕ → List A → List A
put l a bs = take a l ++ (bs ++ drop (length bs) (drop a l))

-- the bytes of the segments, joined in order
unfoldable pub bytes_of : List ℕ → List Segment → List ℕ
bytes_of memory [] = []
bytes_of memory (p ∷ ps) = take p.length (drop p.start memory) ++ bytes_of memory ps

-- the bytes src into the segments in order: where segments overlap, the later wins
unfoldable pub scatter_of : List ℕ → List Segment → List ℕ → List ℕ
scatter_of memory [] src = memory
scatter_of memory (p ∷ ps) src = scatter_of (put memory p.start (take p.length src)) ps (drop p.length src)

-- the byte b into every byte of the segments
unfoldable pub fill_of : List ℕ → List Segment → ℕ → List ℕ
fill_of memory [] b = memory
fill_of memory (p ∷ ps) b = fill_of (put memory p.start (replicate p.length b)) ps b

-- whether a slice of n bytes is copied to or from v: "copy of another length" is 202
unfoldable pub copies : List ℕ → IoVector → ℕ → Bool
copies memory v n = is_valid (length memory) v && eqb n v.total

abbrev pub outcome_of : Bool → Result (Unit {0}) Refusal
outcome_of t = pick t (Ok tt) (Err BadSegment)

-- the slice, the memory that the slice is copied to, and the memory that the byte b fills: as they were where that is refused
abbrev pub copied_into : List ℕ → IoVector → List ℕ → List ℕ
copied_into memory v slice = pick (copies memory v (length slice)) (bytes_of memory (segments_of v)) slice

abbrev pub copied_from : List ℕ → IoVector → List ℕ → List ℕ
copied_from memory v slice = pick (copies memory v (length slice)) (scatter_of memory (segments_of v) slice) memory

abbrev pub filled_with : List ℕ → IoVector → ℕ → List ℕ
filled_with memory v b = pick (is_valid (length memory) v) (fill_of memory (segments_of v) b) memory

-- ---- which vectors share a byte (the test of 203)

-- the segments share an index
unfoldable pub shares : Segment → Segment → Bool
shares p q = ltb (max p.start q.start) (min (p.start + p.length) (q.start + q.length))

unfoldable pub overlap_of : List Segment → List Segment → Bool
overlap_of ps qs = any_segment (λ p. any_segment (shares p) qs) ps

-- two of the segments share an index
unfoldable pub self_overlap_of : List Segment → Bool
self_overlap_of [] = false
self_overlap_of (p ∷ ps) = any_segment (shares p) ps || self_overlap_of ps

-- ---- alignment

-- every segment's address is a multiple of m and its length of l, over data at the address
unfoldable pub all_aligned : ℕ → ℕ → ℕ → List Segment → Bool
all_aligned address m l ps = all_segments (λ p. is_multiple (address + p.start) m && is_multiple p.length l) ps

-- the same of one segment of any data: its address fits 64 bits too
unfoldable pub is_aligned_at : ℕ → ℕ → ℕ → Segment → Bool
is_aligned_at address m l p = fits (address + p.start) && (is_multiple (address + p.start) m && is_multiple p.length l)

-- and of every segment: of a vector over data whose addresses fit this is all_aligned (AlignmentLaws.antt)
unfoldable pub lies_aligned : ℕ → ℕ → ℕ → List Segment → Bool
lies_aligned address m l ps = all_segments (is_aligned_at address m l) ps

-- "true if M = R = 1; otherwise every piece's address is a multiple of M and its length of L"
unfoldable pub is_aligned_of : Alignments → ℕ → List Segment → Bool
is_aligned_of a address ps = (eqb a.mem 1 && eqb a.req 1) || all_aligned address a.mem (length_align a) ps

-- 201 for unfit alignments, 205 where the data's address plus its length is past 2^64 - 1, 202 for no vector over the data
unfoldable pub alignment_of : Alignments → Lent → IoVector → Result Bool Refusal
alignment_of a lent v =
    pick (alignments_fit a)
    (pick (fits (lent.address + lent.length))
    (pick (is_valid lent.length v) (Ok (is_aligned_of a lent.address (segments_of v))) (Err BadSegment))
    (Err Buffer))
    (Err Unfit)
