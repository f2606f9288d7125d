-- What segments that touch are joined to: the maximal runs of the positions in the data.
use Rattle.std.specs.Prelude.{◌≡◌, Result, Ok, Bool, true, false, ◌&&◌, not, List, [], ◌∷◌, ◌++◌, ℕ, zero, suc, ◌+◌, ltb, leb, eqb, length}
use Rattle.arithmetic.specs.Rounding.{pick}
use Rattle.arithmetic.specs.declared.refusals.Refusal.{Refusal}
use Rattle.vectors.specs.declared.vector.Segment.{Segment}
use Rattle.vectors.specs.declared.vector.IoVector.{IoVector}
use Rattle.vectors.specs.Vectors.{segment, all_segments, touches, vector_of, refused_vector, vector_after}

-- p touches the first of the segments
unfoldable pub touches_first : Segment → List Segment → Bool
touches_first p [] = false
touches_first p (q ∷ qs) = touches p q

unfoldable pub not_empty : Segment → Bool
not_empty p = ltb 0 p.length

-- no two neighbours touch
unfoldable pub none_touch : List Segment → Bool
none_touch [] = true
none_touch (p ∷ ps) = not (touches_first p ps) && none_touch ps

-- s, s + 1, .. : n positions
unfoldable pub up_from : ℕ → ℕ → List ℕ
up_from s zero = []
up_from s (suc n) = s ∷ up_from (s + 1) n

-- the positions of the segments' bytes, in order
unfoldable pub positions : List Segment → List ℕ
positions [] = []
positions (p ∷ ps) = up_from p.start p.length ++ positions ps

-- x at the front of a list's runs: in the first of them, if that starts at x + 1
unfoldable pub run_from : ℕ → List Segment → List Segment
run_from x [] = segment x 1 ∷ []
run_from x (q ∷ qs) = pick (eqb (x + 1) q.start) (segment x (q.length + 1) ∷ qs) (segment x 1 ∷ (q ∷ qs))

-- the maximal runs of a list of positions
unfoldable pub runs : List ℕ → List Segment
runs [] = []
runs (x ∷ xs) = run_from x (runs xs)

-- ps are the maximal runs of the positions xs: they have these positions, none is empty, and no two could be one
pub record MaximalRuns (xs : List ℕ) (ps : List Segment) : Type 0 where
  pub same : positions ps ≡ xs
  pub filled : all_segments not_empty ps ≡ true
  pub longest : none_touch ps ≡ true

-- the vector of the runs of the positions xs: 202 for more than 16 of them, or more than 1,048,576 positions
unfoldable pub runs_or_refused : List ℕ → Result IoVector Refusal
runs_or_refused xs = pick (leb (length (runs xs)) 16 && leb (length xs) 1048576) (Ok (vector_of (runs xs))) refused_vector

-- a call on v answers it, and its caller has that vector, or v as it was
abbrev pub RunsAs : IoVector → List ℕ → Result IoVector Refusal → Type 0
RunsAs v xs c = (c ≡ runs_or_refused xs)
    × (vector_after v c ≡ pick (leb (length (runs xs)) 16 && leb (length xs) 1048576) (vector_of (runs xs)) v)
