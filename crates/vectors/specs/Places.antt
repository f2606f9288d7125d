-- Flat positions: which indices of the data lie in segments, and where byte i of the segments stands.
use Rattle.std.specs.Prelude.{Bool, ◌&&◌, List, [], ◌∷◌, ℕ, ◌+◌, ◌-◌, ltb, leb}
use Rattle.arithmetic.specs.Rounding.{pick}
use Rattle.vectors.specs.declared.vector.Segment.{Segment}
use Rattle.vectors.specs.Vectors.{any_segment}

-- index k lies in the segment
unfoldable pub in_segment : ℕ → Segment → Bool
in_segment k p = leb p.start k && ltb k (p.start + p.length)

-- index k lies in one of the segments
unfoldable pub covered : List Segment → ℕ → Bool
covered ps k = any_segment (in_segment k) ps

-- the index of the data at which byte i of the segments stands; it means nothing at or past their size
unfoldable pub place_of : List Segment → ℕ → ℕ
place_of [] i = 0
place_of (p ∷ ps) i = pick (ltb i p.length) (p.start + i) (place_of ps (i - p.length))
