-- Where a split falls in a list of segments, and the two parts around it.
use Rattle.std.specs.Prelude.{◌≡◌, true, List, [], ◌∷◌, ◌++◌, ℕ, ◌+◌, ◌-◌, ◌≤◌, ◌<◌, ltb, eqb, take, drop, get_or}
use Rattle.arithmetic.specs.Rounding.{pick}
use Rattle.vectors.specs.declared.vector.Segment.{Segment}
use Rattle.vectors.specs.declared.vector.IoVector.{IoVector}
use Rattle.vectors.specs.declared.vector.SplitPosition.{SplitPosition}
use Rattle.vectors.specs.declared.vector.Split.{Split}
use Rattle.vectors.specs.Vectors.{segment, none, segments_of, size_of, is_valid, looked_at}

abbrev pub position : ℕ → ℕ → SplitPosition
position i m = record { index = i; inside = m }

-- a position in the list behind i segments more
abbrev pub behind : ℕ → SplitPosition → SplitPosition
behind i p = position (p.index + i) p.inside

-- where byte mid lies; at or past the end, behind the last segment
unfoldable pub position_of : List Segment → ℕ → SplitPosition
position_of [] mid = position 0 0
position_of (p ∷ ps) mid = pick (ltb mid p.length) (position 0 mid) (behind 1 (position_of ps (mid - p.length)))

-- a split at a position, after a look at n segments: the tail starts where the head ends
abbrev pub meeting : SplitPosition → ℕ → Split
meeting c n = record { head = c; tail = c; looked = n }

-- where a split at byte mid falls
abbrev pub split_at : List Segment → ℕ → Split
split_at ps mid = meeting (position_of ps mid) (looked_at ps mid)

-- the segments before a position
unfoldable pub head_at : List Segment → SplitPosition → List Segment
head_at ps c =
    pick (eqb c.inside 0) (take c.index ps) (take c.index ps ++ (segment (get_or ps c.index none).start c.inside ∷ []))

-- the segments from a position on
unfoldable pub tail_at : List Segment → SplitPosition → List Segment
tail_at ps c =
    pick (eqb c.inside 0) (drop c.index ps)
    (segment ((get_or ps c.index none).start + c.inside) ((get_or ps c.index none).length - c.inside) ∷ drop (c.index + 1) ps)

-- a vector over data of some length
pub record IsVector (v : IoVector) : Type 0 where
  pub over : ℕ
  pub is : is_valid over v ≡ true

-- a position that is a split of the vector
pub record Cut (v : IoVector) (c : SplitPosition) : Type 0 where
  pub few : v.count ≤ 16
  pub small : size_of (segments_of v) ≤ 1048576
  pub reach : c.index ≤ v.count
  pub part : (c.inside ≡ 0 → ⊥) → (c.index < v.count) × (c.inside < (get_or v.segments c.index none).length)
  pub ends : (c.inside ≡ 0 → ⊥) → (get_or v.segments c.index none).start + (get_or v.segments
      c.index none).length < 18446744073709551616
