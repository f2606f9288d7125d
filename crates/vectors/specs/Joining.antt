-- What the functions that build a vector ask of it, and what those that glue give.
use Rattle.std.specs.Prelude.{◌≡◌, Option, Some, None, Bool, true, false, List, [], ◌∷◌, ℕ, ◌+◌, ◌≤◌, ◌<◌, leb, length, take, drop}
use Rattle.arithmetic.specs.Rounding.{pick}
use Rattle.vectors.specs.declared.vector.Segment.{Segment}
use Rattle.vectors.specs.declared.vector.IoVector.{IoVector}
use Rattle.vectors.specs.Vectors.{vector_of, segments_of, size_of, touches, glued}

-- one segment more fits
pub record Room (v : IoVector) (p : Segment) : Type 0 where
  pub plain : v ≡ vector_of (segments_of v)
  pub few : v.count < 16
  pub small : v.total + p.length ≤ 1048576

-- n segments of w, from s on, fit behind those of v
pub record Joins (v w : IoVector) (s n : ℕ) : Type 0 where
  pub plain : v ≡ vector_of (segments_of v)
  pub few : v.count + n ≤ 16
  pub whole : s + n ≤ w.count
  pub most : w.count ≤ 16
  pub small : v.total + size_of (take n (drop s (segments_of w))) ≤ 1048576

-- the last of the segments touches q
unfoldable pub last_touches : List Segment → Segment → Bool
last_touches [] q = false
last_touches (p ∷ []) q = touches p q
last_touches (p ∷ (r ∷ ps)) q = last_touches (r ∷ ps) q

-- n bytes more, behind at most 16 segments
pub record Gluing (v : IoVector) (n : ℕ) : Type 0 where
  pub plain : v ≡ vector_of (segments_of v)
  pub few : v.count ≤ 16
  pub small : v.total + n ≤ 1048576

-- p more, which the last segment touches
pub record Lengthens (v : IoVector) (p : Segment) : Type 0 where
  pub asked : Gluing v p.length
  pub touching : last_touches (segments_of v) p ≡ true

-- n segments of w more, from s on
pub record GluesAll (v w : IoVector) (s n : ℕ) : Type 0 where
  pub asked : Gluing v (size_of (take n (drop s (segments_of w))))
  pub whole : s + n ≤ w.count
  pub most : w.count ≤ 16

-- v with qs glued behind its segments, where the whole is at most 16
unfoldable pub glued_of : IoVector → List Segment → Option IoVector
glued_of v qs = pick (leb (length (glued (segments_of v) qs)) 16) (Some (vector_of (glued (segments_of v) qs))) None

-- the vector that such a call leaves in place, where it fits
abbrev pub vector_if : Option (Unit {0}) → IoVector → Option IoVector
vector_if (Some u) v = Some v
vector_if None v = None
