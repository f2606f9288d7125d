-- A vector in 34 words: count, total, start and length of each of the 16 segments. Any words are a vector.
use Rattle.std.specs.Prelude.{List, [], ◌∷◌, ℕ, get_or, drop}
use Rattle.arithmetic.specs.Rows.{rows}
use Rattle.vectors.specs.declared.vector.Segment.{Segment}
use Rattle.vectors.specs.declared.vector.IoVector.{IoVector}

abbrev pub segment_of : List ℕ → Segment
segment_of w = record { start = get_or w 0 0; length = get_or w 1 0 }

abbrev pub segment_words : List Segment → List ℕ
segment_words [] = []
segment_words (s ∷ l) = s.start ∷ s.length ∷ segment_words l

unfoldable pub vector_from : List ℕ → IoVector
vector_from w = record { count = get_or w 0 0; total = get_or w 1 0; segments = rows segment_of 2 16 (drop 2 w) }

abbrev pub vector_words : IoVector → List ℕ
vector_words v = v.count ∷ v.total ∷ segment_words v.segments
