-- `dock_words::arrays::set_fresh` meets its contract: words that are 0 are free slots. Assumes nothing.
use mathlib.Core.Path.{◌≡◌, refl, ap}
use mathlib.Core.List.{List, []}
use lib.ListN.{replicate}
use Rattle.vectors.specs.Vectors.{vector_of, size_of}
use Rattle.vectors.specs.declared.vector.Segment.{Segment}
use Rattle.vectors.specs.declared.vector.IoVector.{IoVector}
use Rattle.blockers.specs.Blockers.{no_blockers}
use Rattle.dock.specs.Dock.{vacant, fresh}
use Rattle.dock_words.specs.View.{state_from, stage_of, phase_of, job_of, course_of, kind_of, blocker_of, blockers_of, states_of, vectors_of}
use Rattle.vectors.specs.Words.{segment_of, vector_from}
use Rattle.arithmetic.specs.Rows.{rows_same}
use Rattle.dock_words.proofs.arrays.set_fresh.Goals as goal

-- words that are 0, decoded
free_blockers : blockers_of (replicate 8 (replicate 11 0)) ≡ no_blockers
unfolding no_blockers blocker_of kind_of
free_blockers = refl

free_states : states_of (replicate 8 (replicate 18 0)) ≡ replicate 8 vacant
unfolding vacant state_from stage_of phase_of job_of course_of
free_states = refl

empty_vector : vector_from (replicate 34 0) ≡ vector_of []
unfolding vector_of vector_from size_of
empty_vector = ap (λ (l : List Segment). record { segments = l; count = 0; total = 0 }) (rows_same segment_of 2 16)

empty_vectors : vectors_of (replicate 8 (replicate 34 0)) ≡ replicate 8 (vector_of [])
empty_vectors = ap (λ (v : IoVector). replicate 8 v) empty_vector

pub returns : goal.returns
unfolding fresh
returns c = rw (c.put_settings.ensures, free_blockers, free_states, empty_vectors)
