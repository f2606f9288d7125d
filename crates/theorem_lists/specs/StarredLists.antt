-- The jobs marked * in document 01, each as a list of events with its collect: every one is lawful, and answers 0.
use Rattle.std.specs.Prelude.{◌≡◌, refl, true, false, List, [], ◌∷◌, ◌++◌, ℕ, ◌*◌, ◌-◌, ◌^◌, length, replicate, Ok}
use Rattle.vectors.specs.Vectors.{vector_of}
use Rattle.dock.specs.Tell.{collect_of}
use Rattle.dock.specs.Begin.{write_of, zeroes_of, discard_of}
use Rattle.arithmetic.specs.Offsets.{store_at}
use Rattle.arithmetic.specs.Settings.{alignments}
use Rattle.arithmetic.specs.declared.settings.Settings.{Settings}
use Rattle.vectors.specs.Vectors.{segment}
use Rattle.theorem_lists.specs.PlainStore.{plain_opened}
use Rattle.theorem_lists.specs.Histories.{World, opened}
use Rattle.theorem_lists.specs.Example.{served}
use Rattle.theorem_lists.specs.Acts.{Act, begin, collect, run, all_allowed, computing_lists}
use Rattle.vectors.specs.declared.vector.Segment.{Segment}

-- data of 2048 bytes, at address 1
abbrev pub memory : List ℕ
memory = replicate 2048 7

abbrev world_of : ℕ → Settings → World
world_of share s =
    opened s (record { «data» = record { address = 1; length = 2048 }; scratch = record { address = 0; length = 8 * share } })
    (λ x. 9) memory (replicate (8 * share) 0)

-- "Row index 1, share 4096"; "Row index 4, share 12288"
abbrev pub row_1 : World
row_1 = world_of 4096 (record { align = alignments 1 512 512 512; bounce = 4096 })

abbrev pub row_4 : World
row_4 = world_of 12288 (record { align = alignments 4096 512 512 512; bounce = 12288 })

abbrev writing : ℕ → List Segment → List ℕ → List Act
writing o ps codes = begin (write_of (store_at o) (vector_of ps)) ∷ served 0 codes

abbrev zeroing : ℕ → ℕ → List ℕ → List Act
zeroing o n codes = begin (zeroes_of false (store_at o) n) ∷ served 0 codes

-- n times code 0
abbrev zeros : ℕ → List ℕ
zeros n = replicate n 0

-- the job is answered 0, and the list with its collect is lawful
abbrev pub Well : World → List Act → Type 0
Well w job =
    ((collect_of (run w (plain_opened w.dock.settings w.dock.buffers w.store) job).real.dock 0 (length w.memory)
    (length w.scratch)).answer ≡ Ok 0)
    × (all_allowed w (job ++ (collect 0 ∷ [])) ≡ true)

pub record StarredLists : Type 0 where
  pub ten : Well row_1 (writing 100 (segment 0 10 ∷ []) (zeros 3))
  pub to_the_end : Well row_1 (writing 100 (segment 0 412 ∷ []) (zeros 2))
  pub direct : Well row_1 (writing 512 (segment 0 512 ∷ []) (0 ∷ []))
  pub pieces : Well row_1 (writing 512 (segment 0 256 ∷ segment 300 256 ∷ []) (0 ∷ []))
  pub two_blocks : Well row_1 (writing 100 (segment 0 900 ∷ []) (zeros 2))
  pub edges : Well row_1 (writing 100 (segment 0 1500 ∷ []) (zeros 3))
  pub off_memory : Well row_4 (writing 700 (segment 0 10 ∷ []) (zeros 3))
  pub zeroed : Well row_1 (zeroing 100 1000 (zeros 5))
  pub fallback : Well row_1 (zeroing 100 1000 (1 ∷ 0 ∷ 0 ∷ 0 ∷ 0 ∷ []))
  pub one_write : Well row_1 (zeroing 1 1022 (zeros 2))
  -- the discards make no request, and take no place
  pub discard : all_allowed row_1 (begin (discard_of (store_at 100) 400) ∷ []) ≡ true
  pub discard_over : all_allowed row_1 (begin (discard_of (store_at (2 ^ 64 - 511)) 0) ∷ []) ≡ true
  pub discard_last : all_allowed row_1 (begin (discard_of (store_at (2 ^ 64 - 512)) 0) ∷ []) ≡ true

pub starred_lists : StarredLists
unfolding computing_lists
starred_lists = record {
  ten = (refl, refl);
  to_the_end = (refl, refl);
  direct = (refl, refl);
  pieces = (refl, refl);
  two_blocks = (refl, refl);
  edges = (refl, refl);
  off_memory = (refl, refl);
  zeroed = (refl, refl);
  fallback = (refl, refl);
  one_write = (refl, refl);
  discard = refl;
  discard_over = refl;
  discard_last = refl;
}
