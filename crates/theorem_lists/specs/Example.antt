-- A lawful list, its bytes computed on both sides. A padded write, a direct write that waits behind it, a padded read, zeroes that fall
-- back, a write that fails part-way, a discard, a direct read; a begin that is refused, and one that is lent other buffers.
use Rattle.std.specs.Prelude.{◌≡◌, true, false, List, [], ◌∷◌, ◌++◌, ℕ, ltb, length, take, drop, replicate, Result, Ok, Err, Option}
use Rattle.arithmetic.specs.Offsets.{store_at}
use Rattle.arithmetic.specs.Settings.{alignments}
use Rattle.arithmetic.specs.Content.{window}
use Rattle.arithmetic.specs.declared.refusals.Refusal.TheVariants.{Overlap, Buffer}
use Rattle.arithmetic.specs.declared.settings.Settings.{Settings}
use Rattle.arithmetic.specs.declared.settings.Buffers.{Buffers}
use Rattle.vectors.specs.Vectors.{vector_of, segment}
use Rattle.dock.specs.Begin.{read_of, write_of, zeroes_of, discard_of, begin_of}
use Rattle.dock.specs.Next.{next_of, piece_of}
use Rattle.dock.specs.Tell.{collect_of}
use Rattle.dock.specs.declared.begin.Asked.{Asked}
use Rattle.dock.specs.declared.next.Due.{Due}
use Rattle.dock.specs.declared.next.Due.TheVariants.{Waiting}
use Rattle.dock.specs.declared.next.Piece.{Piece}
use Rattle.dock.specs.declared.next.Piece.TheVariants.{InData}
use Rattle.theorem_lists.specs.Store.{Choice}
use Rattle.theorem_lists.specs.PlainStore.{Plain, plain_opened}
use Rattle.theorem_lists.specs.Histories.{Lends, World, opened}
use Rattle.theorem_lists.specs.Acts.{Act, begin, begin_lent, carry, tell, collect, own, run, all_allowed}
use Rattle.arithmetic.specs.declared.refusals.Refusal.{Refusal}

-- a drive of blocks of 8 bytes, shares of 32; a store whose every byte is 9
abbrev pub settings : Settings
settings = record { align = alignments 1 8 8 8; bounce = 32 }

abbrev pub buffers : Buffers
buffers = record { «data» = record { address = 1; length = 28 }; scratch = record { address = 0; length = 256 } }

-- two bytes for the padded write, eight for the direct one, four for the padded read, two of nobody's, eight for the direct read, two of
-- nobody's, two for the write that fails
abbrev pub memory : List ℕ
memory =
    (101 ∷ 102 ∷ 1 ∷ 2 ∷ 3 ∷ 4 ∷ 5 ∷ 6 ∷ 7 ∷ 8 ∷ [])
    ++ (replicate 4 0 ++ (77 ∷ 77 ∷ (replicate 8 0 ++ (77 ∷ 77 ∷ 31 ∷ 32 ∷ []))))

abbrev pub world : World
world = opened settings buffers (λ x. 9) memory (replicate 256 0)

abbrev pub plain : Plain
plain = plain_opened settings buffers (λ x. 9)

-- a store that leaves 55 where it discards, and of a failing write does the bytes before offset 27 alone
abbrev pub choice : Choice
choice = record { is_new = λ x. ltb x 27; left = λ x. 55 }

-- requests of slot p are carried out and told, with these codes
abbrev pub served : ℕ → List ℕ → List Act
served p [] = []
served p (c ∷ cs) = carry p c choice ∷ (tell p c ∷ served p cs)

-- "write 2 at 3", "write 8 at 0" behind it
abbrev edits : List Act
edits = begin (write_of (store_at 3) (vector_of (segment 0 2 ∷ []))) ∷ (begin (write_of (store_at 0) (vector_of (segment 2 8 ∷ []))) ∷ [])

-- the first one's two reads and its write, then the second one's write
abbrev first_done : List Act
first_done = edits ++ served 0 (0 ∷ 0 ∷ 0 ∷ [])

abbrev both_done : List Act
both_done = first_done ++ served 1 (0 ∷ [])

-- "read 4 at 2"; "zero 20 at 4", told 1: 4 bytes at 4, padded, then 16 at 8
abbrev zeroes_done : List Act
zeroes_done =
    both_done
    ++ (begin (read_of (store_at 2) (vector_of (segment 10 4 ∷ [])))
    ∷ (served 2 (0 ∷ []) ++ (begin (zeroes_of false (store_at 4) 20) ∷ served 3 (1 ∷ 0 ∷ 0 ∷ 0 ∷ []))))

-- "write 2 at 26", whose write fails with code 5; "discard 10 at 31": 8 at 32; "read 8 at 24", direct
abbrev read_begun : List Act
read_begun =
    zeroes_done
    ++ (begin (write_of (store_at 26) (vector_of (segment 26 2 ∷ [])))
    ∷ (served 4 (0 ∷ 0 ∷ 5 ∷ [])
    ++ (begin (discard_of (store_at 31) 10) ∷ (served 5 (0 ∷ []) ++ (begin (read_of (store_at 24) (vector_of (segment 16 8 ∷ []))) ∷ [])))))

abbrev jobs_done : List Act
jobs_done = read_begun ++ served 6 (0 ∷ [])

-- a read into a byte of the direct write, which is in flight until its collect; a begin that is lent no bytes at all
abbrev overlapping : Asked
overlapping = read_of (store_at 0) (vector_of (segment 9 1 ∷ []))

abbrev no_bytes : Lends
no_bytes = record { memory = []; scratch = [] }

abbrev all_done : List Act
all_done = jobs_done ++ (begin overlapping ∷ (begin_lent no_bytes overlapping ∷ []))

-- and the seven collects
abbrev pub whole_list : List Act
whole_list = all_done ++ (collect 0 ∷ (collect 1 ∷ (collect 2 ∷ (collect 3 ∷ (collect 4 ∷ (collect 5 ∷ (collect 6 ∷ [])))))))

abbrev begun : World → Asked → Lends → Result (Option ℕ) Refusal
begun w q l = (begin_of w.dock q l.memory l.scratch).answer

abbrev answer : World → ℕ → Result ℕ Refusal
answer w p = (collect_of w.dock p (length w.memory) (length w.scratch)).answer

abbrev due : World → ℕ → Result Due Refusal
due w p = next_of w.dock p (length w.memory) (length w.scratch)

abbrev piece : World → ℕ → Result Piece Refusal
piece w p = piece_of w.dock p 0 (length w.memory) (length w.scratch)

-- the store's first 42 bytes at the end: the direct write's, zeroes, the failing write's first byte alone, what the discard left
abbrev bytes : List ℕ
bytes = (1 ∷ 2 ∷ 3 ∷ 4 ∷ []) ++ (replicate 20 0 ++ (9 ∷ 9 ∷ 31 ∷ (replicate 5 9 ++ (replicate 8 55 ++ (9 ∷ 9 ∷ [])))))

pub record Computed : Type 0 where
  -- the direct write waits behind the padded one
  pub waits : due (run world plain edits).real 1 ≡ Ok Waiting
  -- the padded write puts its two bytes, and none beside them
  pub first : window (run world plain first_done).real.store 0 10 ≡ 9 ∷ 9 ∷ 9 ∷ 101 ∷ 102 ∷ 9 ∷ 9 ∷ 9 ∷ 9 ∷ 9 ∷ []
  pub second : window (run world plain both_done).real.store 0 10 ≡ 1 ∷ 2 ∷ 3 ∷ 4 ∷ 5 ∷ 6 ∷ 7 ∷ 8 ∷ 9 ∷ 9 ∷ []
  -- the second read goes straight to its bytes of the data
  pub direct : piece (run world plain read_begun).real 6 ≡ Ok (InData (segment 16 8))
  -- at the end both sides have the same bytes
  pub real : window (run world plain all_done).real.store 0 42 ≡ bytes
  pub plain_bytes : window (run world plain all_done).plain.bytes 0 42 ≡ bytes
  -- the failing write is answered 5, the other jobs 0
  pub write_answer : answer (run world plain all_done).real 0 ≡ Ok 0
  pub direct_answer : answer (run world plain all_done).real 1 ≡ Ok 0
  pub read_answer : answer (run world plain all_done).real 2 ≡ Ok 0
  pub zero_answer : answer (run world plain all_done).real 3 ≡ Ok 0
  pub failed_answer : answer (run world plain all_done).real 4 ≡ Ok 5
  pub discard_answer : answer (run world plain all_done).real 5 ≡ Ok 0
  pub direct_read_answer : answer (run world plain all_done).real 6 ≡ Ok 0
  -- 203, and 205 for the same read where it is lent other buffers
  pub refused : begun (run world plain jobs_done).real overlapping (own (run world plain jobs_done).real) ≡ Err Overlap
  pub refused_lent : begun (run world plain jobs_done).real overlapping no_bytes ≡ Err Buffer
  -- both reads hold what they yielded, and the bytes beside them are as they were
  pub holds : take 16 (drop 10 (run world plain all_done).real.memory)
      ≡ 3 ∷ 4 ∷ 5 ∷ 6 ∷ 77 ∷ 77 ∷ 9 ∷ 9 ∷ 31 ∷ 9 ∷ 9 ∷ 9 ∷ 9 ∷ 9 ∷ 77 ∷ 77 ∷ []
  -- and the list is lawful, with the collects
  pub is_lawful : all_allowed world whole_list ≡ true
