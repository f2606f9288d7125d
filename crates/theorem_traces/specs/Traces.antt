-- Document 01, "Traced jobs": a job run through the dock's own definitions, with the store's codes given. Which requests come, what each
-- was asked for, where its pieces lie, which blocker it has; and every answer by its number.
use Rattle.std.specs.Prelude.{◌≡◌, refl, false, List, [], ◌∷◌, ◌++◌, ℕ, zero, suc, ◌*◌, ◌-◌, ◌^◌, length, replicate, Result, Ok, Err}
use Rattle.arithmetic.specs.Offsets.{store_at}
use Rattle.vectors.specs.Vectors.{vector_of, segment}
use Rattle.blockers.specs.Blockers.{blocker_at}
use Rattle.blockers.specs.declared.Kind.{Kind as Blocking}
use Rattle.blockers.specs.declared.Kind.TheVariants.{Weak, Strong}
use Rattle.stages.specs.Stages.{size_of}
use Rattle.stages.specs.declared.state.Kind.{Kind}
use Rattle.stages.specs.declared.state.Kind.TheVariants.{Read, Write, Zero}
use Rattle.dock.specs.Dock.{state_at, open_profile_of}
use Rattle.dock.specs.Begin.{Begins, write_of, zeroes_of, discard_of, begin_of}
use Rattle.dock.specs.Next.{next_of, piece_of}
use Rattle.dock.specs.Tell.{Told, tell_of, collect_of}
use Rattle.dock.specs.Numbers.{Paper, numbered, valued, begun_paper, due_paper, collected_paper}
use Rattle.dock.specs.Computing.{computing}
use Rattle.dock.specs.declared.dock.Dock.{Dock}
use Rattle.dock.specs.declared.begin.Asked.{Asked}
use Rattle.dock.specs.declared.next.Due.{Due}
use Rattle.dock.specs.declared.next.Due.TheVariants.{Waiting, Make, Answer}
use Rattle.dock.specs.declared.next.Piece.{Piece}
use Rattle.dock.specs.declared.next.Piece.TheVariants.{InData, InScratch}
use Rattle.arithmetic.specs.declared.refusals.Refusal.{Refusal}

-- ---- what is seen of a job

-- "412 at 100"
pub record Asking : Type 0 where
  pub bytes : ℕ
  pub offset : ℕ

-- before a tell: what next shows, what the stage was asked for, where the request's pieces lie, and the blocker that the job has
pub record Seen : Type 0 where
  pub due : Result Due Refusal
  pub asked : Asking
  pub pieces : List (Result Piece Refusal)
  pub blocker : Blocking

-- what begin answers, what is seen before each tell, what next shows after the last one, and what collect answers
pub record Trace : Type 0 where
  pub begun : Paper
  pub seen : List Seen
  pub shown : Paper
  pub collected : Paper

-- pieces 0 to k - 1
abbrev pub pieces_of : Dock → ℕ → ℕ → ℕ → ℕ → List (Result Piece Refusal)
pieces_of d p m n zero = []
pieces_of d p m n (suc k) = pieces_of d p m n k ++ (piece_of d p k m n ∷ [])

-- how many pieces what is due has
abbrev pub count_of : Result Due Refusal → ℕ
count_of (Ok Waiting) = 0
count_of (Ok (Make q)) = q.segments
count_of (Ok (Answer a)) = 0
count_of (Err r) = 0

abbrev pub seen_in : Dock → ℕ → ℕ → ℕ → Seen
seen_in d p m n =
    let q = next_of d p m n in
    let r = (state_at d p).stage.asked in
    record {
      due = q;
      asked = record { bytes = size_of r; offset = r.start.0 };
      pieces = pieces_of d p m n (count_of q);
      blocker = (blocker_at d.blockers p).kind;
    }

-- the codes are told one by one
abbrev pub driven : List ℕ → Paper → ℕ → Told → Trace
driven [] b p t = record {
  begun = b;
  seen = [];
  shown = due_paper (next_of t.dock p (length t.memory) (length t.scratch));
  collected = collected_paper (collect_of t.dock p (length t.memory) (length t.scratch)).answer;
}
driven (c ∷ cs) b p t =
    let u = tell_of t.dock p c t.memory t.scratch in
    let r = driven cs b p u in
    record {
      begun =
          b;
      seen = seen_in t.dock p (length t.memory) (length t.scratch) ∷ r.seen;
      shown = r.shown;
      collected = r.collected;
    }

-- ---- the jobs: each the first of a freshly opened dock, in slot 0

-- data of 2048 bytes at address 1, a scratch of eight shares
abbrev pub memory : List ℕ
memory = replicate 2048 7

abbrev pub dock_of : ℕ → ℕ → Dock
dock_of row share =
    (open_profile_of row share (record {
      «data» =
          record { address = 1; length = 2048 };
      scratch = record { address = 0; length = 8 * share };
    })).dock

abbrev pub begun : ℕ → ℕ → Asked → Begins
begun row share q = begin_of (dock_of row share) q memory (replicate (8 * share) 0)

abbrev pub traced : ℕ → ℕ → Asked → List ℕ → Trace
traced row share q codes =
    let b = begun row share q in
    driven codes (begun_paper b.answer) 0 (record { dock = b.dock; outcome = (Ok tt); memory = memory; scratch = b.scratch })

-- "Row index 1, share 4096, one piece unless said": n bytes at o
abbrev pub writes : ℕ → ℕ → List ℕ → Trace
writes n o codes = traced 1 4096 (write_of (store_at o) (vector_of (segment 0 n ∷ []))) codes

abbrev pub zeroes : ℕ → ℕ → List ℕ → Trace
zeroes n o codes = traced 1 4096 (zeroes_of false (store_at o) n) codes

-- a discard without a request, or refused: what begin answers
abbrev pub discards : ℕ → ℕ → Paper
discards n o = begun_paper (begun 1 4096 (discard_of (store_at o) n)).answer

-- ---- what is expected of them

abbrev pub at : ℕ → ℕ → Asking
at n o = record { bytes = n; offset = o }

-- "0+512 is offset 0, length 512", its pieces as listed
abbrev pub request : Kind → ℕ → ℕ → List (Result Piece Refusal) → Asking → Blocking → Seen
request k o n ps asked blocker = record {
  due = (Ok (Make (record { kind = k; offset = store_at o; length = n; segments = length ps })));
  asked = asked;
  pieces = ps;
  blocker = blocker;
}

-- requests of one padded write, asked for r: their bytes lie in the share, from a on, and its blocker is strong
abbrev pub read : ℕ → ℕ → ℕ → Asking → Seen
read o n a r = request Read o n ((Ok (InScratch (segment a n))) ∷ []) r Strong

abbrev pub write : ℕ → ℕ → ℕ → Asking → Seen
write o n a r = request Write o n ((Ok (InScratch (segment a n))) ∷ []) r Strong

abbrev pub padded : Asking → List (Asking → Seen) → List Seen
padded r [] = []
padded r (q ∷ qs) = q r ∷ padded r qs

-- requests that go to the store as they are: a write of the data's bytes, from a on, and a zero request; their blocker is weak
abbrev pub unpadded : ℕ → ℕ → ℕ → List Seen
unpadded o n a = request Write o n ((Ok (InData (segment a n))) ∷ []) (at n o) Weak ∷ []

abbrev pub zeroed : ℕ → ℕ → List Seen
zeroed o n = request Zero o n [] (at n o) Weak ∷ []

-- a job that gets place 0 and ends with 0 after these requests
abbrev pub ends : List Seen → Trace
ends qs = record { begun = valued (0 ∷ []); seen = qs; shown = numbered 0; collected = numbered 0 }

-- ---- the theorem

-- The jobs marked *, each with its requests in order; every code told is 0 unless said.
pub record Starred : Type 0 where
  -- "write 10 at 100: reads 0+512 twice, write 0+512"
  pub ten : writes 10 100 (0 ∷ 0 ∷ 0 ∷ []) ≡ ends (padded (at 10 100) (read 0 512 0 ∷ read 0 512 0 ∷ write 0 512 0 ∷ []))
  -- "412 at 100: one read"
  pub to_the_end : writes 412 100 (0 ∷ 0 ∷ []) ≡ ends (padded (at 412 100) (read 0 512 0 ∷ write 0 512 0 ∷ []))
  -- "512 at 512: direct"
  pub direct : writes 512 512 (0 ∷ []) ≡ ends (unpadded 512 512 0)
  -- "Pieces 256 and 256, a gap between in the data, at 512: write 512+512, no read": padded, since neither length is a multiple of L
  pub pieces : traced 1 4096 (write_of (store_at 512) (vector_of (segment 0 256 ∷ segment 300 256 ∷ []))) (0 ∷ [])
      ≡ ends (padded (at 512 512) (write 512 512 0 ∷ []))
  -- "900 at 100: read 0+1024"
  pub two_blocks : writes 900 100 (0 ∷ 0 ∷ []) ≡ ends (padded (at 900 100) (read 0 1024 0 ∷ write 0 1024 0 ∷ []))
  -- "1500 at 100: reads 0+512, 1536+512, write 0+2048"
  pub edges : writes 1500 100 (0 ∷ 0 ∷ 0 ∷ []) ≡ ends (padded (at 1500 100) (read 0 512 0 ∷ read 1536 512 1536 ∷ write 0 2048 0 ∷ []))
  -- "Row index 4, share 12288, piece address off 4096, 10 at 700: reads 512+4096 twice, write 512+4096"
  pub off_memory : traced 4 12288 (write_of (store_at 700) (vector_of (segment 0 10 ∷ []))) (0 ∷ 0 ∷ 0 ∷ [])
      ≡ ends (padded (at 10 700) (read 512 4096 0 ∷ read 512 4096 0 ∷ write 512 4096 0 ∷ []))
  -- "Zero 1000 at 100: zero 512+512, then writes 412 at 100 and 76 at 1024": each of the two padded
  pub zeroing : zeroes 1000 100 (0 ∷ 0 ∷ 0 ∷ 0 ∷ 0 ∷ [])
      ≡ ends (zeroed 512 512
      ++ (padded (at 412 100) (read 0 512 0 ∷ write 0 512 0 ∷ []) ++ padded (at 76 1024) (read 1024 512 0 ∷ write 1024 512 0 ∷ [])))
  -- "Told 1: writes 412 at 100 and 588 at 512"
  pub fallback : zeroes 1000 100 (1 ∷ 0 ∷ 0 ∷ 0 ∷ 0 ∷ [])
      ≡ ends (zeroed 512 512
      ++ (padded (at 412 100) (read 0 512 0 ∷ write 0 512 0 ∷ []) ++ padded (at 588 512) (read 1024 512 512 ∷ write 512 1024 0 ∷ [])))
  -- "Zero 1022 at 1: one write"
  pub one_write : zeroes 1022 1 (0 ∷ 0 ∷ []) ≡ ends (padded (at 1022 1) (read 0 1024 0 ∷ write 0 1024 0 ∷ []))
  -- "Discard 400 at 100: done, no request"
  pub discard : discards 400 100 ≡ numbered 0
  -- "Discard 0 at 2^64 - 511: 207; at 2^64 - 512: 0"
  pub discard_over : discards 0 (2 ^ 64 - 511) ≡ numbered 207
  pub discard_last : discards 0 (2 ^ 64 - 512) ≡ numbered 0

pub starred : Starred
unfolding computing
starred = record {
  ten = refl;
  to_the_end = refl;
  direct = refl;
  pieces = refl;
  two_blocks = refl;
  edges = refl;
  off_memory = refl;
  zeroing = refl;
  fallback = refl;
  one_write = refl;
  discard = refl;
  discard_over = refl;
  discard_last = refl;
}
