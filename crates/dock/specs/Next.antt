-- Document 01, "Events": next; "The bytes of a request's piece lie in the data or in the scratch": a request's piece by number.
use Rattle.std.specs.Prelude.{Bool, ◌&&◌, List, [], ℕ, ◌+◌, ◌*◌, ltb, leb, eqb, length, take, drop, get_or, Result, Ok, Err}
use Rattle.arithmetic.specs.Rounding.{pick}
use Rattle.arithmetic.specs.declared.refusals.Refusal.TheVariants.{Buffer, Slot}
use Rattle.arithmetic.specs.declared.settings.Settings.{Settings}
use Rattle.arithmetic.specs.declared.settings.Buffers.{Buffers}
use Rattle.vectors.specs.Vectors.{is_valid, segment, none}
use Rattle.vectors.specs.declared.vector.IoVector.{IoVector}
use Rattle.blockers.specs.Blockers.{waits_of}
use Rattle.stages.specs.Stages.{size_of, is_free, has_ended, is_sound, request_of, second_at}
use Rattle.stages.specs.declared.state.Phase.{Phase}
use Rattle.stages.specs.declared.state.Phase.TheVariants.{Free, Ended, DirectRead, BouncedRead, FirstRead, SecondRead, BouncedWrite}
use Rattle.stages.specs.declared.state.Phase.TheVariants.{DirectWrite, ZeroRequest, DiscardRequest}
use Rattle.stages.specs.declared.state.State.{State}
use Rattle.dock.specs.Dock.{state_at, vector_at, lent_fits, is_out, share_at}
use Rattle.dock.specs.declared.dock.Dock.{Dock}
use Rattle.dock.specs.declared.next.Due.{Due}
use Rattle.dock.specs.declared.next.Due.TheVariants.{Waiting, Make, Answer}
use Rattle.dock.specs.declared.next.Piece.{Piece}
use Rattle.dock.specs.declared.next.Piece.TheVariants.{InData, InScratch}
use Rattle.arithmetic.specs.declared.refusals.Refusal.{Refusal}

-- ---- next

-- "Next tells: waiting, the request, or the final answer"
abbrev pub due_in : State → Bool → ℕ → Result Due Refusal
due_in x waits count =
    pick (is_free x.phase) (Err Slot)
    (pick (has_ended x.phase) (Ok (Answer x.answer))
    (pick waits (Ok Waiting) (Ok (Make (request_of x count)))))

abbrev pub due_by : Dock → ℕ → State → Result Due Refusal
due_by d p x = due_in x (waits_of p d.blockers) (vector_at d p).count

-- "Next [..]: 205, 208"
unfoldable pub next_of : Dock → ℕ → ℕ → ℕ → Result Due Refusal
next_of d p m n = pick (lent_fits d.buffers m n) (pick (ltb p 8) (due_by d p (state_at d p)) (Err Slot)) (Err Buffer)

-- ---- the bytes of the job at hand lie in its share, its share in the scratch

unfoldable pub is_sound_in : State → Settings → Buffers → Bool
is_sound_in x s b = is_sound s.bounce x && leb (8 * s.bounce) b.scratch.length

unfoldable pub is_sound_of : Dock → ℕ → Bool
is_sound_of d p = is_sound_in (state_at d p) d.settings d.buffers

-- and the scratch that is lent has n bytes
unfoldable pub is_sound_at : ℕ → State → Settings → Buffers → ℕ → Bool
is_sound_at p x s b n = (ltb p 8 && is_sound_in x s b) && eqb n b.scratch.length

-- ---- a request's piece by number

-- n bytes of the scratch from a on, as the only piece
abbrev pub in_scratch : ℕ → ℕ → ℕ → Result Piece Refusal
in_scratch i a n = pick (eqb i 0 && ltb 0 n) (Ok (InScratch (segment a n))) (Err Slot)

-- segment i of a vector over m bytes of data
abbrev pub in_data : ℕ → ℕ → IoVector → Result Piece Refusal
in_data i m v = pick (is_valid m v && ltb i v.count) (Ok (InData (get_or v.segments i none))) (Err Slot)

-- "The bytes of a request's piece lie in the data or in the scratch"; `share` is where the slot's share starts
abbrev pub piece_by : Phase → ℕ → ℕ → ℕ → State → IoVector → Result Piece Refusal
piece_by Free share i m x v = Err Slot
piece_by Ended share i m x v = Err Slot
piece_by DirectRead share i m x v = in_data i m v
piece_by BouncedRead share i m x v = in_scratch i share (size_of x.stage.request)
piece_by FirstRead share i m x v = in_scratch i share (size_of x.stage.first)
piece_by SecondRead share i m x v = in_scratch i (share + second_at x.stage) (size_of x.stage.second)
piece_by BouncedWrite share i m x v = in_scratch i share (size_of x.stage.request)
piece_by DirectWrite share i m x v = in_data i m v
piece_by ZeroRequest share i m x v = Err Slot
piece_by DiscardRequest share i m x v = Err Slot

-- the piece of the job x with the vector v in slot p
unfoldable pub piece_in : ℕ → Settings → Buffers → State → IoVector → ℕ → ℕ → Result Piece Refusal
piece_in p s lent x v i m = pick (ltb p 8 && is_sound_in x s lent) (piece_by x.phase (p * s.bounce) i m x v) (Err Slot)

-- "a request's piece [..]: 205, 208"; "208: [..] a piece number that the request lacks"
unfoldable pub piece_of : Dock → ℕ → ℕ → ℕ → ℕ → Result Piece Refusal
piece_of d p i m n =
    pick (lent_fits d.buffers m n)
    (pick (is_out d p && is_sound_of d p) (piece_by (state_at d p).phase (share_at d p) i m (state_at d p) (vector_at d p)) (Err Slot))
    (Err Buffer)

-- the n bytes of l from a on, and none where they go past its end
unfoldable pub part_of : List ℕ → ℕ → ℕ → List ℕ
part_of l a n = pick (leb (a + n) (length l)) (take n (drop a l)) []

-- "handed out as a part of that buffer, uncopied"; a refusal is empty, and no piece is
abbrev pub bytes_at : Result Piece Refusal → List ℕ → List ℕ → List ℕ
bytes_at (Ok (InData s)) memory scratch = part_of memory s.start s.length
bytes_at (Ok (InScratch s)) memory scratch = part_of scratch s.start s.length
bytes_at (Err r) memory scratch = part_of memory 0 0

unfoldable pub piece_bytes : Dock → ℕ → ℕ → List ℕ → List ℕ → List ℕ
piece_bytes d p i memory scratch = bytes_at (piece_of d p i (length memory) (length scratch)) memory scratch
