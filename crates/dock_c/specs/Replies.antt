-- Document 01's number and values of an answer, as they cross the boundary: in one struct of words.
use Rattle.std.specs.Prelude.{◌≡◌, Result, Ok, Err, Bool, true, false, List, [], ◌∷◌, ℕ, length, get_or, Option, Some, None}
use Rattle.arithmetic.specs.Rounding.{pick}
use Rattle.arithmetic.specs.Refusals.{number_of, outcome_number, is_done}
use Rattle.arithmetic.specs.declared.refusals.Refusal.{Refusal}
use Rattle.arithmetic.specs.declared.settings.Settings.{Settings}
use Rattle.arithmetic.specs.declared.settings.Buffers.{Buffers}
use Rattle.vectors.specs.Vectors.{outcome_of}
use Rattle.vectors.specs.declared.vector.IoVector.{IoVector}
use Rattle.vectors.specs.declared.vector.Halves.{Halves}
use Rattle.vectors.specs.declared.vector.Tail.{Tail}
use Rattle.blockers.specs.Blockers.{Changed}
use Rattle.stages.specs.Stages.{size_of}
use Rattle.dock.specs.Begin.{Begins}
use Rattle.dock.specs.Tell.{Told}
use Rattle.dock.specs.Numbers.{Paper, numbered, valued, begun_paper, collected_paper}
use Rattle.dock.specs.declared.dock.Dock.{Dock}
use Rattle.dock.specs.declared.tell.Collects.{Collects}
use Rattle.tables.specs.Words.{outcome_of as loaded_outcome, words_after}
use Rattle.tables.specs.declared.table.Table.{Table}
use Rattle.sheets.specs.Sheets.{Joins}
use Rattle.sheets.specs.declared.joining.Size.{Size}
use Rattle.dock_words.specs.View.{Rows, blockers_of}
use Rattle.vectors.specs.Words.{vector_words}
use Rattle.dock_words.specs.CallWords.{same_unless}
use Rattle.dock_c.specs.declared.replies.Reply.{Reply}
use Rattle.arithmetic.specs.declared.offsets.Range.{Range}
use Rattle.arithmetic.specs.declared.settings.Alignments.{Alignments}

-- the settings and the buffers of an opening, from its numbers
abbrev pub settings_by : ℕ → ℕ → ℕ → ℕ → ℕ → Settings
settings_by m r z d share = record { align = record { mem = m; req = r; zero = z; discard = d }; bounce = share }

abbrev pub buffers_by : ℕ → ℕ → ℕ → ℕ → Buffers
buffers_by a m b n = record { «data» = record { address = a; length = m }; scratch = record { address = b; length = n } }

-- no number of the paper's is 256
abbrev pub number_word : Option ℕ → ℕ
number_word (Some n) = n
number_word None = 256

-- how many values there are, then the values, 0 past the last: no answer has more than four
abbrev pub reply_of : Paper → Reply
reply_of a =
    record {
      number = number_word a.number;
      count = length a.values;
      first = get_or a.values 0 0;
      second = get_or a.values 1 0;
      third = get_or a.values 2 0;
      fourth = get_or a.values 3 0;
    }

-- a number, and no values
abbrev pub numbers : ℕ → Reply
numbers n = record { number = n; count = 0; first = 0; second = 0; third = 0; fourth = 0 }

-- the planner: "count of chunks, and chunk i", which is its offset and its length
abbrev pub count_paper : Result ℕ Refusal → Paper
count_paper (Ok n) = valued (n ∷ [])
count_paper (Err r) = numbered (number_of r)

abbrev pub planned_paper : Result Range Refusal → Paper
planned_paper (Ok c) = valued (c.start.0 ∷ size_of c ∷ [])
planned_paper (Err r) = numbered (number_of r)

-- `is_aligned`: 1 for aligned, 0 for not
abbrev pub alignment_paper : Result Bool Refusal → Paper
alignment_paper (Ok true) = valued (1 ∷ [])
alignment_paper (Ok false) = valued (0 ∷ [])
alignment_paper (Err r) = numbered (number_of r)

-- the splits (document 02, N2): 0, and "the number of pieces looked at" beside it
abbrev pub split_paper : Result ℕ Refusal → Paper
split_paper (Ok n) = record { number = Some 0; values = n ∷ [] }
split_paper (Err r) = numbered (number_of r)

-- a row of a drive table (document 02, N3): M, R, Z, D
abbrev pub profile_paper : Result Alignments Refusal → Paper
profile_paper (Ok a) = valued (a.mem ∷ a.req ∷ a.zero ∷ a.discard ∷ [])
profile_paper (Err r) = numbered (number_of r)

-- joined writes (document 02, N14): 0, and how many ranges and bytes they became
abbrev pub joined_paper : Result Size Refusal → Paper
joined_paper (Ok s) = record { number = Some 0; values = s.ranges ∷ s.bytes ∷ [] }
joined_paper (Err r) = numbered (number_of r)

-- collect: the number that `collected_paper` gives
abbrev pub collected_number : Result ℕ Refusal → ℕ
collected_number c = number_word (collected_paper c).number

-- ---- a call gives back what the dock's definition says: its answer, the dock in words after it, and the lent bytes

abbrev pub BeginsAs : Begins → Reply → Dock → List ℕ → Type 0
BeginsAs b r d scratch = (r ≡ reply_of (begun_paper b.answer)) × (d ≡ b.dock) × (scratch ≡ b.scratch)

abbrev pub TellsAs : Told → ℕ → Dock → List ℕ → List ℕ → Type 0
TellsAs t r d memory scratch = (r ≡ outcome_number t.outcome) × (d ≡ t.dock) × (memory ≡ t.memory) × (scratch ≡ t.scratch)

abbrev pub CollectsAs : Collects → ℕ → Dock → Type 0
CollectsAs c r d = (r ≡ collected_number c.answer) × (d ≡ c.dock)

-- the same of a call on a vector, in every word: an edit, a split and one for the tail alone, of which a refusal leaves the words as they
-- were; bytes that are moved where a test holds
abbrev pub EditsAs : Result IoVector Refusal → List ℕ → ℕ → List ℕ → Type 0
EditsAs (Ok w) old r words = (r ≡ 0) × (words ≡ vector_words w)
EditsAs (Err e) old r words = (r ≡ number_of e) × (words ≡ old)

abbrev pub SplitsAs : Result Halves Refusal → List ℕ → List ℕ → Reply → List ℕ → List ℕ → Type 0
SplitsAs (Ok h) old behind r head tail =
    (r ≡ reply_of (split_paper (Ok h.looked))) × (head ≡ vector_words h.head) × (tail ≡ vector_words h.tail)
SplitsAs (Err e) old behind r head tail = (r ≡ reply_of (split_paper (Err e))) × (head ≡ old) × (tail ≡ behind)

abbrev pub SplitsTailAs : Result Tail Refusal → List ℕ → Reply → List ℕ → Type 0
SplitsTailAs (Ok t) old r words = (r ≡ reply_of (split_paper (Ok t.looked))) × (words ≡ vector_words t.vector)
SplitsTailAs (Err e) old r words = (r ≡ reply_of (split_paper (Err e))) × (words ≡ old)

abbrev pub MovesAs : Bool → List ℕ → List ℕ → ℕ → List ℕ → Type 0
MovesAs t moved old r bytes = (r ≡ outcome_number (outcome_of t)) × (bytes ≡ pick t moved old)

-- of a load of a drive table, in every word: a refusal leaves them
abbrev pub LoadsAs : Result Table Refusal → ℕ → List ℕ → List ℕ → Type 0
LoadsAs l r before after = (r ≡ outcome_number (loaded_outcome l)) × (after ≡ words_after l before)

-- of joined writes, in every byte of the output and every word of their rows
abbrev pub JoinsWith : Joins → Reply → List ℕ → List ℕ → Type 0
JoinsWith j r output words = (r ≡ reply_of (joined_paper j.answer)) × (output ≡ j.output) × (words ≡ j.joined)

-- and of one on the blockers, whose words a refusal leaves
abbrev pub BlocksAs : Changed → ℕ → Rows → Rows → Type 0
BlocksAs c r before after =
    (r ≡ outcome_number c.outcome) × (blockers_of after ≡ c.blockers) × same_unless (is_done c.outcome) before after
