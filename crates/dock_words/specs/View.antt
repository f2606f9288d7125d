-- What lent words mean: the dock by value. Any words are a dock: a tag that is none is the first variant, an answer counts modulo 256,
-- a flag is true at any word but 0. `.._of` and `.._from` read a row, `.._words` write it.
use Rattle.std.specs.Prelude.{Bool, true, false, not, List, [], ◌∷◌, ◌++◌, map, ℕ, ◌+◌, ◌%◌, eqb, get_or, drop}
use Rattle.arithmetic.specs.Rounding.{pick}
use Rattle.arithmetic.specs.Offsets.{buffer_at, range_of}
use Rattle.arithmetic.specs.declared.offsets.Range.{Range}
use Rattle.arithmetic.specs.declared.settings.Settings.{Settings}
use Rattle.arithmetic.specs.declared.settings.Buffers.{Buffers}
use Rattle.vectors.specs.Words.{vector_from}
use Rattle.vectors.specs.declared.vector.IoVector.{IoVector}
use Rattle.blockers.specs.declared.Kind.{Kind}
use Rattle.blockers.specs.declared.Kind.TheVariants.{Absent, Weak, Strong}
use Rattle.blockers.specs.declared.Blocker.{Blocker}
use Rattle.blockers.specs.declared.Blockers.{Blockers}
use Rattle.stages.specs.declared.state.Phase.{Phase}
use Rattle.stages.specs.declared.state.Phase.TheVariants.{Free, Ended, DirectRead, BouncedRead, FirstRead, SecondRead, BouncedWrite}
use Rattle.stages.specs.declared.state.Phase.TheVariants.{DirectWrite, ZeroRequest, DiscardRequest}
use Rattle.stages.specs.declared.state.Job.{Job}
use Rattle.stages.specs.declared.state.Job.TheVariants.{Read, Write, Zeroes, AllocatedZeroes, Discard}
use Rattle.stages.specs.declared.state.Course.{Course}
use Rattle.stages.specs.declared.state.Course.TheVariants.{Last, Middle, Head, Chunks}
use Rattle.stages.specs.declared.state.Stage.{Stage}
use Rattle.stages.specs.declared.state.State.{State}
use Rattle.dock.specs.declared.dock.Dock.{Dock}

-- ---- one word

abbrev pub flag_of : ℕ → Bool
flag_of n = not (eqb n 0)

abbrev pub flag_word : Bool → ℕ
flag_word true = 1
flag_word false = 0

unfoldable pub phase_of : ℕ → Phase
phase_of n =
    pick (eqb n 1) Ended
    (pick (eqb n 2) DirectRead
    (pick (eqb n 3) BouncedRead
    (pick (eqb n 4) FirstRead
    (pick (eqb n 5) SecondRead
    (pick (eqb n 6) BouncedWrite
    (pick (eqb n 7) DirectWrite
    (pick (eqb n 8) ZeroRequest (pick (eqb n 9) DiscardRequest Free))))))))

abbrev pub phase_tag : Phase → ℕ
phase_tag Free = 0
phase_tag Ended = 1
phase_tag DirectRead = 2
phase_tag BouncedRead = 3
phase_tag FirstRead = 4
phase_tag SecondRead = 5
phase_tag BouncedWrite = 6
phase_tag DirectWrite = 7
phase_tag ZeroRequest = 8
phase_tag DiscardRequest = 9

unfoldable pub job_of : ℕ → Job
job_of n = pick (eqb n 1) Write (pick (eqb n 2) Zeroes (pick (eqb n 3) AllocatedZeroes (pick (eqb n 4) Discard Read)))

abbrev pub job_tag : Job → ℕ
job_tag Read = 0
job_tag Write = 1
job_tag Zeroes = 2
job_tag AllocatedZeroes = 3
job_tag Discard = 4

unfoldable pub course_of : ℕ → Course
course_of n = pick (eqb n 1) Middle (pick (eqb n 2) Head (pick (eqb n 3) Chunks Last))

abbrev pub course_tag : Course → ℕ
course_tag Last = 0
course_tag Middle = 1
course_tag Head = 2
course_tag Chunks = 3

unfoldable pub kind_of : ℕ → Kind
kind_of n = pick (eqb n 1) Weak (pick (eqb n 2) Strong Absent)

abbrev pub kind_tag : Kind → ℕ
kind_tag Absent = 0
kind_tag Weak = 1
kind_tag Strong = 2

-- ---- a range: two words

abbrev pub range_at : List ℕ → ℕ → Range
range_at w i = range_of (get_or w i 0) (get_or w (i + 1) 0)

abbrev pub range_words : Range → List ℕ
range_words r = r.start.0 ∷ r.end.0 ∷ []

-- ---- settings and buffers: 9 words. Alignments, bounce buffer length; address and length of the data, then of the scratch

abbrev pub settings_of : List ℕ → Settings
settings_of w = record {
  align = record { mem = get_or w 0 0; req = get_or w 1 0; zero = get_or w 2 0; discard = get_or w 3 0 };
  bounce = get_or w 4 0;
}

abbrev pub buffers_of : List ℕ → Buffers
buffers_of w = record {
  «data» = record { address = get_or w 5 0; length = get_or w 6 0 };
  scratch = record { address = get_or w 7 0; length = get_or w 8 0 };
}

abbrev pub settings_words : Settings → Buffers → List ℕ
settings_words s b =
    s.align.mem ∷ s.align.req ∷ s.align.zero ∷ s.align.discard ∷ s.bounce
    ∷ b.«data».address ∷ b.«data».length ∷ b.scratch.address ∷ b.scratch.length ∷ []

-- ---- a state: 18 words. Phase, answer, job, course, the job's range, the middle; of the stage the four ranges, head, whether strong

-- of a state's words: those from 8 on
unfoldable pub stage_of : List ℕ → Stage
stage_of w =
    record {
      asked = range_at w 8;
      request = range_at w 10;
      first = range_at w 12;
      second = range_at w 14;
      head = buffer_at (get_or w 16 0);
      strong = flag_of (get_or w 17 0);
    }

abbrev pub stage_words : Stage → List ℕ
stage_words g = range_words g.asked ++ range_words g.request ++ range_words g.first ++ range_words g.second ++ g.head.0 ∷ flag_word
    g.strong ∷ []

unfoldable pub state_from : List ℕ → State
state_from w =
    record {
      phase = phase_of (get_or w 0 0);
      answer = get_or w 1 0 % 256;
      job = job_of (get_or w 2 0);
      course = course_of (get_or w 3 0);
      range = range_at w 4;
      middle = range_at w 6;
      stage = stage_of w;
    }

abbrev pub state_words : State → List ℕ
state_words x = phase_tag x.phase ∷ x.answer ∷ job_tag x.job ∷ course_tag x.course ∷ range_words x.range ++ range_words
    x.middle ++ stage_words x.stage

-- ---- a blocker: 11 words. Kind, range, the 8 notes

unfoldable pub blocker_of : List ℕ → Blocker
blocker_of w = record { kind = kind_of (get_or w 0 0); range = range_at w 1; noted = map flag_of (drop 3 w) }

abbrev pub blocker_words : Blocker → List ℕ
blocker_words b = kind_tag b.kind ∷ range_words b.range ++ map flag_word b.noted

-- ---- the dock: 9 words of settings; for each of the 8 slots a row of 11 words of its blocker, 18 of its state, 34 of its vector

-- the rows of the eight slots
abbrev pub Rows : Type 0
Rows = List (List ℕ)

abbrev pub blockers_of : Rows → Blockers
blockers_of w = record { slots = map blocker_of w }

abbrev pub states_of : Rows → List State
states_of w = map state_from w

abbrev pub vectors_of : Rows → List IoVector
vectors_of w = map vector_from w

abbrev pub dock_of : List ℕ → Rows → Rows → Rows → Dock
dock_of s b x v =
    record { settings = settings_of s; buffers = buffers_of s; blockers = blockers_of b; states = states_of x; vectors = vectors_of v }
