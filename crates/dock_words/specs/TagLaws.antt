-- A word decoded that was coded: what is put is what is got. Assumes nothing.
use Rattle.std.specs.Prelude.{◌≡◌, refl, Bool, true, false}
use Rattle.blockers.specs.declared.Kind.{Kind}
use Rattle.blockers.specs.declared.Kind.TheVariants.{Absent, Weak, Strong}
use Rattle.stages.specs.declared.state.Phase.{Phase}
use Rattle.stages.specs.declared.state.Phase.TheVariants.{Free, Ended, DirectRead, BouncedRead, FirstRead, SecondRead, BouncedWrite}
use Rattle.stages.specs.declared.state.Phase.TheVariants.{DirectWrite, ZeroRequest, DiscardRequest}
use Rattle.stages.specs.declared.state.Job.{Job}
use Rattle.stages.specs.declared.state.Job.TheVariants.{Read, Write, Zeroes, AllocatedZeroes, Discard}
use Rattle.stages.specs.declared.state.Course.{Course}
use Rattle.stages.specs.declared.state.Course.TheVariants.{Last, Middle, Head, Chunks}
use Rattle.dock_words.specs.View.{flag_of, flag_word, phase_of, phase_tag, job_of, job_tag, course_of, course_tag, kind_of, kind_tag}

pub flag_back : (b : Bool) → flag_of (flag_word b) ≡ b
flag_back true = refl
flag_back false = refl

pub phase_back : (p : Phase) → phase_of (phase_tag p) ≡ p
unfolding phase_of
phase_back Free = refl
phase_back Ended = refl
phase_back DirectRead = refl
phase_back BouncedRead = refl
phase_back FirstRead = refl
phase_back SecondRead = refl
phase_back BouncedWrite = refl
phase_back DirectWrite = refl
phase_back ZeroRequest = refl
phase_back DiscardRequest = refl

pub job_back : (j : Job) → job_of (job_tag j) ≡ j
unfolding job_of
job_back Read = refl
job_back Write = refl
job_back Zeroes = refl
job_back AllocatedZeroes = refl
job_back Discard = refl

pub course_back : (c : Course) → course_of (course_tag c) ≡ c
unfolding course_of
course_back Last = refl
course_back Middle = refl
course_back Head = refl
course_back Chunks = refl

pub kind_back : (k : Kind) → kind_of (kind_tag k) ≡ k
unfolding kind_of
kind_back Absent = refl
kind_back Weak = refl
kind_back Strong = refl
