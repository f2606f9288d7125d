-- Document 01, "Blockers": who notes whom, and who waits.
use Rattle.std.specs.Prelude.{Result, Ok, Err, Bool, true, false, ◌&&◌, not, List, [], map, ℕ, ltb, get_or, set, replicate}
use Rattle.arithmetic.specs.Rounding.{pick}
use Rattle.arithmetic.specs.Loops.{any_below}
use Rattle.arithmetic.specs.Offsets.{range_of}
use Rattle.arithmetic.specs.declared.offsets.Range.{Range}
use Rattle.arithmetic.specs.Refusals.{when_done}
use Rattle.arithmetic.specs.declared.refusals.Refusal.{Refusal}
use Rattle.arithmetic.specs.declared.refusals.Refusal.TheVariants.{Slot}
use Rattle.blockers.specs.declared.Kind.{Kind}
use Rattle.blockers.specs.declared.Kind.TheVariants.{Absent, Weak, Strong}
use Rattle.blockers.specs.declared.Blocker.{Blocker}
use Rattle.blockers.specs.declared.Blockers.{Blockers}

-- "Ranges overlap when each starts before the other ends"
unfoldable pub overlaps : Range → Range → Bool
overlaps a b = ltb a.start.0 b.end.0 && ltb b.start.0 a.end.0

abbrev pub present : Kind → Bool
present Absent = false
present Weak = true
present Strong = true

-- the kind of one that is strong, or is not
abbrev pub strength : Bool → Kind
strength true = Strong
strength false = Weak

abbrev pub is_entered : Blocker → Bool
is_entered b = present b.kind

-- "Entering, a weak one notes every strong one that overlaps, a strong one every overlapping one of both kinds."
unfoldable pub conflict : Kind → Kind → Bool
conflict Absent k = false
conflict Weak Absent = false
conflict Weak Weak = false
conflict Weak Strong = true
conflict Strong Absent = false
conflict Strong Weak = true
conflict Strong Strong = true

-- whether one of kind k over r notes b
unfoldable pub notes : Kind → Range → Blocker → Bool
notes k r b = conflict k b.kind && overlaps b.range r

-- the notes of one that enters: a test for each slot, those that still wait too
unfoldable pub notes_of : Kind → Range → Blockers → List Bool
notes_of k r b = map (notes k r) b.slots

abbrev pub vacant : Blocker
vacant = record { kind = Absent; range = range_of 0 0; noted = replicate 8 false }

-- what is read past slot 7
abbrev pub nowhere : Blocker
nowhere = record { kind = Absent; range = range_of 0 0; noted = [] }

abbrev pub blocker_at : Blockers → ℕ → Blocker
blocker_at b p = get_or b.slots p nowhere

unfoldable pub no_blockers : Blockers
no_blockers = record { slots = replicate 8 vacant }

-- the blockers after a call, and whether it was carried out
pub record Changed : Type 0 where
  pub blockers : Blockers
  pub outcome : Result (Unit {0}) Refusal

-- what such a call answers: an error leaves the caller with the blockers that it had
abbrev pub changed : Changed → Result Blockers Refusal
changed c = when_done c.outcome (Ok c.blockers) Err

abbrev pub refused : Blockers → Changed
refused b = record { blockers = b; outcome = Err Slot }

abbrev pub changed_to : List Blocker → Changed
changed_to l = record { blockers = record { slots = l }; outcome = (Ok tt) }

-- "It is entered even while it waits." Past slot 7, and where one is entered: 208.
unfoldable pub entered_of : Kind → ℕ → Range → Blockers → Changed
entered_of k p r b =
    pick (ltb p 8 && not (is_entered (blocker_at b p)))
    (changed_to (set b.slots p (record { kind = k; range = r; noted = notes_of k r b })))
    (refused b)

-- b without p among those that it noted
unfoldable pub forgetting : ℕ → Blocker → Blocker
forgetting p b = record { kind = b.kind; range = b.range; noted = set b.noted p false }

-- "It leaves when its piece ends": it is gone, and nobody notes it any more. Past slot 7, and where none is entered: 208.
unfoldable pub left_of : ℕ → Blockers → Changed
left_of p b =
    pick (ltb p 8 && is_entered (blocker_at b p))
    (changed_to (set (map (forgetting p) b.slots) p vacant))
    (refused b)

-- p has noted q
abbrev pub has_noted : Blockers → ℕ → ℕ → Bool
has_noted b p q = get_or (blocker_at b p).noted q false

-- "It waits exactly while one that it noted is still there."
unfoldable pub waits_of : ℕ → Blockers → Bool
waits_of p b = any_below 8 (λ q. has_noted b p q && is_entered (blocker_at b q))
