-- "Each, as a refusal, leaves dock, vectors and lent bytes unchanged": a law for begin, tell and collect, on any dock. Assumes nothing.
use Rattle.std.specs.Prelude.{Result, Ok, Err, Option, Some, None}
use Rattle.std.specs.Prelude.{◌≡◌, refl, Bool, ◌&&◌, List, [], ℕ, ◌+◌, ◌*◌, ltb, eqb, length, take, drop}
use Rattle.std.proofs.Common.{sym, arith}
use Rattle.std.proofs.Math.Bool.{true, false}
use Rattle.arithmetic.specs.Rounding.{pick}
use Rattle.arithmetic.specs.Refusals.{when_done}
use Rattle.arithmetic.specs.declared.refusals.Refusal.{Refusal}
use Rattle.arithmetic.specs.declared.refusals.Refusal.TheVariants.{Segment, Buffer, Slot, NoAnswer}
use Rattle.arithmetic.specs.declared.settings.Settings.{Settings}
use Rattle.arithmetic.specs.declared.settings.Buffers.{Buffers}
use Rattle.vectors.specs.Vectors.{put, scatter_of, segments_of, copies, is_valid, vector_of, segments_fit, all_segments}
use Rattle.vectors.specs.Vectors.{size_of as total_of}
use Rattle.vectors.specs.SegmentLaws.{vector_valid}
use Rattle.vectors.specs.declared.vector.IoVector.{IoVector}
use Rattle.blockers.specs.declared.Blockers.{Blockers}
use Rattle.stages.specs.Stages.{size_of, has_ended, told_of}
use Rattle.stages.specs.declared.state.State.{State}
use Rattle.stages.specs.declared.told.Step.{Step}
use Rattle.stages.specs.declared.told.Step.TheVariants.{Stays, Ends, Enters}
use Rattle.dock.specs.Dock.{vacant, state_at, vector_at, lent_fits, is_out_by, first_free}
use Rattle.dock.specs.Begin.{fills, is_bounced_write, source_of, source_fits, merged_at, filled, blockers_with, Entering, enter_at}
use Rattle.dock.specs.Begin.{admit_by}
use Rattle.dock.specs.Begin.{admit_at, Begins, with_job, stored_with, vector_for, decided_for, begin_of}
use Rattle.dock.specs.Next.{is_sound_in}
use Rattle.dock.specs.Tell.{hands, is_bounced_read, copied_at, handed, blockers_without, Stepped, refused_step, ends_at, enters_by}
use Rattle.dock.specs.Tell.{enters_at, stepped_at, answered_of, answered_by, told_at, Told, refused_tell, stored_by, stored, tell_of}
use Rattle.dock.specs.Tell.{collect_of}
use Rattle.dock.specs.declared.dock.Dock.{Dock}
use Rattle.dock.specs.declared.begin.Asked.{Asked}
use Rattle.dock.specs.declared.tell.Collects.{Collects}

other : {A : Type 0} → ◌≡◌ {A = ℕ} 0 1 → A
other e = absurd (omega arith)

-- ---- the bytes of one slot

-- a fill that is refused leaves the scratch
filled_refused : (share : ℕ) (x : State) (v : IoVector) (memory scratch : List ℕ) (r : Refusal)
    → (filled share x v memory scratch).outcome ≡ Err r → (filled share x v memory scratch).scratch ≡ scratch
unfolding filled merged_at
filled_refused share x v memory scratch r = go (is_bounced_write x.phase) (source_fits x.job v (size_of x.stage.asked) memory)
  where
    go : (b t : Bool)
        → (pick b (pick t (fills (Ok (tt {0})) (put scratch (share + x.stage.head.0) (source_of x.job v (size_of x.stage.asked) memory)))
        (fills (Err Segment) scratch)) (fills (Ok (tt {0})) scratch)).outcome ≡ Err r
        → (pick b (pick t (fills (Ok (tt {0})) (put scratch (share + x.stage.head.0) (source_of x.job v (size_of x.stage.asked) memory)))
        (fills (Err Segment) scratch)) (fills (Ok (tt {0})) scratch)).scratch ≡ scratch
    go true true e = other cc
    go true false e = refl
    go false t e = refl

-- and a copy out that is refused leaves the data
handed_refused : (share : ℕ) (x : State) (code : ℕ) (v : IoVector) (memory scratch : List ℕ) (r : Refusal)
    → (handed share x code v memory scratch).outcome ≡ Err r → (handed share x code v memory scratch).memory ≡ memory
unfolding handed copied_at
handed_refused share x code v memory scratch r = go (is_bounced_read x.phase && eqb code 0) (copies memory v (size_of x.stage.asked))
  where
    go : (b t : Bool)
        → (pick b (pick t (hands (Ok (tt {0})) (scatter_of memory (segments_of v)
        (take (size_of x.stage.asked) (drop (share + x.stage.head.0) scratch)))) (hands (Err Segment) memory))
        (hands (Ok (tt {0})) memory)).outcome ≡ Err r
        → (pick b (pick t (hands (Ok (tt {0})) (scatter_of memory (segments_of v)
        (take (size_of x.stage.asked) (drop (share + x.stage.head.0) scratch)))) (hands (Err Segment) memory))
        (hands (Ok (tt {0})) memory)).memory ≡ memory
    go true true e = other cc
    go true false e = refl
    go false t e = refl

-- ---- begin

abbrev pub BeginUnchanged : Dock → List ℕ → Begins → Type 0
BeginUnchanged d scratch b = (r : Refusal) → b.answer ≡ Err r → (b.dock ≡ d) × (b.scratch ≡ scratch)

admit_unchanged : (d : Dock) (v : IoVector) (memory scratch : List ℕ) (p n : ℕ) (plan : Result (Option State) Refusal)
    → BeginUnchanged d scratch (stored_with d v (admit_at d.blockers p n v memory scratch plan))
unfolding enter_at
admit_unchanged d v memory scratch p n (Ok None) = λ r e. (refl, refl)
admit_unchanged d v memory scratch p n (Err q) = λ r e. (refl, refl)
admit_unchanged d v memory scratch p n (Ok (Some x)) = go (blockers_with d.blockers p x).outcome
    (filled (p * n) x v memory scratch).outcome refl
  where
    there : Result (Unit {0}) Refusal → Result (Unit {0}) Refusal → Entering
    there q o =
        when_done q (record {
          blockers = (blockers_with d.blockers p x).blockers;
          outcome = o;
          scratch = (filled (p * n) x v memory scratch).scratch;
        })
        (λ r. record { blockers = (blockers_with d.blockers p x).blockers; outcome = q; scratch = scratch })

    go : (q o : Result (Unit {0}) Refusal) → (filled (p * n) x v memory scratch).outcome ≡ o
        → BeginUnchanged d scratch (stored_with d v (admit_by (there q o).outcome d.blockers p x (there q o)))
    go (Ok _) (Ok _) f = λ r e. other cc
    go (Ok _) (Err s) f = λ r e. (refl, filled_refused (p * n) x v memory scratch s f)
    go (Err s) o f = λ r e. (refl, refl)

pub begin_unchanged : (d : Dock) (q : Asked) (memory scratch : List ℕ) → BeginUnchanged d scratch (begin_of d q memory scratch)
unfolding begin_of
begin_unchanged d q memory scratch = admit_unchanged d (vector_for q) memory scratch (first_free d.states) d.settings.bounce
    (decided_for d q (length memory) (length scratch))

-- the empty vector is one over any data
pub empty_valid : (n : ℕ) → is_valid n (vector_of []) ≡ true
unfolding segments_fit all_segments total_of
empty_valid n = vector_valid n [] refl

-- ---- tell

abbrev StepUnchanged : List ℕ → List ℕ → Stepped → Type 0
StepUnchanged memory scratch t = (r : Refusal) → t.outcome ≡ Err r → (t.memory ≡ memory) × (t.scratch ≡ scratch)

module _ (b : Blockers) (p share : ℕ) (x : State) (code : ℕ) (v : IoVector) (memory scratch : List ℕ) where
  step_unchanged : (t : Step) → StepUnchanged memory scratch (stepped_at b p share x code v memory scratch t)
  unfolding ends_at enters_at enter_at
  step_unchanged (Stays y) = λ r e. (refl, filled_refused share y v memory scratch r e)
  step_unchanged (Ends y) = go (blockers_without b p x).outcome
    where
      go : (q : Result (Unit {0}) Refusal)
          → StepUnchanged memory scratch (when_done q
          (record {
            outcome = (handed share x code v memory scratch).outcome;
            blockers = (blockers_without b p x).blockers;
            state = y;
            memory = (handed share x code v memory scratch).memory;
            scratch = scratch;
          })
          (λ s. refused_step b x s memory scratch))
      go (Ok _) = λ r e. (handed_refused share x code v memory scratch r e, refl)
      go (Err s) = λ r e. (refl, refl)
  step_unchanged (Enters y) = go (blockers_without b p x).outcome (blockers_with B p y).outcome
    where
      B : Blockers
      B = (blockers_without b p x).blockers

      go : (q n : Result (Unit {0}) Refusal)
          → StepUnchanged memory scratch (when_done q
          (enters_by (when_done n (record {
            blockers = (blockers_with B p y).blockers;
            outcome = (filled share y v memory scratch).outcome;
            scratch = (filled share y v memory scratch).scratch;
          })
          (λ s. record { blockers = (blockers_with B p y).blockers; outcome = n; scratch = scratch })) y memory)
          (λ s. refused_step b x s memory scratch))
      go (Ok _) (Ok _) = λ r e. (refl, filled_refused share y v memory scratch r e)
      go (Ok _) (Err s) = λ r e. (refl, refl)
      go (Err s) n = λ r e. (refl, refl)

  told_unchanged : (s : Settings) (l : Buffers) → share ≡ p * s.bounce →
      StepUnchanged memory scratch (told_at b p s l x v code memory scratch)
  unfolding told_at answered_of
  told_unchanged s l h = rw (sym h) (go (is_out_by b x p && is_sound_in x s l) (ltb code 200))
    where
      go : (a u : Bool)
          → StepUnchanged memory scratch (pick a (answered_by
          (pick u (Ok (told_of s x code)) (Err NoAnswer)) b p share x code v memory scratch)
          (refused_step b x Slot memory scratch))
      go true true = step_unchanged (told_of s x code)
      go true false = λ r e. (refl, refl)
      go false u = λ r e. (refl, refl)

abbrev pub TellUnchanged : Dock → List ℕ → List ℕ → Told → Type 0
TellUnchanged d memory scratch t = (r : Refusal) → t.outcome ≡ Err r → (t.dock ≡ d) × (t.memory ≡ memory) × (t.scratch ≡ scratch)

stored_unchanged : (d : Dock) (p : ℕ) (memory scratch : List ℕ) (t : Stepped) → StepUnchanged memory scratch t →
    TellUnchanged d memory scratch (stored d p t)
stored_unchanged d p memory scratch t u = go t.outcome refl
  where
    go : (o : Result (Unit {0}) Refusal) → t.outcome ≡ o → TellUnchanged d memory scratch (stored_by o d p t)
    go (Ok _) e = λ r f. other cc
    go (Err s) e = λ r f. let k = u s e in (refl, k.0, k.1)

pub tell_unchanged : (d : Dock) (p code : ℕ) (memory scratch : List ℕ) → TellUnchanged d memory scratch (tell_of d p code memory scratch)
unfolding tell_of
tell_unchanged d p code memory scratch = go (lent_fits d.buffers (length memory) (length scratch)) (ltb p 8)
  where
    T : Stepped
    T = told_at d.blockers p d.settings d.buffers (state_at d p) (vector_at d p) code memory scratch

    go : (a b : Bool) → TellUnchanged d memory scratch (pick a (pick b (stored d p T) (refused_tell d memory scratch Slot))
        (refused_tell d memory scratch Buffer))
    go true true = stored_unchanged d p memory scratch T (told_unchanged d.blockers p (p * d.settings.bounce) (state_at d p) code
        (vector_at d p) memory scratch d.settings d.buffers refl)
    go true false = λ r e. (refl, refl, refl)
    go false b = λ r e. (refl, refl, refl)

-- ---- collect

pub collect_unchanged : (d : Dock) (p m n : ℕ) (r : Refusal) → (collect_of d p m n).answer ≡ Err r → (collect_of d p m n).dock ≡ d
unfolding collect_of
collect_unchanged d p m n r e = go (lent_fits d.buffers m n) (ltb p 8 && has_ended (state_at d p).phase) e
  where
    found : Collects
    found = record { dock = with_job d p d.blockers vacant (vector_of []); answer = Ok (state_at d p).answer }

    lacks : Refusal → Collects
    lacks s = record { dock = d; answer = Err s }

    go : (a b : Bool) → (pick a (pick b found (lacks Slot)) (lacks Buffer)).answer ≡ Err r →
        (pick a (pick b found (lacks Slot)) (lacks Buffer)).dock ≡ d
    go true true e = other cc
    go true false e = refl
    go false b e = refl
