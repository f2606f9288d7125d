-- The steps of begin and tell: each branch of the code gives what the definition says, and what a step needs of the scratch is there. Assumes nothing.
use mathlib.Core.Path.{◌≡◌, refl, sym, ap, ◌∙◌}
use mathlib.Core.Bool.{Bool, true}
use mathlib.Core.List.{List}
use Prim.Native.Nat.{ℕ, ◌*◌, ◌<◌, ◌≤◌}
use native.Mathlib.Omega.{arith}
use lib.Dec.{leb, eqb}
use lib.ListN.{length}
use borrow.Author.Tests.{leb-true, eqb-true}
use Rattle.arithmetic.specs.declared.refusals.Refusal.{Refusal}
use Rattle.arithmetic.specs.SettingsLaws.{and_right, opened}
use Rattle.arithmetic.specs.declared.settings.Settings.{Settings}
use Rattle.arithmetic.specs.declared.settings.Buffers.{Buffers}
use Rattle.arithmetic.specs.declared.offsets.StoreOffset.{StoreOffset}
use Rattle.vectors.specs.Vectors.{is_valid}
use Rattle.vectors.specs.declared.vector.IoVector.{IoVector}
use Rattle.blockers.specs.declared.Blockers.{Blockers}
use Rattle.stages.specs.Stages.{is_sound, told_of}
use Rattle.stages.specs.Laws.{told_stays, told_enters}
use Rattle.stages.specs.declared.state.Job.{Job}
use Rattle.stages.specs.declared.state.State.{State}
use Rattle.stages.specs.declared.told.Step.{Step}
use Rattle.stages.specs.declared.told.Step.TheVariants.{Stays, Ends, Enters}
use Rattle.dock.specs.Dock.{lent_fits, lent_of, overlaps_of, first_free}
use Rattle.std.specs.Prelude.{Option, Some, None, Result, Ok, Err}
use Rattle.dock.specs.declared.begin.Beginning.{Beginning}
use Rattle.arithmetic.specs.Refusals.{when_done}
use Rattle.dock.specs.Begin.{EnterGives, Admits, admission, admission_by, AdmitGives, begins, with_job, selected_of, plan_of, begin_of, Entering, enter_at, decided_of, admit_by, admit_at, PlanInShare, stored_with_by, stored_with}
use Rattle.dock.specs.Next.{is_sound_in}
use Rattle.dock.specs.Tell.{StepInShare, answered_of}
use Rattle.dock.specs.SlotLaws.{plan_sound, started, lent_done, leads_told, begin_whole}
use Rattle.dock.specs.declared.dock.Dock.{Dock}
use Rattle.dock.specs.declared.begin.Asked.{Asked}
use Rattle.dock.specs.declared.begin.Admission.{Admission}
use Rattle.dock.proofs.Merging.{in_share}

-- ---- a code is told

-- the stage that an accepted code leads to lies in its share
pub leads_in_share : (p : ℕ) (s : Settings) (x : State) (code n : ℕ) → p < 8 → is_sound s.bounce x ≡ true → 8 * s.bounce ≤ n → (t : Step) → answered_of s x code ≡ Ok t
    → StepInShare (p * s.bounce) n t
leads_in_share p s x code n h w r t e = by t (leads_told s x code t e)
  where
    by : (t : Step) → told_of s x code ≡ t → StepInShare (p * s.bounce) n t
    by (Stays y) e = in_share p s.bounce y n h ((told_stays s x code y e).sound w) r
    by (Ends y) e = tt
    by (Enters y) e = in_share p s.bounce y n h (told_enters s x code y e).sound r

-- ---- what a begin is lent

pub lent_room : (s : Settings) (b : Buffers) (m n : ℕ) (l : Result (Unit {0}) Refusal) → l ≡ lent_of s b m n → l ≡ (Ok tt) → 8 * s.bounce ≤ n
unfolding lent_fits
lent_room s b m n l e d =
    let k = lent_done s b m n (sym e ∙ d) in
    let h = eqb-true n b.scratch.length (and_right (eqb m b.«data».length) (eqb n b.scratch.length) k.1) in
    omega (arith, (opened s b k.0).room)

-- ---- a job is begun

pub decided_in_share : (j : Job) (s : Settings) (b : Buffers) (o : StoreOffset) (k : ℕ) (v : IoVector) (m n : ℕ) (l : Result (Unit {0}) Refusal) → l ≡ lent_of s b m n → (t : Bool) (plan : Result (Option State) Refusal) → plan ≡ plan_of j s b o k v
    → (met : Bool) (f : ℕ) (q : Result (Option State) Refusal) → q ≡ decided_of l t plan met f → PlanInShare f s.bounce n q
decided_in_share j s b o k v m n l le t plan pe met f (Ok None) e = tt
decided_in_share j s b o k v m n l le t plan pe met f (Err r) e = tt
decided_in_share j s b o k v m n l le t plan pe met f (Ok (Some x)) e =
    let w = started l t plan met f x (sym e) in
    (w.slot, plan_sound j s b o k v x (sym pe ∙ w.planned), lent_room s b m n l le w.lent)

-- where the blocker does not enter or its bytes are not filled, that is the answer
pub admit_err : (b : Blockers) (p : ℕ) (x : State) (e : Entering) (r : Refusal) (s : List ℕ) → EnterGives e (Err r) s → AdmitGives (admit_by e.outcome b p x e) (Err r) s
admit_err b p x e r s g = go e.outcome g.0
  where
    go : (o : Result (Unit {0}) Refusal) → Err r ≡ when_done o (Ok e.blockers) Err → AdmitGives (admit_by o b p x e) (Err r) s
    go (Ok _) k = absurd (let z : ◌≡◌ {A = ℕ} 0 1 = cc in omega arith)
    go (Err q) k = let w : r ≡ q = cc in (ap (λ (z : Refusal). Err z) w, g.1)

-- what begin answers by what the slot's begin answers
abbrev pub answers : Dock → IoVector → Result (Option Admission) Refusal → Beginning
answers d v (Ok None) = record { answer = (Ok None); dock = d }
answers d v (Ok (Some j)) = record { answer = (Ok (Some j.slot)); dock = with_job d j.slot j.blockers j.state v }
answers d v (Err r) = record { answer = Err r; dock = d }

answered : (d : Dock) (v : IoVector) (a : Admits) → begins (answers d v (admission a)) a.scratch ≡ stored_with d v a
answered d v a = go a.answer
  where
    go : (z : Result (Option ℕ) Refusal) → begins (answers d v (admission_by z a.blockers a.state)) a.scratch ≡ stored_with_by z d v a
    go (Ok None) = refl
    go (Ok (Some p)) = refl
    go (Err r) = refl

module _ (d : Dock) (q : Asked) (memory scratch : List ℕ) (v : IoVector) (ve : v ≡ selected_of q.job q.vector) (met : Bool) (me : met ≡ overlaps_of d.states d.vectors q.job v)
    (l : Result (Unit {0}) Refusal) (le : l ≡ lent_of d.settings d.buffers (length memory) (length scratch)) (f : ℕ) (fe : f ≡ first_free d.states)
    (plan : Result (Option State) Refusal) (pe : plan ≡ plan_of q.job d.settings d.buffers q.offset q.length q.vector) (t : Bool) (te : t ≡ is_valid (length memory) v)
    (r : Result (Option State) Refusal) (re : r ≡ decided_of l t plan met f) where
  pub begin_answers : (a : Result (Option Admission) Refusal) (s : List ℕ) → AdmitGives (admit_at d.blockers f d.settings.bounce v memory scratch r) a s
      → begins (answers d v a) s ≡ begin_of d q memory scratch
  begin_answers a s g = rw (g.0, g.1) (answered d v (admit_at d.blockers f d.settings.bounce v memory scratch r) ∙ begin_whole d q memory scratch v ve met me l le f fe plan pe t te r re)

-- ---- the slot of a job that is admitted

module _ (b : Blockers) (f n k : ℕ) (v : IoVector) (memory scratch : List ℕ) (job : Admission) where
  pub admitted_slot : (r : Result (Option State) Refusal) → PlanInShare f n k r → Ok (Some job) ≡ admission (admit_at b f n v memory scratch r) → job.slot < 8
  admitted_slot (Ok None) h e = absurd (let z : ◌≡◌ {A = ℕ} 0 1 = cc in omega arith)
  admitted_slot (Err x) h e = absurd (let z : ◌≡◌ {A = ℕ} 0 1 = cc in omega arith)
  admitted_slot (Ok (Some x)) h e = go (enter_at b f (f * n) x v memory scratch).outcome e
    where
      go : (o : Result (Unit {0}) Refusal) → Ok (Some job) ≡ admission (admit_by o b f x (enter_at b f (f * n) x v memory scratch)) → job.slot < 8
      go (Ok _) q = let z : job.slot ≡ f = cc in rw z h.0
      go (Err y) q = absurd (let z : ◌≡◌ {A = ℕ} 0 1 = cc in omega arith)

-- ---- a job that a call made

-- what the scratch of a sound job has room for
pub sound_room : (x : State) (s : Settings) (b : Buffers) (m n : ℕ) → lent_fits b m n ≡ true → is_sound_in x s b ≡ true → 8 * s.bounce ≤ n
unfolding lent_fits is_sound_in
sound_room x s b m n l k =
    let e = eqb-true n b.scratch.length (and_right (eqb m b.«data».length) (eqb n b.scratch.length) l) in
    let h = leb-true (8 * s.bounce) b.scratch.length (and_right (is_sound s.bounce x) (leb (8 * s.bounce) b.scratch.length) k) in
    omega arith
