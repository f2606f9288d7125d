-- `dock::dock::Dock::begin` meets its contract: what the slot's begin leaves is stored where it is admitted. Assumes nothing.
use mathlib.Core.Path.{◌∙◌, sym, ap}
use Prim.Native.Nat.{◌<◌}
use native.Mathlib.Omega.{arith}
use lib.ListN.{length}
use Rattle.std.specs.Prelude.{Option, Ok}
use Rattle.dock.specs.Begin.{Begins, begins}
use Rattle.dock.specs.declared.begin.Admission.{Admission}
use Rattle.dock.proofs.Steps.{decided_in_share, answers, begin_answers, admitted_slot}
use Rattle.dock.proofs.dock.Dock.begin.Goals as goal
use Rattle.dock.proofs.dock.Dock.begin.Goals.{After-admit, In-Ok-Some}

-- what begin answers, by what the slot's begin answers where it is not refused
abbrev stored : After-admit → Option Admission → Begins
stored c z = begins (answers c.args.self c.select_vector-v.result (Ok z)) c.admit.new.scratch

pub admit-requires : goal.admit-requires
admit-requires c = let a = c.args in decided_in_share a.asked.job a.self.settings a.self.buffers a.asked.offset a.asked.length a.asked.vector (length a.«data».now) (length a.scratch.now) _ c.check_lent-lent.ensures _ _ c.plan_asked-first.ensures _ _ _ c.decide-plan.ensures

-- the slot that is taken is one of the eight
slot_is : (c : In-Ok-Some) → c.in-Ok-Some.job.slot < 8
slot_is c =
    let a = c.args in
    admitted_slot _ _ _ (length a.scratch.now) _ _ _ c.in-Ok-Some.job _
    (decided_in_share a.asked.job a.self.settings a.self.buffers a.asked.offset a.asked.length a.asked.vector (length a.«data».now) (length a.scratch.now) _ c.check_lent-lent.ensures _ _ c.plan_asked-first.ensures _ _ _ c.decide-plan.ensures)
    (ap Ok (sym c.in-Ok-Some.field-0-is) ∙ c.in-Ok-Some.ensures.0)

pub offset_bounds-self-job : goal.offset_bounds-self-job
offset_bounds-self-job c = let h = slot_is (goal.at.offset_bounds-self-job c).In-Ok-Some in omega arith

pub bounds-self-job : goal.bounds-self-job
bounds-self-job c = slot_is (goal.at.bounds-self-job c).In-Ok-Some

pub offset_bounds-self-job-2 : goal.offset_bounds-self-job-2
offset_bounds-self-job-2 c = let h = slot_is (goal.at.offset_bounds-self-job-2 c).In-Ok-Some in omega arith

pub bounds-self-job-2 : goal.bounds-self-job-2
bounds-self-job-2 c = slot_is (goal.at.bounds-self-job-2 c).In-Ok-Some

pub returns-in-Err : goal.returns-in-Err
returns-in-Err c = let a = c.args in begin_answers a.self a.asked a.«data».now a.scratch.now _ c.select_vector-v.ensures _ c.meets_any-met.ensures _ c.check_lent-lent.ensures _ c.first_free-free.ensures _ c.plan_asked-first.ensures _ c.is_valid.ensures _ c.decide-plan.ensures _ _ c.in-Err.ensures

pub returns : goal.returns
returns c = let a = c.args in ap (stored (goal.at.returns c).After-admit) (sym c.in-Ok-Some.field-0-is) ∙ begin_answers a.self a.asked a.«data».now a.scratch.now _ c.select_vector-v.ensures _ c.meets_any-met.ensures _ c.check_lent-lent.ensures _ c.first_free-free.ensures _ c.plan_asked-first.ensures _ c.is_valid.ensures _ c.decide-plan.ensures _ _ c.in-Ok-Some.ensures
