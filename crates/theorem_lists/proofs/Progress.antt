-- What a zero job has put so far: each stage's bytes join those before it, and where it ends with 0 its whole range is put. Assumes nothing.
use Rattle.std.specs.Prelude.{Result, Ok, Err, Option, Some, None}
use mathlib.Core.Path.{◌≡◌, refl, sym, subst}
use mathlib.Core.Bool.{Bool, true, false}
use mathlib.Core.List.{List}
use Prim.Native.Nat.{ℕ, ◌+◌, ◌-◌, ◌<◌, ◌≤◌}
use native.Mathlib.Omega.{arith}
use native.Mathlib.Decide.{dec_lt}
use lib.Dec.{ltb, leb}
use borrow.Author.Tests.{ltb-true, ltb-false}
use Rattle.arithmetic.specs.Rounding.{pick, is_multiple}
use Rattle.arithmetic.specs.Refusals.{number_of, refusal_some}
use Rattle.arithmetic.specs.Offsets.{range_of}
use Rattle.arithmetic.specs.Settings.{settings_fit, length_align}
use Rattle.arithmetic.specs.Padding.{transfer_of}
use Rattle.arithmetic.specs.Zeroes.{chunk_length, chunk_of}
use Rattle.arithmetic.specs.ZeroesLaws.{chunk_within}
use Rattle.arithmetic.specs.declared.refusals.Refusal.{Refusal}
use Rattle.arithmetic.specs.declared.refusals.Refusal.TheVariants.{Unfit, TooLong}
use Rattle.arithmetic.specs.declared.offsets.StoreOffset.{StoreOffset}
use Rattle.arithmetic.specs.declared.offsets.Range.{Range}
use Rattle.arithmetic.specs.declared.settings.Settings.{Settings}
use Rattle.arithmetic.specs.declared.padding.Transfer.{Transfer}
use Rattle.arithmetic.specs.declared.padding.Transfer.TheVariants.{Direct, Bounced}
use Rattle.stages.specs.Laws.{never}
use Rattle.stages.specs.Stages.{size_of, direct_stage, padded_stage, first_phase, state_of, zeroes_by, zeroes_plan, ended_with, later_stage, zeroes_next, chunk_by, chunk_next, tail_next, head_next, stage_done}
use Rattle.stages.specs.declared.state.Job.{Job}
use Rattle.stages.specs.declared.state.Phase.TheVariants.{BouncedWrite}
use Rattle.stages.specs.declared.state.Course.{Course}
use Rattle.stages.specs.declared.state.Course.TheVariants.{Last, Middle, Head, Chunks}
use Rattle.stages.specs.declared.state.State.{State}
use Rattle.stages.specs.declared.told.Step.{Step}
use Rattle.stages.specs.declared.told.Step.TheVariants.{Stays, Ends, Enters}
use Rattle.theorem_lists.specs.PlainStore.{Did}
use Rattle.theorem_lists.specs.Histories.{put_by}
use Rattle.theorem_lists.proofs.Geometry.{Zone, Shaped, zeroes_shaped}

-- every byte from a up to b was put
abbrev pub Put : List Did → ℕ → ℕ → Type 0
Put ds a b = (y : ℕ) → a ≤ y → y < b → put_by ds y ≡ true

put_join : (ds : List Did) (a b c : ℕ) → Put ds a b → Put ds b c → Put ds a c
put_join ds a b c f g y h k = elim (dec_lt y b) [
  | yes l ↦ f y h l
  | no l ↦ g y (omega arith) k
]

put_less : (ds : List Did) (a b c d : ℕ) → a ≤ c → d ≤ b → Put ds a b → Put ds c d
put_less ds a b c d l m f y h k = f y (omega arith) (omega arith)

-- what the stages before one of this course have put
abbrev pub Before : Course → Range → Range → Range → List Did → Type 0
Before Last a r m ds = Put ds r.start.0 a.start.0
Before Middle a r m ds = Unit {0}
Before Head a r m ds = Put ds m.start.0 m.end.0
Before Chunks a r m ds = Put ds r.start.0 a.start.0

-- a stage that is entered: it stands in the job's range, behind what was put
pub record Follows (ds : List Did) (y : State) : Type 0 where
  pub shaped : Shaped y
  pub before : Before y.course y.stage.asked y.range y.middle ds

abbrev pub Goes : List Did → State → Step → Type 0
Goes ds x (Stays y) = Unit {0}
Goes ds x (Ends y) = y.answer ≡ 0 → Put ds x.range.start.0 x.range.end.0
Goes ds x (Enters y) = Follows ds y

refused_some : (r : Refusal) {A : Type 0} → number_of r ≡ 0 → A
refused_some r e = absurd (omega (arith, refusal_some r))

-- a plan that is refused or starts a stage
abbrev pub Opening : (State → Type 0) → Result (Option State) Refusal → Type 0
Opening P (Ok None) = ⊥
Opening P (Ok (Some x)) = P x
Opening P (Err r) = Unit {0}

module _ (s : Settings) (fit : settings_fit s ≡ true) (ds : List Did) where
  module _ (j : Job) (w m : Range) (c : Course) (r : Range) (z : Zone c r w m) (b : Before c r w m ds) where
    zeroes_by_lem : (x : Result Transfer Refusal) → ((y : State) → zeroes_by s j w m c r x ≡ (Ok (Some y)) → Shaped y) → Opening (Follows ds) (zeroes_by s j w m c r x)
    unfolding direct_stage padded_stage
    zeroes_by_lem (Ok (Direct x)) f = shape (leb (size_of r) s.bounce) f
      where
        shape : (t : Bool) → ((y : State) → pick t (Ok (Some (state_of j w m c (direct_stage r) BouncedWrite))) (Err TooLong) ≡ (Ok (Some y)) → Shaped y)
            → Opening (Follows ds) (pick t (Ok (Some (state_of j w m c (direct_stage r) BouncedWrite))) (Err TooLong))
        shape true f = record { shaped = f _ refl; before = b }
        shape false f = tt
    zeroes_by_lem (Ok (Bounced x)) f = shape (leb x.length s.bounce) f
      where
        shape : (t : Bool) → ((y : State) → pick t (Ok (Some (state_of j w m c (padded_stage x r) (first_phase (padded_stage x r))))) (Err TooLong) ≡ (Ok (Some y)) → Shaped y)
            → Opening (Follows ds) (pick t (Ok (Some (state_of j w m c (padded_stage x r) (first_phase (padded_stage x r))))) (Err TooLong))
        shape true f = record { shaped = f _ refl; before = b }
        shape false f = tt
    zeroes_by_lem (Err x) f = tt

    pub zeroes_follow : Opening (Follows ds) (zeroes_plan s j w m c r)
    unfolding zeroes_plan
    zeroes_follow = zeroes_by_lem (transfer_of s.align r.start (size_of r) (is_multiple (size_of r) (length_align s.align))) (λ y e. rw e at (zeroes_shaped s fit j w m c r z))

  module _ (x : State) where
    later_goes : (p : Result (Option State) Refusal) → Opening (Follows ds) p → Goes ds x (later_stage x p)
    later_goes (Ok None) k = absurd k
    later_goes (Ok (Some y)) k = k
    later_goes (Err r) k = λ e. refused_some r e

    next_goes : (c : Course) (r : Range) → Zone c r x.range x.middle → Before c r x.range x.middle ds → Goes ds x (zeroes_next s x c r)
    next_goes c r z b = later_goes (zeroes_plan s x.job x.range x.middle c r) (zeroes_follow x.job x.range x.middle c r z b)

    -- the next chunk, from o on
    pub chunk_goes : (o : StoreOffset) → x.range.start.0 ≤ o.0 → Put ds x.range.start.0 o.0 → Goes ds x (chunk_next s x o)
    unfolding chunk_next chunk_of
    chunk_goes o h f = go (settings_fit s) (ltb o.0 x.range.end.0) fit refl
      where
        n : ℕ
        n = chunk_length s.align.req s.bounce o.0 (x.range.end.0 - o.0)

        go : (a b : Bool) → a ≡ true → ltb o.0 x.range.end.0 ≡ b → Goes ds x (chunk_by s x (pick a (pick b (Ok (Some (range_of o.0 (o.0 + n)))) (Ok None)) (Err Unfit)))
        go true true e g =
            let l = ltb-true o.0 x.range.end.0 g in
            let k = chunk_within s.align.req s.bounce o.0 x.range.end.0 in
            next_goes Chunks (range_of o.0 (o.0 + n)) (h, omega (arith, l, k)) f
        go true false e g = λ z. let l = ltb-false o.0 x.range.end.0 g in put_less ds x.range.start.0 o.0 x.range.start.0 x.range.end.0 (omega arith) (omega (arith, l)) f
        go false b e g = never e

    -- the tail, once all before it is put
    tail_goes : x.range.start.0 ≤ x.middle.end.0 → x.middle.end.0 ≤ x.range.end.0 → Put ds x.range.start.0 x.middle.end.0 → Goes ds x (tail_next s x)
    unfolding tail_next
    tail_goes h l f = go (ltb 0 (x.range.end.0 - x.middle.end.0)) refl
      where
        r : Range
        r = record { start = x.middle.end; end = x.range.end }

        go : (t : Bool) → ltb 0 (x.range.end.0 - x.middle.end.0) ≡ t → Goes ds x (pick t (zeroes_next s x Last r) (Ends (ended_with 0 x)))
        go true e = next_goes Last r (h, refl) f
        go false e = λ z. let k = ltb-false 0 (x.range.end.0 - x.middle.end.0) e in put_less ds x.range.start.0 x.middle.end.0 x.range.start.0 x.range.end.0 (omega arith) (omega (arith, k)) f

    -- the head, once the middle is put
    head_goes : x.range.start.0 ≤ x.middle.start.0 → x.middle.start.0 ≤ x.middle.end.0 → x.middle.end.0 ≤ x.range.end.0
        → Put ds x.middle.start.0 x.middle.end.0 → Goes ds x (head_next s x)
    unfolding head_next
    head_goes h k l f = go (ltb 0 (x.middle.start.0 - x.range.start.0)) refl
      where
        r : Range
        r = record { start = x.range.start; end = x.middle.start }

        go : (t : Bool) → ltb 0 (x.middle.start.0 - x.range.start.0) ≡ t → Goes ds x (pick t (zeroes_next s x Head r) (tail_next s x))
        go true e = next_goes Head r (refl, refl, k, l) f
        go false e =
            let n = ltb-false 0 (x.middle.start.0 - x.range.start.0) e in
            tail_goes (omega arith) l (put_less ds x.middle.start.0 x.middle.end.0 x.range.start.0 x.middle.end.0 (omega (arith, n)) (omega arith) f)

    abbrev a : Range
    a = x.stage.asked

    -- the stage is done, its asked range put
    pub done_goes : (c : Course) → a.start.0 ≤ a.end.0 → Zone c a x.range x.middle → Before c a x.range x.middle ds → Put ds a.start.0 a.end.0 → Goes ds x (stage_done c s x)
    done_goes Last o z b f = λ e. rw (sym z.1) (put_join ds x.range.start.0 a.start.0 a.end.0 b f)
    done_goes Middle o z b f = head_goes z.1 z.2 z.3 (subst (λ (q : Range). Put ds q.start.0 q.end.0) z.0 f)
    done_goes Head o z b f =
        tail_goes (omega (arith, z.0, z.1, z.2)) z.3
        (put_join ds x.range.start.0 x.middle.start.0 x.middle.end.0 (rw (sym z.0, sym z.1) f) b)
    done_goes Chunks o z b f = chunk_goes a.end (omega (arith, z.0)) (put_join ds x.range.start.0 a.start.0 a.end.0 b f)
