-- `arithmetic::padding::pad_to` meets its contract: each sum that fits is the definition's, and the first that does not is its 207. Assumes nothing.
use Rattle.std.specs.Prelude.{Ok, Some}
use mathlib.Core.Path.{◌≡◌, ◌∙◌}
use Prim.Native.Nat.{ℕ, ◌-◌, ◌<◌, ◌≤◌}
use native.Mathlib.Omega.{arith}
use Rattle.arithmetic.specs.Rounding.{sum_of, up_of}
use Rattle.arithmetic.specs.RoundingLaws.{sum_had, sum_lacked}
use Rattle.arithmetic.specs.PaddingLaws.{start_le, head_below, end_ge, tail_below, rounded_ge}
use Rattle.arithmetic.specs.Padding.{padded_start}
use Rattle.arithmetic.specs.Offsets.{buffer_at, in_buffer_at}
use Rattle.arithmetic.proofs.Padded.{over_end, over_rounded, over_length, over_padded, padded_all, end_is, rounded_is, padded_end_is}
use Rattle.arithmetic.proofs.padding.pad_to.Goals as goal
use Rattle.arithmetic.proofs.padding.pad_to.Goals.{After-in_buffer, After-round_down-start, In-Some, In-Some-checked_add, In-Some-round_up, In-Some-round_up-2}

e1 : (c : In-Some) → sum_of c.args.at c.args.n ≡ Some c.in-Some.end
e1 c = sum_had _ _ _ _ c.checked_add.ensures c.in-Some.is

e2 : (c : In-Some-round_up) → up_of c.in-Some.end c.args.r ≡ Some c.in-Some-round_up.rounded
e2 c = cc

e3 : (c : In-Some-round_up-2) → up_of (c.in-Some-round_up.rounded - c.round_down-start.result) c.args.l ≡ Some c.in-Some-round_up-2.length
e3 c = cc

e4 : (c : In-Some-checked_add) → sum_of c.round_down-start.result c.in-Some-round_up-2.length ≡ Some c.in-Some-checked_add.padded_end
e4 c = sum_had _ _ _ _ c.checked_add-2.ensures c.in-Some-checked_add.is

start_lies : (c : After-round_down-start) → c.round_down-start.result ≤ c.args.at
unfolding padded_start
start_lies c =
    let a = c.args in
    let p = c.requires in
    omega (arith, c.round_down-start.ensures, start_le a.r a.l a.at a.n p.0 p.1 p.3)

record Lies (c : In-Some-checked_add) : Type 0 where
  head : c.args.at - c.round_down-start.result < c.args.l
  end : c.in-Some.end ≤ c.in-Some-checked_add.padded_end
  tail : c.in-Some-checked_add.padded_end - c.in-Some.end < c.args.l

lies : (c : In-Some-checked_add) → Lies c
unfolding padded_start
lies c =
    let a = c.args in
    let p = c.requires in
    let s = c.round_down-start.ensures in
    let ei = end_is a.r a.l a.at a.n c.in-Some.end (e1 c.before.before.before.before.before.before.before) in
    let pi = padded_end_is a.r a.l a.at a.n c.in-Some.end c.in-Some-round_up.rounded c.round_down-start.result c.in-Some-round_up-2.length (e1 c.before.before.before.before.before.before.before) (e2 c.before.before.before.before.before) c.round_down-start.ensures (e3 c.before.before) c.in-Some-checked_add.padded_end (e4 c) in
    record {
      head = omega (arith, s, head_below a.r a.l a.at a.n p.0 p.1 p.3, p.2);
      end = omega (arith, ei, pi, end_ge a.r a.l a.at a.n p.0 p.1 p.3);
      tail = omega (arith, ei, pi, tail_below a.r a.l a.at a.n p.0 p.1 p.3);
    }

-- the asked offset lies behind the padded start, so in the buffer
in_buffer_is : (c : After-in_buffer) → c.in_buffer.result ≡ Ok (buffer_at (c.args.at - c.round_down-start.result))
in_buffer_is c = c.in_buffer.ensures ∙ in_buffer_at _ _ (start_lies c.before.before.before.before.before)

pub returns-in_default : goal.returns-in_default
returns-in_default c = over_end _ _ _ _ (sum_lacked _ _ _ c.checked_add.ensures c.in_default.not-Some)

pub returns-in_default-round_up : goal.returns-in_default-round_up
returns-in_default-round_up c = over_rounded _ _ _ _ c.in-Some.end (e1 c.before.before) (cc)

pub overflow_sub-rounded : goal.overflow_sub-rounded
unfolding padded_start
overflow_sub-rounded c = let a = c.args in
    let p = c.requires in
    omega (
      arith,
      start_lies c,
      c.round_down-start.ensures,
      rounded_is a.r a.l a.at a.n c.in-Some.end c.in-Some-round_up.rounded c.round_down-start.result (e1 c.before.before.before) (e2 c.before) c.round_down-start.ensures,
      rounded_ge a.r a.l a.at a.n p.0 p.1 p.3,
    )

pub returns-in_default-round_up-2 : goal.returns-in_default-round_up-2
returns-in_default-round_up-2 c = over_length _ _ _ _ c.in-Some.end c.in-Some-round_up.rounded c.round_down-start.result (e1 c.before.before.before.before.before) (e2 c.before.before.before) c.round_down-start.ensures (cc)

pub returns-in_default-checked_add : goal.returns-in_default-checked_add
returns-in_default-checked_add c = over_padded _ _ _ _ c.in-Some.end c.in-Some-round_up.rounded c.round_down-start.result c.in-Some-round_up-2.length (e1 c.before.before.before.before.before.before.before) (e2 c.before.before.before.before.before) c.round_down-start.ensures (e3 c.before.before) (sum_lacked _ _ _ c.checked_add-2.ensures c.in_default-checked_add.not-Some)

pub returns-in_default-in_buffer : goal.returns-in_default-in_buffer
returns-in_default-in_buffer c = let e = in_buffer_is c.before in let z : ◌≡◌ {A = ℕ} 0 1 = cc in absurd (omega arith)

pub overflow_sub-at : goal.overflow_sub-at
overflow_sub-at c = start_lies c.before.before.before.before.before.before

pub round_edge-requires : goal.round_edge-requires
round_edge-requires c = (lies c.before.before).head

pub overflow_sub-padded_end : goal.overflow_sub-padded_end
overflow_sub-padded_end c = (lies c.before.before.before).end

pub round_edge-requires-2 : goal.round_edge-requires-2
round_edge-requires-2 c = (lies c.before.before.before).tail

pub returns : goal.returns
returns c = let e = in_buffer_is c.before.before.before in
    let g : c.in-Ok.head ≡ buffer_at (c.args.at - c.round_down-start.result) = cc in
    padded_all _ _ _ _ c.in-Some.end c.in-Some-round_up.rounded c.round_down-start.result c.in-Some-round_up-2.length (e1 c.before.before.before.before.before.before.before.before.before.before.before) (e2 c.before.before.before.before.before.before.before.before.before) c.round_down-start.ensures (e3 c.before.before.before.before.before.before)
    c.in-Some-checked_add.padded_end c.round_edge.result c.round_edge-2.result _ (e4 c.before.before.before.before) g c.round_edge.ensures c.round_edge-2.ensures
