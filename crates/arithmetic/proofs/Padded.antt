-- What each step of `padding::pad_to` shows of the definition: a sum that does not fit is its 207, and sums that fit are its numbers. Assumes nothing.
use Rattle.std.specs.Prelude.{Ok, Err, Some, None}
use mathlib.Core.Path.{◌≡◌, ap, ◌∙◌}
use mathlib.Core.Bool.{true, false}
use Prim.Native.Nat.{ℕ, ◌+◌, ◌-◌}
use Rattle.arithmetic.specs.Rounding.{fits, sum_of, up_of, round_up, round_down}
use Rattle.arithmetic.specs.RoundingLaws.{sum_fits, sum_over, up_fits, up_over}
use Rattle.arithmetic.specs.Offsets.{store_at, buffer_at}
use Rattle.arithmetic.specs.Padding.{padded_start, rounded_end, padded_length, padded_end, padding_fits, span_of, padded_of}
use Rattle.arithmetic.specs.declared.refusals.Refusal.TheVariants.{Overflow}
use Rattle.arithmetic.specs.declared.offsets.BufferOffset.{BufferOffset}

module _ (r l o n : ℕ) where
  pub over_end : sum_of o n ≡ None → Err Overflow ≡ padded_of r l o n
  unfolding padded_of padding_fits
  over_end e = simp (sum_over o n e)

module _ (r l o n end : ℕ) (e : sum_of o n ≡ Some end) where
  pub end_is : end ≡ o + n
  end_is = (sum_fits o n end e).is

  pub over_rounded : up_of end r ≡ None → Err Overflow ≡ padded_of r l o n
  unfolding padded_of padding_fits
  over_rounded f =
      let g : fits (o + n + (r - 1)) ≡ false = rw end_is at (up_over end r f) in
      simp ((sum_fits o n end e).ok, g)

-- the sums up to the rounded end, as numbers and as tests
record Rounded (r o n rounded start : ℕ) : Type 0 where
  end_ok : fits (o + n) ≡ true
  rounded_ok : fits (o + n + (r - 1)) ≡ true
  rounded_is : rounded ≡ rounded_end r o n
  start_is : start ≡ padded_start r o

rounded : (r l o n end rnd start : ℕ) → sum_of o n ≡ Some end → up_of end r ≡ Some rnd → start ≡ round_down o r → Rounded r o n rnd start
unfolding rounded_end padded_start
rounded r l o n end rnd start e f d =
    let u = up_fits end r rnd f in
    let i = end_is r l o n end e in
    record {
      end_ok = (sum_fits o n end e).ok;
      rounded_ok = rw i at u.ok;
      rounded_is = u.is ∙ ap (λ (x : ℕ). round_up x r) i;
      start_is = d;
    }

module _ (r l o n end rnd start : ℕ) (e : sum_of o n ≡ Some end) (f : up_of end r ≡ Some rnd) (d : start ≡ round_down o r) where
  k : Rounded r o n rnd start
  k = rounded r l o n end rnd start e f d

  pub rounded_is : rnd ≡ rounded_end r o n
  rounded_is = k.rounded_is

  pub over_length : up_of (rnd - start) l ≡ None → Err Overflow ≡ padded_of r l o n
  unfolding padded_of padding_fits
  over_length g =
      let h : fits (rounded_end r o n - padded_start r o + (l - 1)) ≡ false = rw (k.rounded_is, k.start_is) at (up_over (rnd - start) l g) in
      simp (k.end_ok, k.rounded_ok, h)

module _ (r l o n end rnd start len : ℕ) (e : sum_of o n ≡ Some end) (f : up_of end r ≡ Some rnd) (d : start ≡ round_down o r)
    (g : up_of (rnd - start) l ≡ Some len) where
  m : Rounded r o n rnd start
  m = rounded r l o n end rnd start e f d

  length_ok : fits (rounded_end r o n - padded_start r o + (l - 1)) ≡ true
  length_ok = rw (m.rounded_is, m.start_is) at (up_fits (rnd - start) l len g).ok

  pub length_is : len ≡ padded_length r l o n
  unfolding padded_length
  length_is = rw (m.rounded_is, m.start_is) at (up_fits (rnd - start) l len g).is

  pub over_padded : sum_of start len ≡ None → Err Overflow ≡ padded_of r l o n
  unfolding padded_of padding_fits
  over_padded h =
      let x : fits (padded_end r l o n) ≡ false = rw (m.start_is, length_is) at (sum_over start len h) in
      simp (m.end_ok, m.rounded_ok, length_ok, x)

  pub padded_end_is : (pend : ℕ) → sum_of start len ≡ Some pend → pend ≡ padded_end r l o n
  padded_end_is pend h = rw (m.start_is, length_is) at (sum_fits start len pend h).is

  pub padded_all : (pend pre suf : ℕ) (head : BufferOffset) → sum_of start len ≡ Some pend → head ≡ buffer_at (o - start) → pre ≡ round_up (o - start) l → suf ≡ round_up (pend - end) l
      → Ok (record { start = store_at start; end = store_at pend; head = head; length = len; prefix = pre; suffix = suf }) ≡ padded_of r l o n
  unfolding padded_of padding_fits span_of
  padded_all pend pre suf head h b p q =
      let x : fits (padded_end r l o n) ≡ true = rw (m.start_is, length_is) at (sum_fits start len pend h).ok in
      simp (m.end_ok, m.rounded_ok, length_ok, x)
      (rw (b, p, q, padded_end_is pend h, length_is, m.start_is, end_is r l o n end e))
