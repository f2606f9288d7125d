-- Laws of the planner: chunks are adjacent, at most the share, each of the share but the last, and together the range; past the count they
-- are empty, at the end. Assumes nothing.
use Rattle.std.specs.Prelude.{◌≡◌, Bool, true, false, ◌&&◌, ℕ, suc, ◌+◌, ◌-◌, ◌*◌, ◌/◌, ◌%◌, ◌<◌, ◌≤◌, min, Ok, Err}
use Rattle.std.proofs.Math.Path.{refl, sym}
use Rattle.std.proofs.Math.Nat.{div-eq_of_lt-le, div-add-mod', mod-lt}
use Rattle.std.proofs.Common.{mul-le-mul_right, le-div_iff_mul-le, div-lt_iff_lt-mul}
use native.Mathlib.Omega.{arith}
use Rattle.arithmetic.specs.Rounding.{pick, fits, is_multiple}
use Rattle.arithmetic.specs.Settings.{settings_fit}
use Rattle.arithmetic.specs.Planner.{plan_outcome, chunk_count, planned_chunk}
use Rattle.arithmetic.specs.declared.refusals.Refusal.TheVariants.{Unfit, Overflow, Unaligned}
use Rattle.arithmetic.specs.declared.offsets.StoreOffset.{StoreOffset}
use Rattle.arithmetic.specs.declared.settings.Settings.{Settings}

-- what a plan that is not refused has passed
pub record Plannable (s : Settings) (o : StoreOffset) (n : ℕ) : Type 0 where
  pub settings : settings_fit s ≡ true
  pub multiples : (is_multiple o.0 s.align.req && is_multiple n s.align.req) ≡ true
  pub end : fits (o.0 + n) ≡ true

pub plan_done : (s : Settings) (o : StoreOffset) (n : ℕ) → plan_outcome s o n ≡ (Ok tt) → Plannable s o n
unfolding plan_outcome
plan_done s o n e = go (settings_fit s) (is_multiple o.0 s.align.req && is_multiple n s.align.req)
    (fits (o.0 + n)) refl refl refl e
  where
    go : (a b c : Bool) → settings_fit s ≡ a → (is_multiple o.0 s.align.req && is_multiple n s.align.req) ≡ b → fits (o.0 + n) ≡ c
        → pick a (pick b (pick c (Ok (tt {0})) (Err Overflow)) (Err Unaligned)) (Err Unfit) ≡ Ok (tt {0}) → Plannable s o n
    go true true true p q r e = record { settings = p; multiples = q; end = r }
    go true true false p q r e = let z : ◌≡◌ {A = ℕ} 0 1 = cc in absurd (omega arith)
    go true false c p q r e = let z : ◌≡◌ {A = ℕ} 0 1 = cc in absurd (omega arith)
    go false b c p q r e = let z : ◌≡◌ {A = ℕ} 0 1 = cc in absurd (omega arith)

module _ (b n : ℕ) (h : 0 < b) where
  -- the count by division
  pub count_exact : n % b ≡ 0 → n / b ≡ chunk_count b n
  unfolding chunk_count
  count_exact e =
      let d = div-add-mod' n b in
      sym (div-eq_of_lt-le b (omega arith) (omega arith))

  pub count_more : 0 < n % b → n / b + 1 ≡ chunk_count b n
  unfolding chunk_count
  count_more e =
      let d = div-add-mod' n b in
      let m = mod-lt n h in
      sym (div-eq_of_lt-le b (omega arith) (omega arith))

  -- where chunk i starts
  pub starts_within : (i : ℕ) → i ≤ n / b → i * b ≤ n
  starts_within i l = omega (arith, mul-le-mul_right b l, div-add-mod' n b)

  pub starts_past : (i : ℕ) → n / b < i → n < i * b
  starts_past i l =
      let k : suc (n / b) * b ≤ i * b = mul-le-mul_right b l in
      omega (arith, k, div-add-mod' n b, mod-lt n h)

  pub start_within : (i : ℕ) → i ≤ n / b → i * b ≡ min (i * b) n
  start_within i l = omega (arith, starts_within i l)

  pub end_within : (i : ℕ) → i ≤ n / b → i * b + min (n - i * b) b ≡ min ((i + 1) * b) n
  end_within i l = omega (arith, starts_within i l)

  pub start_past : (i : ℕ) → n / b < i → n ≡ min (i * b) n
  start_past i l = omega (arith, starts_past i l)

  pub end_past : (i : ℕ) → n / b < i → n ≡ min ((i + 1) * b) n
  end_past i l = omega (arith, starts_past i l)

  -- chunk i starts before the range's end exactly where i is below the count
  pub below_count : (i : ℕ) → i < chunk_count b n → i * b < n
  unfolding chunk_count
  below_count i l =
      let q : (i + 1) * b ≤ n + (b - 1) = (le-div_iff_mul-le h).0 (omega arith) in
      omega arith

  pub past_count : (i : ℕ) → chunk_count b n ≤ i → n ≤ i * b
  unfolding chunk_count
  past_count i l =
      let q : n + (b - 1) < (i + 1) * b = (div-lt_iff_lt-mul h).0 (omega arith) in
      omega arith

-- the chunks of n bytes at o, each of at most b
module _ (b o n : ℕ) (h : 0 < b) where
  abbrev start : ℕ → ℕ
  start i = (planned_chunk b o n i).start.0

  abbrev end : ℕ → ℕ
  end i = (planned_chunk b o n i).end.0

  pub first_start : start 0 ≡ o
  unfolding planned_chunk
  first_start = omega arith

  pub adjacent : (i : ℕ) → end i ≡ start (i + 1)
  unfolding planned_chunk
  adjacent i = refl

  -- "an i at or past the count gives length 0 at offset + length"
  pub last_end : (i : ℕ) → chunk_count b n ≤ i → (start i ≡ o + n) × (end i ≡ o + n)
  unfolding planned_chunk
  last_end i l = let p = past_count b n h i l in (omega arith, omega arith)

  pub not_empty_lem : (i : ℕ) → i < chunk_count b n → start i < end i
  unfolding planned_chunk
  not_empty_lem i l = let p = below_count b n h i l in omega arith

  pub at_most : (i : ℕ) → end i ≤ start i + b
  unfolding planned_chunk
  at_most i = omega arith

  -- "each of the share but the last"
  pub full : (i : ℕ) → i + 1 < chunk_count b n → end i ≡ start i + b
  unfolding planned_chunk
  full i l = let p = below_count b n h (i + 1) l in omega arith
