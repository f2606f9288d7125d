-- Sums that fit 64 bits, and rounding to a multiple.
use Rattle.std.specs.Prelude.{Bool, true, false, ℕ, ◌+◌, ◌-◌, ◌%◌, ◌^◌, ltb, eqb, Option, Some, None}

-- the first where the test holds, otherwise the second
abbrev pub pick : {A : Type 0} → Bool → A → A → A
pick true a b = a
pick false a b = b

-- at most 2^64 - 1
unfoldable pub fits : ℕ → Bool
fits x = ltb x (2 ^ 64)

-- x is a multiple of r
unfoldable pub is_multiple : ℕ → ℕ → Bool
is_multiple x r = eqb (x % r) 0

-- "rounds down to r": the greatest multiple of r that is at most x
unfoldable pub round_down : ℕ → ℕ → ℕ
round_down x r = x - x % r

-- "rounds up to r": the least multiple of r that is at least x
unfoldable pub round_up : ℕ → ℕ → ℕ
round_up x r = round_down (x + (r - 1)) r

-- a + b, where that fits
unfoldable pub sum_of : ℕ → ℕ → Option ℕ
sum_of a b = pick (fits (a + b)) (Some (a + b)) None

-- x rounded up to r, where the sum x + (r - 1) fits
unfoldable pub up_of : ℕ → ℕ → Option ℕ
up_of x r = pick (fits (x + (r - 1))) (Some (round_up x r)) None
