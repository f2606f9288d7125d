-- Powers of two from 1 to 2 ^ n.
use Rattle.std.specs.Prelude.{Bool, ◌||◌, ℕ, zero, suc, ◌^◌, eqb}

-- x is one of 2 ^ 0, .., 2 ^ n
abbrev pub is_power_to : ℕ → ℕ → Bool
is_power_to zero x = eqb x 1
is_power_to (suc n) x = eqb x (2 ^ suc n) || is_power_to n x
