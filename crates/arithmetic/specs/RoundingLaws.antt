-- Laws of sums that fit, of multiples and of rounding, for any multiple. Assumes nothing.
use Rattle.std.specs.Prelude.{◌≡◌, refl, Bool, true, false, ℕ, ◌+◌, ◌-◌, ◌*◌, ◌/◌}
use Rattle.std.specs.Prelude.{◌%◌, ◌^◌, ◌<◌, ◌≤◌, leb, eqb, Option, Some, None, SomeIff}
use Rattle.std.proofs.Common.{sym, ◌∙◌, mod-lt, div-add-mod', le-div_iff_mul-le, div-lt_iff_lt-mul, mul-le-mul_right, arith, ltb-true}
use Rattle.std.proofs.Common.{lt-ltb, le-ltb, le-leb, eq-eqb, ne_eqb}
use Rattle.std.proofs.Math.Nat.{mod-zero, mul-mod_left, dvd_of_mod-eq-zero, mod-eq-zero_of_dvd, dvd_trans, dvd-add, dvd-sub, le_of_dvd}
use Rattle.std.proofs.Math.Decide.{dec_lt, ℕ_discrete}
use Rattle.std.proofs.lemmas.Bool.{lt-leb}
use Rattle.arithmetic.specs.Rounding.{pick, fits, round_down, round_up, sum_of, up_of}

-- ---- what a test picks

-- f of what it picks is what it picks of f's values
pub picked : {A B : Type 0} (f : A → B) (t : Bool) (x y : A) → f (pick t x y) ≡ pick t (f x) (f y)
picked f true x y = refl
picked f false x y = refl

-- ---- what fits

pub fits_true : (x : ℕ) → x < 2 ^ 64 → fits x ≡ true
unfolding fits
fits_true x h = lt-ltb x (2 ^ 64) h

pub fits_false : (x : ℕ) → 2 ^ 64 ≤ x → fits x ≡ false
unfolding fits
fits_false x h = le-ltb x (2 ^ 64) h

pub true_fits : (x : ℕ) → fits x ≡ true → x < 2 ^ 64
unfolding fits
true_fits x e = ltb-true x (2 ^ 64) e

-- a sum fits where there is room for its second part
pub room : (a n : ℕ) → a < 2 ^ 64 → leb n (18446744073709551615 - a) ≡ fits (a + n)
room a n h = elim (dec_lt (a + n) (2 ^ 64)) [
  | yes l ↦ le-leb n (18446744073709551615 - a) (omega arith) ∙ sym (fits_true (a + n) l)
  | no l ↦ lt-leb n (18446744073709551615 - a) (omega arith) ∙ sym (fits_false (a + n) (omega arith))
]

-- two tests for equality that say the same
pub eqb_same : (a b x y : ℕ) → (a ≡ b → x ≡ y) → (x ≡ y → a ≡ b) → eqb a b ≡ eqb x y
eqb_same a b x y f g = elim (ℕ_discrete a b) [
  | yes e ↦ eq-eqb a b e ∙ sym (eq-eqb x y (f e))
  | no n ↦ ne_eqb a b n ∙ sym (ne_eqb x y (λ e. n (g e)))
]

-- a checked answer y of a test t on the value u: what it says of both
pub record Passed (t : Bool) (u y : ℕ) : Type 0 where
  pub ok : t ≡ true
  pub is : y ≡ u

picked_fits : (t : Bool) (u y : ℕ) → pick t (Some u) None ≡ Some y → Passed t u y
picked_fits true u y e = record { ok = refl; is = cc }
picked_fits false u y e = let z : ◌≡◌ {A = ℕ} 0 1 = cc in absurd (omega arith)

picked_over : (t : Bool) (u : ℕ) → pick t (Some u) None ≡ None → t ≡ false
picked_over true u e = cc
picked_over false u e = refl

pub sum_fits : (a b y : ℕ) → sum_of a b ≡ Some y → Passed (fits (a + b)) (a + b) y
unfolding sum_of
sum_fits a b y e = picked_fits (fits (a + b)) (a + b) y e

pub sum_over : (a b : ℕ) → sum_of a b ≡ None → fits (a + b) ≡ false
unfolding sum_of
sum_over a b e = picked_over (fits (a + b)) (a + b) e

pub up_fits : (x r y : ℕ) → up_of x r ≡ Some y → Passed (fits (x + (r - 1))) (round_up x r) y
unfolding up_of
up_fits x r y e = picked_fits (fits (x + (r - 1))) (round_up x r) y e

pub up_over : (x r : ℕ) → up_of x r ≡ None → fits (x + (r - 1)) ≡ false
unfolding up_of
up_over x r e = picked_over (fits (x + (r - 1))) (round_up x r) e

-- `checked_add` answers the sum, where it fits
pub checked_sum : (a b : ℕ) (o : Option ℕ) → SomeIff o (a + b < 2 ^ 64) (a + b) → o ≡ sum_of a b
unfolding sum_of
checked_sum a b None h = simp (fits_false (a + b) (omega arith))
checked_sum a b (Some y) h = simp (fits_true (a + b) h.0, h.1)

-- the same of what a call answered
pub sum_had : (a b y : ℕ) (o : Option ℕ) → SomeIff o (a + b < 2 ^ 64) (a + b) → o ≡ Some y → sum_of a b ≡ Some y
sum_had a b y o h e = sym (checked_sum a b o h) ∙ e

pub sum_lacked : (a b : ℕ) (o : Option ℕ) → SomeIff o (a + b < 2 ^ 64) (a + b) → ((y : ℕ) → o ≡ Some y → ⊥) → sum_of a b ≡ None
sum_lacked a b None h n = sym (checked_sum a b None h)
sum_lacked a b (Some y) h n = absurd (n y refl)

-- `checked_sub` answers the difference, where there is one
pub difference_had : (a b y : ℕ) (o : Option ℕ) → SomeIff o (b ≤ a) (a - b) → o ≡ Some y → Passed (leb b a) (a - b) y
difference_had a b y None h e = let z : ◌≡◌ {A = ℕ} 0 1 = cc in absurd (omega arith)
difference_had a b y (Some x) h e = record { ok = le-leb b a h.0; is = let q : x ≡ y = cc in sym q ∙ h.1 }

pub difference_lacked : (a b : ℕ) (o : Option ℕ) → SomeIff o (b ≤ a) (a - b) → ((y : ℕ) → o ≡ Some y → ⊥) → leb b a ≡ false
difference_lacked a b None h n = lt-leb b a (omega arith)
difference_lacked a b (Some y) h n = absurd (n y refl)

-- nothing but 0 is a multiple of 0
pub up_zero : (x : ℕ) → x < 2 ^ 64 → up_of x 0 ≡ Some 0
unfolding up_of round_up round_down
up_zero x h =
    let z : x + 0 - (x + 0) % 0 ≡ 0 = rw mod-zero (omega arith) in
    simp (fits_true (x + 0) (omega arith), z)

-- ---- multiples

-- sums, differences and multiples of multiples of r are multiples of r
pub multiple_add : (a b r : ℕ) → a % r ≡ 0 → b % r ≡ 0 → (a + b) % r ≡ 0
multiple_add a b r p q = mod-eq-zero_of_dvd r (dvd-add r (dvd_of_mod-eq-zero r p) (dvd_of_mod-eq-zero r q))

pub multiple_sub : (a b r : ℕ) → a % r ≡ 0 → b % r ≡ 0 → (a - b) % r ≡ 0
multiple_sub a b r p q = mod-eq-zero_of_dvd r (dvd-sub r (dvd_of_mod-eq-zero r p) (dvd_of_mod-eq-zero r q))

pub multiple_trans : (a b r : ℕ) → a % b ≡ 0 → b % r ≡ 0 → a % r ≡ 0
multiple_trans a b r p q = mod-eq-zero_of_dvd r (dvd_trans r (dvd_of_mod-eq-zero r q) (dvd_of_mod-eq-zero b p))

pub multiple_le : (a r : ℕ) → 0 < a → a % r ≡ 0 → r ≤ a
multiple_le a r h m = le_of_dvd h (dvd_of_mod-eq-zero r m)

-- ---- rounding down: the greatest multiple that is at most x

pub down_le : (x r : ℕ) → round_down x r ≤ x
unfolding round_down
down_le x r = omega arith

pub down_near : (x r : ℕ) → 0 < r → x < round_down x r + r
unfolding round_down
down_near x r h = omega (arith, mod-lt x h)

-- by division
pub down_is : (x r : ℕ) → round_down x r ≡ x / r * r
unfolding round_down
down_is x r = omega (arith, div-add-mod' x r)

pub down_multiple : (x r : ℕ) → round_down x r % r ≡ 0
down_multiple x r = rw down_is (mul-mod_left (x / r) r)

pub whole : (y r : ℕ) → y % r ≡ 0 → y ≡ y / r * r
whole y r m = omega (arith, div-add-mod' y r)

pub down_greatest : (x r y : ℕ) → 0 < r → y % r ≡ 0 → y ≤ x → y ≤ round_down x r
down_greatest x r y h m l =
    let w = whole y r m in
    let q : y / r ≤ x / r = (le-div_iff_mul-le h).1 (omega arith) in
    rw down_is (omega (arith, mul-le-mul_right r q))

pub down_same : (x r : ℕ) → x % r ≡ 0 → round_down x r ≡ x
unfolding round_down
down_same x r m = rw m (omega arith)

-- ---- rounding up: the least multiple that is at least x

pub up_ge : (x r : ℕ) → 0 < r → x ≤ round_up x r
unfolding round_up
up_ge x r h = omega (arith, down_near (x + (r - 1)) r h)

pub up_near : (x r : ℕ) → 0 < r → round_up x r < x + r
unfolding round_up
up_near x r h = omega (arith, down_le (x + (r - 1)) r)

pub up_multiple : (x r : ℕ) → round_up x r % r ≡ 0
unfolding round_up
up_multiple x r = down_multiple (x + (r - 1)) r

pub up_least : (x r y : ℕ) → 0 < r → y % r ≡ 0 → x ≤ y → round_up x r ≤ y
unfolding round_up
up_least x r y h m l =
    let w = whole y r m in
    let q : (x + (r - 1)) / r < y / r + 1 = (div-lt_iff_lt-mul h).1 (omega arith) in
    let k : (x + (r - 1)) / r ≤ y / r = omega arith in
    rw down_is (omega (arith, mul-le-mul_right r k))

pub up_same : (x r : ℕ) → 0 < r → x % r ≡ 0 → round_up x r ≡ x
up_same x r h m = omega (arith, up_ge x r h, up_least x r x h m (omega arith))
