-- Laws of powers of two, for any exponent: the powers of two are the positive numbers that have no digit in common with the number before
-- them, which masks a remainder, and the greater of two powers is a multiple of both. Assumes nothing.
use Rattle.std.specs.Prelude.{◌≡◌, refl, Bool, true, false, ◌&&◌, ◌||◌, ◌⊎◌, ℕ, zero, suc, ◌+◌, ◌-◌, ◌*◌, ◌/◌, ◌%◌, ◌^◌, ◌<◌, ◌≤◌, max}
use Rattle.std.specs.Prelude.{eqb, leb}
use Rattle.std.proofs.Common.{sym, ap, ◌∙◌, inl, inr, ⊎_elim, le_refl, le_of_suc-le-suc, eq-or-lt_of_le, arith, pow-add, pow_mono}
use Rattle.std.proofs.Common.{eqb-true, eq-eqb, leb-true, le-leb}
use Rattle.std.proofs.Math.Bool.{or-true, and-eq-true_iff}
use Rattle.std.proofs.Math.Nat.{pow-succ', mul-mod_left, mod_self, max-eq_left, max-eq_right}
use Rattle.std.proofs.Math.Decide.{dec_le, ℕ_discrete}
use Rattle.std.proofs.Math.Arith.{bin_ind}
use Rattle.std.specs.Int.Bits.{bit_and, and_step, and_self}
use Rattle.std.proofs.lemmas.Nat.{and_mask}
use Rattle.std.proofs.Math.Pow.{pow-lt}
use Rattle.arithmetic.specs.Powers.{is_power_to}

-- x is 2 ^ k, for a k of at most n
pub record PowerOf (n x : ℕ) : Type 0 where
  pub k : ℕ
  pub most : k ≤ n
  pub is : x ≡ 2 ^ k

-- ---- the test by cases has an exponent, and every exponent passes it

pub exponent : (n x : ℕ) → is_power_to n x ≡ true → PowerOf n x
exponent zero x e = record { k = 0; most = le_refl 0; is = eqb-true x 1 e }
exponent (suc n) x e = go (eqb x (2 ^ suc n)) refl e (exponent n x)
  where
    go : (b : Bool) → eqb x (2 ^ suc n) ≡ b → (b || is_power_to n x) ≡ true → (is_power_to n x ≡ true → PowerOf n x) → PowerOf (suc n) x
    go true p e f = record { k = suc n; most = le_refl (suc n); is = eqb-true x (2 ^ suc n) p }
    go false p e f = let r = f e in record { k = r.k; most = omega (arith, r.most); is = r.is }

passes : (n k : ℕ) → k ≤ n → is_power_to n (2 ^ k) ≡ true
passes zero k h = let e : k ≡ 0 = omega arith in eq-eqb (2 ^ k) 1 (ap (λ (i : ℕ). 2 ^ i) e)
passes (suc n) k h = ⊎_elim (λ e. last (2 ^ k) (ap (λ (i : ℕ). 2 ^ i) e)) (λ l. other (2 ^ k) (passes n k (le_of_suc-le-suc l)))
    (eq-or-lt_of_le h)
  where
    last : (x : ℕ) → x ≡ 2 ^ suc n → (eqb x (2 ^ suc n) || is_power_to n x) ≡ true
    last x e = rw (eq-eqb x (2 ^ suc n) e)

    other : (x : ℕ) → is_power_to n x ≡ true → (eqb x (2 ^ suc n) || is_power_to n x) ≡ true
    other x e = rw e (or-true (eqb x (2 ^ suc n)))

-- ---- masks: of a power of two and the number before it, and of no other positive number, no digit is set in both

-- such a number is 1, or twice such a number
halved : (r : ℕ) → 0 < r → bit_and r (r - 1) ≡ 0 → (r ≡ 1) ⊎ ((r ≡ 2 * (r / 2)) × (bit_and (r / 2) (r / 2 - 1) ≡ 0))
halved r h e = elim (ℕ_discrete (r % 2) 0) [
  | yes z ↦
      let w : r ≡ 2 * (r / 2) = omega arith in
      let v : (r - 1) / 2 ≡ r / 2 - 1 = omega arith in
      let d : bit_and (r / 2) ((r - 1) / 2) ≡ 0 = omega (arith, and_step r (r - 1)) in
      inr (w, (rw v at d))
  | no z ↦
      let v : (r - 1) / 2 ≡ r / 2 = omega arith in
      let s : bit_and (r / 2) ((r - 1) / 2) ≡ r / 2 = rw v (and_self (r / 2)) in
      inl (omega (arith, and_step r (r - 1)))
]

-- so it is a power of two
pub masked : (r : ℕ) → 0 < r → bit_and r (r - 1) ≡ 0 → PowerOf r r
masked = bin_ind (λ (r : ℕ). 0 < r → bit_and r (r - 1) ≡ 0 → PowerOf r r) (λ h e. absurd (omega arith))
    (λ r f h e. ⊎_elim (one r) (λ d. double r h d.0 (f (omega (arith, d.0)) d.1)) (halved r h e))
  where
    one : (r : ℕ) → r ≡ 1 → PowerOf r r
    one r e = record { k = 0; most = omega arith; is = e }

    double : (r : ℕ) → 0 < r → r ≡ 2 * (r / 2) → PowerOf (r / 2) (r / 2) → PowerOf r r
    double r h e p =
        let i : r ≡ 2 ^ suc p.k = e ∙ ap (λ (y : ℕ). 2 * y) p.is ∙ sym (pow-succ' 2 p.k) in
        record { k = suc p.k; most = omega (arith, p.most); is = i }

-- a remainder by a mask
pub remainder : (x r : ℕ) → 0 < r → bit_and r (r - 1) ≡ 0 → bit_and x (r - 1) ≡ x % r
remainder x r h e =
    let p = masked r h e in
    ap (λ (y : ℕ). bit_and x (y - 1)) p.is ∙ and_mask x p.k ∙ ap (λ (y : ℕ). x % y) (sym p.is)

-- exponents are as their powers
least : (i j : ℕ) → 2 ^ i ≤ 2 ^ j → i ≤ j
least i j h = elim (dec_le i j) [
  | yes l ↦ l
  | no l ↦ let p : 2 ^ j < 2 ^ i = pow-lt (omega arith) in absurd (omega arith)
]

pub same_test : (a b : Bool) → (a ≡ true → b ≡ true) → (b ≡ true → a ≡ true) → a ≡ b
same_test true b f g = sym (f refl)
same_test false true f g = g refl
same_test false false f g = refl

-- whether a positive number is one of 2 ^ 0, .., 2 ^ n, by a mask
pub test : (n x : ℕ) → 0 < x → (eqb (bit_and x (x - 1)) 0 && leb x (2 ^ n)) ≡ is_power_to n x
test n x h = same_test (eqb (bit_and x (x - 1)) 0 && leb x (2 ^ n)) (is_power_to n x) passed tested
  where
    passed : (eqb (bit_and x (x - 1)) 0 && leb x (2 ^ n)) ≡ true → is_power_to n x ≡ true
    passed e =
        let t = (and-eq-true_iff (eqb (bit_and x (x - 1)) 0) (leb x (2 ^ n))).0 e in
        let p = masked x h (eqb-true _ _ t.0) in
        let m : 2 ^ p.k ≤ 2 ^ n = omega (arith, leb-true x (2 ^ n) t.1, p.is) in
        ap (is_power_to n) p.is ∙ passes n p.k (least p.k n m)

    tested : is_power_to n x ≡ true → (eqb (bit_and x (x - 1)) 0 && leb x (2 ^ n)) ≡ true
    tested e =
        let p = exponent n x e in
        let d : bit_and x (x - 1) ≡ 0 = ap (λ (y : ℕ). bit_and y (y - 1)) p.is ∙ and_mask (2 ^ p.k) p.k ∙ mod_self (2 ^ p.k) in
        let m : 2 ^ p.k ≤ 2 ^ n = pow_mono p.most in
        let l : x ≤ 2 ^ n = omega (arith, p.is) in
        rw (eq-eqb _ _ d, le-leb _ _ l)

-- ---- the greater of two powers is a multiple of both

-- of two powers of two the greater is a multiple of the lesser
multiple : (i j : ℕ) → i ≤ j → 2 ^ j % 2 ^ i ≡ 0
multiple i j h =
    let s : j ≡ (j - i) + i = omega arith in
    ap (λ (k : ℕ). 2 ^ k % 2 ^ i) s ∙ (rw pow-add (mul-mod_left (2 ^ (j - i)) (2 ^ i)))

pub greater : (n a b : ℕ) → is_power_to n a ≡ true → is_power_to n b ≡ true → (max a b % a ≡ 0) × (max a b % b ≡ 0)
greater n a b p q =
    let i = exponent n a p in
    let j = exponent n b q in
    rw (i.is, j.is) (of i.k j.k)
  where
    of : (i j : ℕ) → (max (2 ^ i) (2 ^ j) % 2 ^ i ≡ 0) × (max (2 ^ i) (2 ^ j) % 2 ^ j ≡ 0)
    of i j = elim (dec_le i j) [
      | yes h ↦ let m = max-eq_right (pow_mono h) in (rw m (multiple i j h), rw m (mod_self (2 ^ j)))
      | no h ↦ let k : j ≤ i = omega arith in let m = max-eq_left (pow_mono k) in (rw m (mod_self (2 ^ i)), rw m (multiple j i k))
    ]
