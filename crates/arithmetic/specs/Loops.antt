-- Laws that the proofs of loops cite: one that looks for a number, and one that fills a list place by place. Assumes nothing.
use Rattle.std.specs.Prelude.{ℕ, zero, suc, ◌+◌, ◌≤◌, ◌<◌, ◌≡◌, refl, Bool, true, false, ◌||◌, List, map, length, take, get_or, set}
use Rattle.std.proofs.Common.{eq-or-lt_of_le, le_of_suc-le-suc, add-one, arith, sym, ap, ◌∙◌, ⊎_elim, length-set, take_all, take-suc}
use Rattle.std.proofs.Common.{take-suc-set, get_or-set_other}
use Rattle.std.proofs.Math.Bool.{or-true}
use Rattle.std.proofs.lemmas.List.{length-map}
use Rattle.std.proofs.Math.ListN.{get_or-map}

-- ---- a loop that looks for a number

-- whether test holds of one of 0, .., n - 1
unfoldable pub any_below : ℕ → (ℕ → Bool) → Bool
any_below zero test = false
any_below (suc n) test = any_below n test || test n

-- one that holds is found
pub any_here : (n : ℕ) (test : ℕ → Bool) (i : ℕ) → i < n → test i ≡ true → any_below n test ≡ true
unfolding any_below
any_here zero test i h e = absurd (omega arith)
any_here (suc n) test i h e =
    ⊎_elim
    (λ p. let q : test n ≡ true = rw p at e in rw q (or-true (any_below n test)))
    (λ l. rw (any_here n test i l e))
    (eq-or-lt_of_le (le_of_suc-le-suc h))

or_false : (a b : Bool) → a ≡ false → b ≡ false → (a || b) ≡ false
or_false a b p q = rw (p, q)

-- where none holds, none is found
pub any_none : (n : ℕ) (test : ℕ → Bool) → ((i : ℕ) → i < n → test i ≡ false) → any_below n test ≡ false
unfolding any_below
any_none zero test f = refl
any_none (suc n) test f = or_false (any_below n test) (test n) (any_none n test (λ i h. f i (omega arith))) (f n (omega arith))

pub or_first : (a : Bool) → (a || false) ≡ true → a ≡ true
or_first true q = refl
or_first false q = q

-- what was found holds somewhere
pub any_found : (n : ℕ) (test : ℕ → Bool) → any_below n test ≡ true → (i : ℕ) × (i < n) × (test i ≡ true)
unfolding any_below
any_found zero test e = absurd (let z : ◌≡◌ {A = ℕ} 0 1 = cc in omega arith)
any_found (suc n) test e = go (test n) refl e (any_found n test)
  where
    go : (b : Bool) → test n ≡ b → (any_below n test || b) ≡ true → (any_below n test ≡ true → (i : ℕ) × (i < n) × (test i ≡ true))
        → (i : ℕ)
        × (i < suc n) × (test i ≡ true)
    go true p q f = (n, omega arith, p)
    go false p q f = let r = f (or_first (any_below n test) q) in (r.0, omega arith, r.2)

-- ---- a loop that fills a list place by place

-- an array of structs has its length by the relation that owning it gives, which stands at a map over the list
pub array_long : {A B : Type 0} (f : A → B) (l : List A) (n : ℕ) → length (map f l) ≡ n → length l ≡ n
array_long f l n e = sym (length-map l f) ∙ e

-- u is as long as s, and like it before place i
abbrev pub Like : {A : Type 0} → List A → List A → ℕ → Type 0
Like s u i = (length u ≡ length s) × (take i u ≡ take i s)

module _ {A : Type 0} (s u : List A) where
  -- one store more
  pub like_more : (i j : ℕ) (v d : A) → j ≡ i + 1 → i < length s → Like s u i → v ≡ get_or s i d → Like s (set u i v) j
  like_more i j v d e h l g = (
    length-set u i v ∙ l.0,
    rw (e, add-one) (take-suc-set u i v (omega arith) ∙ rw (l.1, g) (sym (take-suc s i d h))),
  )

  pub like_all : (i : ℕ) → length s ≤ i → Like s u i → u ≡ s
  like_all i h l = sym (take_all i u (omega arith)) ∙ l.1 ∙ take_all i s h

-- u is map f s before place i, and s from there on
abbrev pub Mapped : {A : Type 0} → (A → A) → A → List A → List A → ℕ → Type 0
Mapped f d s u i = Like (map f s) u i × ((k : ℕ) → i ≤ k → get_or u k d ≡ get_or s k d)

module _ {A : Type 0} (f : A → A) (d : A) (s : List A) where
  pub mapped_none : Mapped f d s s 0
  mapped_none = ((sym (length-map s f), refl), λ k h. refl)

  pub mapped_more : (u : List A) (i : ℕ) → i < length s → Mapped f d s u i → Mapped f d s (set u i (f (get_or u i d))) (i + 1)
  mapped_more u i h m = (
    like_more (map f s) u i (i + 1) (f (get_or u i d)) (f d) refl (rw (length-map s f) h) m.0
        (ap f (m.1 i (omega arith)) ∙ sym (get_or-map f s i d)),
    λ k l. get_or-set_other u i k (f (get_or u i d)) d (λ q. omega (arith, q)) ∙ m.1 k (omega arith),
  )
