-- An array's `map` by a closure that computes a function, and goes on doing so, is the list's map by that function. Assumes nothing.
use Rattle.std.specs.Prelude.{ℕ, zero, suc, ◌+◌, ◌<◌, ◌≤◌, ◌≡◌, List, map}
use Rattle.std.specs.Fn.{Called, Mut}
use Rattle.std.specs.Array.{IsMapOf, MapsFrom}
use Rattle.std.proofs.Common.{◌∙◌, sym, ap, arith}
use Rattle.std.proofs.Math.Decide.{ℕ_discrete}
use Rattle.std.proofs.Math.ListN.{length, get_or, length-map, get_or-map}
use Rattle.std.proofs.lemmas.List.{ext_get_or}

module _ {F A B : Type 0} (g : Mut F (A × Unit {0}) B) (P : F → Type 0) (h : A → B)
    (each : (p q : F) (x : A) (y : B) → P p → Called g p (x, tt) y q → P q × (y ≡ h x)) where
  turn : (f : F) (xs : List A) (ys : List B) (d : A) (e : B) (i n : ℕ) → P f → MapsFrom g f xs ys i n → (j : ℕ) → i ≤ j → j < i + n
      → get_or ys j e ≡ h (get_or xs j d)
  turn f xs ys d e i zero p m j a b = absurd (omega arith)
  turn f xs ys d e i (suc n) p m j a b = let o = each f m.0 m.1 m.2 p m.5 in elim (ℕ_discrete j i) [
    | yes v ↦ rw v (m.4.1 e ∙ o.1 ∙ ap h (sym (m.3.1 d)))
    | no w ↦ turn m.0 xs ys d e (i + 1) n o.0 m.6 j (omega arith) (omega arith)
  ]

  pub mapped : (f : F) (xs : List A) (ys : List B) (n : ℕ) (d : A) → P f → IsMapOf g f xs ys n → length xs ≡ n → ys ≡ map h xs
  mapped f xs ys n d p m l = ext_get_or (h d) ys (map h xs) (m.long ∙ sym (length-map xs h ∙ l)) (λ i k.
      turn f xs ys d (h d) 0 n p m.each i (omega arith) (omega (arith, m.long)) ∙ sym (get_or-map h xs i d))
