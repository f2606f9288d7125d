-- What a search through the rows finds is what the definition by number says. Assumes nothing.
use Rattle.std.specs.Prelude.{◌≡◌, refl, Bool, true, ◌&&◌, cond, List, [], ℕ, zero, suc, ◌-◌, ◌<◌, ◌≤◌, ltb}
use Rattle.std.specs.Prelude.{length, drop, get_or, take, zip, Option, Some, None}
use Rattle.std.specs.List.{list_any, position, position_or_len}
use Rattle.std.specs.Option.{unwrap_or}
use Rattle.std.proofs.Common.{sym, ap, ◌∙◌, arith, take_all, add-one, ⊎_elim, eq-or-lt_of_le, lt-ltb}
use Rattle.std.proofs.lemmas.List.{length-drop}
use Rattle.std.proofs.lemmas.List.Folds.{list_any_more}
use Rattle.std.proofs.lemmas.Slice.Zip.{get_or-zip, length-zip}
use Rattle.arithmetic.specs.Loops.{any_below}
use Rattle.vectors.specs.declared.vector.IoVector.{IoVector}
use Rattle.vectors.specs.Words.{vector_from}
use Rattle.blockers.specs.Blockers.{is_entered, waits_of}
use Rattle.stages.specs.Stages.{is_free}
use Rattle.stages.specs.declared.state.Job.{Job}
use Rattle.dock.specs.Dock.{first_free, meets_of, meets_at}
use Rattle.dock_words.specs.View.{Rows, flag_of, blocker_of, state_from, states_of, vectors_of, blockers_of}
use Rattle.dock_words.specs.Laws.{free_rows, free_within, state_row, vector_row, blocker_row, note_word}

-- a test of the first n places, and the search for a number below n
any_first : {A : Type 0} (p : A → Bool) (l : List A) (d : A) (t : ℕ → Bool) (n : ℕ) → n ≤ length l
    → ((q : ℕ) → q < n → p (get_or l q d) ≡ t q) → list_any p (take n l) ≡ any_below n t
unfolding any_below
any_first p l d t zero h f = refl
any_first p l d t (suc n) h f =
    rw (sym (add-one n), list_any_more p l n d (omega (arith, h)), any_first p l d t n (omega (arith, h)) (λ q g. f q (omega (arith, g))), f n (omega arith))

-- two lists beside each other, tested place by place
any_zip : {A B : Type 0} (p : A × B → Bool) (xs : List A) (ys : List B) (a : A) (b : B) (t : ℕ → Bool) (n : ℕ) → length xs ≡ n → length ys ≡ n
    → ((q : ℕ) → q < n → p (get_or xs q a, get_or ys q b) ≡ t q) → list_any p (zip xs ys) ≡ any_below n t
any_zip p xs ys a b t n e g f =
    let l : length (zip xs ys) ≡ n = length-zip xs ys ∙ rw (e, g) (omega arith) in
    ap (list_any p) (sym (take_all n (zip xs ys) (omega (arith, l))))
    ∙ any_first p (zip xs ys) (a, b) t n (omega (arith, l)) (λ q h. ap p (get_or-zip xs ys q (a, b) (omega (arith, e, h)) (omega (arith, g, h))) ∙ f q h)

-- the lowest free slot, by the rows of the states
pub lowest : (w : Rows) (r : Option ℕ) (n : ℕ) → r ≡ position (λ s. is_free (state_from s).phase) w → n ≡ unwrap_or r 8 → length w ≡ 8
    → n ≡ first_free (states_of w)
lowest w r n e f l = f ∙ ap (λ (o : Option ℕ). unwrap_or o 8) e ∙ rw l (go (position_or_len _ w) (first_free (states_of w)) (free_rows w) (rw l at (free_within w)))
  where
    go : (m q : ℕ) → m ≡ q → q ≤ 8 → unwrap_or (cond (ltb m 8) (Some m) None) 8 ≡ q
    go m q g h =
        ⊎_elim
        (λ i. let k : m ≡ 8 = g ∙ i in rw k (sym i))
        (λ i. let k : ltb m 8 ≡ true = lt-ltb m 8 (omega (arith, g, i)) in rw k g)
        (eq-or-lt_of_le h)

-- whether a blocker waits, by the rows of all and the notes in its own
pub held : (w : Rows) (p : ℕ) (t : Bool) → p < 8 → length w ≡ 8 → length (get_or w p []) ≡ 11
    → t ≡ list_any {X = List ℕ × ℕ} (λ x. flag_of x.1 && is_entered (blocker_of x.0))
    (zip w (take (length (get_or w p []) - 3) (drop 3 (get_or w p []))))
    → t ≡ waits_of p (blockers_of w)
unfolding waits_of
held w p t h l n e =
    let d : length (drop 3 (get_or w p [])) ≡ 8 = length-drop 3 (get_or w p []) ∙ rw n in
    let a : take (length (get_or w p []) - 3) (drop 3 (get_or w p [])) ≡ drop 3 (get_or w p []) = take_all _ _ (omega (arith, d, n)) in
    e ∙ rw a (any_zip _ w (drop 3 (get_or w p [])) [] 0 _ 8 l d (λ q g. rw (blocker_row w q (omega (arith, g, l)), note_word w p q (omega (arith, h, l)))))

-- whether a vector meets another, by the rows of states and vectors
pub meets_rows : (x v : Rows) (j : Job) (u : IoVector) → length x ≡ 8 → length v ≡ 8
    → list_any {X = List ℕ × List ℕ} (λ y. meets_of (state_from y.0) (vector_from y.1) j u) (zip x v)
    ≡ any_below 8 (meets_at (states_of x) (vectors_of v) j u)
unfolding meets_at
meets_rows x v j u l n = any_zip _ x v [] [] _ 8 l n (λ q g. rw (state_row x q (omega (arith, g, l)), vector_row v q (omega (arith, g, n))))
