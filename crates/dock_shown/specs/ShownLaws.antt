-- What the combined calls rely on: what is shown of a slot, and of a begin and a tell, by what the separate calls give. Assumes nothing.
use Rattle.std.specs.Prelude.{◌≡◌, refl, Bool, true, false, List, ℕ, length, Result, Ok, Err, Option}
use Rattle.std.proofs.Math.Path.{sym, ap}
use Rattle.std.proofs.Common.{◌∙◌}
use Rattle.arithmetic.specs.Refusals.{when_done, is_done}
use Rattle.arithmetic.specs.declared.refusals.Refusal.{Refusal}
use Rattle.stages.specs.declared.state.Request.{Request}
use Rattle.dock.specs.Begin.{Begins, begin_of}
use Rattle.dock.specs.Next.{next_of, piece_of}
use Rattle.dock.specs.Tell.{Told, tell_of, collect_of}
use Rattle.dock.specs.declared.dock.Dock.{Dock}
use Rattle.dock.specs.declared.begin.Asked.{Asked}
use Rattle.dock.specs.declared.next.Due.{Due}
use Rattle.dock.specs.declared.next.Due.TheVariants.{Make, Answer}
use Rattle.dock.specs.declared.next.Piece.{Piece}
use Rattle.dock_words.specs.View.{Rows}
use Rattle.dock_words.specs.CallWords.{is_admitted, same_unless, same_two, same_three}
use Rattle.dock_words.specs.CallWordsLaws.{same_words, done_words}
use Rattle.dock_shown.specs.Shown.{NotShown, Asks, short_words, shown_words, is_collected, Shows, show_by, show_of, ShowsAs, shown_begun}
use Rattle.dock_shown.specs.Shown.{submit_of, complete_of}

-- ---- show

module _ (d : Dock) (p m n : ℕ) where
  shown_as : (z : Result Due Refusal) → next_of d p m n ≡ z → show_by z d p m n ≡ show_of d p m n
  unfolding show_of
  shown_as z e = sym (ap (λ (k : Result Due Refusal). show_by k d p m n) e)

  -- what leaves the dock leaves every word
  pub shown_kept : (z : Result Due Refusal) → next_of d p m n ≡ z → (show_by z d p m n).dock ≡ d → (words : List ℕ)
      → words ≡ shown_words (show_by z d p m n).answer → (x v : Rows)
      → ShowsAs (show_of d p m n) words d × same_two (is_collected (show_of d p m n).answer) x v x v
  shown_kept z e k words w x v =
      let q = shown_as z e in
      ((w ∙ ap (λ (s : Shows). shown_words s.answer) q, sym k ∙ ap (λ (s : Shows). s.dock) q), (same_words _ _, same_words _ _))

  -- a request, with its first piece
  pub shown_asked : (q : Request) → next_of d p m n ≡ (Ok (Make q)) → (c : Result Piece Refusal) → c ≡ piece_of d p 0 m n → (words : List ℕ)
      → words ≡ shown_words (Asks p q c) → (x v : Rows)
      → ShowsAs (show_of d p m n) words d × same_two (is_collected (show_of d p m n).answer) x v x v
  shown_asked q e c k words w x v = shown_kept (Ok (Make q)) e refl words (w ∙ ap (λ (z : Result Piece Refusal). shown_words (Asks p q
      z)) k) x v

  -- a final answer is collected
  pub shown_taken : (a : ℕ) → next_of d p m n ≡ (Ok (Answer a)) → (words : List ℕ) → words ≡ short_words 1 a → (d' : Dock)
      → d' ≡ (collect_of d p m n).dock → (x v x' v' : Rows)
      → ShowsAs (show_of d p m n) words d' × same_two (is_collected (show_of d p m n).answer) x v x' v'
  shown_taken a e words w d' k x v x' v' =
      let q = shown_as (Ok (Answer a)) e in
      let t = sym (ap (λ (s : Shows). is_collected s.answer) q) in
      ((w ∙ ap (λ (s : Shows). shown_words s.answer) q, k ∙ ap (λ (s : Shows). s.dock) q), (done_words _ _ _ t, done_words _ _ _ t))

-- ---- a begin, shown

module _
    (begun z : Result (Option ℕ) Refusal) (e : begun ≡ z) (d : Dock) (m n : ℕ) (words : List ℕ)
    (w : words ≡ shown_words (shown_begun z d m n).answer) where
  -- one that took no slot leaves every word
  pub begun_kept : (shown_begun z d m n).dock ≡ d → (x v : Rows)
      → ShowsAs (shown_begun begun d m n) words d × same_two (is_admitted begun) x v x v
  begun_kept k x v = (
    (
      w ∙ sym (ap (λ (b : Result (Option ℕ) Refusal). shown_words (shown_begun b d m n).answer) e),
      sym k ∙ sym (ap (λ (b : Result (Option ℕ) Refusal). (shown_begun b d m n).dock) e),
    ),
    (same_words _ _, same_words _ _),
  )

  pub begun_shown : is_admitted z ≡ true → (d' : Dock) → d' ≡ (shown_begun z d m n).dock → (x v x' v' : Rows)
      → ShowsAs (shown_begun begun d m n) words d' × same_two (is_admitted begun) x v x' v'
  begun_shown t d' k x v x' v' =
      let u = ap is_admitted e ∙ t in (
        (
          w ∙ sym (ap (λ (b : Result (Option ℕ) Refusal). shown_words (shown_begun b d m n).answer) e),
          k ∙ sym (ap (λ (b : Result (Option ℕ) Refusal). (shown_begun b d m n).dock) e),
        ),
        (done_words _ _ _ u, done_words _ _ _ u),
      )

-- ---- submit

-- words that two calls left, one after the other
same_then : (t : Bool) (a b c : Rows) → same_unless t a b → same_unless t b c → same_unless t a c
unfolding same_unless
same_then true a b c f g = tt
same_then false a b c f g = g ∙ f

module _ (d : Dock) (q : Asked) (memory scratch : List ℕ) (g : Begins) (e : g ≡ begin_of d q memory scratch) where
  pub submitted : (words : List ℕ) (d' : Dock) → ShowsAs (shown_begun g.answer g.dock (length memory) (length scratch)) words d'
      → ShowsAs (submit_of d q memory scratch) words d'
  unfolding submit_of
  submitted words d' s =
      let k = ap (λ (z : Begins). shown_begun z.answer z.dock (length memory) (length scratch)) e in
      (s.0 ∙ ap (λ (z : Shows). shown_words z.answer) k, s.1 ∙ ap (λ (z : Shows). z.dock) k)

  pub submit_words : (b x v b' x₁ v₁ x' v' : Rows) → same_three (is_admitted g.answer) b x v b' x₁ v₁
      → same_two (is_admitted g.answer) x₁ v₁ x' v'
      → same_three (is_admitted (begin_of d q memory scratch).answer) b x v b' x' v'
  submit_words b x v b' x₁ v₁ x' v' f h =
      rw (← ap (λ (z : Begins). is_admitted z.answer) e)
      (f.0, same_then _ x x₁ x' f.1 h.0, same_then _ v v₁ v' f.2 h.1)

-- ---- complete

module _ (d : Dock) (p code : ℕ) (memory scratch : List ℕ) (t : Told) (e : t ≡ tell_of d p code memory scratch) where
  -- what a tell comes to, shown where it is done
  abbrev shown_told : Told → Result (Unit {0}) Refusal → Shows
  shown_told z o = when_done o (show_of z.dock p (length memory) (length scratch)) (λ r. record { answer = NotShown r; dock = z.dock })

  as_told : (o : Result (Unit {0}) Refusal) → t.outcome ≡ o → shown_told t o ≡ complete_of d p code memory scratch
  unfolding complete_of
  as_told o k = sym (ap (shown_told t) k) ∙ ap (λ (z : Told). shown_told z z.outcome) e

  pub completed_refused : (r : Refusal) → t.outcome ≡ Err r → (words : List ℕ) → words ≡ shown_words (NotShown r)
      → ShowsAs (complete_of d p code memory scratch) words t.dock
  completed_refused r o words w =
      let j = as_told (Err r) o in
      (w ∙ ap (λ (z : Shows). shown_words z.answer) j, ap (λ (z : Shows). z.dock) j)

  pub completed : t.outcome ≡ (Ok tt) → (words : List ℕ) (d' : Dock) → ShowsAs (show_of t.dock p (length memory) (length scratch)) words d'
      → ShowsAs (complete_of d p code memory scratch) words d'
  completed o words d' s =
      let j = as_told (Ok tt) o in
      (s.0 ∙ ap (λ (z : Shows). shown_words z.answer) j, s.1 ∙ ap (λ (z : Shows). z.dock) j)

  -- a refusal leaves every word
  pub complete_words : (b x v b' x' : Rows) → same_two (is_done t.outcome) b x b' x'
      → same_three (is_done (tell_of d p code memory scratch).outcome) b x v b' x' v
  complete_words b x v b' x' f = rw (← ap (λ (z : Told). is_done z.outcome) e) (f.0, f.1, same_words _ _)

  pub complete_done : t.outcome ≡ (Ok tt) → (b x v b' x' v' : Rows)
      → same_three (is_done (tell_of d p code memory scratch).outcome) b x v b' x' v'
  complete_done o b x v b' x' v' =
      let u = ap (λ (z : Told). is_done z.outcome) (sym e) ∙ ap is_done o in
      (done_words _ _ _ u, done_words _ _ _ u, done_words _ _ _ u)
