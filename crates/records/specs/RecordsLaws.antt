-- Laws of the house form: a byte string is the record that it starts with and those behind it; what was written as records is read as
-- these, and a record of which bytes are missing is broken. Assumes nothing.
use Rattle.std.specs.Prelude.{◌≡◌, refl, Bool, true, false, ◌||◌, ◌⊎◌, List, [], ◌∷◌, ◌++◌, ℕ, zero, suc, ◌+◌, ◌-◌, ◌<◌, ◌≤◌, ltb, eqb}
use Rattle.std.specs.Prelude.{length, take, drop, get_or, Option, Some, None, Result, Ok, Err}
use Rattle.std.proofs.Common.{ap, ◌∙◌, inl, inr, arith, length-drop, length-append, get_or-drop, take_at, drop_at, length-take-le}
use Rattle.std.proofs.Common.{div-add-mod'}
use Rattle.std.proofs.Math.Bool.{or-true}
use borrow.Author.Tests.{eq-eqb, ne_eqb, lt-ltb, le-ltb, ltb-false}
use Rattle.arithmetic.specs.Rounding.{pick}
use Rattle.records.specs.Records.{little_endian, length_field, kind_field, body_length, body_of, behind, is_cut, is_short, start_of}
use Rattle.records.specs.Records.{broken, entry, form_with, form_in, form_of, two_bytes, record_bytes}
use Rattle.records.specs.declared.Header.{Header}
use Rattle.records.specs.declared.Broken.{Broken}

-- ---- turns

pub start_none : (bs : List ℕ) → length bs ≡ 0 → start_of bs ≡ Ok None
unfolding start_of
start_none bs e = rw (eq-eqb (length bs) 0 e)

behind_shorter : (bs : List ℕ) (m : ℕ) → length bs ≤ suc m → length (behind bs) ≤ m
behind_shorter bs m h = rw length-drop (omega arith)

enough : (m n : ℕ) (bs : List ℕ) → length bs ≤ m → length bs ≤ n → form_in m bs ≡ form_in n bs
unfolding form_in
enough zero zero bs h k = refl
enough zero (suc n) bs h k = rw (start_none bs (omega arith))
enough (suc m) zero bs h k = rw (start_none bs (omega arith))
enough (suc m) (suc n) bs h k =
    ap (form_with (start_of bs) bs) (enough m n (behind bs) (behind_shorter bs m h) (behind_shorter bs n k))

-- the record that bytes start with, and those behind it
pub form_next : (bs : List ℕ) → form_of bs ≡ form_with (start_of bs) bs (form_of (behind bs))
unfolding form_of form_in
form_next bs = go (length bs) refl
  where
    go : (n : ℕ) → length bs ≡ n → form_in n bs ≡ form_with (start_of bs) bs (form_in (length (behind bs)) (behind bs))
    go zero e = rw (start_none bs e)
    go (suc n) e =
        let l = behind_shorter bs n (omega arith) in
        ap (form_with (start_of bs) bs) (enough n (length (behind bs)) (behind bs) l (omega arith))

-- ---- what bytes start with

or_cut : (cut short : Bool) → (cut ≡ false → short ≡ true) → (cut || short) ≡ true
or_cut true short f = refl
or_cut false short f = f refl

-- under four bytes there is no record: it has length and kind
pub start_few : (bs : List ℕ) → 0 < length bs → length bs < 4 → start_of bs ≡ Err (record {})
unfolding start_of is_cut is_short
start_few bs h k =
    let none = ne_eqb (length bs) 0 (λ e. omega (arith, e)) in
    let bad = or_cut (is_cut bs) (is_short bs)
    (λ e. lt-ltb (length_field bs) 2 (omega (arith, ltb-false (length bs) (2 + length_field bs) e))) in
    rw (none, bad)

module _ (bs : List ℕ) (h : 0 < length bs) where
  -- bytes that are too few, or a length under two
  pub start_broken : (length bs < 2 + length_field bs) ⊎ (length_field bs < 2) → start_of bs ≡ Err (record {})
  unfolding start_of is_cut is_short
  start_broken (inl l) = rw (ne_eqb (length bs) 0 (λ e. omega (arith, e)), lt-ltb (length bs) (2 + length_field bs) l)
  start_broken (inr l) = rw (ne_eqb (length bs) 0 (λ e. omega (arith, e)), lt-ltb (length_field bs) 2 l, or-true (is_cut bs))

  pub start_record : 2 + length_field bs ≤ length bs → 2 ≤ length_field bs
      → start_of bs ≡ Ok (Some (record { kind = kind_field bs; body = body_length bs }))
  unfolding start_of is_cut is_short
  start_record l m = rw (
    ne_eqb (length bs) 0 (λ e. omega (arith, e)),
    le-ltb (length bs) (2 + length_field bs) l,
    le-ltb (length_field bs) 2 m,
  )

-- ---- bytes read one by one

two : (ds : List ℕ) → 2 ≤ length ds → take 2 ds ≡ get_or ds 0 0 ∷ get_or ds 1 0 ∷ []
two [] h = absurd (omega arith)
two (a ∷ []) h = absurd (omega arith)
two (a ∷ b ∷ ds) h = refl

four : (ds : List ℕ) → 4 ≤ length ds → take 4 ds ≡ get_or ds 0 0 ∷ get_or ds 1 0 ∷ get_or ds 2 0 ∷ get_or ds 3 0 ∷ []
four [] h = absurd (omega arith)
four (a ∷ []) h = absurd (omega arith)
four (a ∷ b ∷ []) h = absurd (omega arith)
four (a ∷ b ∷ c ∷ []) h = absurd (omega arith)
four (a ∷ b ∷ c ∷ d ∷ ds) h = refl

module _ (bs : List ℕ) (i : ℕ) where
  pub two_from : i + 2 ≤ length bs → take 2 (drop i bs) ≡ get_or bs i 0 ∷ get_or bs (i + 1) 0 ∷ []
  two_from h =
      let z : i + 0 ≡ i = omega arith in
      two (drop i bs) (rw length-drop (omega arith))
      ∙ rw (get_or-drop i bs 0 0, get_or-drop i bs 1 0, z)

  pub four_from : i + 4 ≤ length bs
      → take 4 (drop i bs) ≡ get_or bs i 0 ∷ get_or bs (i + 1) 0 ∷ get_or bs (i + 2) 0 ∷ get_or bs (i + 3) 0 ∷ []
  four_from h =
      let z : i + 0 ≡ i = omega arith in
      four (drop i bs) (rw length-drop (omega arith))
      ∙ rw (get_or-drop i bs 0 0, get_or-drop i bs 1 0, get_or-drop i bs 2 0, get_or-drop i bs 3 0, z)

-- ---- what was written as a record is read as that record

two_read : (n : ℕ) → little_endian (two_bytes n) ≡ n
unfolding little_endian
two_read n = omega (arith, div-add-mod' n 256)

module _ (kind : ℕ) (body : List ℕ) where
  starts : (rest : List ℕ) → start_of (record_bytes kind body ++ rest) ≡ Ok (Some (record { kind = kind; body = length body }))
  starts rest =
      let bs = record_bytes kind body ++ rest in
      let l : length_field bs ≡ 2 + length body = two_read (2 + length body) in
      let m : length bs ≡ 4 + (length body + length rest) = omega (arith, length-append body rest) in
      let b : length_field bs - 2 ≡ length body = omega (arith, l) in
      start_record bs (omega (arith, m)) (omega (arith, l, m)) (omega (arith, l))
      ∙ rw (two_read kind, b)

  pub form_written : (rest : List ℕ) → form_of (record_bytes kind body ++ rest) ≡ entry kind body (form_of rest)
  form_written rest =
      let bs = record_bytes kind body ++ rest in
      let l : length_field bs ≡ 2 + length body = two_read (2 + length body) in
      let b : body_length bs ≡ length body = omega (arith, l) in
      let w : body_of bs ≡ body = rw b (take_at body rest (length body) refl) in
      let e : 2 + length_field bs ≡ suc (suc (suc (suc (length body)))) = omega (arith, l) in
      let h : behind bs ≡ rest = rw e (drop_at body rest (length body) refl) in
      form_next bs ∙ rw (starts rest, w, h)

  -- "211 if a record is cut": at least one of its bytes is there, and at least one is missing
  pub form_cut : (n : ℕ) → 0 < n → n < length (record_bytes kind body) → form_of (take n (record_bytes kind body)) ≡ broken
  form_cut zero h k = absurd (omega arith)
  form_cut (suc zero) h k = form_next _ ∙ rw (start_few (take 1 (record_bytes kind body)) (omega arith) (omega arith))
  form_cut (suc (suc zero)) h k = form_next _ ∙ rw (start_few (take 2 (record_bytes kind body)) (omega arith) (omega arith))
  form_cut (suc (suc (suc zero))) h k = form_next _ ∙ rw (start_few (take 3 (record_bytes kind body)) (omega arith) (omega arith))
  form_cut (suc (suc (suc (suc n)))) h k =
      let bs = take (suc (suc (suc (suc n)))) (record_bytes kind body) in
      let l : length_field bs ≡ 2 + length body = two_read (2 + length body) in
      let m : length bs ≡ 4 + n = omega (arith, length-take-le n body (omega (arith, k))) in
      form_next bs ∙ rw (start_broken bs (omega (arith, m)) (inl (omega (arith, l, m, k))))

-- ---- a record that bytes start with: it lies in them, and the records are it and those behind it

pub record Found (bs : List ℕ) (h : Header) : Type 0 where
  pub room : 4 + h.body ≤ length bs
  pub form : form_of bs ≡ entry h.kind (take h.body (drop 4 bs)) (form_of (drop (4 + h.body) bs))

-- what stands in the place of a start that is no record
abbrev header_of : Result (Option Header) Broken → Header
header_of (Ok None) = record { kind = 0; body = 0 }
header_of (Ok (Some h)) = h
header_of (Err e) = record { kind = 0; body = 0 }

pub found : (bs : List ℕ) (h : Header) → start_of bs ≡ Ok (Some h) → Found bs h
unfolding start_of is_cut is_short
found bs h e = go (eqb (length bs) 0) (ltb (length bs) (2 + length_field bs)) (ltb (length_field bs) 2) refl refl refl e
  where
    is : Header
    is = record { kind = kind_field bs; body = body_length bs }

    go : (none cut short : Bool) → eqb (length bs) 0 ≡ none → ltb (length bs) (2 + length_field bs) ≡ cut → ltb (length_field bs) 2 ≡ short
        → pick {A = Result (Option Header) Broken} none (Ok None) (pick (cut || short) (Err (record {})) (Ok (Some is))) ≡ Ok (Some h)
        → Found bs h
    go true cut short p q s e = let z : ◌≡◌ {A = ℕ} 0 1 = cc in absurd (omega arith)
    go false true short p q s e = let z : ◌≡◌ {A = ℕ} 0 1 = cc in absurd (omega arith)
    go false false true p q s e = let z : ◌≡◌ {A = ℕ} 0 1 = cc in absurd (omega arith)
    go false false false p q s e =
        let i : is ≡ h = ap header_of e in
        let l = ltb-false (length bs) (2 + length_field bs) q in
        let m = ltb-false (length_field bs) 2 s in
        let b : 4 + body_length bs ≡ 2 + length_field bs = omega (arith, m) in
        let f : form_of bs ≡ entry (kind_field bs) (body_of bs) (form_of (behind bs)) =
        form_next bs ∙ rw (start_record bs (omega (arith, l)) l m) in
        rw (← i) (record { room = omega (arith, l, b); form = rw b f })
