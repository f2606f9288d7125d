-- Document 02, N3: "our house form: records of a two-byte length of what follows, a two-byte kind and the body, little-endian."
use Rattle.std.specs.Prelude.{Bool, ◌||◌, List, [], ◌∷◌, ◌++◌, ℕ, zero, suc, ◌+◌, ◌-◌, ◌*◌, ◌/◌, ◌%◌, ltb, eqb, length, take, drop}
use Rattle.std.specs.Prelude.{Option, Some, None, Result, Ok, Err}
use Rattle.arithmetic.specs.Rounding.{pick}
use Rattle.records.specs.declared.Header.{Header}
use Rattle.records.specs.declared.Broken.{Broken}

-- the number that bytes stand for, "little-endian": the first byte counts least
unfoldable pub little_endian : List ℕ → ℕ
little_endian [] = 0
little_endian (b ∷ bs) = b + 256 * little_endian bs

-- ---- of bytes that start with a record

-- "a two-byte length of what follows"
abbrev pub length_field : List ℕ → ℕ
length_field bs = little_endian (take 2 bs)

-- "a two-byte kind"
abbrev pub kind_field : List ℕ → ℕ
kind_field bs = little_endian (take 2 (drop 2 bs))

-- "and the body": what follows the kind
abbrev pub body_length : List ℕ → ℕ
body_length bs = length_field bs - 2

abbrev pub body_of : List ℕ → List ℕ
body_of bs = take (body_length bs) (drop 4 bs)

-- what lies behind it
abbrev pub behind : List ℕ → List ℕ
behind bs = drop (2 + length_field bs) bs

-- "a record is cut": there are fewer bytes than its length says, or than this has itself
unfoldable pub is_cut : List ℕ → Bool
is_cut bs = ltb (length bs) (2 + length_field bs)

-- "shorter than its kind field"
unfoldable pub is_short : List ℕ → Bool
is_short bs = ltb (length_field bs) 2

-- ---- what bytes start with

-- none where there are no bytes
unfoldable pub start_of : List ℕ → Result (Option Header) Broken
start_of bs =
    pick (eqb (length bs) 0) (Ok None)
    (pick (is_cut bs || is_short bs) (Err (record {}))
    (Ok (Some (record { kind = kind_field bs; body = body_length bs }))))

-- ---- all records of a byte string, in its order: each a kind and a body, up to the end or to the first that is broken

pub data Form : Type 0 where
  end : Form
  broken : Form
  entry : ℕ → List ℕ → Form → Form

abbrev pub form_with : Result (Option Header) Broken → List ℕ → Form → Form
form_with (Ok None) bs more = end
form_with (Ok (Some h)) bs more = entry h.kind (body_of bs) more
form_with (Err e) bs more = broken

-- `turns` bounds how many there are
unfoldable pub form_in : ℕ → List ℕ → Form
form_in zero bs = end
form_in (suc turns) bs = form_with (start_of bs) bs (form_in turns (behind bs))

-- no byte string has more records than bytes
unfoldable pub form_of : List ℕ → Form
form_of bs = form_in (length bs) bs

-- ---- the bytes of a record

-- a number in two bytes
abbrev pub two_bytes : ℕ → List ℕ
two_bytes n = n % 256 ∷ n / 256 ∷ []

abbrev pub record_bytes : ℕ → List ℕ → List ℕ
record_bytes kind body = two_bytes (2 + length body) ++ two_bytes kind ++ body
