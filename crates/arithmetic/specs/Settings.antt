-- Document 01, "Settings": what opening accepts, and the drive rows.
use Rattle.std.specs.Prelude.{Bool, ◌&&◌, List, [], ◌∷◌, ℕ, ◌+◌, ◌*◌, max, ltb, leb, length, get_or, Result, Ok, Err}
use Rattle.arithmetic.specs.Powers.{is_power_to}
use Rattle.arithmetic.specs.Rounding.{pick, fits, is_multiple}
use Rattle.arithmetic.specs.declared.refusals.Refusal.TheVariants.{Unfit, Buffer}
use Rattle.arithmetic.specs.declared.settings.Alignments.{Alignments}
use Rattle.arithmetic.specs.declared.settings.Settings.{Settings}
use Rattle.arithmetic.specs.declared.settings.Buffers.{Buffers}
use Rattle.arithmetic.specs.declared.refusals.Refusal.{Refusal}

-- "Alignments mem (M), req (R), zero (Z), discard (D): powers of two, 1 to 65,536."
unfoldable pub is_alignment : ℕ → Bool
is_alignment x = is_power_to 16 x

unfoldable pub alignments_fit : Alignments → Bool
alignments_fit a = is_alignment a.mem && is_alignment a.req && is_alignment a.zero && is_alignment a.discard

-- "L is the greater of M and R."
unfoldable pub length_align : Alignments → ℕ
length_align a = max a.mem a.req

-- "The share [..]: a multiple of L, at least 2Z + 2L, at most 1,048,576."
unfoldable pub bounce_fits : Alignments → ℕ → Bool
bounce_fits a n = is_multiple n (length_align a) && leb (2 * a.zero + 2 * length_align a) n && leb n 1048576

unfoldable pub settings_fit : Settings → Bool
settings_fit s = alignments_fit s.align && bounce_fits s.align s.bounce

-- "Opening also fixes address and length of the data and the scratch; address plus length is at most 2^64 - 1.
-- Scratch holds at least 8 shares; its address is a multiple of M."
unfoldable pub buffers_fit : Settings → Buffers → Bool
buffers_fit s b =
    fits (b.«data».address + b.«data».length)
    && fits (b.scratch.address + b.scratch.length)
    && leb (8 * s.bounce) b.scratch.length
    && is_multiple b.scratch.address s.align.mem

-- what opening answers: 201, then 205
unfoldable pub opening_of : Settings → Buffers → Result (Unit {0}) Refusal
opening_of s b = pick (settings_fit s) (pick (buffers_fit s b) (Ok tt) (Err Buffer)) (Err Unfit)

abbrev pub alignments : ℕ → ℕ → ℕ → ℕ → Alignments
alignments m r z d = record { mem = m; req = r; zero = z; discard = d }

-- "Drive rows (M, R, Z, D) that opening may name by index 0 to 5"
unfoldable pub profiles : List Alignments
profiles =
    alignments 1 1 1 1
    ∷ alignments 1 512 512 512
    ∷ alignments 512 512 4096 4096
    ∷ alignments 4096 4096 4096 65536
    ∷ alignments 4096 512 512 512
    ∷ alignments 4096 512 4096 65536
    ∷ []

unfoldable pub profile_of : ℕ → Result Alignments Refusal
unfolding profiles
profile_of i = pick (ltb i (length profiles)) (Ok (get_or profiles i (alignments 0 0 0 0))) (Err Unfit)
