-- Document 01, "Direct or padded" and "Requests of a padded write".
use Rattle.std.specs.Prelude.{Bool, false, ◌&&◌, ◌||◌, ℕ, ◌+◌, ◌-◌, eqb, ltb, leb, Result, Ok, Err}
use Rattle.arithmetic.specs.Rounding.{pick, fits, is_multiple, round_down, round_up}
use Rattle.arithmetic.specs.Offsets.{store_at, buffer_at, range_of}
use Rattle.arithmetic.specs.Settings.{alignments_fit, length_align}
use Rattle.arithmetic.specs.declared.refusals.Refusal.{Refusal}
use Rattle.arithmetic.specs.declared.refusals.Refusal.TheVariants.{Unfit, Overflow}
use Rattle.arithmetic.specs.declared.offsets.StoreOffset.{StoreOffset}
use Rattle.arithmetic.specs.declared.settings.Alignments.{Alignments}
use Rattle.arithmetic.specs.declared.padding.Span.{Span}
use Rattle.arithmetic.specs.declared.padding.Transfer.{Transfer}
use Rattle.arithmetic.specs.declared.padding.Transfer.TheVariants.{Direct, Bounced}
use Rattle.arithmetic.specs.declared.padding.Reads.{Reads}
use Rattle.arithmetic.specs.declared.padding.Reads.TheVariants.{Nothing, Whole, Head, Tail, HeadThenTail}

-- For a request of n bytes at o, request alignment r, length alignment l:

-- "start rounds down to R"
unfoldable pub padded_start : ℕ → ℕ → ℕ
padded_start r o = round_down o r

-- "the end rounds up to R"
unfoldable pub rounded_end : ℕ → ℕ → ℕ → ℕ
rounded_end r o n = round_up (o + n) r

-- "the length between rounds up to a multiple of L"
unfoldable pub padded_length : ℕ → ℕ → ℕ → ℕ → ℕ
padded_length r l o n = round_up (rounded_end r o n - padded_start r o) l

abbrev pub padded_end : ℕ → ℕ → ℕ → ℕ → ℕ
padded_end r l o n = padded_start r o + padded_length r l o n

-- "Any of these sums past 2^64 - 1, reading or writing, is 207."
unfoldable pub padding_fits : ℕ → ℕ → ℕ → ℕ → Bool
padding_fits r l o n =
    fits (o + n)
    && fits (o + n + (r - 1))
    && fits (rounded_end r o n - padded_start r o + (l - 1))
    && fits (padded_end r l o n)

-- "Head h = offset minus padded start; tail t = padded end minus unpadded end"
abbrev pub head_of : ℕ → ℕ → ℕ
head_of r o = o - padded_start r o

abbrev pub tail_of : ℕ → ℕ → ℕ → ℕ → ℕ
tail_of r l o n = padded_end r l o n - (o + n)

-- the padded range; "H and T are h and t rounded up to L"
unfoldable pub span_of : ℕ → ℕ → ℕ → ℕ → Span
span_of r l o n = record {
  start = store_at (padded_start r o);
  end = store_at (padded_end r l o n);
  head = buffer_at (head_of r o);
  length = padded_length r l o n;
  prefix = round_up (head_of r o) l;
  suffix = round_up (tail_of r l o n) l;
}

unfoldable pub padded_of : ℕ → ℕ → ℕ → ℕ → Result Span Refusal
padded_of r l o n = pick (padding_fits r l o n) (Ok (span_of r l o n)) (Err Overflow)

-- 201, then 207
unfoldable pub padding_of : Alignments → StoreOffset → ℕ → Result Span Refusal
padding_of a o n = pick (alignments_fit a) (padded_of a.req (length_align a) o.0 n) (Err Unfit)

-- "Direct if offset and total are multiples of R and the vector is aligned."
unfoldable pub is_direct : ℕ → ℕ → ℕ → Bool → Bool
is_direct r o n vectorAligned = vectorAligned && is_multiple o r && is_multiple n r

abbrev pub bounced : Result Span Refusal → Result Transfer Refusal
bounced (Ok s) = Ok (Bounced s)
bounced (Err r) = Err r

-- direct or padded: 201, then 207 for offset + length, then the padding's
unfoldable pub transfer_of : Alignments → StoreOffset → ℕ → Bool → Result Transfer Refusal
transfer_of a o n vectorAligned =
    pick (alignments_fit a)
    (pick (fits (o.0 + n))
    (pick (is_direct a.req o.0 n vectorAligned) (Ok (Direct (range_of o.0 (o.0 + n))))
    (bounced (padded_of a.req (length_align a) o.0 n)))
    (Err Overflow))
    (Err Unfit)

-- why a transfer is refused
abbrev pub padding_refusal : Alignments → Refusal
padding_refusal a = pick (alignments_fit a) Overflow Unfit

-- "If H + T equals the padded length: one read of all. Otherwise a read of the first H bytes if H > 0, then of the last T if T > 0."
unfoldable pub reads_of : Span → Reads
reads_of s =
    pick (eqb (s.prefix + s.suffix) s.length)
    Whole
    (pick (eqb s.prefix 0)
    (pick (eqb s.suffix 0) Nothing (Tail s.suffix))
    (pick (eqb s.suffix 0) (Head s.prefix) (HeadThenTail s.prefix s.suffix)))

-- k lies in the bytes from a up to, not including, e
abbrev pub within : ℕ → ℕ → ℕ → Bool
within a e k = leb a k && ltb k e

-- whether the byte at offset k is read before the write
unfoldable pub is_read : Span → Reads → ℕ → Bool
is_read s Nothing k = false
is_read s Whole k = within s.start.0 s.end.0 k
is_read s (Head h) k = within s.start.0 (s.start.0 + h) k
is_read s (Tail t) k = within (s.end.0 - t) s.end.0 k
is_read s (HeadThenTail h t) k = within s.start.0 (s.start.0 + h) k || within (s.end.0 - t) s.end.0 k
