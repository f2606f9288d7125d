-- Document 01, "Zeroes" and "Discard": how a range is cut, and the chunks of `write_full_zeroes`.
use Rattle.std.specs.Prelude.{Bool, ◌&&◌, ℕ, ◌+◌, ◌-◌, ◌%◌, min, ltb, eqb, Result, Ok, Err, Option, Some, None}
use Rattle.arithmetic.specs.Rounding.{pick, fits, is_multiple, round_down, round_up}
use Rattle.arithmetic.specs.Offsets.{range_of}
use Rattle.arithmetic.specs.Settings.{alignments_fit, settings_fit}
use Rattle.arithmetic.specs.declared.refusals.Refusal.TheVariants.{Unfit, Overflow}
use Rattle.arithmetic.specs.declared.offsets.StoreOffset.{StoreOffset}
use Rattle.arithmetic.specs.declared.offsets.Range.{Range}
use Rattle.arithmetic.specs.declared.settings.Alignments.{Alignments}
use Rattle.arithmetic.specs.declared.settings.Settings.{Settings}
use Rattle.arithmetic.specs.declared.zeroes.Cut.{Cut}
use Rattle.arithmetic.specs.declared.zeroes.ZeroCut.{ZeroCut}
use Rattle.arithmetic.specs.declared.zeroes.ZeroCut.TheVariants.{Nothing, Whole, Split}
use Rattle.arithmetic.specs.declared.refusals.Refusal.{Refusal}

-- For n bytes at o and the alignment z of the zero (or discard) requests:

-- "Offset + length and offset + Z - 1 must fit."
unfoldable pub cut_fits : ℕ → ℕ → ℕ → Bool
cut_fits z o n = fits (o + n) && fits (o + (z - 1))

-- "Start rounds up to Z, end down to Z."
abbrev pub middle_start : ℕ → ℕ → ℕ
middle_start z o = round_up o z

abbrev pub middle_end : ℕ → ℕ → ℕ → ℕ
middle_end z o n = round_down (o + n) z

-- "If end > start"
unfoldable pub has_middle : ℕ → ℕ → ℕ → Bool
has_middle z o n = ltb (middle_start z o) (middle_end z o n)

-- "one zero request between [..]; then a write of zeroes to the head, then to the tail, where not empty"
unfoldable pub cut_of : ℕ → ℕ → ℕ → Cut
cut_of z o n = record {
  head = range_of o (middle_start z o);
  middle = range_of (middle_start z o) (middle_end z o n);
  tail = range_of (middle_end z o n) (o + n);
}

-- 201; "Length 0: done"; 207; "Otherwise one write of zeroes over the whole."
unfoldable pub zero_cut_of : Alignments → StoreOffset → ℕ → Result ZeroCut Refusal
zero_cut_of a o n =
    pick (alignments_fit a)
    (pick (eqb n 0) (Ok Nothing)
    (pick (cut_fits a.zero o.0 n)
    (pick (has_middle a.zero o.0 n) (Ok (Split (cut_of a.zero o.0 n))) (Ok (Whole (range_of o.0 (o.0 + n)))))
    (Err Overflow)))
    (Err Unfit)

-- "Offset + length and offset + D - 1 must fit. Start up to D, end down to D; if end > start, one request"
unfoldable pub discard_cut_of : Alignments → StoreOffset → ℕ → Result (Option Range) Refusal
discard_cut_of a o n =
    pick (alignments_fit a)
    (pick (cut_fits a.discard o.0 n)
    (pick (has_middle a.discard o.0 n) (Ok (Some (cut_of a.discard o.0 n).middle)) (Ok None))
    (Err Overflow))
    (Err Unfit)

-- "chunks of at most the share, a chunk at an offset off R ending at the next multiple of R or the range's end":
-- the length of the first chunk of n bytes at o
unfoldable pub chunk_length : ℕ → ℕ → ℕ → ℕ → ℕ
chunk_length r share o n = min n (pick (is_multiple o r) share (r - o % r))

-- 201; the first chunk of a range, none of an empty one
unfoldable pub chunk_of : Settings → Range → Result (Option Range) Refusal
chunk_of s x =
    pick (settings_fit s)
    (pick (ltb x.start.0 x.end.0)
    (Ok (Some (range_of x.start.0 (x.start.0 + chunk_length s.align.req s.bounce x.start.0 (x.end.0 - x.start.0)))))
    (Ok None))
    (Err Unfit)
