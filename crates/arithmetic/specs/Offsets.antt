-- Document 01: "An offset on the store and an offset in the bounce buffer count from different zeros." What converts between them.
use Rattle.std.specs.Prelude.{◌≡◌, true, ℕ, ◌+◌, ◌-◌, ◌≤◌, leb, Result, Ok, Err}
use Rattle.std.proofs.Common.{le-leb}
use Rattle.arithmetic.specs.Rounding.{pick, fits}
use Rattle.arithmetic.specs.declared.refusals.Refusal.TheVariants.{Overflow}
use Rattle.arithmetic.specs.declared.offsets.StoreOffset.{StoreOffset}
use Rattle.arithmetic.specs.declared.offsets.BufferOffset.{BufferOffset}
use Rattle.arithmetic.specs.declared.offsets.Range.{Range}
use Rattle.arithmetic.specs.declared.refusals.Refusal.{Refusal}

abbrev pub store_at : ℕ → StoreOffset
store_at x = record { 0 = x }

abbrev pub buffer_at : ℕ → BufferOffset
buffer_at x = record { 0 = x }

-- the bytes from a up to, not including, e
abbrev pub range_of : ℕ → ℕ → Range
range_of a e = record { start = store_at a; end = store_at e }

-- where o lies in a buffer whose first byte is that of the store at start; nowhere, if o lies before start
unfoldable pub in_buffer_of : StoreOffset → StoreOffset → Result BufferOffset Refusal
in_buffer_of o start = pick (leb start.0 o.0) (Ok (buffer_at (o.0 - start.0))) (Err Overflow)

-- at or behind the start it lies as many bytes in
pub in_buffer_at : (o start : StoreOffset) → start.0 ≤ o.0 → in_buffer_of o start ≡ Ok (buffer_at (o.0 - start.0))
unfolding in_buffer_of
in_buffer_at o start h = rw (le-leb start.0 o.0 h)

-- where byte b of a buffer lies on the store, if its first byte lies at start
unfoldable pub on_store_of : BufferOffset → StoreOffset → Result StoreOffset Refusal
on_store_of b start = pick (fits (start.0 + b.0)) (Ok (store_at (start.0 + b.0))) (Err Overflow)

-- it lies there, where that is an offset
pub on_store_at : (b : BufferOffset) (start : StoreOffset) → fits (start.0 + b.0) ≡ true
    → on_store_of b start ≡ Ok (store_at (start.0 + b.0))
unfolding on_store_of
on_store_at b start h = rw h
