-- Document 01, "Beside the chain": `pure_write_full_zeroes` as a planner.
use Rattle.std.specs.Prelude.{◌&&◌, ℕ, ◌+◌, ◌-◌, ◌*◌, ◌/◌, min, Result, Ok, Err}
use Rattle.arithmetic.specs.Rounding.{pick, fits, is_multiple}
use Rattle.arithmetic.specs.Offsets.{range_of}
use Rattle.arithmetic.specs.Refusals.{when_done}
use Rattle.arithmetic.specs.Settings.{settings_fit}
use Rattle.arithmetic.specs.declared.refusals.Refusal.TheVariants.{Unfit, Overflow, Unaligned}
use Rattle.arithmetic.specs.declared.offsets.StoreOffset.{StoreOffset}
use Rattle.arithmetic.specs.declared.offsets.Range.{Range}
use Rattle.arithmetic.specs.declared.settings.Settings.{Settings}
use Rattle.arithmetic.specs.declared.refusals.Refusal.{Refusal}

-- "Planner: 201, 210, 207."
unfoldable pub plan_outcome : Settings → StoreOffset → ℕ → Result (Unit {0}) Refusal
plan_outcome s o n =
    pick (settings_fit s)
    (pick (is_multiple o.0 s.align.req && is_multiple n s.align.req) (pick (fits (o.0 + n)) (Ok tt) (Err Overflow))
    (Err Unaligned))
    (Err Unfit)

-- how many chunks of at most `share` bytes make up n bytes
unfoldable pub chunk_count : ℕ → ℕ → ℕ
chunk_count share n = (n + (share - 1)) / share

-- chunk i of n bytes at o: its bytes i * share up to (i + 1) * share, as far as there are any.
-- "each of the share but the last; an i at or past the count gives length 0 at offset + length" (PlannerLaws)
unfoldable pub planned_chunk : ℕ → ℕ → ℕ → ℕ → Range
planned_chunk share o n i = range_of (o + min (i * share) n) (o + min ((i + 1) * share) n)

abbrev pub counted : Result (Unit {0}) Refusal → ℕ → Result ℕ Refusal
counted o k = when_done o (Ok k) Err

abbrev pub planned : Result (Unit {0}) Refusal → Range → Result Range Refusal
planned o x = when_done o (Ok x) Err

unfoldable pub count_of : Settings → StoreOffset → ℕ → Result ℕ Refusal
count_of s o n = counted (plan_outcome s o n) (chunk_count s.bounce n)

unfoldable pub planned_of : Settings → StoreOffset → ℕ → ℕ → Result Range Refusal
planned_of s o n i = planned (plan_outcome s o n) (planned_chunk s.bounce o.0 n i)
