-- The theorem on every list, from a dock that was opened by a row of a loaded table; and applied to the example's list, from a dock opened by
-- the only row of a table.
use Rattle.std.specs.Prelude.{Ok}
use mathlib.Core.Path.{◌≡◌, refl, sym, ap, subst, ◌∙◌}
use mathlib.Core.Bool.{true}
use mathlib.Core.List.{List, [], ◌∷◌}
use Prim.Native.Nat.{ℕ, zero, suc, ◌<◌}
use native.Mathlib.Omega.{arith}
use lib.ListN.{length, get_or}
use Rattle.arithmetic.specs.Settings.{alignments_fit}
use Rattle.arithmetic.specs.declared.settings.Alignments.{Alignments}
use Rattle.tables.specs.Tables.{these, table_of, no_row}
use Rattle.tables.specs.Writing.{table_bytes, table_written}
use Rattle.dock.specs.Dock.{open_of}
use Rattle.dock.specs.Computing.{computing}
use Rattle.dock.specs.declared.open.Opened.{Opened}
use Rattle.theorem_lists.specs.Histories.{Lawful, Claim}
use Rattle.theorem_lists.specs.Acts.{events_of}
use Rattle.theorem_lists.specs.Example.{settings, buffers, world, plain, whole_list}
use Rattle.theorem_lists.proofs.Example.{example}
use Rattle.theorem_lists.specs.Loaded.{by_row, starts_with, EveryLoadedList, opens_as}
use Rattle.theorem_lists.proofs.Theorem.{every_list}
use Rattle.theorem_lists.proofs.Applied.{opens, lends}

pub every_loaded_list : EveryLoadedList
every_loaded_list bytes rs e i n b h = rw (opens_as bytes rs e i n b h) (every_list (record { align = _; bounce = n }) b)

-- ---- the example's settings as a table

abbrev pub rows : List Alignments
rows = settings.align ∷ []

fits : (i : ℕ) → i < length rows → alignments_fit (get_or rows i no_row) ≡ true
unfolding computing
fits zero h = refl
fits (suc i) h = absurd (omega (arith, h))

pub loads : table_of (table_bytes rows) ≡ these rows
loads = table_written rows (record { some = omega arith; most = omega arith; fit = fits })

as_named : (by_row (table_bytes rows) rows loads 0 settings.bounce buffers).outcome ≡ Ok tt
as_named = ap (λ (o : Opened). o.outcome) (opens_as (table_bytes rows) rows loads 0 settings.bounce buffers (omega arith)) ∙ opens

-- the example's list is lawful from this dock too
lawful : (o : Opened) → open_of settings buffers ≡ o
    → Lawful (starts_with o world.store world.memory world.scratch) plain (events_of world whole_list)
lawful o e =
    subst (λ (o : Opened). Lawful (starts_with o world.store world.memory world.scratch) plain (events_of world whole_list)) e example

pub loaded_claimed : Claim (starts_with (by_row (table_bytes rows) rows loads 0 settings.bounce buffers) world.store world.memory
    world.scratch) plain (events_of world whole_list)
loaded_claimed =
    let is = opens_as (table_bytes rows) rows loads 0 settings.bounce buffers (omega arith) in
    every_loaded_list (table_bytes rows) rows loads 0 settings.bounce buffers (omega arith) as_named world.store world.memory
    world.scratch lends (events_of world whole_list) (lawful (by_row (table_bytes rows) rows loads 0 settings.bounce buffers) (sym is))
