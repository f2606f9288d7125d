-- Document 02, N3: "All that is promised for a built-in row holds for each loaded one." Opening by a row of a table that was loaded is
-- opening with its alignments, which fit, as opening by a built-in row is; and the theorem on every list holds of its dock.
use Rattle.std.specs.Prelude.{None}
use Rattle.std.specs.Prelude.{◌≡◌, true, List, ℕ, ◌<◌, ◌≤◌, length, get_or, Result, Ok, Err}
use Rattle.std.proofs.Common.{ap}
use Rattle.arithmetic.specs.Settings.{bounce_fits, settings_fit}
use Rattle.arithmetic.specs.Content.{Bytes}
use Rattle.arithmetic.specs.declared.refusals.Refusal.TheVariants.{Unfit}
use Rattle.arithmetic.specs.declared.settings.Alignments.{Alignments}
use Rattle.arithmetic.specs.declared.settings.Settings.{Settings}
use Rattle.arithmetic.specs.declared.settings.Buffers.{Buffers}
use Rattle.tables.specs.Tables.{these, table_of, load_of, table_in, profile_in, no_row}
use Rattle.tables.specs.TablesLaws.{table_sound, loaded_row, loaded_past}
use Rattle.dock.specs.Dock.{open_of, open_by, lent_fits}
use Rattle.dock.specs.declared.open.Opened.{Opened}
use Rattle.theorem_lists.specs.PlainStore.{plain_opened}
use Rattle.theorem_lists.specs.Histories.{World, Event, Lawful, Claim}
use Rattle.arithmetic.specs.declared.refusals.Refusal.{Refusal}

-- row i, with a share of n bytes
abbrev pub row_settings : List Alignments → ℕ → ℕ → Settings
row_settings rs i n = record { align = get_or rs i no_row; bounce = n }

module _ (bytes : List ℕ) (rs : List Alignments) (e : table_of bytes ≡ these rs) (i n : ℕ) (b : Buffers) where
  -- opening by row i of the table of these bytes
  abbrev pub by_row : Opened
  by_row = open_by (profile_in (table_in (load_of bytes)) i) n b

  -- it is opening with the alignments of row i
  pub opens_as : i < length rs → by_row ≡ open_of (row_settings rs i n) b
  opens_as h = ap (λ (f : Result Alignments Refusal). open_by f n b) (loaded_row bytes rs e i h)

  -- which fit, so that 201 can be for the share alone
  pub row_fits : i < length rs → settings_fit (row_settings rs i n) ≡ bounce_fits (get_or rs i no_row) n
  unfolding settings_fit
  row_fits h = rw ((table_sound bytes rs e).fit i h)

  -- "201 [..] drive row unfit": past the last row
  pub past_refused : length rs ≤ i → by_row.outcome ≡ Err Unfit
  past_refused h = ap (λ (f : Result Alignments Refusal). (open_by f n b).outcome) (loaded_past bytes rs e i h)

-- where lists start: with the dock that an opening returned
abbrev pub starts_with : Opened → Bytes → List ℕ → List ℕ → World
starts_with o content memory scratch =
    record { dock = o.dock; store = content; memory = memory; scratch = scratch; carried = λ p. None }

-- the theorem on every list, from a dock that was opened by a row of a loaded table. Proved in proofs/Loaded.antt.
abbrev pub EveryLoadedList : Type 0
EveryLoadedList =
    (bytes : List ℕ) (rs : List Alignments) (e : table_of bytes ≡ these rs) (i n : ℕ) (b : Buffers) → i < length rs
    → (by_row bytes rs e i n b).outcome ≡ (Ok tt) → (content : Bytes) (memory scratch : List ℕ)
    → lent_fits b (length memory) (length scratch) ≡ true → (es : List Event)
    → Lawful (starts_with (by_row bytes rs e i n b) content memory scratch) (plain_opened (row_settings rs i n) b content) es
    → Claim (starts_with (by_row bytes rs e i n b) content memory scratch) (plain_opened (row_settings rs i n) b content) es
