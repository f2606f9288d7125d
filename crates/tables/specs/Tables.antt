-- Document 02, N3, "Drive table from the customer": the table of a byte string, or its refusal.
use Rattle.std.specs.Prelude.{◌&&◌, List, [], ◌∷◌, ◌++◌, ℕ, suc, ◌-◌, ltb, eqb, length, take, drop, get_or, replicate}
use Rattle.std.specs.Prelude.{Option, Some, None, Result, Ok, Err}
use Rattle.arithmetic.specs.Rounding.{pick}
use Rattle.arithmetic.specs.Settings.{alignments, alignments_fit}
use Rattle.arithmetic.specs.declared.refusals.Refusal.{Refusal}
use Rattle.arithmetic.specs.declared.refusals.Refusal.TheVariants.{Unfit, Table as BadTable, Row as BadRow}
use Rattle.arithmetic.specs.declared.settings.Alignments.{Alignments}
use Rattle.records.specs.Records.{little_endian, start_of, Form, end, broken, entry, form_of}
use Rattle.records.specs.declared.Header.{Header}
use Rattle.records.specs.declared.Broken.{Broken}
use Rattle.tables.specs.declared.table.Table.{Table}

-- ---- one record

-- "four 32-bit alignments M, R, Z, D"
unfoldable pub row_of : List ℕ → Alignments
row_of body =
    alignments (little_endian (take 4 body)) (little_endian (take 4 (drop 4 body)))
    (little_endian (take 4 (drop 8 body))) (little_endian (take 4 (drop 12 body)))

-- What it is to a table that has n rows. "Kind 1 is a row [..], so its length is 18": two bytes of kind, 16 of body. "Other kinds are
-- passed over". "211 if [..] a row of another length, a 65th row [..]; 212 if a row breaks an alignment limit. [..] 211 is tested before
-- 212 in it."
unfoldable pub entry_of : ℕ → ℕ → List ℕ → Result (Option Alignments) Refusal
entry_of n kind body =
    pick (eqb kind 1)
    (pick (eqb (length body) 16 && ltb n 64)
    (pick (alignments_fit (row_of body)) (Ok (Some (row_of body))) (Err BadRow))
    (Err BadTable))
    (Ok None)

-- "211 if a record is cut, shorter than its kind field": what bytes start with, to a table
abbrev pub known_as : Result (Option Header) Broken → Result (Option Header) Refusal
known_as (Ok h) = Ok h
known_as (Err b) = Err BadTable

abbrev pub next_of : List ℕ → Result (Option Header) Refusal
next_of bytes = known_as (start_of bytes)

-- ---- all of them

pub data Rows : Type 0 where
  these : List Alignments → Rows
  refused : Refusal → Rows

-- a row before them
abbrev pub before : Alignments → Rows → Rows
before a (these rs) = these (a ∷ rs)
before a (refused r) = refused r

-- by what the record is: the rows without one of it, and those after one of it
abbrev pub with_entry : Result (Option Alignments) Refusal → Rows → Rows → Rows
with_entry (Ok None) without after = without
with_entry (Ok (Some a)) without after = before a after
with_entry (Err r) without after = refused r

-- The rows that records add to n rows, "in file order". "The first bad record decides." "211 if a record is cut, shorter than its kind
-- field, [..] or none in all": that is seen at the end.
unfoldable pub rows_from : ℕ → Form → Rows
rows_from n end = pick (eqb n 0) (refused BadTable) (these [])
rows_from n broken = refused BadTable
rows_from n (entry kind body more) = with_entry (entry_of n kind body) (rows_from n more) (rows_from (suc n) more)

unfoldable pub table_of : List ℕ → Rows
table_of bytes = rows_from 0 (form_of bytes)

-- ---- as a value: 64 rows, of which the first ones count

abbrev pub no_row : Alignments
no_row = alignments 0 0 0 0

abbrev pub table_with : List Alignments → Table
table_with rs = record { rows = rs ++ replicate (64 - length rs) no_row; count = length rs }

abbrev pub loaded_as : Rows → Result Table Refusal
loaded_as (these rs) = Ok (table_with rs)
loaded_as (refused r) = Err r

unfoldable pub load_of : List ℕ → Result Table Refusal
load_of bytes = loaded_as (table_of bytes)

-- what was loaded: where it is refused, a table with no row
abbrev pub table_in : Result Table Refusal → Table
table_in (Ok t) = t
table_in (Err r) = table_with []

-- ---- a row by its index

abbrev pub rows_of : Table → List Alignments
rows_of t = take t.count t.rows

-- "201 [..] drive row unfit", as for the built-in rows: past the last
unfoldable pub profile_in : Table → ℕ → Result Alignments Refusal
profile_in t i = pick (ltb i (length (rows_of t))) (Ok (get_or (rows_of t) i no_row)) (Err Unfit)
