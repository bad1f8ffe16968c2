-- A lent table of f64, which a call fills from its start (document 02, orders 3 and 7).
use Rattle.std.specs.Prelude.{ℕ, cond, List, ◌++◌, eqb, length, drop, Float}

-- numbers laid at the start of a table; those beyond are kept
abbrev pub laid_over : List Float → List Float → List Float
laid_over numbers table = numbers ++ drop (length numbers) table

-- "a refusal leaves the table untouched": by the number of the call, what an accepted one lays, and the table lent
unfoldable pub table_after : ℕ → List Float → List Float → List Float
table_after number numbers table = cond (eqb number 0) (laid_over numbers table) table
