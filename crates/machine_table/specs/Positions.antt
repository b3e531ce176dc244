-- The positions in the table: where the functions begin, and where the tree at each row ends.
use Rattle.std.specs.Prelude.{cond, List, ℕ, zero, suc, ◌+◌, ◌-◌, ◌*◌, ◌/◌, ◌%◌, ltb, eqb, get_or, set, length}
use Rattle.machine_code.specs.Reading.{table_bytes, starts_place, ends_place, end_in}

-- a position at a place, low byte first
abbrev pub with_position : List ℕ → ℕ → ℕ → List ℕ
with_position table place position = set (set table place (position % 256)) (place + 1) (position / 256 % 256)

-- ---- the position after the tree that begins at a row

abbrev pub with_end : List ℕ → ℕ → ℕ → List ℕ
with_end table at end = with_position table (ends_place + 2 * at) end

-- how many trees a line of a kind has behind its atoms: an if two, a loop one
abbrev pub trees_of : ℕ → ℕ
trees_of kind =
    cond (eqb kind 12) 2
    (cond (eqb kind 13) 1 (cond (eqb kind 19) 1 (cond (eqb kind 20) 1 (cond (eqb kind 21) 1 0))))

-- the end of what follows a row, behind so many trees
abbrev pub past_trees : ℕ → List ℕ → ℕ → ℕ
past_trees zero table p = end_in table p
past_trees (suc n) table p = past_trees n table (end_in table p)

-- by the row's kind and what the table has for the rows behind it
abbrev pub end_of : ℕ → List ℕ → ℕ → ℕ
end_of kind table at = cond (eqb kind 16) (at + 2) (past_trees (trees_of kind) table (at + 1))

-- the first n rows, the last of them first
unfoldable pub ends_from : ℕ → List ℕ → List ℕ → List ℕ
ends_from zero kinds table = table
ends_from (suc at) kinds table = ends_from at kinds (with_end table at (end_of (get_or kinds at 0) table at))

-- ---- where the functions begin

abbrev pub with_start : List ℕ → ℕ → ℕ → List ℕ
with_start table f start = with_position table (starts_place + 2 * f) start

-- where function f begins, by the places where the functions were written; function 0 begins the code
abbrev pub position_of : List ℕ → ℕ → ℕ
position_of places f = get_or places f 0 - get_or places 0 0

-- n functions from number f on
unfoldable pub starts_from : ℕ → List ℕ → List ℕ → ℕ → List ℕ → List ℕ
starts_from zero kinds places f table = table
starts_from (suc n) kinds places f table =
    cond (ltb (position_of places f) (length kinds))
    (starts_from n kinds places (f + 1) (with_start table f (position_of places f)))
    table

-- ---- both, where the table has room for them

unfoldable pub filled : ℕ → ℕ → List ℕ → List ℕ → List ℕ → List ℕ
filled functions rows kinds places table =
    cond (ltb (length table) table_bytes) table
    (starts_from functions kinds places 0 (ends_from rows kinds table))
