-- How many readings a delivery takes, and the number of its stop where a cell is wanted and none is free.
use Rattle.prelude.specs.Kit.{ℕ, ◌≤◌, List, ℤ, length}

-- readings for which a cell has slots
abbrev pub FitsCell : List ℤ → Type 0
FitsCell readings = length readings ≤ 16

-- the stop where a cell is wanted and none is free
abbrev pub no_cell_free : ℕ
no_cell_free = 25
