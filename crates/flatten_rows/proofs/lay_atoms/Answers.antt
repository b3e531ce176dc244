-- A line's row, and then its atoms.
use Rattle.flatten_rows.proofs.Laws.{line_laid}
use Rattle.flatten_rows.proofs.lay_atoms.Goals as goal

pub returns : goal.returns
returns c = rw (← c.packed_row.ensures) (line_laid _ _ _ c.lay_places.ensures)
