-- A line's row, and then its atom.
use Rattle.flatten_rows.proofs.Laws.{line_laid}
use Rattle.flatten_rows.proofs.lay_head.Goals as goal

pub returns : goal.returns
returns c = rw (← c.packed_row.ensures) (line_laid _ _ _ c.put_use.ensures)
