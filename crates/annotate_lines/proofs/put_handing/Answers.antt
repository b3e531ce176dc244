-- Answers for `annotate_lines::put_handing`.
use Rattle.annotate_rows.proofs.Rows.{wrote_then}
use Rattle.annotate_lines.proofs.put_handing.Goals as goal

pub returns : goal.returns
returns c =
    wrote_then (wrote_then (wrote_then c.put_release-s.ensures c.put_atoms-t.ensures) c.put_row-u.ensures)
    c.put_retains.ensures
