-- Answers for `annotate_lines::put_end`.
use Rattle.annotate_rows.proofs.Rows.{wrote_then}
use Rattle.annotate_lines.proofs.put_end.Goals as goal

pub returns : goal.returns
returns c = wrote_then (wrote_then c.put_atom-u.ensures c.put_row-v.ensures) c.retain_atom.ensures
