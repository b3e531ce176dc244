-- Answers for `annotate_lines::put_binary`.
use Rattle.plain_rows.specs.Plain.{set_of, meant}
use Rattle.plain_rows.specs.Parts.{depth_in}
use Rattle.annotate_rows.proofs.Rows.{wrote_then, wrote_as}
use Rattle.annotate_lines.proofs.Leaves.{binary_rows}
use Rattle.annotate_lines.proofs.put_binary.Goals as goal

pub returns : goal.returns
returns c B =
    let a = c.args in
    wrote_as (binary_rows B (depth_in a.depths.now) a.x (set_of a.after.now) a.kind (meant a.a) (meant a.b)
    c.binary_kind.ensures)
    (wrote_then (wrote_then (wrote_then (wrote_then c.put_reads-s.ensures c.retain_indexed-t.ensures)
    c.put_atom-u.ensures) c.put_atom-v.ensures) c.put_row.ensures)
