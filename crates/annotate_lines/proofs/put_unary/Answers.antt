-- Answers for `annotate_lines::put_unary`.
use Rattle.plain_rows.specs.Plain.{set_of, meant}
use Rattle.plain_rows.specs.Parts.{depth_in}
use Rattle.annotate_rows.proofs.Rows.{wrote_then, wrote_as}
use Rattle.annotate_lines.proofs.Leaves.{unary_rows}
use Rattle.annotate_lines.proofs.put_unary.Goals as goal

pub returns : goal.returns
returns c B =
    let a = c.args in
    wrote_as (unary_rows B (depth_in a.depths.now) a.x (set_of a.after.now) a.kind (meant a.a) c.unary_kind.ensures)
    (wrote_then (wrote_then c.release_both-u.ensures c.put_atom-v.ensures) c.put_row.ensures)
