-- Answers for `annotate_lines::retain_indexed`.
use Rattle.plain_rows.specs.Parts.{depth_in}
use Rattle.annotate_rows.proofs.Rows.{wrote_as, wrote_none}
use Rattle.annotate_lines.proofs.Leaves.{no_pending}
use Rattle.annotate_lines.proofs.retain_indexed.Goals as goal

pub returns-else-kind-eq-INDEX : goal.returns-else-kind-eq-INDEX
returns-else-kind-eq-INDEX c =
    let a = c.args in
    wrote_as (no_pending (depth_in a.depths.now) a.kind a.x c.if-kind-eq-INDEX.false) wrote_none
