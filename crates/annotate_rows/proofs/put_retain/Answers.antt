-- Answers for `annotate_rows::put_retain`.
use Rattle.annotate_rows.proofs.Rows.{wrote_none, wrote_as}
use Rattle.annotate_rows.proofs.Names.{retain_on, retain_off}
use Rattle.annotate_rows.proofs.put_retain.Goals as goal

pub returns-then-depth_at-gt0 : goal.returns-then-depth_at-gt0
returns-then-depth_at-gt0 c =
    wrote_as (retain_on c.args.x c.depth_at.result _ c.depth_at.ensures c.if-depth_at-gt0.true) c.put_row.ensures

pub returns-else-depth_at-gt0 : goal.returns-else-depth_at-gt0
returns-else-depth_at-gt0 c =
    wrote_as (retain_off c.args.x c.depth_at.result _ c.depth_at.ensures c.if-depth_at-gt0.false) wrote_none
