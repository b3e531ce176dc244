-- Answers for `annotate_rows::release_one`.
use Rattle.plain_rows.specs.Parts.{depth_in}
use Rattle.annotate_rows.proofs.Rows.{wrote_none, wrote_as}
use Rattle.annotate_rows.proofs.Names.{release_unused, release_number, release_live}
use Rattle.annotate_rows.proofs.release_one.Goals as goal
use Rattle.annotate_rows.proofs.release_one.Goals.{else-used-via-then-used+then-depth_at-gt0+else-not-live}
use Rattle.annotate_rows.proofs.release_one.Goals.{else-used-via-then-used+else-depth_at-gt0}
use Rattle.annotate_rows.proofs.release_one.Goals.{else-used-via-else-used}

pub returns-else-used : goal.returns-else-used
returns-else-used c =
    let a = c.args in
    wrote_as (elim c.else-used.branch [
      | else-used-via-then-used+then-depth_at-gt0+else-not-live w ↦
          release_live a.x a.used a.live (depth_in a.depths.now a.x) w.if-not-live.false
      | else-used-via-then-used+else-depth_at-gt0 w ↦
          release_number a.x a.used a.live w.depth_at.result _ w.depth_at.ensures w.if-depth_at-gt0.false
      | else-used-via-else-used w ↦ release_unused a.x a.used a.live (depth_in a.depths.now a.x) w.if-used.false
    ]) wrote_none
