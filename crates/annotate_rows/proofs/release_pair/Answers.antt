-- Answers for `annotate_rows::release_pair`.
use Rattle.prelude.specs.Kit.{arith}
use Rattle.plain_rows.specs.Plain.{set_of}
use Rattle.plain_rows.specs.Parts.{depth_in}
use Rattle.annotate_rows.proofs.Rows.{wrote_then, wrote_as}
use Rattle.annotate_rows.proofs.Names.{dying_pair, dying_twice}
use Rattle.annotate_rows.proofs.release_pair.Goals as goal

pub returns-then-x-y : goal.returns-then-x-y
returns-then-x-y c =
    let a = c.args in
    wrote_as (dying_twice (depth_in a.depths.now) a.x a.y (set_of a.live.now) (omega arith)) c.put_release.ensures

pub returns : goal.returns
returns c =
    let a = c.args in
    wrote_as (dying_pair (depth_in a.depths.now) a.x a.y (set_of a.live.now) c.if-x-y.false c.max.ensures c.min.ensures)
    (wrote_then c.put_release-v.ensures c.put_release-2.ensures)
