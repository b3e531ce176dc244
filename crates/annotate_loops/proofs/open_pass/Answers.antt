-- Answers for `annotate_loops::open_pass`.
use Rattle.plain_rows.specs.Plain.{set_of}
use Rattle.plain_rows.specs.Parts.{depth_in}
use Rattle.annotate_rows.proofs.Rows.{wrote_then, wrote_as}
use Rattle.annotate_loops.proofs.LoopRows.{opening_one, opening_two}
use Rattle.annotate_loops.proofs.open_pass.Goals as goal

pub returns-then-kind-eq-REDUCE : goal.returns-then-kind-eq-REDUCE
returns-then-kind-eq-REDUCE c =
    let a = c.args in
    rw c.if-kind-eq-REDUCE.true (wrote_as (opening_two (depth_in a.depths.now) (set_of a.live.now) a.y a.z)
    (wrote_then c.release_pair-v.ensures c.put_retain.ensures))

pub returns-else-kind-eq-REDUCE : goal.returns-else-kind-eq-REDUCE
returns-else-kind-eq-REDUCE c =
    let a = c.args in
    wrote_as (opening_one (depth_in a.depths.now) (set_of a.live.now) a.kind a.y a.z c.if-kind-eq-REDUCE.false)
    (wrote_then c.put_release-v.ensures c.put_retain-else-kind-eq-REDUCE.ensures)
