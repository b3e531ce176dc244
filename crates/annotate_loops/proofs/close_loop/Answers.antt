-- Answers for `annotate_loops::close_loop`.
use Rattle.prelude.specs.Kit.{refl}
use Rattle.plain_rows.specs.Plain.{set_of, loop_of}
use Rattle.plain_rows.specs.Parts.{depth_in}
use Rattle.plain_rows.specs.Marks.{marks_of}
use Rattle.annotate_rows.proofs.Rows.{wrote_then, wrote_as, wrote_none}
use Rattle.annotate_loops.specs.Loops.{closing_of}
use Rattle.annotate_loops.proofs.LoopRows.{closing_rows, no_closing}
use Rattle.annotate_loops.proofs.close_loop.Goals as goal

pub returns-in-Loop : goal.returns-in-Loop
unfolding closing_of
returns-in-Loop c =
    let a = c.args in
    let l = c.in-Loop in
    rw l.is (wrote_as (closing_rows (depth_in a.depths.now) a.p l.name (marks_of a.cur.now) (set_of a.live.now)
    (loop_of l.kind) l.first l.second c.read_of-array.result _ _ c.read_of-array.ensures c.loop_size.ensures refl)
    (wrote_then c.put_release-v.ensures c.put_used.ensures))

pub returns-in_default : goal.returns-in_default
returns-in_default c =
    let a = c.args in
    wrote_as (no_closing (depth_in a.depths.now) a.l c.in_default.not-Loop a.p (marks_of a.cur.now) (set_of a.live.now))
    wrote_none
