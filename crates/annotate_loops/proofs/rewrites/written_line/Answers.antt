-- Answers for `annotate_loops::rewrites::written_line`.
use Rattle.prelude.specs.Kit.{refl}
use Rattle.plain_rows.specs.Plain.{set_of}
use Rattle.plain_rows.specs.Parts.{depth_in}
use Rattle.plain_rows.specs.Marks.{marks_of}
use Rattle.annotate_loops.proofs.LoopRows.{line_written, others_written}
use Rattle.annotate_loops.proofs.rewrites.written_line.Goals as goal

pub returns-in-Loop : goal.returns-in-Loop
returns-in-Loop c =
    let a = c.args in
    let l = c.in-Loop in
    rw l.is (line_written (depth_in a.depths.now) a.p (marks_of a.cur.now) (set_of a.live.now) l.name l.kind
    l.first_name l.second_name l.first l.second _ _ _ c.loop_size.ensures refl c.written_kind-written.ensures)

pub returns-in_default : goal.returns-in_default
returns-in_default c =
    let a = c.args in
    others_written (depth_in a.depths.now) a.p (marks_of a.cur.now) (set_of a.live.now) a.l c.in_default.not-Loop
