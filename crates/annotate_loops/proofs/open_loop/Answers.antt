-- Answers for `annotate_loops::open_loop`.
use Rattle.plain_rows.specs.Plain.{set_of}
use Rattle.plain_rows.specs.Parts.{depth_in}
use Rattle.annotate_rows.proofs.Rows.{wrote_then, wrote_as, wrote_none}
use Rattle.annotate_loops.specs.Loops.{opening_of}
use Rattle.annotate_loops.proofs.LoopRows.{no_opening}
use Rattle.annotate_loops.proofs.open_loop.Goals as goal

pub returns-in-Loop : goal.returns-in-Loop
unfolding opening_of
returns-in-Loop c =
    rw c.in-Loop.is (rw c.loop_operand-n.ensures at (wrote_then c.open_pass-v.ensures c.put_own.ensures))

pub returns-in_default : goal.returns-in_default
returns-in_default c =
    let a = c.args in
    wrote_as (no_opening (depth_in a.depths.now) a.l c.in_default.not-Loop (set_of a.live.now)) wrote_none
