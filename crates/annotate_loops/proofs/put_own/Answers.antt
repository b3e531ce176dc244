-- Answers for `annotate_loops::put_own`.
use Rattle.plain_rows.specs.Plain.{meant, loop_of}
use Rattle.plain_rows.proofs.Rows.{no_reduce}
use Rattle.annotate_rows.specs.Wrote.{Wrote}
use Rattle.annotate_rows.proofs.Rows.{wrote_then, wrote_as, wrote_none}
use Rattle.annotate_loops.proofs.LoopRows.{seconds, own_rows}
use Rattle.annotate_loops.proofs.put_own.Goals as goal
use Rattle.annotate_loops.proofs.put_own.Goals.{then-kind-eq-REDUCE, else-kind-eq-REDUCE}

pub returns : goal.returns
returns c =
    let a = c.args in
    let j = c.if-kind-eq-REDUCE in
    let second : Wrote a.ks.now a.os.now j.ks j.os a.w j.u (seconds (loop_of a.kind) (meant a.b)) =
    elim j.branch [
      | then-kind-eq-REDUCE w ↦ rw (w.ks-is, w.os-is, w.u-is, w.if-kind-eq-REDUCE.true) w.put_atom-u.ensures
      | else-kind-eq-REDUCE w ↦ rw (w.ks-is, w.os-is, w.u-is)
          (no_reduce (λ k. Wrote a.ks.now a.os.now a.ks.now a.os.now a.w a.w (seconds k (meant a.b))) a.kind
          w.if-kind-eq-REDUCE.false wrote_none wrote_none wrote_none)
    ] in
    wrote_as (own_rows (loop_of a.kind) a.n (meant a.a) (meant a.b))
    (wrote_then (wrote_then second c.put_atom-v.ensures) (rw c.loop_kind.ensures at c.put_row.ensures))
