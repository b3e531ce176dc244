-- `work_operation` meets its contract.
use Rattle.prelude.specs.Kit.{rules, to_z-of_z, w64, SFits}
use Rattle.machine_frames.specs.Work.{shown}
use Rattle.machine_lines.proofs.Lines.{operation_spent, operation_value, operation_over}
use Rattle.machine_lines.proofs.work_operation.Goals as goal

pub returns-then-steps-eq0 : goal.returns-then-steps-eq0
returns-then-steps-eq0 c =
    let a = c.args in
    operation_spent a.calls a.kind a.x a.a a.b a.next a.steps a.env.now (shown c.halt.result)
    c.if-steps-eq0.true c.halt.ensures

pub returns-in_default : goal.returns-in_default
returns-in_default c =
    let a = c.args in
    let v = c.word_of-v in
    let w = c.word_of-w in
    operation_over a.calls a.kind a.x a.a a.b a.next a.steps a.env.now c.if-steps-eq0.false v.result w.result
    v.ensures w.ensures c.operate.result (rw (
      to_z-of_z {z = v.result} (record { sfits = v.type_inv }),
      to_z-of_z {z = w.result} (record { sfits = w.type_inv }),
    ) at c.operate.ensures) c.in_default.is (shown c.halt-in_default.result) c.halt-in_default.ensures

pub returns : goal.returns
returns c =
    let a = c.args in
    let v = c.word_of-v in
    let w = c.word_of-w in
    let z = c.in-Some.z in
    let fits : SFits w64 z = search rules in
    operation_value a.calls a.kind a.x a.a a.b a.next a.steps a.env.now c.if-steps-eq0.false v.result w.result
    v.ensures w.ensures c.operate.result (rw (
      to_z-of_z {z = v.result} (record { sfits = v.type_inv }),
      to_z-of_z {z = w.result} (record { sfits = w.type_inv }),
    ) at c.operate.ensures) z c.in-Some.is _ (rw (to_z-of_z {z = z} fits) at c.bind.ensures) (shown c.go_on.result)
    (rw (to_z-of_z {z = z} fits) at c.go_on.ensures)
