-- `pass_arguments` meets its contract.
use Rattle.std.proofs.Common.{◌+◌, ◌-◌, ◌*◌, arith, to_z-of_z}
use Rattle.machine_frames.proofs.Gathering.{none_read, none_named, copying_none, copying_more, copied_all}
use Rattle.machine_frames.proofs.pass_arguments.Goals as goal
use Rattle.machine_frames.proofs.pass_arguments.Goals.{then-kinds-at-via-then-kinds-at, then-kinds-at-via-else-kinds-at+then-kinds-names}

pub returns-then-kinds-at : goal.returns-then-kinds-at
returns-then-kinds-at c =
    let a = c.args in
    elim c.then-kinds-at.branch [
      | then-kinds-at-via-then-kinds-at w ↦
          none_read a.kinds.now a.operands.now a.calls (a.calls - 1) a.at a.names a.count a.env.now w.if-kinds-at.true
      | then-kinds-at-via-else-kinds-at+then-kinds-names w ↦
          none_named a.kinds.now a.operands.now a.calls (a.calls - 1) a.at a.names a.count a.env.now
          (omega (arith, w.if-kinds-at.false)) w.if-kinds-names.true
    ]

pub loop-i-init : goal.loop-i-init
loop-i-init c =
    let a = c.args in
    copying_none a.kinds.now a.operands.now a.calls (a.calls - 1) a.at a.names a.count a.env.now
    (omega (arith, c.if-kinds-at.false)) (omega (arith, c.if-kinds-names.false))

pub loop-i-preserved : goal.loop-i-preserved
loop-i-preserved c =
    let a = c.args in
    let w = c.word_of-w in
    let x = c.name_within-x in
    rw (to_z-of_z {z = w.result} (record { sfits = w.type_inv }))
    (copying_more c.loop-i.invariant (omega arith) (omega arith) (omega arith) (omega arith)
    c.atom_within-a.result w.result c.atom_within-a.ensures w.ensures x.result
    (256 * a.calls + x.result - 256) x.ensures (omega arith))

pub returns : goal.returns
returns c = copied_all c.loop-i.invariant (omega arith)
