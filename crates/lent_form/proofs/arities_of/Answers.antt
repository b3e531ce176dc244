-- Each row is counted, by the laws of `Whole`.
use Rattle.prelude.specs.Kit.{arith, to_z-of_z}
use Rattle.lent_form.proofs.Whole.{counting_starts, count_other, count_function, all_counted, no_more}
use Rattle.lent_form.proofs.arities_of.Goals as goal
use Rattle.lent_form.proofs.arities_of.Goals.{then-kinds-p-eq-FUNCTION+else-f-eq32, else-kinds-p-eq-FUNCTION}

pub loop-p-init : goal.loop-p-init
loop-p-init c = counting_starts _

pub loop-p-preserved : goal.loop-p-preserved
loop-p-preserved c =
    let a = c.args in
    elim c.if-kinds-p-eq-FUNCTION.branch [
      | then-kinds-p-eq-FUNCTION+else-f-eq32 w ↦
          rw (w.arities-is, w.f-is)
          (count_function a.kinds.now a.operands.now c.requires.even _ _ _ c.loop-p.invariant (omega arith)
          w.if-kinds-p-eq-FUNCTION.true w.if-f-eq32.false w.arity_in.result (grind (arith, to_z-of_z)))
      | else-kinds-p-eq-FUNCTION w ↦
          rw (w.arities-is, w.f-is)
          (count_other a.kinds.now a.operands.now c.requires.even _ _ _ c.loop-p.invariant (omega arith)
          w.if-kinds-p-eq-FUNCTION.false)
    ]

pub returns-after-loop-p : goal.returns-after-loop-p
returns-after-loop-p c =
    let a = c.args in no_more a.kinds.now a.operands.now c.requires.even _ _ _ c.loop-p.invariant (omega arith)

pub returns-then-f-eq32 : goal.returns-then-f-eq32
returns-then-f-eq32 c =
    let a = c.args in
    all_counted a.kinds.now a.operands.now c.requires.even _ _ _ c.loop-p.invariant c.if-f-eq32.true
