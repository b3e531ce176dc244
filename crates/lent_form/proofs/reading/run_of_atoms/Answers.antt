-- Each row is an atom, is out of range or ends the run, by the laws of `Rows`.
use Rattle.prelude.specs.Kit.{arith, ◌≡◌, ◌∙◌, sym, to_z-of_z}
use Rattle.lent_form.proofs.Rows.{run_past, run_number, run_name, run_bad, run_other}
use Rattle.lent_form.proofs.reading.run_of_atoms.Goals as goal
use Rattle.lent_form.proofs.reading.run_of_atoms.Goals.{in-2, in-3+else-natural-gt255}

pub returns-then-natural-gt255 : goal.returns-then-natural-gt255
returns-then-natural-gt255 c =
    let a = c.args in
    run_bad a.kinds.now a.operands.now c.requires.even _ (omega arith) c.in-3.is (grind (arith, to_z-of_z))
    ∙ sym c.loop-p.invariant.0

pub returns-in_default : goal.returns-in_default
returns-in_default c =
    let a = c.args in
    run_other a.kinds.now a.operands.now c.requires.even _ (omega arith) (λ e. omega arith) (λ e. omega arith)
    ∙ sym c.loop-p.invariant.0

pub loop-p-preserved : goal.loop-p-preserved
loop-p-preserved c =
    let a = c.args in (
      c.loop-p.invariant.0
          ∙ elim c.match-kinds-p.branch [
            | in-2 w ↦ run_number a.kinds.now a.operands.now c.requires.even _ (omega arith) w.in-2.is
            | in-3+else-natural-gt255 w ↦
                run_name a.kinds.now a.operands.now c.requires.even _ (omega arith) w.in-3.is
                (grind (arith, to_z-of_z))
          ],
      omega arith,
    )

pub returns : goal.returns
returns c =
    let a = c.args in
    let end : c.max.result ≡ c.loop-p.p = omega arith in
    rw end (run_past a.kinds.now a.operands.now c.requires.even _ (omega arith)) ∙ sym c.loop-p.invariant.0
