-- A loop is opened in four steps, by the laws of `Openings`.
use Rattle.prelude.specs.Kit.{arith, sym, refl}
use Rattle.lent_fit_lines.proofs.Openings.{loop_closed, loop_flat, loop_again, loop_opened}
use Rattle.lent_fit_lines.proofs.opening.open_loop.Goals as goal
use Rattle.lent_fit_lines.proofs.opening.open_loop.Goals.{then-not-goes_over-via-then-not-goes_over}
use Rattle.lent_fit_lines.proofs.opening.open_loop.Goals.{
  then-not-goes_over-via-else-not-goes_over+then-not-bind_new,
}

pub returns-then-not-goes_over : goal.returns-then-not-goes_over
returns-then-not-goes_over c =
    let a = c.args in
    elim c.then-not-goes_over.branch [
      | then-not-goes_over-via-then-not-goes_over w ↦
          loop_closed
          (loop_flat a.kinds.now a.operands.now _ a.bound.now a.depths.now _ _ _ _ _ c.loop_atoms-n.ensures _
          c.in_ok-ds.ensures (sym w.if-not-goes_over.ensures))
          (rw w.bound-is (omega arith)) (rw w.depths-is (omega arith)) (omega arith)
      | then-not-goes_over-via-else-not-goes_over+then-not-bind_new w ↦
          loop_closed
          (loop_again a.kinds.now a.operands.now _ a.bound.now a.depths.now _ _ _ _ _ c.loop_atoms-n.ensures _
          c.in_ok-ds.ensures (sym w.if-not-goes_over.ensures) _ w.first_at.ensures w.if-not-bind_new.ensures refl)
          (rw w.bound-is w.bind_new.ensures.long) (rw w.depths-is w.bind_new.ensures.deep) (omega arith)
    ]

pub returns : goal.returns
returns c =
    let a = c.args in
    rw c.then_some.ensures
    (loop_opened a.kinds.now a.operands.now _ a.bound.now a.depths.now _ _ _ _ _ c.loop_atoms-n.ensures _
    c.in_ok-ds.ensures (sym c.if-not-goes_over.ensures) _ c.first_at.ensures c.if-not-bind_new.ensures refl
    a.scope.now c.open_pass.ensures refl)
