-- A reduce has two names of a pass, any other loop one.
use Rattle.prelude.specs.Kit.{get_or}
use Rattle.flatten_rows.proofs.Laws.{pass_reduce, pass_other}
use Rattle.flatten_rows.proofs.note_pass.Goals as goal

pub returns-then-kind-eq-REDUCE : goal.returns-then-kind-eq-REDUCE
returns-then-kind-eq-REDUCE c =
    let a = c.args in
    pass_reduce a.kind a.depths.now a.n (get_or a.places.now 0 0) (get_or a.places.now 1 0) _ _
    c.if-kind-eq-REDUCE.true c.depth_of.ensures c.element_depth-element.ensures

pub returns-else-kind-eq-REDUCE : goal.returns-else-kind-eq-REDUCE
returns-else-kind-eq-REDUCE c =
    let a = c.args in
    pass_other a.kind a.depths.now a.n (get_or a.places.now 0 0) (get_or a.places.now 1 0) _
    c.if-kind-eq-REDUCE.false c.element_depth.ensures
