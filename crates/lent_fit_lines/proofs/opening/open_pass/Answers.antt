-- A reduce opens two names, one after the other, by `Openings.pass_two`.
use Rattle.prelude.specs.Kit.{refl}
use Rattle.lent_fit_lines.proofs.Openings.{pass_two}
use Rattle.lent_fit_lines.proofs.opening.open_pass.Goals as goal

pub returns-then-open_name : goal.returns-then-open_name
returns-then-open_name c =
    let a = c.args in
    rw (c.if-kind-eq-REDUCE.true, ← c.second_at-y.ensures, ← c.third_at.ensures)
    (pass_two a.bound.now a.depths.now a.scope.now _ _ _ c.second_at-y.result a.first c.third_at.result a.element
    c.if-open_name.ensures refl c.open_name-then-open_name.ensures)
