-- The parameters that are left begin at line p.
use Rattle.prelude.specs.Kit.{◌≡◌, ◌-◌}
use Rattle.lent_form.specs.Told.{parameter_passed, repeated}
use Rattle.lent_form.proofs.form_parameters.Given as goal

abbrev pub invariant-loop : goal.invariant-loop
invariant-loop l =
    let passed = parameter_passed l.kinds l.operands l.over in
    repeated l.count passed l.at ≡ repeated (l.count - l.counter) passed l.p
