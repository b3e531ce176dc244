use Rattle.std.proofs.Common.{◌≡◌, ◌-◌}
use Rattle.script_names.specs.Walk.{scope, names_from}
use Rattle.script_names.proofs.name_parameters.Given as goal

abbrev pub invariant-loop : goal.invariant-loop
invariant-loop l =
    names_from l.kinds l.operands l.functions l.count (scope l.fn.known) l.at
    ≡ names_from l.kinds l.operands l.functions (l.count - l.counter) (scope l.known) l.p
