-- `script_types::type_parameters`: the parameters left, from node p on, give what all of them give.
use Rattle.prelude.specs.Kit.{◌≡◌, ◌-◌, length}
use Rattle.script_depths.specs.Walk.{depths}
use Rattle.script_types.specs.Functions.{known_from}
use Rattle.script_types.proofs.type_parameters.Given as goal

abbrev pub invariant-loop : goal.invariant-loop
invariant-loop l =
    (length l.table ≡ 256)
    × (known_from l.kinds l.operands l.starts l.fn.count (depths l.fn.table) l.fn.at
    ≡ known_from l.kinds l.operands l.starts (l.fn.count - l.counter) (depths l.table) l.p)
