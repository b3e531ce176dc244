use Rattle.std.proofs.Common.{◌≡◌, ◌+◌, ◌*◌}
use Rattle.script_read.specs.Told.{repeated, Next}
use Rattle.script_names.specs.Walk.{scope, names}
use Rattle.script_names.proofs.+name_binding_name_part_name_parts.Given as goal

abbrev pub decreases-name_part : goal.decreases-name_part
decreases-name_part l = 3 * l.levels

abbrev pub decreases-name_parts : goal.decreases-name_parts
decreases-name_parts l = 3 * l.levels + 1

abbrev pub decreases-name_binding : goal.decreases-name_binding
decreases-name_binding l = 3 * l.levels + 2

abbrev pub invariant-name_parts-loop : goal.invariant-name_parts-loop
invariant-name_parts-loop l =
    (l.known ≡ l.fn.known)
    × (repeated l.counter (names l.kinds l.operands l.functions l.levels (scope l.fn.known)) l.at ≡ Next l.p)
