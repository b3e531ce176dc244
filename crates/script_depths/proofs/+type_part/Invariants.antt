-- The levels left fall from part to part; the other functions stand between two parts of the same levels.
use Rattle.prelude.specs.Kit.{◌≡◌, ◌+◌, ◌*◌}
use Rattle.script_depths.specs.Walk.{depths, known_types}
use Rattle.script_depths.proofs.Laws.{Going}
use Rattle.script_depths.proofs.+type_part.Given as goal

abbrev pub decreases-type_part : goal.decreases-type_part
decreases-type_part l = 3 * l.levels

abbrev pub decreases-type_let : goal.decreases-type_let
decreases-type_let l = 3 * l.levels + 1

abbrev pub decreases-type_start : goal.decreases-type_start
decreases-type_start l = 3 * l.levels + 1

abbrev pub decreases-type_plain : goal.decreases-type_plain
decreases-type_plain l = 3 * l.levels + 1

abbrev pub decreases-type_loop : goal.decreases-type_loop
decreases-type_loop l = 3 * l.levels + 2

abbrev pub invariant-type_plain-loop-i : goal.invariant-type_plain-loop-i
invariant-type_plain-loop-i l =
    (l.table ≡ l.fn.table)
    × Going l.n (known_types l.kinds l.operands l.starts l.levels (depths l.fn.table)) (l.at + 1) l.i l.p l.ds
