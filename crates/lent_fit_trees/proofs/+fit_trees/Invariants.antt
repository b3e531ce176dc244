-- The measure is the levels left; what is left of a tree gives what the whole gives.
use Rattle.prelude.specs.Kit.{◌*◌, ◌+◌, ◌-◌}
use Rattle.lent_fit_lines.specs.Walk.{set_of, bound_of}
use Rattle.lent_fit_trees.proofs.Laws.{Going}
use Rattle.lent_fit_trees.proofs.+fit_trees.Given as goal

abbrev pub decreases-fit_tree : goal.decreases-fit_tree
decreases-fit_tree l = 3 * l.levels

abbrev pub decreases-fit_line : goal.decreases-fit_line
decreases-fit_line l = 3 * l.levels + 2

abbrev pub decreases-fit_if : goal.decreases-fit_if
decreases-fit_if l = 3 * l.levels + 1

abbrev pub decreases-fit_loop : goal.decreases-fit_loop
decreases-fit_loop l = 3 * l.levels + 1

abbrev pub invariant-fit_tree-loop : goal.invariant-fit_tree-loop
invariant-fit_tree-loop l =
    Going l.kinds l.operands l.starts l.levels l.wants (set_of l.fn.scope) (bound_of l.fn.bound l.fn.depths) l.at l.s
    l.bound l.depths l.p (4096 - l.counter)
