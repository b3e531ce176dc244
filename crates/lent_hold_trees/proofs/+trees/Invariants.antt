-- The measures of the walk, and what the loop over the lines of a tree keeps.
use Rattle.prelude.specs.Kit.{◌+◌, ◌-◌, ◌*◌}
use Rattle.lent_counts.specs.Counted.{counted, set_of}
use Rattle.lent_hold_lines.specs.Lines.{depths_of, borrowed_of, waiting, asked}
use Rattle.lent_hold_trees.specs.Walk.{tree_at}
use Rattle.lent_hold_trees.proofs.Trees.{Going}
use Rattle.lent_hold_trees.proofs.+trees.Given as goal

abbrev pub decreases-walk_if : goal.decreases-walk_if
decreases-walk_if l = 3 * l.levels + 1

abbrev pub decreases-walk_loop : goal.decreases-walk_loop
decreases-walk_loop l = 3 * l.levels + 1

abbrev pub decreases-walk_line : goal.decreases-walk_line
decreases-walk_line l = 3 * l.levels + 2

abbrev pub decreases-walk_tree : goal.decreases-walk_tree
decreases-walk_tree l = 3 * l.levels

abbrev pub invariant-walk_tree-loop : goal.invariant-walk_tree-loop
invariant-walk_tree-loop l =
    Going l.of.kinds.now l.of.operands.now (borrowed_of l.of) (depths_of l.of) l.levels (set_of l.lent)
    (asked l.wanted (set_of l.lent))
    (tree_at l.of.kinds.now l.of.operands.now (borrowed_of l.of) (depths_of l.of) l.levels (set_of l.lent)
    (waiting l.initial.here.pending) (counted l.initial.holds) (asked l.wanted (set_of l.lent)) l.at)
    (4096 - l.counter) l.here l.holds
