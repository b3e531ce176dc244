-- The goals of `lent_hold::hold_function` that the check leaves.
use Rattle.prelude.specs.Kit.{arith}
use Rattle.lent_hold_trees.proofs.Trees.{within}
use Rattle.lent_hold.proofs.Functions.{function_said, function_near}
use Rattle.lent_hold.proofs.hold_function.Goals as goal

pub walk_tree-requires : goal.walk_tree-requires
walk_tree-requires c = (c.requires.1, within _ _ c.held_first-holds.ensures.1 (omega arith))

pub returns-clause-same : goal.returns-clause-same
returns-clause-same c =
    function_said _ _ _ _ _ _ _ c.name_at-count.ensures _ _ c.walk_tree.ensures c.lent_first-lent.ensures.0
    c.held_first-holds.ensures.0

pub returns-clause-near : goal.returns-clause-near
returns-clause-near c =
    function_near _ _ _ _ c.args.of.now.number _ _ c.name_at-count.ensures _ _ c.walk_tree.ensures c.requires.1.few
    (within _ _ c.held_first-holds.ensures.1 (omega arith))
