-- The measure is the levels left. The walk that began at line `at` is at line p; among the trees of a line, some are
-- passed.
use Rattle.prelude.specs.Kit.{◌-◌, length}
use Rattle.lent_form.specs.Told.{tree_passed}
use Rattle.lent_form.proofs.Walk.{Going, Among}
use Rattle.lent_form.proofs.+form_tree.Given as goal

abbrev pub decreases-form_tree : goal.decreases-form_tree
decreases-form_tree l = l.levels

abbrev pub invariant-loop-p : goal.invariant-loop-p
invariant-loop-p l = Going (length l.kinds) (λ n. tree_passed l.kinds l.operands l.over n l.levels) l.at l.p

abbrev pub decreases-loop-p : goal.decreases-loop-p
decreases-loop-p l = length l.kinds - l.p

abbrev pub invariant-loop : goal.invariant-loop
invariant-loop l =
    Among (length l.kinds) (λ n. tree_passed l.kinds l.operands l.over n (l.levels - 1)) l.trees l.initial.p l.counter
    l.p
