-- The measures of the walk, and the invariant of its loop over the lines of a tree.
use Rattle.std.proofs.Common.{◌+◌, ◌-◌, ◌*◌}
use Rattle.semantics.specs.Borrow.{borrows}
use Rattle.plain_rows.specs.Plain.{plain}
use Rattle.plain_rows.specs.Parts.{depth_in}
use Rattle.plain_rows.specs.Walk.{tree_walk}
use Rattle.annotate.proofs.Trees.{Going}
use Rattle.annotate.proofs.+walk.Given as goal

abbrev pub decreases-walk_if : goal.decreases-walk_if
decreases-walk_if l = 2 * l.here.levels + 1

abbrev pub decreases-walk_loop : goal.decreases-walk_loop
decreases-walk_loop l = 2 * l.here.levels + 1

abbrev pub decreases-walk_tree : goal.decreases-walk_tree
decreases-walk_tree l = 2 * l.levels

abbrev pub invariant-walk_tree-lines : goal.invariant-walk_tree-lines
invariant-walk_tree-lines l =
    let code = plain l.operands l.rows l.notes in
    let borrowing = borrows l.table in
    let depths = depth_in l.depths in
    Going code borrowing depths (tree_walk code borrowing depths (l.levels - 1))
    l.initial.live l.initial.cur l.initial.ks l.initial.os l.initial.at 4096 l.e
    l.live l.cur l.ks l.os l.at (4096 - l.counter) l.q
