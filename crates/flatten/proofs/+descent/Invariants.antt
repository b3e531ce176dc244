-- The levels left fall from a tree to its parts; at one level each function stands above those that it calls.
use Rattle.prelude.specs.Kit.{◌+◌, ◌*◌, ◌≡◌, get_or}
use Rattle.flatten_rows.specs.Laid.{meanings}
use Rattle.flatten_rows.specs.Source.{tree_at, parts_before}
use Rattle.flatten_rows.specs.Made.{state}
use Rattle.flatten_rows.proofs.Lists.{Listing}
use Rattle.flatten.proofs.+descent.Given as goal

abbrev pub decreases-lay_compound : goal.decreases-lay_compound
decreases-lay_compound l = 6 * l.levels + 5

abbrev pub decreases-trees::lay_pass : goal.decreases-trees::lay_pass
decreases-trees::lay_pass l = 6 * l.levels + 4

abbrev pub decreases-trees::lay_if : goal.decreases-trees::lay_if
decreases-trees::lay_if l = 6 * l.levels + 4

abbrev pub decreases-lay_let : goal.decreases-lay_let
decreases-lay_let l = 6 * l.levels + 4

abbrev pub decreases-lay_tree : goal.decreases-lay_tree
decreases-lay_tree l = 6 * l.levels + 3

abbrev pub decreases-lay_part : goal.decreases-lay_part
decreases-lay_part l = 6 * l.levels + 2

abbrev pub decreases-lay_node : goal.decreases-lay_node
decreases-lay_node l = 6 * l.levels + 1

-- i of the parts are listed
abbrev pub invariant-lay_compound-loop-i : goal.invariant-lay_compound-loop-i
invariant-lay_compound-loop-i l =
    let s = l.initial in
    Listing l.operands (λ f. get_or l.results f 0) (tree_at l.kinds l.operands l.levels)
    (parts_before l.shape.kind l.shape.low l.shape.high) s.at.node (meanings l.operands s.places)
    (state s.rows s.notes s.depths s.last) (state l.rows l.notes l.depths l.last) s.at.n s.at.p l.levels
    l.atoms l.i l.at.node l.at.n l.at.p
    × (l.places ≡ s.places)
