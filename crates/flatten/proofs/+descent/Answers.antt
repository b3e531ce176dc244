-- What the functions of the descent have to show, by the laws of `flatten_rows`.
use Rattle.prelude.specs.Kit.{◌<◌, arith, refl, ◌∙◌, sym, [], ◌∷◌, rules}
use Rattle.semantics.specs.File.{at_part}
use Rattle.script_read.proofs.Ends.{node_inside}
use Rattle.script_read.proofs.Limits.{NoneOf}
use Rattle.script_read.proofs.Tables.{put_back, put_back_two}
use Rattle.flatten_rows.specs.Source.{tree_at, parts_before}
use Rattle.flatten_rows.proofs.Nodes.{fits_seen, compound_as, compound_is, number_is, name_is, let_is, if_is}
use Rattle.flatten_rows.proofs.Nodes.{any_default, number_placed, let_after, if_after}
use Rattle.flatten_rows.proofs.Nodes.{none_tree, wrong_tree}
use Rattle.flatten_rows.proofs.Lists.{listing_begins, listing_goes}
use Rattle.flatten_rows.proofs.Members.{given_bound, given_same, let_first, let_second, let_laid, atom_laid, tree_laid}
use Rattle.flatten_rows.proofs.Members.{if_first, if_place, if_own, if_middle, if_other, if_end, if_laid}
use Rattle.flatten_rows.proofs.Members.{ready_as, ready_made, number_laid, nowhere_laid, name_laid, ready_inside}
use Rattle.flatten_rows.proofs.Compounds.{parts_ready, parts_few, part_ready, leaf_ready, leaf_laid}
use Rattle.flatten_rows.proofs.Compounds.{pass_ready, loop_laid}
use Rattle.flatten_rows.proofs.Passes.{given_bound_twice, pass_tree, pass_deep, pass_laid}
use Rattle.flatten.proofs.+descent.Goals as goal
use Rattle.flatten.proofs.+descent.Goals.{lay_compound-in-Some, lay_compound-in-None}

-- ---- the tree at a node

pub lay_part-atom_out-requires : goal.lay_part-atom_out-requires
lay_part-atom_out-requires t c = ready_inside c.requires.1

pub lay_part-returns-then-levels-eq0-clause-made : goal.lay_part-returns-then-levels-eq0-clause-made
lay_part-returns-then-levels-eq0-clause-made t c =
    let a = c.args in
    rw c.atom_out.ensures (nowhere_laid _ a.levels a.spot.node c.requires.0.parts
    (none_tree a.kinds.now a.operands.now a.levels a.spot.node c.if-levels-eq0.true) c.requires.1.sized)

pub lay_part-atom_out-requires-in-Err : goal.lay_part-atom_out-requires-in-Err
lay_part-atom_out-requires-in-Err t c = ready_inside c.requires.1

pub lay_part-returns-in-Err : goal.lay_part-returns-in-Err
lay_part-returns-in-Err t c =
    let a = c.args in
    record {
      made = rw c.atom_out-in-Err.ensures (nowhere_laid _ a.levels a.spot.node c.requires.0.parts
          (wrong_tree a.kinds.now a.operands.now a.levels a.spot.node c.if-levels-eq0.false c.node_at.result
          c.node_at.ensures _ c.in-Err.is) c.requires.1.sized);
      places_unchanged = refl;
    }

-- ---- a node that fits

pub lay_node-atom_out-requires : goal.lay_node-atom_out-requires
lay_node-atom_out-requires t c = ready_inside c.requires.given.1

pub lay_node-atom_out-requires-in-3 : goal.lay_node-atom_out-requires-in-3
lay_node-atom_out-requires-in-3 t c = ready_inside c.requires.given.1

pub lay_node-lay_let-requires : goal.lay_node-lay_let-requires
lay_node-lay_let-requires t c =
    let fits = c.requires.node_fits in
    let node = c.args.spot.node in (
      omega (arith, c.decreases, fits.deep),
      (
        c.requires.given.0,
        ready_as _ node _ c.requires.given.1 (let_is _ _ _ _ fits.deep (fits_seen fits) c.in-7.is)
            (let_after _ node _ _),
      ),
    )

pub lay_node-lay_if-requires : goal.lay_node-lay_if-requires
lay_node-lay_if-requires t c =
    let fits = c.requires.node_fits in
    let node = c.args.spot.node in (
      omega (arith, c.decreases, fits.deep),
      (
        c.requires.given.0,
        ready_as _ node _ c.requires.given.1 (if_is _ _ _ _ fits.deep (fits_seen fits) c.in-12.is)
            (if_after node _ _ _),
      ),
    )

pub lay_node-lay_compound-requires : goal.lay_node-lay_compound-requires
lay_node-lay_compound-requires t c =
    let fits = c.requires.node_fits in
    let seen = fits_seen fits in
    let none : NoneOf (12 ∷ 7 ∷ 3 ∷ 2 ∷ []) c.args.shape.kind = search rules in
    let compounded = compound_as seen none in (
      omega (arith, c.decreases, fits.deep),
      (
        compounded.counted,
        (
          c.requires.given.0,
          ready_as _ c.args.spot.node _ c.requires.given.1
              (compound_is _ _ _ _ fits.deep seen compounded) refl,
        ),
      ),
    )

pub lay_node-returns-in-2-clause-made : goal.lay_node-returns-in-2-clause-made
lay_node-returns-in-2-clause-made t c =
    let a = c.args in
    let node = a.spot.node in
    let fits = c.requires.node_fits in
    let seen = fits_seen fits in
    let number = c.in-2.is in
    rw c.atom_out.ensures (number_laid _ _ a.levels node _ _
    (number_is _ _ _ _ fits.deep seen number)
    (number_placed a.kinds.now a.operands.now node seen.node c.requires.given.0.parts
    (node_inside a.kinds.now a.operands.now at_part node seen.node seen.stands) seen.stands
    (seen.same_kind ∙ number)) c.requires.given.1.sized)

pub lay_node-returns-in-3-clause-made : goal.lay_node-returns-in-3-clause-made
lay_node-returns-in-3-clause-made t c =
    let a = c.args in
    let fits = c.requires.node_fits in
    rw c.atom_out-in-3.ensures (name_laid a.operands.now _ a.places.now a.levels a.spot.node _
    a.shape.low (name_is _ _ _ _ fits.deep (fits_seen fits) c.in-3.is)
    (any_default a.places.now a.shape.low c.requires.given.0.long (omega arith)) c.requires.given.1.sized)

pub lay_node-returns-in-7-clause-made : goal.lay_node-returns-in-7-clause-made
lay_node-returns-in-7-clause-made t c =
    let fits = c.requires.node_fits in
    let node = c.args.spot.node in
    ready_made _ _ c.args.levels node (let_is _ _ _ _ fits.deep (fits_seen fits) c.in-7.is)
    (omega (arith, fits.deep)) (let_after _ node _ _) c.lay_let.ensures.made

pub lay_node-returns-in-12-clause-made : goal.lay_node-returns-in-12-clause-made
lay_node-returns-in-12-clause-made t c =
    let fits = c.requires.node_fits in
    let node = c.args.spot.node in
    ready_made _ _ c.args.levels node (if_is _ _ _ _ fits.deep (fits_seen fits) c.in-12.is)
    (omega (arith, fits.deep)) (if_after node _ _ _) c.lay_if.ensures.made

pub lay_node-returns-in_default-clause-made : goal.lay_node-returns-in_default-clause-made
lay_node-returns-in_default-clause-made t c =
    let fits = c.requires.node_fits in
    let seen = fits_seen fits in
    let none : NoneOf (12 ∷ 7 ∷ 3 ∷ 2 ∷ []) c.args.shape.kind = search rules in
    ready_made _ _ c.args.levels c.args.spot.node
    (compound_is _ _ _ _ fits.deep seen (compound_as seen none))
    (omega (arith, fits.deep)) refl c.lay_compound.ensures.made

-- ---- a leaf or a loop

pub lay_compound-loop-i-init : goal.lay_compound-loop-i-init
lay_compound-loop-i-init t c = (listing_begins _ c.requires.given.1.sized (search rules), refl)

pub lay_compound-atom_out-part-requires : goal.lay_compound-atom_out-part-requires
lay_compound-atom_out-part-requires t c =
    let a = c.args in
    let room = parts_ready (tree_at a.kinds.now a.operands.now a.levels) a.spot.node a.shape.kind a.shape.low
    a.shape.high c.requires.given.1 in
    ready_inside (part_ready room c.loop-i.invariant.0 (omega arith))

pub lay_compound-lay_part-part-requires : goal.lay_compound-lay_part-part-requires
lay_compound-lay_part-part-requires t c =
    let a = c.args in
    let room = parts_ready (tree_at a.kinds.now a.operands.now a.levels) a.spot.node a.shape.kind a.shape.low
    a.shape.high c.requires.given.1 in
    rw c.loop-i.invariant.1 (
      omega (arith, c.decreases),
      (c.requires.given.0, part_ready room c.loop-i.invariant.0 (omega arith)),
    )

pub lay_compound-loop-i-preserved : goal.lay_compound-loop-i-preserved
lay_compound-loop-i-preserved t c =
    let a = c.args in
    let few = parts_few a.shape.kind a.shape.low a.shape.high c.requires.compounded in
    let left : c.loop-i.i < parts_before a.shape.kind a.shape.low a.shape.high = omega arith in
    let listing = c.loop-i.invariant.0 in
    let same = c.loop-i.invariant.1 in
    elim c.match-atom_place.branch [
      | lay_compound-in-Some w ↦
          rw (w.places-is, w.last-is, w.rows-is, w.notes-is, w.depths-is, w.part-is, w.atom_out-part.ensures) (
            listing_goes listing left (atom_laid a.operands.now _ _ a.places.now a.levels c.loop-i.at.node
                w.in-Some.place (rw same at w.in-Some.ensures) listing.adds.sized) few,
            same,
          )
      | lay_compound-in-None w ↦
          rw (w.places-is, w.last-is, w.rows-is, w.notes-is, w.depths-is, w.part-is) (
            listing_goes listing left (rw same at w.lay_part-part.ensures.made) few,
            w.lay_part-part.ensures.places_unchanged ∙ same,
          )
    ]

pub lay_compound-lay_pass-requires : goal.lay_compound-lay_pass-requires
lay_compound-lay_pass-requires t c =
    let end = c.loop-i.invariant in
    let looping = sym c.is_loop.ensures ∙ c.if-is_loop.true in
    let a = c.args in
    rw end.1 (
      omega (arith, c.decreases),
      (
        looping,
        (
          c.requires.given.0,
          pass_ready a.operands.now a.results.now (tree_at a.kinds.now a.operands.now a.levels) a.spot.node
              a.shape.kind a.shape.low a.shape.high c.requires.given.1 end.0 (omega arith) looping,
        ),
      ),
    )

pub lay_compound-lay_leaf-requires : goal.lay_compound-lay_leaf-requires
lay_compound-lay_leaf-requires t c =
    let a = c.args in
    leaf_ready a.operands.now a.results.now (tree_at a.kinds.now a.operands.now a.levels) a.spot.node a.shape.kind
    a.shape.low a.shape.high c.requires.given.1 c.loop-i.invariant.0 (omega arith)
    (sym c.is_loop.ensures ∙ c.if-is_loop.false) c.requires.compounded

pub lay_compound-returns-then-is_loop-clause-made : goal.lay_compound-returns-then-is_loop-clause-made
lay_compound-returns-then-is_loop-clause-made t c =
    let end = c.loop-i.invariant in
    let a = c.args in
    rw c.lay_pass.ensures.value (loop_laid a.operands.now a.results.now (tree_at a.kinds.now a.operands.now a.levels)
    a.spot.node a.shape.kind a.shape.low a.shape.high c.requires.given.1 end.0 (omega arith)
    (sym c.is_loop.ensures ∙ c.if-is_loop.true) (rw end.1 at c.lay_pass.ensures.adds))

pub lay_compound-returns-else-is_loop-clause-made : goal.lay_compound-returns-else-is_loop-clause-made
lay_compound-returns-else-is_loop-clause-made t c =
    let leaf = c.lay_leaf.ensures in
    let value = leaf.value in
    let a = c.args in
    rw value.0 (leaf_laid a.operands.now a.results.now (tree_at a.kinds.now a.operands.now a.levels) a.spot.node
    a.shape.kind a.shape.low a.shape.high c.requires.given.1 c.loop-i.invariant.0 (omega arith)
    (sym c.is_loop.ensures ∙ c.if-is_loop.false) c.requires.compounded (rw value.0 at value.1)
    leaf.line_laid leaf.depths_after)

-- ---- a let

pub lay_let-lay_part-first-requires : goal.lay_let-lay_part-first-requires
lay_let-lay_part-first-requires t c =
    let a = c.args in (
      omega (arith, c.decreases),
      (
        c.requires.0,
        let_first a.operands.now _ (tree_at a.kinds.now a.operands.now a.levels) a.x a.places.now c.requires.1,
      ),
    )

pub lay_let-lay_part-second-requires : goal.lay_let-lay_part-second-requires
lay_let-lay_part-second-requires t c =
    let first = c.lay_part-first.ensures in
    let a = c.args in (
      omega (arith, c.decreases),
      (
        given_bound _ a.x _ (given_same _ c.requires.0 first.places_unchanged) refl,
        let_second _ _ (tree_at a.kinds.now a.operands.now a.levels) a.x a.places.now c.requires.1 _
            c.requires.0.long (omega (arith, c.ranges.x)) first.places_unchanged first.made,
      ),
    )

pub lay_let-returns-clause-made : goal.lay_let-returns-clause-made
lay_let-returns-clause-made t c =
    let first = c.lay_part-first.ensures in
    let a = c.args in
    let_laid _ _ (tree_at a.kinds.now a.operands.now a.levels) a.x a.places.now c.requires.1 _
    c.requires.0.long (omega (arith, c.ranges.x)) first.places_unchanged first.made c.lay_part-second.ensures.made

pub lay_let-returns-clause-places_unchanged : goal.lay_let-returns-clause-places_unchanged
lay_let-returns-clause-places_unchanged t c =
    put_back 0 _ _ _ _ _ c.lay_part-first.ensures.places_unchanged c.lay_part-second.ensures.places_unchanged

-- ---- a tree

pub lay_tree-returns-clause-tree_made : goal.lay_tree-returns-clause-tree_made
lay_tree-returns-clause-tree_made t c =
    let a = c.args in
    let made = c.lay_part-r.ensures.made in
    tree_laid _ _ (tree_at a.kinds.now a.operands.now a.levels) made c.lay_head.ensures
    (omega (arith, made.reach, c.requires.1.rows))

-- ---- an if

pub trees::lay_if-lay_part-guard-requires : goal.trees::lay_if-lay_part-guard-requires
trees::lay_if-lay_part-guard-requires t c =
    let a = c.args in (
      omega (arith, c.decreases),
      (c.requires.0, if_first a.operands.now _ (tree_at a.kinds.now a.operands.now a.levels) c.requires.1),
    )

pub trees::lay_if-open_if-first-requires : goal.trees::lay_if-open_if-first-requires
trees::lay_if-open_if-first-requires t c =
    let a = c.args in
    let room = if_place a.operands.now _ (tree_at a.kinds.now a.operands.now a.levels) c.requires.1
    c.lay_part-guard.ensures.made in
    (room.0, omega (arith, room.1))

pub trees::lay_if-lay_tree-own-requires : goal.trees::lay_if-lay_tree-own-requires
trees::lay_if-lay_tree-own-requires t c =
    let a = c.args in
    let guard = c.lay_part-guard.ensures in (
      omega (arith, c.decreases),
      (
        given_same _ c.requires.0 guard.places_unchanged,
        rw (c.open_if-first.ensures.value, guard.places_unchanged) (if_own _ _ (tree_at a.kinds.now a.operands.now
            a.levels) c.requires.1 guard.made c.open_if-first.ensures.line_laid),
      ),
    )

pub trees::lay_if-put_middle-requires : goal.trees::lay_if-put_middle-requires
trees::lay_if-put_middle-requires t c =
    let a = c.args in
    let tree = tree_at a.kinds.now a.operands.now a.levels in
    let guard = c.lay_part-guard.ensures in
    let own = rw (c.open_if-first.ensures.value, guard.places_unchanged) at c.lay_tree-own.ensures.tree_made in
    rw c.open_if-first.ensures.value (
      omega (arith, (if_place a.operands.now _ tree c.requires.1 guard.made).1),
      omega (arith, if_middle _ _ tree c.requires.1 guard.made c.open_if-first.ensures.line_laid own),
    )

pub trees::lay_if-lay_tree-other-requires : goal.trees::lay_if-lay_tree-other-requires
trees::lay_if-lay_tree-other-requires t c =
    let a = c.args in
    let guard = c.lay_part-guard.ensures in
    let first = c.lay_tree-own.ensures in
    let own = rw (c.open_if-first.ensures.value, guard.places_unchanged) at first.tree_made in
    let same = first.places_unchanged ∙ guard.places_unchanged in (
      omega (arith, c.decreases),
      (
        given_same _ c.requires.0 same,
        rw same (if_other _ _ (tree_at a.kinds.now a.operands.now a.levels) c.requires.1 guard.made
            c.open_if-first.ensures.line_laid own (rw c.open_if-first.ensures.value at c.put_middle.ensures)),
      ),
    )

pub trees::lay_if-close_line-requires : goal.trees::lay_if-close_line-requires
trees::lay_if-close_line-requires t c =
    let a = c.args in
    let tree = tree_at a.kinds.now a.operands.now a.levels in
    let guard = c.lay_part-guard.ensures in
    let first = c.lay_tree-own.ensures in
    let own = rw (c.open_if-first.ensures.value, guard.places_unchanged) at first.tree_made in
    let other = rw (first.places_unchanged ∙ guard.places_unchanged) at c.lay_tree-other.ensures.tree_made in
    let room = if_place a.operands.now _ tree c.requires.1 guard.made in (
      room.0,
      (
        omega (arith, room.1),
        omega (
          arith,
          if_end _ _ tree c.requires.1 guard.made c.open_if-first.ensures.line_laid own
              (rw c.open_if-first.ensures.value at c.put_middle.ensures) other,
        ),
      ),
    )

pub trees::lay_if-returns-clause-made : goal.trees::lay_if-returns-clause-made
trees::lay_if-returns-clause-made t c =
    let a = c.args in
    let guard = c.lay_part-guard.ensures in
    let first = c.lay_tree-own.ensures in
    let own = rw (c.open_if-first.ensures.value, guard.places_unchanged) at first.tree_made in
    let other = rw (first.places_unchanged ∙ guard.places_unchanged) at c.lay_tree-other.ensures.tree_made in
    rw c.close_line.ensures.value (if_laid _ _ (tree_at a.kinds.now a.operands.now a.levels) c.requires.1
    guard.made c.open_if-first.ensures.line_laid own (rw c.open_if-first.ensures.value at c.put_middle.ensures)
    other _ c.depth_of-depth.ensures
    c.close_line.ensures.notes_after c.close_line.ensures.depths_after)

-- ---- a loop

pub trees::lay_pass-lay_tree-tree-requires : goal.trees::lay_pass-lay_tree-tree-requires
trees::lay_pass-lay_tree-tree-requires t c =
    let bound = c.bind_pass-old.ensures in
    let head = c.open_loop-inner.ensures in
    let given = c.requires.given in
    let a = c.args in
    rw head.value.0 (
      omega (arith, c.decreases),
      (
        given_bound_twice _ _ _ _ _ given.0 bound.places_after,
        pass_tree a.operands.now _ a.shape.kind a.shape.low a.shape.high a.atoms.now
            a.places.now c.requires.kind_value given.1 head.line_laid (rw head.value.0 at head.value.1)
            head.depths_after _ given.0.long (omega arith) (omega arith) bound.places_after,
      ),
    )

pub trees::lay_pass-depth_of_loop-depth-requires : goal.trees::lay_pass-depth_of_loop-depth-requires
trees::lay_pass-depth_of_loop-depth-requires t c =
    let bound = c.bind_pass-old.ensures in
    let head = c.open_loop-inner.ensures in
    let given = c.requires.given in
    let a = c.args in
    pass_deep a.operands.now _ a.shape.kind a.shape.low a.shape.high a.atoms.now
    a.places.now c.requires.kind_value given.1 head.line_laid (rw head.value.0 at head.value.1)
    head.depths_after _ given.0.long (omega arith) (omega arith) bound.places_after
    (rw head.value.0 at c.lay_tree-tree.ensures.tree_made)

pub trees::lay_pass-returns-clause-adds : goal.trees::lay_pass-returns-clause-adds
trees::lay_pass-returns-clause-adds t c =
    let bound = c.bind_pass-old.ensures in
    let head = c.open_loop-inner.ensures in
    let given = c.requires.given in
    let a = c.args in
    pass_laid a.operands.now _ a.shape.kind a.shape.low a.shape.high a.atoms.now
    a.places.now c.requires.kind_value given.1 head.line_laid (rw head.value.0 at head.value.1)
    head.depths_after _ given.0.long (omega arith) (omega arith) bound.places_after
    (rw head.value.0 at c.lay_tree-tree.ensures.tree_made) _ c.depth_of_loop-depth.ensures
    c.close_line.ensures.notes_after c.close_line.ensures.depths_after

pub trees::lay_pass-returns-clause-places_unchanged : goal.trees::lay_pass-returns-clause-places_unchanged
trees::lay_pass-returns-clause-places_unchanged t c =
    let bound = c.bind_pass-old.ensures in
    c.unbind_pass.ensures ∙ rw (bound.first_value.0, bound.first_value.1)
    (put_back_two 0 _ _ _ _ _ _ _ refl (c.lay_tree-tree.ensures.places_unchanged ∙ bound.places_after))
