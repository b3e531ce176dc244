-- The node of an atom is seen, and gives the place.
use Rattle.prelude.specs.Kit.{arith}
use Rattle.flatten_rows.proofs.Nodes.{number_inside, number_atom, name_atom}
use Rattle.flatten_rows.proofs.atoms.atom_place.Goals as goal

pub overflow_add-result : goal.overflow_add-result
overflow_add-result c = omega (arith, c.requires.parts.few, number_inside _ _ _ c.in-Number.ensures)

pub overflow_cast-result : goal.overflow_cast-result
overflow_cast-result c = omega (arith, c.requires.parts.few, number_inside _ _ _ c.in-Number.ensures)

pub returns-in-Number : goal.returns-in-Number
returns-in-Number c =
    let a = c.args in
    number_atom a.kinds.now a.operands.now a.places.now a.levels a.node
    c.if-levels-eq0.false c.requires.parts c.in-Number.ensures

pub returns-in-Name : goal.returns-in-Name
returns-in-Name c =
    let a = c.args in
    name_atom a.kinds.now a.operands.now a.places.now a.levels a.node
    c.if-levels-eq0.false _ c.in-Name.ensures (omega arith) c.requires.long
