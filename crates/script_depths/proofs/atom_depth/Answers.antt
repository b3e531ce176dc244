-- `script_depths::atom_depth`: the two kinds of atoms.
use Rattle.script_depths.specs.Walk.{depths}
use Rattle.script_depths.proofs.Laws.{number_typed, name_typed}
use Rattle.script_depths.proofs.atom_depth.Goals as goal

pub returns-in-Number : goal.returns-in-Number
returns-in-Number c = number_typed _ _ _ _ _ c.if-levels-eq0.false c.in-Number.ensures

pub returns-in-Name : goal.returns-in-Name
returns-in-Name c =
    rw c.known.ensures (name_typed _ _ _ (depths c.args.table.now) _ c.if-levels-eq0.false _ c.in-Name.ensures)
