-- Answers for `annotate_lines::put_atoms`.
use Rattle.prelude.specs.Kit.{arith, rules}
use Rattle.annotate_rows.proofs.Rows.{lower}
use Rattle.annotate_lines.proofs.Handed.{atoms_begin, atoms_go, atoms_end}
use Rattle.annotate_lines.proofs.put_atoms.Goals as goal

pub loop-i-init : goal.loop-i-init
loop-i-init c = let a = c.args in record {
  within = omega arith;
  room = search rules;
  wrote = atoms_begin a.operands.now a.rows.now a.at a.m;
}

pub loop-i-preserved : goal.loop-i-preserved
loop-i-preserved c = let a = c.args in let v = c.loop-i.invariant in record {
  within = omega arith;
  room = lower c.put_atom-v.ensures v.room;
  wrote = atoms_go a.operands.now a.rows.now a.at c.loop-i.i a.m c.row_at-place.result c.atom_of.result
      c.loop-i-test.true v.within c.row_at-place.ensures c.atom_of.ensures v.wrote c.put_atom-v.ensures;
}

pub returns : goal.returns
returns c = let a = c.args in
    atoms_end a.operands.now a.rows.now a.at c.loop-i.i a.m (omega arith) c.loop-i.invariant.wrote
