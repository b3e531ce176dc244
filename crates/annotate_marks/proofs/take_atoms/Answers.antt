-- Answers for `annotate_marks::take_atoms`.
use Rattle.prelude.specs.Kit.{arith, rules}
use Rattle.plain_rows.proofs.Atoms.{among_none, among_more, among_all}
use Rattle.annotate_marks.proofs.Laws.{unmarked_none, unmarked_more, unmarked_end}
use Rattle.annotate_marks.proofs.take_atoms.Goals as goal

pub loop-i-init : goal.loop-i-init
loop-i-init c = let a = c.args in record {
  took = record {
    names = among_none a.operands.now a.rows.now a.at a.m _;
    marks = unmarked_none a.operands.now a.rows.now a.notes.now a.at a.m _;
    long = search rules;
  };
  within = omega arith;
}

pub loop-i-preserved : goal.loop-i-preserved
loop-i-preserved c =
    let a = c.args in
    let v = c.loop-i.invariant in
    let t = c.take_use.ensures in
    record {
      took = record {
        names = among_more a.operands.now a.rows.now a.at c.loop-i.i a.m c.row_at-place.result _ _ _ c.atom_of-a.result
            c.loop-i-test.true v.within v.took.names c.row_at-place.ensures c.atom_of-a.ensures t.names;
        marks = unmarked_more a.operands.now a.rows.now a.notes.now a.at c.loop-i.i a.m c.row_at-place.result _ _ _
            c.atom_of-a.result c.loop-i-test.true v.within v.took.marks c.row_at-place.ensures c.atom_of-a.ensures
            t.marks;
        long = t.long;
      };
      within = omega arith;
    }

pub returns : goal.returns
returns c =
    let a = c.args in
    let v = c.loop-i.invariant in
    record {
      names = among_all a.operands.now a.rows.now a.at c.loop-i.i a.m _ _ (omega arith) v.took.names;
      marks = unmarked_end a.operands.now a.rows.now a.notes.now a.at c.loop-i.i a.m _ _ (omega arith) v.took.marks;
      long = v.took.long;
    }
