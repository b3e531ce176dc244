-- Answers for `annotate_marks::take_use`.
use Rattle.prelude.specs.Kit.{arith, length-set, rules}
use Rattle.plain_rows.proofs.Sets.{with_in}
use Rattle.annotate_marks.proofs.Laws.{marks_set, took_none}
use Rattle.annotate_marks.proofs.take_use.Goals as goal

pub returns-in-Name : goal.returns-in-Name
returns-in-Name c = let a = c.args in rw c.in-Name.is (record {
  names = with_in a.live.now _ (omega arith);
  marks = marks_set a.cur.now _ _ _ (omega arith) c.mark_at.ensures;
  long = simp length-set (search rules);
})

pub returns-in_default : goal.returns-in_default
returns-in_default c = let a = c.args in rw c.in_default.is (took_none _ a.notes.now a.r _ _ (search rules))
