-- Answers for `annotate_marks::take_pair`.
use Rattle.prelude.specs.Kit.{◌+◌, arith, rules}
use Rattle.plain_rows.specs.Plain.{meant}
use Rattle.annotate_marks.proofs.Laws.{take_start, took_then}
use Rattle.annotate_marks.proofs.take_pair.Goals as goal

pub returns : goal.returns
returns c = let a = c.args in
    took_then a.notes.now (a.p + 1) (meant a.a)
    (took_then a.notes.now (a.p + 2) (meant a.b)
    (take_start a.live.now a.cur.now a.x (omega arith) (search rules)) c.take_use.ensures)
    c.take_use-2.ensures
