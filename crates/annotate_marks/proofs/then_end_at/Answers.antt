-- Answers for `annotate_marks::then_end_at`.
use Rattle.annotate_marks.proofs.Laws.{then_near, then_far}
use Rattle.annotate_marks.proofs.then_end_at.Goals as goal

pub returns-then-middle-lt4098-clause-end : goal.returns-then-middle-lt4098-clause-end
returns-then-middle-lt4098-clause-end c =
    then_near c.args.notes.now c.args.p c.note_at-middle.result _ c.note_at-middle.ensures c.if-middle-lt4098.true
    c.less_two.ensures

pub returns-else-middle-lt4098-clause-end : goal.returns-else-middle-lt4098-clause-end
returns-else-middle-lt4098-clause-end c =
    then_far c.args.notes.now c.args.p c.note_at-middle.result c.note_at-middle.ensures c.if-middle-lt4098.false
