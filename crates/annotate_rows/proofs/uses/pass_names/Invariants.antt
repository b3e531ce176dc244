-- The invariant of `annotate_rows::uses::pass_names`: the names below i are joined.
use Rattle.plain_rows.specs.Marks.{marks_of}
use Rattle.annotate_rows.proofs.UsedPast.{Passing}
use Rattle.annotate_rows.proofs.uses.pass_names.Given as goal

abbrev pub invariant-loop-i : goal.invariant-loop-i
invariant-loop-i l = Passing l.row (marks_of l.cur) l.initial.live l.live l.i
