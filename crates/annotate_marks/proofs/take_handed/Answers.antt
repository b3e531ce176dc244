-- Answers for `annotate_marks::take_handed`.
use Rattle.prelude.specs.Kit.{arith}
use Rattle.plain_rows.proofs.Sets.{without_in}
use Rattle.annotate_marks.proofs.Laws.{took_all}
use Rattle.annotate_marks.proofs.take_handed.Goals as goal

pub returns : goal.returns
returns c = took_all _ c.take_atoms.ensures (without_in c.args.live.now c.args.x (omega arith))
