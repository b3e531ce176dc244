-- Answers for `annotate_rows::put_back`.
use Rattle.prelude.specs.Kit.{refl, to_z-of_z}
use Rattle.annotate_rows.proofs.Rows.{wrote_one, wrote_full}
use Rattle.annotate_rows.proofs.put_back.Goals as goal

pub returns-then-w-lt2 : goal.returns-then-w-lt2
returns-then-w-lt2 c = wrote_full c.if-w-lt2.true refl

pub returns : goal.returns
returns c = wrote_one c.if-w-lt2.false refl refl (rw (to_z-of_z {z = c.args.operand} c.ranges.operand))
