-- Answers for `annotate_rows::put_row`.
use Rattle.prelude.specs.Kit.{arith, pos, to_z-of_z, w64}
use Rattle.annotate_rows.proofs.put_row.Goals as goal

pub returns : goal.returns
returns c = rw (to_z-of_z {w = w64} {z = pos c.args.n} (record { sfits = omega arith })) at c.put_back.ensures
