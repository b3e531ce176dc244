-- Answers for `annotate_rows::uses::pass_names`.
use Rattle.prelude.specs.Kit.{arith, false, length-set}
use Rattle.plain_rows.proofs.Sets.{without_in}
use Rattle.annotate_rows.proofs.UsedPast.{passing_none, passing_more, passing_all}
use Rattle.annotate_rows.proofs.uses.pass_names.Goals as goal

pub loop-i-init : goal.loop-i-init
loop-i-init c = passing_none _ _ _

pub loop-i-preserved : goal.loop-i-preserved
loop-i-preserved c =
    passing_more c.loop-i.invariant (omega (arith, length-set c.args.live.now c.args.x false)) c.is_since.ensures

pub returns : goal.returns
returns c = passing_all c.loop-i.invariant c.args.x _ (omega arith) (omega arith)
    (without_in c.args.live.now c.args.x (omega arith))
