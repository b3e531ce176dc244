-- The goal of `lent_hold_lines::walk_retain` that the check leaves.
use Rattle.prelude.specs.Kit.{arith, refl}
use Rattle.lent_hold_lines.proofs.Ways.{retain_passes}
use Rattle.lent_hold_lines.proofs.walk_retain.Goals as goal

pub returns : goal.returns
returns c = retain_passes _ _ _ _ _ _ _ c.may_retain.ensures c.if-not-may_retain.false (omega arith) (omega arith) refl
