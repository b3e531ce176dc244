-- The goal of `lent_hold_lines::walk_release` that the check leaves.
use Rattle.prelude.specs.Kit.{arith}
use Rattle.lent_hold_lines.proofs.Ways.{release_passes}
use Rattle.lent_hold_lines.proofs.walk_release.Goals as goal

pub returns : goal.returns
returns c = release_passes _ _ _ _ (omega arith) (omega arith) (omega arith)
