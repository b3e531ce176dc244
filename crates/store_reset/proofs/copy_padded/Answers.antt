-- `store_reset::copy_padded` meets its contract, by the laws of `Copying`.
use Rattle.prelude.specs.Kit.{arith}
use Rattle.store_reset.proofs.Copying.{copying_all}
use Rattle.store_reset.proofs.copy_padded.Goals as goal

pub returns : goal.returns
returns g c = copying_all c.loop-i.invariant _ c.loop-i.auto.to (omega arith)
