-- `clearing::clear_from` meets its contract, by the laws of `Clearing`.
use Rattle.prelude.specs.Kit.{arith}
use Rattle.clearing.proofs.Clearing.{clearing_none, clearing_more, clearing_all}
use Rattle.clearing.proofs.clear_from.Goals as goal

pub loop-i-init : goal.loop-i-init
loop-i-init g c = clearing_none _ _ _

pub loop-i-preserved : goal.loop-i-preserved
loop-i-preserved g c = clearing_more c.loop-i.invariant (omega arith)

pub returns : goal.returns
returns g c = clearing_all c.loop-i.invariant (omega arith)
