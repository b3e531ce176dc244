-- Each atom is read or is out of scope, by the laws of `Laws`.
use Rattle.prelude.specs.Kit.{arith}
use Rattle.lent_fit_lines.proofs.Laws.{gathering_stops, gathering_goes, gathering_ends}
use Rattle.lent_fit_lines.proofs.gather.Goals as goal

pub returns-then-not-usable : goal.returns-then-not-usable
returns-then-not-usable c = gathering_stops _ _ _ _ _ _ c.loop-i.invariant (omega arith) (grind arith)

pub loop-i-preserved : goal.loop-i-preserved
loop-i-preserved c =
    gathering_goes _ _ _ _ _ _ c.loop-i.invariant (omega arith) (omega arith) (grind arith) _ (grind arith)

pub returns : goal.returns
returns c = gathering_ends _ _ _ _ _ _ c.loop-i.invariant (omega arith)
