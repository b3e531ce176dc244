-- What the loop of `lent_table::rework` keeps.
use Rattle.prelude.specs.Kit.{[]}
use Rattle.semantics.specs.Basics.{tabulate}
use Rattle.lent_table.specs.Rounds.{stays}
use Rattle.lent_table.proofs.Tables.{Filled, Kept}
use Rattle.lent_table.proofs.rework.Given as goal

abbrev pub invariant-loop-f : goal.invariant-loop-f
invariant-loop-f l = record {
  filled : Filled (λ f. tabulate 0 8 (stays l.code.kinds.now l.code.operands.now l.code.starts.now l.code.functions l.borrowed f)) [] 32 l.f l.t;
  kept : Kept [] l.borrowed l.f l.t;
}
