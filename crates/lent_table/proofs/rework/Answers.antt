-- The goals of `lent_table::rework` that the check leaves.
use Rattle.prelude.specs.Kit.{arith}
use Rattle.lent_table.specs.Rounds.{reworked_at}
use Rattle.lent_table.proofs.Tables.{filled_none, filled_next, kept_all, kept_next, filled_kept}
use Rattle.lent_table.proofs.Rounds.{row_main, row_kept}
use Rattle.lent_table.proofs.rework.Goals as goal

pub loop-f-init : goal.loop-f-init
loop-f-init c = record {
  filled = filled_next _ _ _ (filled_none _ _ 32 c.args.borrowed.now c.requires.1.rows) (omega arith) _
      (row_main c.args.code.now.kinds.now c.args.code.now.operands.now c.args.code.now.starts.now c.args.code.now.functions c.args.borrowed.now);
  kept = kept_next _ _ (kept_all _ _) _;
}

pub loop-f-preserved : goal.loop-f-preserved
loop-f-preserved c = record {
  filled = filled_next _ _ _ c.loop-f.invariant.filled (omega (arith, c.rows_of-f-end.ensures)) _
      c.rework_row.ensures;
  kept = kept_next _ _ c.loop-f.invariant.kept _;
}

pub returns : goal.returns
unfolding reworked_at
returns c =
    filled_kept _ _ c.loop-f.invariant.filled c.loop-f.invariant.kept (λ k h l.
    row_kept c.args.code.now.kinds.now c.args.code.now.operands.now c.args.code.now.starts.now c.args.code.now.functions c.args.borrowed.now k c.requires.1 (omega arith) (omega (arith, c.rows_of-f-end.ensures)) l)
