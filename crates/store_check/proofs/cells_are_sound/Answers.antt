-- `store_check::cells_are_sound` meets its contract.
use Rattle.prelude.specs.Kit.{arith, ap, not}
use Rattle.laws.specs.Tests.{passed, failed}
use Rattle.store_check.proofs.Comparing.{by_counts}
use Rattle.store_check.proofs.Ranges.{testing_more, one_fails, all_hold}
use Rattle.store_check.proofs.cells_are_sound.Goals as goal

pub returns-then-not-cell_is_sound : goal.returns-then-not-cell_is_sound
returns-then-not-cell_is_sound c =
    one_fails c.loop-c.invariant c.cells-c-end.ensures.is c.loop-c-test.true
    (by_counts _ _ _ _ (failed c.cell_is_sound.ensures (ap not c.if-not-cell_is_sound.true)))

pub loop-c-preserved : goal.loop-c-preserved
loop-c-preserved c =
    testing_more c.loop-c.invariant c.loop-c-test.true
    (by_counts _ _ _ _ (passed c.cell_is_sound.ensures (ap not c.if-not-cell_is_sound.false)))

pub returns : goal.returns
returns c = all_hold c.loop-c.invariant c.cells-c-end.ensures.is (omega arith)
