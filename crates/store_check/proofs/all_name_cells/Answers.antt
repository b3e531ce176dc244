-- `store_check::all_name_cells` meets its contract.
use Rattle.prelude.specs.Kit.{arith, pos, get_or, ap, not, to_z-of_z, w64, SFits}
use Rattle.laws.specs.Tests.{passed, failed}
use Rattle.store_check.proofs.Comparing.{names}
use Rattle.store_check.proofs.Ranges.{testing_more, testing_fails, testing_all}
use Rattle.store_check.proofs.all_name_cells.Goals as goal

pub returns-then-not-names_cell : goal.returns-then-not-names_cell
returns-then-not-names_cell c =
    let w = get_or c.args.words.now c.loop-w.w-index (pos 0) in
    let fits : SFits w64 w = record { sfits = omega arith } in
    let test = rw (to_z-of_z fits) at c.names_cell.ensures in
    names _ _ _ _ c.if-depth-eq0.false
    (testing_fails c.loop-w.invariant c.loop-w-test.true (failed test (ap not c.if-not-names_cell.true)))

pub loop-w-preserved : goal.loop-w-preserved
loop-w-preserved c =
    let w = get_or c.args.words.now c.loop-w.w-index (pos 0) in
    let fits : SFits w64 w = record { sfits = omega arith } in
    let test = rw (to_z-of_z fits) at c.names_cell.ensures in
    testing_more c.loop-w.invariant c.loop-w-test.true (passed test (ap not c.if-not-names_cell.false))

pub returns : goal.returns
returns c = names _ _ _ _ c.if-depth-eq0.false (testing_all c.loop-w.invariant (omega arith))
