-- `store_check::count_one` meets its contract: a cell past the end has no count.
use Rattle.prelude.specs.Kit.{◌≤◌, arith, get_or}
use Rattle.store_check.proofs.Tallying.{count_in, count_out}
use Rattle.store_check.proofs.count_one.Goals as goal

pub returns-then-c-counts : goal.returns-then-c-counts
returns-then-c-counts c =
    let small : get_or c.args.counts.now c.args.c 0 ≤ 4294967295 = omega arith in
    count_in _ _ _ small c.saturating_add.ensures

pub returns-else-c-counts : goal.returns-else-c-counts
returns-else-c-counts c = count_out _ _ (omega arith)
