-- `retain_times` meets its contract.
use Rattle.prelude.specs.Kit.{◌+◌, ◌-◌, arith, ◌∙◌, sym, ap}
use Rattle.machine_lines.specs.Lines.{retained_times}
use Rattle.machine_lines.proofs.Counts.{times_more, times_end}
use Rattle.machine_lines.proofs.arrays.retain_times.Goals as goal

pub loop-preserved : goal.loop-preserved
loop-preserved c =
    let a = c.args in
    let i = c.loop.counter in
    c.loop.invariant ∙ times_more a.n i a.c _ c.loop-test.true
    ∙ ap (retained_times (a.n - (i + 1)) a.c) (sym c.retain.ensures)

pub returns : goal.returns
returns c = sym (c.loop.invariant ∙ times_end c.args.n c.loop.counter c.args.c _ (omega arith))
