-- The rules of an index, a length and a replicate take the depths one by one.
use Rattle.prelude.specs.Kit.{arith}
use Rattle.lent_fit_lines.specs.Walk.{rule_at, count_at}
use Rattle.lent_fit_lines.proofs.Lines.{take_one, take_two}
use Rattle.lent_fit_lines.proofs.leaf_depth.Goals as goal

pub returns-in-10 : goal.returns-in-10
unfolding rule_at count_at
returns-in-10 c =
    rw (c.in-10.is, rw c.in-10.is at c.requires.1, take_two c.args.ds.now (omega arith)) c.judge_index.ensures

pub returns-in-11 : goal.returns-in-11
unfolding rule_at count_at
returns-in-11 c =
    rw (c.in-11.is, rw c.in-11.is at c.requires.1, take_one c.args.ds.now (omega arith)) c.judge_length.ensures

pub returns-in-18 : goal.returns-in-18
unfolding rule_at count_at
returns-in-18 c =
    rw (c.in-18.is, rw c.in-18.is at c.requires.1, take_two c.args.ds.now (omega arith)) c.judge_replicate.ensures
