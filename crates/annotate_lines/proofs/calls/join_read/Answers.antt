-- Answers for `annotate_lines::calls::join_read`.
use Rattle.prelude.specs.Kit.{arith}
use Rattle.semantics.specs.Borrow.{borrows}
use Rattle.plain_rows.specs.Plain.{set_of}
use Rattle.annotate_lines.proofs.Arguments.{joins_none, joins_more, joins_all, counted_as}
use Rattle.annotate_lines.proofs.calls.join_read.Goals as goal

pub loop-i-init : goal.loop-i-init
loop-i-init c = let a = c.args in record {
  within = omega arith;
  joined = joins_none a.operands.now a.rows.now (borrows a.table.now a.f) a.at a.m (set_of a.live.now);
}

pub loop-i-preserved : goal.loop-i-preserved
loop-i-preserved c = let a = c.args in let v = c.loop-i.invariant in record {
  within = omega arith;
  joined = joins_more a.operands.now a.rows.now (borrows a.table.now a.f) a.at c.loop-i.i a.m (set_of a.live.now)
      (set_of c.loop-i.live) _ _ c.loop-i-test.true v.within v.joined
      (counted_as _ c.is_borrowed.ensures c.counted_at-a.ensures) c.add.ensures;
}

pub returns : goal.returns
returns c = let a = c.args in
    joins_all a.operands.now a.rows.now (borrows a.table.now a.f) a.at c.loop-i.i a.m (set_of a.live.now)
    (set_of c.loop-i.live) (omega arith) c.loop-i.invariant.joined
