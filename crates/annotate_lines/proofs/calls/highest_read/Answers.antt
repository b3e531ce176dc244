-- Answers for `annotate_lines::calls::highest_read`.
use Rattle.prelude.specs.Kit.{arith}
use Rattle.semantics.specs.Borrow.{borrows}
use Rattle.annotate_lines.specs.Calls.{place_of}
use Rattle.annotate_lines.proofs.Arguments.{tops_none, tops_more, tops_all, counted_as}
use Rattle.annotate_lines.proofs.calls.highest_read.Goals as goal

pub loop-i-init : goal.loop-i-init
loop-i-init c = let a = c.args in record {
  within = omega arith;
  top = tops_none a.operands.now a.rows.now (borrows a.table.now a.f) a.at a.x a.bound a.m _ c.higher-name.ensures;
}

pub loop-i-preserved : goal.loop-i-preserved
loop-i-preserved c = let a = c.args in let v = c.loop-i.invariant in record {
  within = omega arith;
  top = tops_more a.operands.now a.rows.now (borrows a.table.now a.f) a.at a.x a.bound c.loop-i.i a.m
      (place_of c.loop-i.name) _ _ c.loop-i-test.true v.within v.top
      (counted_as _ c.is_borrowed.ensures c.counted_at-a.ensures) c.higher-name-in-loop-i.ensures;
}

pub returns : goal.returns
returns c = let a = c.args in
    tops_all a.operands.now a.rows.now (borrows a.table.now a.f) a.at a.x a.bound c.loop-i.i a.m
    (place_of c.loop-i.name) (omega arith) c.loop-i.invariant.top
