-- Answers for `annotate_lines::calls::retain_owned`.
use Rattle.prelude.specs.Kit.{ℕ, arith, Bool, not, ap, rules}
use Rattle.semantics.specs.Borrow.{Table, borrows}
use Rattle.plain_rows.specs.Plain.{set_of}
use Rattle.plain_rows.specs.Parts.{depth_in}
use Rattle.annotate_rows.proofs.Rows.{lower}
use Rattle.annotate_lines.proofs.Arguments.{joins_none, joins_more, owned_none, owned_more, owned_all, counted_as}
use Rattle.annotate_lines.proofs.calls.retain_owned.Goals as goal

abbrev owned : Table → ℕ → ℕ → Bool
owned table f = λ i. not (borrows table f i)

pub loop-i-init : goal.loop-i-init
loop-i-init c = let a = c.args in record {
  within = omega arith;
  room = search rules;
  wrote = owned_none a.operands.now a.rows.now (owned a.table.now a.f) a.at (depth_in a.depths.now)
      (set_of a.later.now) a.m;
  joined = joins_none a.operands.now a.rows.now (owned a.table.now a.f) a.at a.m (set_of a.later.now);
}

pub loop-i-preserved : goal.loop-i-preserved
loop-i-preserved c =
    let a = c.args in
    let v = c.loop-i.invariant in
    record {
      within = omega arith;
      room = lower c.retain_atom-v.ensures v.room;
      wrote = owned_more a.operands.now a.rows.now (owned a.table.now a.f) a.at (depth_in a.depths.now)
          (set_of a.later.now) c.loop-i.i a.m _ _ c.loop-i-test.true v.within
          (counted_as _ (ap not c.is_borrowed.ensures) c.counted_at-a.ensures) v.joined v.wrote c.retain_atom-v.ensures;
      joined = joins_more a.operands.now a.rows.now (owned a.table.now a.f) a.at c.loop-i.i a.m (set_of a.later.now)
          (set_of c.loop-i.later) _ _ c.loop-i-test.true v.within v.joined
          (counted_as _ (ap not c.is_borrowed.ensures) c.counted_at-a.ensures) c.add.ensures;
    }

pub returns : goal.returns
returns c = let a = c.args in
    owned_all a.operands.now a.rows.now (owned a.table.now a.f) a.at (depth_in a.depths.now) (set_of a.later.now)
    c.loop-i.i a.m (omega arith) c.loop-i.invariant.wrote
