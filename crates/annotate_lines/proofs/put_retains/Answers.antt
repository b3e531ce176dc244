-- Answers for `annotate_lines::put_retains`.
use Rattle.prelude.specs.Kit.{arith, rules}
use Rattle.plain_rows.specs.Plain.{set_of}
use Rattle.plain_rows.specs.Parts.{depth_in}
use Rattle.plain_rows.proofs.Atoms.{among_none, among_more}
use Rattle.annotate_rows.proofs.Rows.{lower}
use Rattle.annotate_lines.proofs.Handed.{retains_begin, retains_go, retains_end}
use Rattle.annotate_lines.proofs.put_retains.Goals as goal

pub loop-i-init : goal.loop-i-init
loop-i-init c = let a = c.args in record {
  within = omega arith;
  room = search rules;
  wrote = retains_begin a.operands.now a.rows.now a.at (depth_in a.depths.now) (set_of a.later.now) a.m;
  joined = among_none a.operands.now a.rows.now a.at a.m (set_of a.later.now);
}

pub loop-i-preserved : goal.loop-i-preserved
loop-i-preserved c =
    let a = c.args in
    let v = c.loop-i.invariant in
    record {
      within = omega arith;
      room = lower c.retain_atom-v.ensures v.room;
      wrote = retains_go a.operands.now a.rows.now a.at (depth_in a.depths.now) (set_of a.later.now) c.loop-i.i a.m
          c.row_at-place.result c.atom_of-a.result _ c.loop-i-test.true v.within c.row_at-place.ensures
          c.atom_of-a.ensures v.joined v.wrote c.retain_atom-v.ensures;
      joined = among_more a.operands.now a.rows.now a.at c.loop-i.i a.m c.row_at-place.result (set_of a.later.now)
          (set_of c.loop-i.later) _ c.atom_of-a.result c.loop-i-test.true v.within v.joined c.row_at-place.ensures
          c.atom_of-a.ensures c.add.ensures;
    }

pub returns : goal.returns
returns c = let a = c.args in
    retains_end a.operands.now a.rows.now a.at (depth_in a.depths.now) (set_of a.later.now) c.loop-i.i a.m (omega arith)
    c.loop-i.invariant.wrote
