-- Answers for `annotate_rows::put_releases`.
use Rattle.prelude.specs.Kit.{arith, rules}
use Rattle.plain_rows.specs.Plain.{set_of}
use Rattle.plain_rows.specs.Parts.{below, depth_in}
use Rattle.annotate_rows.proofs.Rows.{wrote_then, wrote_as, lower}
use Rattle.annotate_rows.proofs.Names.{release_none, release_below, release_all}
use Rattle.annotate_rows.proofs.put_releases.Goals as goal

pub loop-i-init : goal.loop-i-init
loop-i-init c = let a = c.args in record {
  within = omega arith;
  room = search rules;
  wrote = release_none (depth_in a.depths.now) (set_of a.used.now) (set_of a.live.now) a.n;
}

pub loop-i-preserved : goal.loop-i-preserved
loop-i-preserved c = let a = c.args in let v = c.loop-i.invariant in record {
  within = omega arith;
  room = lower c.release_one-at.ensures v.room;
  wrote = wrote_as (release_below (depth_in a.depths.now) (set_of a.used.now) (set_of a.live.now) a.n c.loop-i.i
      c.loop-i-test.true v.within (omega arith)) (wrote_then v.wrote c.release_one-at.ensures);
}

pub returns : goal.returns
returns c = let a = c.args in
    release_all (depth_in a.depths.now) (below a.n (set_of a.used.now)) (set_of a.live.now) (omega arith)
    c.loop-i.invariant.wrote
