-- Answers for `annotate_rows::uses::put_used`.
use Rattle.prelude.specs.Kit.{◌-◌, arith, ◌≡◌, ◌∙◌, sym, rules}
use Rattle.semantics.specs.Live.{is, ◌∪◌}
use Rattle.plain_rows.specs.Plain.{set_of, meant}
use Rattle.plain_rows.specs.Marks.{marks_of}
use Rattle.plain_rows.specs.Parts.{below, depth_in}
use Rattle.plain_rows.specs.Walk.{since}
use Rattle.annotate_rows.proofs.Rows.{wrote_then, wrote_as, lower}
use Rattle.annotate_rows.proofs.Names.{release_none, release_used, release_all}
use Rattle.annotate_rows.proofs.UsedPast.{either_on, either_off}
use Rattle.annotate_rows.proofs.uses.put_used.Goals as goal
use Rattle.annotate_rows.proofs.uses.put_used.Goals.{then-is_name, else-is_name}

pub loop-i-init : goal.loop-i-init
loop-i-init c = let a = c.args in record {
  within = omega arith;
  room = search rules;
  wrote = release_none (depth_in a.depths.now) (is (meant a.a) ∪ since a.row (marks_of a.cur.now))
      (set_of a.live.now) a.n;
}

pub loop-i-preserved : goal.loop-i-preserved
loop-i-preserved c =
    let a = c.args in
    let v = c.loop-i.invariant in
    let names = is (meant a.a) ∪ since a.row (marks_of a.cur.now) in
    let used : c.if-is_name.used ≡ names (c.loop-i.i - 1) =
    elim c.if-is_name.branch [
      | then-is_name w ↦ either_on _ (w.used-is ∙ w.if-is_name.true) (sym c.is_name.ensures ∙ w.if-is_name.true)
      | else-is_name w ↦ either_off (w.used-is ∙ w.is_since-used.ensures) (sym c.is_name.ensures ∙ w.if-is_name.false)
    ] in
    record {
      within = omega arith;
      room = lower c.release_one-at.ensures v.room;
      wrote = wrote_as (release_used (depth_in a.depths.now) names (set_of a.live.now) a.n c.loop-i.i used
          c.loop-i-test.true v.within (omega arith)) (wrote_then v.wrote c.release_one-at.ensures);
    }

pub returns : goal.returns
returns c = let a = c.args in
    release_all (depth_in a.depths.now) (below a.n (is (meant a.a) ∪ since a.row (marks_of a.cur.now)))
    (set_of a.live.now) (omega arith) c.loop-i.invariant.wrote
