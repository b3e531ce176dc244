-- Each step lays one place.
use Rattle.flatten_rows.proofs.Laws.{placing_begins, placing_goes, placing_ends}
use Rattle.flatten_rows.proofs.lay_places.Goals as goal

pub loop-i-init : goal.loop-i-init
loop-i-init c = placing_begins c.args.places.now c.args.p c.args.m _ _ _

pub loop-i-preserved : goal.loop-i-preserved
loop-i-preserved c =
    let a = c.args in
    placing_goes a.places.now a.p a.m c.loop-i.invariant c.loop-i-test.true c.put_use.ensures

pub returns : goal.returns
returns c =
    let a = c.args in
    placing_ends a.places.now a.p a.m c.loop-i.invariant c.loop-i-test.false
