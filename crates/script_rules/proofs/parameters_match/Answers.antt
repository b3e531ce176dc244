use Rattle.std.proofs.Common.{◌≤◌, ◌<◌, ◌∙◌, arith, sym, length, length-take, get_or-take}
use Rattle.script_rules.proofs.Rules.{match_goes, match_not, match_all}
use Rattle.script_rules.proofs.parameters_match.Goals as goal
use Rattle.script_rules.proofs.parameters_match.Goals.{Start}

-- the n depths are there
enough : (c : Start) → c.args.n ≤ length c.args.ds.now
enough c = omega arith

pub returns-then-high_at-d : goal.returns-then-high_at-d
returns-then-high_at-d c =
    let a = c.args in
    let below : c.loop-i.i < a.n = omega (arith, length-take a.n a.ds.now) in
    match_not _ _ _ _ _ (enough (goal.at.returns-then-high_at-d c).Start) c.loop-i.i below
    (λ e. c.if-high_at-d.true (c.high_at.ensures ∙ e ∙ sym (get_or-take a.n a.ds.now c.loop-i.i 0 below)))
    c.loop-i.invariant

pub loop-i-preserved : goal.loop-i-preserved
loop-i-preserved c =
    let a = c.args in
    let below : c.loop-i.i < a.n = omega (arith, length-take a.n a.ds.now) in
    match_goes _ _ _ _ _ (enough (goal.at.loop-i-preserved c).Start) c.loop-i.i below
    (sym c.high_at.ensures ∙ c.if-high_at-d.false ∙ get_or-take a.n a.ds.now c.loop-i.i 0 below) c.loop-i.invariant

pub returns : goal.returns
returns c =
    let all = enough (goal.at.returns c).Start in
    match_all _ _ _ _ _ all c.loop-i.i (omega (arith, c.loop-i-test.false, length-take c.args.n c.args.ds.now))
    c.loop-i.invariant
