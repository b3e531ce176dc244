-- Each parameter has its depth or another, by the laws of `Laws`.
use Rattle.prelude.specs.Kit.{arith, ◌∙◌, sym}
use Rattle.lent_fit_lines.proofs.Laws.{match_goes, match_not, match_all}
use Rattle.lent_fit_lines.proofs.parameters_match.Goals as goal

pub returns-then-second_at-ds : goal.returns-then-second_at-ds
returns-then-second_at-ds c =
    let a = c.args in
    match_not a.operands.now a.at a.n a.ds.now (omega arith) c.loop-i.i (omega arith)
    (λ e. c.if-second_at-ds.true (c.second_at.ensures ∙ e)) c.loop-i.invariant

pub loop-i-preserved : goal.loop-i-preserved
loop-i-preserved c =
    let a = c.args in
    match_goes a.operands.now a.at a.n a.ds.now (omega arith) c.loop-i.i (omega arith)
    (sym c.second_at.ensures ∙ c.if-second_at-ds.false) c.loop-i.invariant

pub returns : goal.returns
returns c =
    let a = c.args in
    match_all a.operands.now a.at a.n a.ds.now (omega arith) c.loop-i.i (omega arith) c.loop-i.invariant
