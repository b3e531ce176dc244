-- The goals of `lent_table::borrow_table` that the check leaves.
use Rattle.prelude.specs.Kit.{arith, ◌-◌, ◌+◌, ◌≡◌, ◌∙◌, sym}
use Rattle.lent_table.proofs.Tables.{tables_alike}
use Rattle.lent_table.proofs.Rounds.{working_first, working_same, working_more, working_last, all_true}
use Rattle.lent_table.proofs.borrow_table.Goals as goal

pub loop-init : goal.loop-init
loop-init c = working_first _ _ _ _ _ all_true

pub returns-then-eq : goal.returns-then-eq
returns-then-eq c =
    working_same _ _ _ _ c.loop.invariant (omega arith) _ c.rework-u.ensures
    (sym (tables_alike c.loop.t c.rework-u.result) ∙ sym c.eq.ensures ∙ c.if-eq.true)

pub loop-preserved : goal.loop-preserved
loop-preserved c =
    let left : 257 - (c.loop.counter + 1) ≡ 257 - c.loop.counter - 1 = omega arith in
    rw left (working_more _ _ _ _ c.loop.invariant (omega arith) _ c.rework-u.ensures
    (sym (tables_alike c.loop.t c.rework-u.result) ∙ sym c.eq.ensures ∙ c.if-eq.false))

pub returns : goal.returns
returns c = working_last _ _ _ _ c.loop.invariant (omega arith)
