-- A function by its line, its parameters and its tree, by `Functions.function_by`.
use Rattle.prelude.specs.Kit.{arith, ◌∙◌, sym}
use Rattle.lent_form.proofs.Functions.{function_by}
use Rattle.lent_form.proofs.form_function.Goals as goal

pub returns-in_err-head : goal.returns-in_err-head
returns-in_err-head c =
    let a = c.args in
    let by = function_by a.kinds.now a.operands.now a.over a.at _ c.in_err-head.ensures in
    grind (arith, by)

pub returns-in_err-tree : goal.returns-in_err-tree
returns-in_err-tree c =
    let a = c.args in
    let by = function_by a.kinds.now a.operands.now a.over a.at _ c.in_ok-head.ensures in
    grind (arith, rw (← c.in_err-tree.ensures) at by)

pub returns : goal.returns
returns c =
    let a = c.args in
    let by = function_by a.kinds.now a.operands.now a.over a.at _ c.in_ok-head.ensures in
    let walked = c.form_tree.ensures.is 4096 (omega (arith, c.requires.lined.few)) in
    walked ∙ sym (rw (← c.in_ok-tree.ensures) at by)
