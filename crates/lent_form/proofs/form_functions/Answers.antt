-- Each function is found, is the last or is at fault, by the laws of `Forming`.
use Rattle.prelude.specs.Kit.{arith, ◌||◌, ◌≡◌, ltb, length, true, false}
use Rattle.std.proofs.lemmas.Result.{err_from_is_err_and}
use Rattle.std.proofs.lemmas.Bool.Decides.{nat_tests}
use Rattle.semantics_lent.specs.Form.{paired}
use Rattle.lent_form.proofs.Rows.{paired_length}
use Rattle.lent_form.proofs.Forming.{forming_starts, too_many, stops_at, forms_more, ends_here}
use Rattle.lent_form.proofs.Forming.{function_found, function_faulty}
use Rattle.lent_form.proofs.form_functions.Goals as goal

pub loop-f-init : goal.loop-f-init
loop-f-init c = forming_starts _ _ _ _ (omega arith)

pub returns-in_err-p : goal.returns-in_err-p
returns-in_err-p c =
    let a = c.args in
    let p = err_from_is_err_and c.from_residual.result c.from_residual.ensures.1 in
    rw (p.1, p.2)
    (stops_at _ _ _ _ _ _ c.loop-f.invariant (omega arith) _
    (function_faulty a.kinds.now a.operands.now a.over _ _ c.in_err-p.ensures))

pub returns-then-not-over : goal.returns-then-not-over
returns-then-not-over c =
    let a = c.args in
    let found = function_found a.kinds.now a.operands.now a.over _ _ c.in_ok-p.ensures in
    let long = paired_length a.kinds.now a.operands.now c.requires.lined.even in
    let no_more : (ltb c.in_ok-p.p (length (paired a.kinds.now a.operands.now)) || a.over) ≡ false =
    grind (arith, nat_tests) in
    ends_here _ _ _ _ _ _ c.loop-f.invariant (omega arith) found.0 _ found.1 no_more

pub loop-f-preserved : goal.loop-f-preserved
loop-f-preserved c =
    let a = c.args in
    let found = function_found a.kinds.now a.operands.now a.over _ _ c.in_ok-p.ensures in
    let long = paired_length a.kinds.now a.operands.now c.requires.lined.even in
    let more : (ltb c.in_ok-p.p (length (paired a.kinds.now a.operands.now)) || a.over) ≡ true =
    grind (arith, nat_tests) in
    forms_more _ _ _ _ _ _ c.loop-f.invariant (omega arith) found.0 _ found.1 more

pub returns : goal.returns
returns c = too_many _ _ _ _ _ _ c.loop-f.invariant (omega arith)
