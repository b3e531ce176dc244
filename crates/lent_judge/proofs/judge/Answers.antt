-- The goals of `lent_judge::judge` that the check leaves.
use Rattle.prelude.specs.Kit.{arith}
use Rattle.std.proofs.lemmas.Result.{err_from_is_err_and}
use Rattle.lent_judge.proofs.Laws.{form_refuses, kinds_cut, cut_so, few_so, fit_refuses, hold_refuses, hold_passes}
use Rattle.lent_judge.proofs.judge.Goals as goal

pub returns-in_err-lines : goal.returns-in_err-lines
returns-in_err-lines c =
    let p = err_from_is_err_and c.from_residual.result c.from_residual.ensures.1 in
    rw (p.1, p.2) (form_refuses _ _ _ _ _ c.in_err-lines.ensures)

pub fit-requires : goal.fit-requires
fit-requires c =
    let formed = c.in_ok-lines.ensures in
    (cut_so _ _ formed, omega (arith, few_so _ _ formed), c.requires)

pub returns-in-Err : goal.returns-in-Err
returns-in-Err c = fit_refuses _ _ c.in_ok-lines.ensures _ _ _ c.in-Err.ensures

pub hold-requires : goal.hold-requires
hold-requires c =
    let formed = c.in_ok-lines.ensures in
    (cut_so _ _ formed, omega (arith, few_so _ _ formed, kinds_cut _ _ formed))

pub returns-in-Err-hold : goal.returns-in-Err-hold
returns-in-Err-hold c =
    hold_refuses _ _ c.in_ok-lines.ensures _ _ c.in_default.ensures c.borrow_table-borrowed.ensures.0 _
    c.in-Err-hold.ensures

pub returns : goal.returns
returns c =
    hold_passes _ _ c.in_ok-lines.ensures _ _ c.in_default.ensures c.borrow_table-borrowed.ensures.0 _
    c.in_default-hold.ensures c.fill.ensures
