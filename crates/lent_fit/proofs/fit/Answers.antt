-- Main has its shape, and then the functions fit, by the laws of `Laws`.
use Rattle.prelude.specs.Kit.{sym}
use Rattle.lent_fit.proofs.Laws.{code_stops, code_goes}
use Rattle.lent_fit.proofs.fit.Goals as goal

pub returns-then-not-is_main : goal.returns-then-not-is_main
returns-then-not-is_main c = code_stops _ _ _ _ _ _ (sym c.if-not-is_main.ensures)

pub returns : goal.returns
returns c =
    let a = c.args in
    rw (code_goes a.kinds.now a.operands.now a.starts.now a.d a.functions a.table.now (sym c.if-not-is_main.ensures))
    c.fit_functions.ensures
