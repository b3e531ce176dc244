-- The goals of `call_code::check` that the check leaves.
use Rattle.call_code.proofs.Laws.{checks_code, checks_not}
use Rattle.call_code.proofs.check.Goals as goal

pub returns-in-Ok : goal.returns-in-Ok
returns-in-Ok c = checks_code c.in-Ok.ensures c.pack.ensures

pub returns-in-Err : goal.returns-in-Err
returns-in-Err c = checks_not c.in-Err.ensures c.refused.ensures
