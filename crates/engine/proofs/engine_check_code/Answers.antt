-- `engine_check_code` answers as its definition does, and the lent code stays.
use Rattle.prelude.specs.Kit.{ℕ, ap}
use Rattle.semantics_lent.specs.Calls.{engine_check_code}
use Rattle.engine.proofs.engine_check_code.Goals as goal

pub returns : goal.returns
unfolding engine_check_code
returns c =
    let a = c.args in
    ap (λ (n : ℕ). record { answer = n; kinds = a.kinds.now; operands = a.operands.now }) c.check.ensures
