-- The functions before line p are found.
use Rattle.semantics_lent.specs.Form.{paired, arities_of}
use Rattle.lent_form.proofs.Forming.{Forming}
use Rattle.lent_form.proofs.form_functions.Given as goal

abbrev pub invariant-loop-f : goal.invariant-loop-f
invariant-loop-f l =
    let rows = paired l.kinds l.operands in Forming rows (arities_of rows) l.over l.starts l.f l.p
