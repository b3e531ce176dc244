-- The rows before line p are counted.
use Rattle.semantics_lent.specs.Form.{paired}
use Rattle.lent_form.proofs.Whole.{Counting}
use Rattle.lent_form.proofs.arities_of.Given as goal

abbrev pub invariant-loop-p : goal.invariant-loop-p
invariant-loop-p l = Counting (paired l.kinds l.operands) l.arities l.f l.p
