-- The atoms from the first line on are those from line p on.
use Rattle.prelude.specs.Kit.{◌≤◌, max, ◌≡◌, length}
use Rattle.semantics_lent.specs.Form.{paired}
use Rattle.lent_form.specs.Told.{run_from}
use Rattle.lent_form.proofs.reading.run_of_atoms.Given as goal

abbrev pub invariant-loop-p : goal.invariant-loop-p
invariant-loop-p l =
    (run_from (paired l.kinds l.operands) l.at ≡ run_from (paired l.kinds l.operands) l.p)
    × (l.p ≤ max l.at (length l.kinds))
