-- The rows of the parameters from the i-th on are written.
use Rattle.semantics.specs.Annotate.{parameter_rows}
use Rattle.annotate_rows.specs.Wrote.{Wrote, Room}
use Rattle.flatten_functions.proofs.Parameters.{Rest}
use Rattle.translate_script.proofs.put_parameters.Given as goal

abbrev pub invariant-loop-i : goal.invariant-loop-i
invariant-loop-i l =
    let s = l.initial in
    Room l.ks l.os l.w
    × Wrote s.ks s.os l.ks l.os s.w l.w (parameter_rows (Rest l.kinds l.operands l.at l.i l.count) l.i)
