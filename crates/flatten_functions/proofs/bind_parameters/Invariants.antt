-- The parameters from the i-th on are bound.
use Rattle.flatten_functions.specs.Read.{Binds}
use Rattle.flatten_functions.proofs.Parameters.{Rest}
use Rattle.flatten_functions.proofs.bind_parameters.Given as goal

abbrev pub invariant-loop-i : goal.invariant-loop-i
invariant-loop-i l = Binds l.operands (Rest l.kinds l.operands l.at l.i l.count) l.i l.places l.depths
