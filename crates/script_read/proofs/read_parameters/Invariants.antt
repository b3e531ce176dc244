use Rattle.std.proofs.Common.{◌≡◌}
use Rattle.semantics.specs.File.{parameter}
use Rattle.script_read.specs.Told.{told, repeated, Next}
use Rattle.script_read.proofs.read_parameters.Given as goal

abbrev pub invariant-loop : goal.invariant-loop
invariant-loop l = repeated l.counter (λ q. told (parameter l.kinds l.operands q)) l.at ≡ Next l.p
