-- `script_types::type_script`: the functions done so far end before node p.
use Rattle.prelude.specs.Kit.{◌≡◌}
use Rattle.script_read.specs.Told.{repeated, Next}
use Rattle.script_types.specs.Functions.{known_function}
use Rattle.script_types.proofs.type_script.Given as goal

abbrev pub invariant-loop : goal.invariant-loop
invariant-loop l = repeated l.counter (known_function l.kinds l.operands l.starts) 0 ≡ Next l.p
