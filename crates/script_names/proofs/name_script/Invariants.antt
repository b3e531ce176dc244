use Rattle.std.proofs.Common.{◌≡◌}
use Rattle.script_read.specs.Told.{repeated, Next}
use Rattle.script_names.specs.Walk.{names_function}
use Rattle.script_names.proofs.name_script.Given as goal

abbrev pub invariant-loop : goal.invariant-loop
invariant-loop l = repeated l.counter (names_function l.kinds l.operands l.functions) 0 ≡ Next l.p
