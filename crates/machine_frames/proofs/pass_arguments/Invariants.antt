-- The loop of `pass_arguments`: i of the words are copied.
use Rattle.std.proofs.Common.{◌-◌}
use Rattle.machine_frames.proofs.Gathering.{Copying}
use Rattle.machine_frames.proofs.pass_arguments.Given as goal

abbrev pub invariant-loop-i : goal.invariant-loop-i
invariant-loop-i l =
    Copying l.kinds l.operands l.calls (l.calls - 1) l.at l.names l.count l.initial.env l.env l.i
