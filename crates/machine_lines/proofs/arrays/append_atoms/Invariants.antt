-- The loop of `append_atoms`: the words of n atoms are appended.
use Rattle.semantics.specs.Words.{store_of}
use Rattle.machine_lines.proofs.Appending.{Appending}
use Rattle.machine_lines.proofs.arrays.append_atoms.Given as goal

abbrev pub invariant-loop-n : goal.invariant-loop-n
invariant-loop-n l =
    Appending l.kinds l.operands l.calls l.at l.env l.c (store_of l.initial.slots l.initial.heads)
    (store_of l.slots l.heads) l.n
