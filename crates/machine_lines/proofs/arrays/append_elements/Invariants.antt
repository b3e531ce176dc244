-- The loop of `append_elements`: i elements are appended.
use Rattle.std.proofs.Common.{◌≡◌, drop}
use Rattle.semantics.specs.Words.{store_of}
use Rattle.store.specs.Acquiring.{appended_all}
use Rattle.machine_lines.specs.Lines.{elements_by}
use Rattle.machine_lines.proofs.arrays.append_elements.Given as goal

abbrev pub invariant-loop-i : goal.invariant-loop-i
invariant-loop-i l =
    let ws = elements_by l.counting l.w l.n in
    appended_all l.c ws (store_of l.initial.slots l.initial.heads)
    ≡ appended_all l.c (drop l.i ws) (store_of l.slots l.heads)
