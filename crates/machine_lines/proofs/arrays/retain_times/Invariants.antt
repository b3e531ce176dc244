-- The loop of `retain_times`: so many references are still to come.
use Rattle.std.proofs.Common.{◌≡◌, ◌-◌}
use Rattle.semantics.specs.Words.{store_of}
use Rattle.machine_lines.specs.Lines.{retained_times}
use Rattle.machine_lines.proofs.arrays.retain_times.Given as goal

abbrev pub invariant-loop : goal.invariant-loop
invariant-loop l =
    retained_times l.n l.c (store_of l.slots l.initial.heads)
    ≡ retained_times (l.n - l.counter) l.c (store_of l.slots l.heads)
