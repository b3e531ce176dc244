-- The invariant of `annotate_lines::calls::highest_read`: the highest of the names read from place i on.
use Rattle.std.proofs.Common.{◌≡◌, ◌≤◌}
use Rattle.semantics.specs.Borrow.{borrows}
use Rattle.annotate_lines.specs.Calls.{highest, place_of}
use Rattle.annotate_lines.proofs.Arguments.{picked_at}
use Rattle.annotate_lines.proofs.calls.highest_read.Given as goal

abbrev pub invariant-loop-i : goal.invariant-loop-i
invariant-loop-i l = record {
  within : l.i ≤ l.m;
  top : place_of l.name ≡ highest l.x l.bound (picked_at l.operands l.rows (borrows l.table l.f) l.at l.i l.m);
}
