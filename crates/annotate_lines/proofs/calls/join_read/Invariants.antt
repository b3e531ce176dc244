-- The invariant of `annotate_lines::calls::join_read`: the names read from place i on are joined.
use Rattle.std.proofs.Common.{◌≡◌, ◌≤◌}
use Rattle.semantics.specs.Live.{among}
use Rattle.semantics.specs.Borrow.{borrows}
use Rattle.plain_rows.specs.Plain.{set_of}
use Rattle.annotate_lines.proofs.Arguments.{picked_at}
use Rattle.annotate_lines.proofs.calls.join_read.Given as goal

abbrev pub invariant-loop-i : goal.invariant-loop-i
invariant-loop-i l = record {
  within : l.i ≤ l.m;
  joined : set_of l.live
      ≡ among (picked_at l.operands l.rows (borrows l.table l.f) l.at l.i l.m) (set_of l.initial.live);
}
