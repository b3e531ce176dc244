-- The invariant of `annotate_lines::put_retains`: the retains of the atoms from place i on are written.
use Rattle.std.proofs.Common.{◌≡◌, ◌+◌, ◌-◌, ◌≤◌}
use Rattle.semantics.specs.Live.{among}
use Rattle.plain_rows.specs.Plain.{atoms_at, set_of}
use Rattle.plain_rows.specs.Parts.{depth_in}
use Rattle.annotate_rows.specs.Wrote.{Wrote, Room}
use Rattle.annotate_lines.proofs.Handed.{retains_at}
use Rattle.annotate_lines.proofs.put_retains.Given as goal

abbrev pub invariant-loop-i : goal.invariant-loop-i
invariant-loop-i l = record {
  within : l.i ≤ l.m;
  room : Room l.ks l.os l.v;
  wrote : Wrote l.initial.ks l.initial.os l.ks l.os l.w l.v
      (retains_at l.operands l.rows l.at (depth_in l.depths) (set_of l.initial.later) l.i l.m);
  joined : set_of l.later ≡ among (atoms_at l.operands l.rows (l.at + l.i) (l.m - l.i)) (set_of l.initial.later);
}
