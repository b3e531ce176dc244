-- The invariant of `annotate_lines::put_atoms`: the atoms from place i on are written.
use Rattle.std.proofs.Common.{◌+◌, ◌-◌, ◌≤◌, map}
use Rattle.semantics.specs.Code.{atom_row}
use Rattle.plain_rows.specs.Plain.{atoms_at}
use Rattle.annotate_rows.specs.Wrote.{Wrote, Room}
use Rattle.annotate_lines.proofs.put_atoms.Given as goal

abbrev pub invariant-loop-i : goal.invariant-loop-i
invariant-loop-i l = record {
  within : l.i ≤ l.m;
  room : Room l.ks l.os l.v;
  wrote : Wrote l.initial.ks l.initial.os l.ks l.os l.w l.v
      (map atom_row (atoms_at l.operands l.rows (l.at + l.i) (l.m - l.i)));
}
