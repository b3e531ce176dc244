-- The invariant of `annotate_marks::take_atoms`: the atoms from place i on are taken back.
use Rattle.std.proofs.Common.{◌+◌, ◌-◌, ◌≤◌}
use Rattle.semantics.specs.Live.{among}
use Rattle.plain_rows.specs.Plain.{set_of, atoms_at}
use Rattle.plain_rows.specs.Marks.{marks_of}
use Rattle.plain_rows.specs.Walk.{unmarked_all}
use Rattle.annotate_marks.specs.Took.{Took}
use Rattle.annotate_marks.proofs.take_atoms.Given as goal

abbrev pub invariant-loop-i : goal.invariant-loop-i
invariant-loop-i l = let us = atoms_at l.operands l.rows (l.at + l.i) (l.m - l.i) in
    record {
      took : Took (among us (set_of l.initial.live))
          (unmarked_all l.notes (l.at + l.i) us (marks_of l.initial.cur)) l.live l.cur;
      within : l.i ≤ l.m;
    }
