-- The invariant of `annotate_lines::calls::retain_owned`: the retains from place i on are written.
use Rattle.std.proofs.Common.{◌≡◌, ◌≤◌, not}
use Rattle.semantics.specs.Live.{among}
use Rattle.semantics.specs.Borrow.{borrows}
use Rattle.semantics.specs.Annotate.{handed_again}
use Rattle.plain_rows.specs.Plain.{set_of}
use Rattle.plain_rows.specs.Parts.{depth_in, retain_rows}
use Rattle.annotate_rows.specs.Wrote.{Wrote, Room}
use Rattle.annotate_lines.proofs.Arguments.{picked_at}
use Rattle.annotate_lines.proofs.calls.retain_owned.Given as goal

abbrev pub invariant-loop-i : goal.invariant-loop-i
invariant-loop-i l =
    let owned = picked_at l.operands l.rows (λ i. not (borrows l.table l.f i)) l.at l.i l.m in
    record {
      within : l.i ≤ l.m;
      room : Room l.ks l.os l.v;
      wrote : Wrote l.initial.ks l.initial.os l.ks l.os l.w l.v
          (retain_rows (handed_again (depth_in l.depths) owned (set_of l.initial.later)));
      joined : set_of l.later ≡ among owned (set_of l.initial.later);
    }
