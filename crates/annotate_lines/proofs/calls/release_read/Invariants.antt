-- The invariant of `annotate_lines::calls::release_read`: the releases of the names above the next one are written.
use Rattle.std.proofs.Common.{◌≡◌, ◌≤◌, true, IfSome}
use Rattle.semantics.specs.Kinds.{call, leaf_reads}
use Rattle.semantics.specs.Live.{only, among}
use Rattle.semantics.specs.Borrow.{borrows}
use Rattle.plain_rows.specs.Plain.{set_of, atoms_at}
use Rattle.plain_rows.specs.Parts.{depth_in}
use Rattle.annotate_rows.specs.Wrote.{Wrote, Room}
use Rattle.annotate_rows.proofs.Names.{releases_from}
use Rattle.annotate_lines.specs.Calls.{place_of}
use Rattle.annotate_lines.proofs.calls.release_read.Given as goal

abbrev pub invariant-loop-next : goal.invariant-loop-next
invariant-loop-next l =
    let read = leaf_reads (borrows l.table) (call l.f) (atoms_at l.operands l.rows l.at l.m) in
    let names = among read (only l.x) in
    record {
      within : place_of l.next ≤ 256;
      room : Room l.ks l.os l.v;
      wrote : Wrote l.initial.ks l.initial.os l.ks l.os l.w l.v
          (releases_from (depth_in l.depths) names (set_of l.live) (place_of l.next));
      used : IfSome l.next (λ y. names y ≡ true);
    }

abbrev pub decreases-loop-next : goal.decreases-loop-next
decreases-loop-next l = place_of l.next
