-- The invariant of `annotate_rows::uses::put_used`: the releases of the names from i on are written.
use Rattle.std.proofs.Common.{◌≤◌}
use Rattle.semantics.specs.Live.{is, ◌∪◌}
use Rattle.plain_rows.specs.Plain.{set_of, meant}
use Rattle.plain_rows.specs.Marks.{marks_of}
use Rattle.plain_rows.specs.Parts.{below, depth_in}
use Rattle.plain_rows.specs.Walk.{since}
use Rattle.annotate_rows.specs.Wrote.{Wrote, Room}
use Rattle.annotate_rows.proofs.Names.{releases_from}
use Rattle.annotate_rows.proofs.uses.put_used.Given as goal

abbrev pub invariant-loop-i : goal.invariant-loop-i
invariant-loop-i l = record {
  within : l.i ≤ l.n;
  room : Room l.ks l.os l.at;
  wrote : Wrote l.initial.ks l.initial.os l.ks l.os l.w l.at
      (releases_from (depth_in l.depths) (below l.n (is (meant l.a) ∪ since l.row (marks_of l.cur))) (set_of l.live)
      l.i);
}
