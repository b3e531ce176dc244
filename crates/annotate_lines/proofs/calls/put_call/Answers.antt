-- Answers for `annotate_lines::calls::put_call`.
use Rattle.prelude.specs.Kit.{◌≡◌, ◌+◌, ◌*◌, arith}
use Rattle.semantics.specs.Borrow.{borrows}
use Rattle.plain_rows.specs.Plain.{set_of, atoms_at}
use Rattle.plain_rows.specs.Parts.{depth_in}
use Rattle.annotate_rows.proofs.Rows.{wrote_then, wrote_as}
use Rattle.annotate_lines.proofs.Leaves.{call_rows}
use Rattle.annotate_lines.proofs.calls.put_call.Goals as goal

pub returns : goal.returns
returns c =
    let a = c.args in
    let n : c.from_le_bytes.result ≡ a.x + 256 * a.f = omega arith in
    wrote_as (call_rows (borrows a.table.now) (depth_in a.depths.now) a.x (set_of a.after.now) a.f
    (atoms_at a.operands.now a.rows.now a.at a.m) _ c.join_read.ensures)
    (wrote_then (wrote_then (wrote_then c.release_read-s.ensures c.put_atoms-t.ensures) (rw n at c.put_row-u.ensures))
    c.retain_owned.ensures)
