-- Answers for `annotate_lines::put_reads`.
use Rattle.prelude.specs.Kit.{ℕ, arith, ap, List}
use Rattle.plain_rows.specs.Plain.{set_of, meant}
use Rattle.plain_rows.specs.Parts.{depth_in, release_rows}
use Rattle.annotate_rows.proofs.Rows.{wrote_as}
use Rattle.annotate_lines.proofs.Leaves.{second_flat, all_read}
use Rattle.annotate_lines.proofs.put_reads.Goals as goal

pub returns-then-depth_of_atom-eq0 : goal.returns-then-depth_of_atom-eq0
returns-then-depth_of_atom-eq0 c =
    let a = c.args in
    wrote_as (ap (λ (l : List ℕ). release_rows l)
    (second_flat (depth_in a.depths.now) a.x (meant a.a) (meant a.b) _ (set_of a.live.now) c.depth_of_atom.ensures
    c.if-depth_of_atom-eq0.true)) c.release_both.ensures

pub returns : goal.returns
returns c =
    let a = c.args in
    wrote_as (ap (λ (l : List ℕ). release_rows l)
    (all_read (depth_in a.depths.now) a.x (meant a.a) (meant a.b) (set_of a.live.now) _ _
    c.add.ensures c.add-2.ensures (omega arith))) c.put_releases.ensures
