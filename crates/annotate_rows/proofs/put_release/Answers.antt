-- Answers for `annotate_rows::put_release`.
use Rattle.prelude.specs.Kit.{ℕ, arith, ap, List}
use Rattle.plain_rows.specs.Plain.{set_of}
use Rattle.plain_rows.specs.Parts.{depth_in, release_rows}
use Rattle.annotate_rows.proofs.Rows.{wrote_as}
use Rattle.annotate_rows.proofs.Names.{dying_one}
use Rattle.annotate_rows.proofs.put_release.Goals as goal

pub returns : goal.returns
returns c =
    let a = c.args in
    wrote_as (ap (λ (l : List ℕ). release_rows l)
    (dying_one (depth_in a.depths.now) a.x (set_of a.live.now) (omega arith))) c.release_one.ensures
