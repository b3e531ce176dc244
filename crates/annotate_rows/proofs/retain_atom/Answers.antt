-- Answers for `annotate_rows::retain_atom`.
use Rattle.prelude.specs.Kit.{ℕ, ap, List}
use Rattle.plain_rows.specs.Plain.{set_of}
use Rattle.plain_rows.specs.Parts.{depth_in, retain_rows}
use Rattle.annotate_rows.proofs.Rows.{wrote_none, wrote_as}
use Rattle.annotate_rows.proofs.Names.{handed_on, handed_off, handed_number}
use Rattle.annotate_rows.proofs.retain_atom.Goals as goal

pub returns-in-Name : goal.returns-in-Name
returns-in-Name c =
    let a = c.args in
    rw c.in-Name.is (wrote_as (ap (λ (l : List ℕ). retain_rows l)
    (handed_on (depth_in a.depths.now) _ (set_of a.later.now) c.if-later-x.true)) c.put_retain.ensures)

pub returns-in_default : goal.returns-in_default
returns-in_default c =
    let a = c.args in
    rw c.in-Name.is (wrote_as (ap (λ (l : List ℕ). retain_rows l)
    (handed_off (depth_in a.depths.now) _ (set_of a.later.now) c.if-later-x.false)) wrote_none)

pub returns-in_default-2 : goal.returns-in_default-2
returns-in_default-2 c =
    let a = c.args in
    rw c.in_default.is (wrote_as (ap (λ (l : List ℕ). retain_rows l)
    (handed_number (depth_in a.depths.now) _ (set_of a.later.now))) wrote_none)
