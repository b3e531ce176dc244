-- The goals of `lent_spent::spent_in` that the check leaves.
use Rattle.prelude.specs.Kit.{arith, ◌∙◌, sym}
use Rattle.lent_spent.proofs.Scans.{scanning_none, scanning_all, scanning_number, scanning_name, scanning_kept}
use Rattle.lent_spent.proofs.Scans.{scanning_line, scanning_other}
use Rattle.lent_spent.proofs.spent_in.Goals as goal
use Rattle.lent_spent.proofs.spent_in.Goals.{in-2, in-3, then-is_handed, else-is_handed, in_default+then-is_named}
use Rattle.lent_spent.proofs.spent_in.Goals.{in_default+else-is_named}

pub loop-p-init : goal.loop-p-init
loop-p-init c = scanning_none _ _

pub loop-p-preserved : goal.loop-p-preserved
loop-p-preserved c =
    let kept = c.loop-p.invariant in
    let more = c.loop-p-test.true in
    let kind = c.get_or-kind.ensures in
    elim c.match-kind.branch [
      | in-2 w ↦ rw (w.spent-is, w.line-is, w.g-is, w.i-is) (scanning_number kept more (sym kind ∙ w.in-2.is))
      | in-3 w ↦ rw (w.spent-is, w.line-is, w.g-is, w.i-is)
          (elim w.if-is_handed.branch [
            | then-is_handed w' ↦ rw w'.spent-is (scanning_name kept more (sym kind ∙ w.in-3.is)
                (sym w'.if-is_handed.true ∙ w.is_handed.ensures) w'.name_at.ensures w'.name_at.type_inv)
            | else-is_handed w' ↦ rw w'.spent-is (scanning_kept kept more (sym kind ∙ w.in-3.is)
                (sym w'.if-is_handed.false ∙ w.is_handed.ensures))
          ])
      | in_default+then-is_named w ↦ rw (w.spent-is, w.line-is, w.g-is, w.i-is)
          (scanning_line kept more kind (omega arith) (omega arith) w.second_at-g.ensures
          (sym w.if-is_named.true ∙ w.is_named.ensures) w.name_at-then-is_named.ensures w.name_at-then-is_named.type_inv)
      | in_default+else-is_named w ↦ rw (w.spent-is, w.line-is, w.g-is, w.i-is)
          (scanning_other kept more kind (omega arith) (omega arith) w.second_at-g.ensures
          (sym w.if-is_named.false ∙ w.is_named.ensures))
    ]

pub returns : goal.returns
returns c = (scanning_all c.loop-p.invariant (omega arith), c.loop-p.invariant.long)
