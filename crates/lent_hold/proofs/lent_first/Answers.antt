-- The goals of `lent_hold::lent_first` that the check leaves.
use Rattle.prelude.specs.Kit.{arith, sym, ◌∙◌}
use Rattle.lent_hold.proofs.Parameters.{lending_none, lending_not, lending_number, lending_array, lending_all, zero_left}
use Rattle.lent_hold.proofs.lent_first.Goals as goal
use Rattle.lent_hold.proofs.lent_first.Goals.{else-is_borrowed-via-then-is_borrowed+else-is_array}
use Rattle.lent_hold.proofs.lent_first.Goals.{else-is_borrowed-via-else-is_borrowed}

pub loop-i-init : goal.loop-i-init
loop-i-init c = lending_none _ _ _ _ _

pub loop-i-preserved-then-is_array : goal.loop-i-preserved-then-is_array
loop-i-preserved-then-is_array c =
    lending_array _ _ _ _ _ c.loop-i.invariant c.loop-i-test.true _ c.name_at-x.ensures
    (sym c.is_borrowed.ensures ∙ c.if-is_borrowed.true) (sym c.is_array.ensures ∙ c.if-is_array.true) (omega arith)

pub loop-i-preserved : goal.loop-i-preserved
loop-i-preserved c =
    elim c.else-is_borrowed.branch [
      | else-is_borrowed-via-then-is_borrowed+else-is_array w ↦
          lending_number _ _ _ _ _ c.loop-i.invariant c.loop-i-test.true _ c.name_at-x.ensures
          (sym c.is_borrowed.ensures ∙ w.if-is_borrowed.true) (sym w.is_array.ensures ∙ w.if-is_array.false)
      | else-is_borrowed-via-else-is_borrowed w ↦
          lending_not _ _ _ _ _ c.loop-i.invariant c.loop-i-test.true
          (sym c.is_borrowed.ensures ∙ w.if-is_borrowed.false)
    ]

pub returns : goal.returns
returns c =
    (lending_all _ _ _ _ _ (zero_left c.loop-i.invariant (omega arith)), c.loop-i.invariant.long)
