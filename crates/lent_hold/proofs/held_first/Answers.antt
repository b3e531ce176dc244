-- The goals of `lent_hold::held_first` that the check leaves.
use Rattle.prelude.specs.Kit.{arith, ap, not, sym, ◌∙◌}
use Rattle.lent_hold.proofs.Parameters.{holding_none, holding_not, holding_more, holding_all, held_zero}
use Rattle.lent_hold.proofs.held_first.Goals as goal

pub loop-i-init : goal.loop-i-init
loop-i-init c = holding_none _ _ _ _ _

pub gain-requires : goal.gain-requires
gain-requires c = omega (arith, c.loop-i.invariant.below.below c.name_at-x.result)

pub loop-i-preserved-then-not-is_borrowed : goal.loop-i-preserved-then-not-is_borrowed
loop-i-preserved-then-not-is_borrowed c =
    holding_more _ _ _ _ _ c.loop-i.invariant c.loop-i-test.true _ c.name_at-x.ensures
    (ap not (sym c.is_borrowed.ensures ∙ c.if-not-is_borrowed.true)) _ c.gain.ensures.0 c.gain.ensures.1

pub loop-i-preserved : goal.loop-i-preserved
loop-i-preserved c =
    holding_not _ _ _ _ _ c.loop-i.invariant c.loop-i-test.true
    (ap not (sym c.is_borrowed.ensures ∙ c.if-not-is_borrowed.false))

pub returns : goal.returns
returns c = holding_all _ _ _ _ _ (held_zero c.loop-i.invariant (omega arith))
