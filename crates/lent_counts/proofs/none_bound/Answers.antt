-- The goals of `lent_counts::none_bound` that the check leaves.
use Rattle.prelude.specs.Kit.{◌∙◌, arith, ◌≡◌}
use Rattle.lent_counts.proofs.Laws.{all_none, all_more, bound_says}
use Rattle.lent_counts.proofs.none_bound.Goals as goal

pub loop-i-init : goal.loop-i-init
loop-i-init c = all_none _

pub loop-i-preserved : goal.loop-i-preserved
loop-i-preserved c = rw c.may_hold-none.ensures (all_more _ _ c.loop-i.invariant)

pub returns : goal.returns
returns c = let e : c.loop-i.i ≡ 256 = omega arith in rw e at c.loop-i.invariant ∙ bound_says _ _ _
