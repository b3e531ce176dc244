-- Answers for `annotate_lines::calls::higher`.
use Rattle.prelude.specs.Kit.{◌∙◌, sym}
use Rattle.annotate_lines.proofs.Arguments.{found_above, found_below, found_past, higher_number}
use Rattle.annotate_lines.proofs.calls.higher.Goals as goal

pub returns-in-Name : goal.returns-in-Name
returns-in-Name c =
    rw c.in-Name.is (found_above c.args.found _ _ c.if-y-bound.true (sym c.lt.ensures ∙ c.if-lt.true))

pub returns-in_default : goal.returns-in_default
returns-in_default c = rw c.in-Name.is (found_below c.args.found _ _ (sym c.lt.ensures ∙ c.if-lt.false))

pub returns-in_default-2 : goal.returns-in_default-2
returns-in_default-2 c = rw c.in-Name.is (found_past c.args.found _ _ c.if-y-bound.false)

pub returns-in_default-3 : goal.returns-in_default-3
returns-in_default-3 c = rw c.in_default.is (higher_number _ _ _)
