-- The goals of `lent_hold_lines::atoms::count_atoms` that the check leaves.
use Rattle.prelude.specs.Kit.{arith, sym, ◌∙◌}
use Rattle.lent_hold_lines.proofs.Arguments.{counting_none, counting_more, counting_stop, counting_out}
use Rattle.lent_hold_lines.proofs.atoms.count_atoms.Goals as goal

pub loop-n-init : goal.loop-n-init
loop-n-init c = counting_none _ _ _

pub loop-n-preserved : goal.loop-n-preserved
loop-n-preserved c =
    counting_more c.loop-n.invariant c.loop-n-test.true
    (sym c.atom_stands.ensures ∙ c.if-not-atom_stands.false)

pub returns-then-not-atom_stands : goal.returns-then-not-atom_stands
returns-then-not-atom_stands c =
    counting_stop c.loop-n.invariant (sym c.atom_stands.ensures ∙ c.if-not-atom_stands.true)

pub returns : goal.returns
returns c = counting_out c.loop-n.invariant (omega arith)
