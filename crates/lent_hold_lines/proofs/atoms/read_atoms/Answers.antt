-- The goals of `lent_hold_lines::atoms::read_atoms` that the check leaves.
use Rattle.prelude.specs.Kit.{arith, sym, ◌∙◌}
use Rattle.lent_hold_lines.proofs.Arguments.{reading_none, reading_out, reading_stop, reading_kept, reading_more, reading_fault}
use Rattle.lent_hold_lines.proofs.atoms.read_atoms.Goals as goal

pub loop-i-init : goal.loop-i-init
loop-i-init c = reading_none _ _ _ _ _ _ _

pub loop-i-preserved-then-not-is_read : goal.loop-i-preserved-then-not-is_read
loop-i-preserved-then-not-is_read c =
    reading_kept c.loop-i.invariant c.loop-i-test.true (sym c.atom_stands.ensures ∙ c.if-not-atom_stands.false)
    (sym c.is_read.ensures ∙ c.if-not-is_read.true)

pub loop-i-preserved : goal.loop-i-preserved
loop-i-preserved c =
    reading_more c.loop-i.invariant c.loop-i-test.true (sym c.atom_stands.ensures ∙ c.if-not-atom_stands.false)
    (sym c.is_read.ensures ∙ c.if-not-is_read.false) c.atom_at-a.ensures c.may_read.ensures
    c.if-not-may_read.false

pub returns-then-not-may_read : goal.returns-then-not-may_read
returns-then-not-may_read c =
    reading_fault c.loop-i.invariant c.loop-i-test.true (sym c.atom_stands.ensures ∙ c.if-not-atom_stands.false)
    (sym c.is_read.ensures ∙ c.if-not-is_read.false) c.atom_at-a.ensures c.may_read.ensures
    c.if-not-may_read.true

pub returns-after-loop-i : goal.returns-after-loop-i
returns-after-loop-i c = reading_out c.loop-i.invariant (omega arith)

pub returns-then-not-atom_stands : goal.returns-then-not-atom_stands
returns-then-not-atom_stands c =
    reading_stop c.loop-i.invariant (sym c.atom_stands.ensures ∙ c.if-not-atom_stands.true)
