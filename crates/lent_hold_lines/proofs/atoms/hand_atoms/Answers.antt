-- The goals of `lent_hold_lines::atoms::hand_atoms` that the check leaves.
use Rattle.prelude.specs.Kit.{arith, ap, not, sym, ◌∙◌}
use Rattle.lent_hold_lines.proofs.Arguments.{handing_none, handing_out, handing_stop, handing_kept, handing_more, handing_fault}
use Rattle.lent_hold_lines.proofs.atoms.hand_atoms.Goals as goal

pub loop-i-init : goal.loop-i-init
loop-i-init c = record { long = omega arith; handing = handing_none _ _ _ _ _ _ }

pub loop-i-preserved-then-is_read : goal.loop-i-preserved-then-is_read
loop-i-preserved-then-is_read c = record {
  long = omega arith;
  handing = handing_kept c.loop-i.invariant.handing c.loop-i-test.true
      (sym c.atom_stands.ensures ∙ c.if-not-atom_stands.false)
      (ap not (sym c.is_read.ensures ∙ c.if-is_read.true));
}

pub loop-i-preserved : goal.loop-i-preserved
loop-i-preserved c = record {
  long = omega arith;
  handing = handing_more c.loop-i.invariant.handing c.loop-i-test.true
      (sym c.atom_stands.ensures ∙ c.if-not-atom_stands.false)
      (ap not (sym c.is_read.ensures ∙ c.if-is_read.false)) c.atom_at-a.ensures _ c.hand_over.ensures.0
      c.if-not-hand_over.false;
}

pub returns-then-not-hand_over-clause-holds_value : goal.returns-then-not-hand_over-clause-holds_value
returns-then-not-hand_over-clause-holds_value c =
    handing_fault c.loop-i.invariant.handing c.loop-i-test.true
    (sym c.atom_stands.ensures ∙ c.if-not-atom_stands.false)
    (ap not (sym c.is_read.ensures ∙ c.if-is_read.false)) c.atom_at-a.ensures _ c.hand_over.ensures.0
    c.if-not-hand_over.true

pub returns-after-loop-i-clause-holds_value : goal.returns-after-loop-i-clause-holds_value
returns-after-loop-i-clause-holds_value c = handing_out c.loop-i.invariant.handing (omega arith)

pub returns-then-not-atom_stands-clause-holds_value : goal.returns-then-not-atom_stands-clause-holds_value
returns-then-not-atom_stands-clause-holds_value c =
    handing_stop c.loop-i.invariant.handing (sym c.atom_stands.ensures ∙ c.if-not-atom_stands.true)
