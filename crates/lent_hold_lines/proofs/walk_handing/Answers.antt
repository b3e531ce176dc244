-- The goals of `lent_hold_lines::walk_handing` that the check leaves.
use Rattle.prelude.specs.Kit.{◌+◌, arith}
use Rattle.lent_hold_lines.proofs.Arguments.{atoms_few}
use Rattle.lent_hold_lines.proofs.Ways.{hand_stops, unread_stops, hand_passes, spent_below}
use Rattle.lent_hold_lines.proofs.walk_handing.Goals as goal
use Rattle.lent_hold_lines.proofs.walk_handing.Goals.{then-not-hand_atoms-via-then-not-hand_atoms}
use Rattle.lent_hold_lines.proofs.walk_handing.Goals.{then-not-hand_atoms-via-else-not-hand_atoms+then-not-read_atoms}

pub returns-then-not-hand_atoms : goal.returns-then-not-hand_atoms
returns-then-not-hand_atoms c =
    let spent = c.hand_atoms.ensures in
    elim c.then-not-hand_atoms.branch [
      | then-not-hand_atoms-via-then-not-hand_atoms w ↦
          hand_stops _ _ _ _ _ _ _ _ _ _ _ spent.holds_value spent.holds_len w.if-not-hand_atoms.true
      | then-not-hand_atoms-via-else-not-hand_atoms+then-not-read_atoms w ↦
          unread_stops _ _ _ _ _ _ _ _ _ _ _ spent.holds_value spent.holds_len w.if-not-hand_atoms.false _
          w.read_atoms.ensures w.if-not-read_atoms.true
    ]

pub gain-requires : goal.gain-requires
gain-requires c =
    let spent = c.hand_atoms.ensures in
    let below = spent_below _ _ _ _ _ c.requires.1.1 spent.holds_len spent.holds_value c.if-not-hand_atoms.false in
    omega (arith, below.below c.args.x)

pub overflow_add-result-2 : goal.overflow_add-result-2
overflow_add-result-2 c =
    omega (arith, atoms_few c.args.of.now.kinds.now c.args.of.now.operands.now 16 (c.args.at + 1))

pub returns : goal.returns
returns c =
    let spent = c.hand_atoms.ensures in
    hand_passes _ _ _ _ _ _ _ _ _ _ _ spent.holds_value spent.holds_len c.if-not-hand_atoms.false _
    c.read_atoms.ensures c.if-not-read_atoms.false _ c.count_atoms-n.ensures _ c.gain.ensures.0 c.gain.ensures.1
