use Rattle.script_read.proofs.Atoms.{atom_goes}
use Rattle.script_read.proofs.is_atom.Goals as goal
use Rattle.script_read.proofs.is_atom.Goals.{in-Other, in_default}
use Rattle.std.proofs.lemmas.Bool.{false≢true}

pub returns-after-matches : goal.returns-after-matches
returns-after-matches c h =
    elim c.match-matches.branch [
      | in-Other w ↦ absurd (false≢true (rw w.matches-is at h))
      | in_default w ↦
          atom_goes c.args.kinds.now c.args.operands.now c.args.at c.args.levels c.if-levels-ne0.true c.atom_at.result
          w.in_default.not-Other c.atom_at.ensures
    ]
