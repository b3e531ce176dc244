-- The goal of `lent_hold_lines::walk_index` that the check leaves.
use Rattle.prelude.specs.Kit.{arith, sym, ◌∙◌}
use Rattle.lent_hold_lines.proofs.Ways.{index_passes}
use Rattle.lent_hold_lines.proofs.walk_index.Goals as goal

pub returns : goal.returns
returns c =
    index_passes _ _ _ _ _ _ (sym c.may_read_all.ensures ∙ c.if-not-may_read_all.false) c.pending.ensures (omega arith)
