-- The goals of `lent_table::spent_by` that the check leaves.
use Rattle.prelude.specs.Kit.{length-replicate, false}
use Rattle.lent_table.proofs.Rounds.{spent_none, spent_so}
use Rattle.lent_table.proofs.spent_by.Goals as goal

pub returns-then-code-f : goal.returns-then-code-f
returns-then-code-f c = (spent_none _ _ _ _ _ _ c.if-code-f.true, length-replicate 256 false)

pub returns : goal.returns
returns c = (
  spent_so _ _ _ _ _ _ c.if-code-f.false _ _ _ c.start_at-at.ensures.0 c.name_at-count.ensures
      c.end_at-to.ensures.0 _ c.spent_in.ensures.0,
  c.spent_in.ensures.1,
)
