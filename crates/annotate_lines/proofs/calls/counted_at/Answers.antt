-- Answers for `annotate_lines::calls::counted_at`.
use Rattle.prelude.specs.Kit.{◌∙◌, ap}
use Rattle.plain_rows.specs.Plain.{meant, placed}
use Rattle.annotate_lines.proofs.Arguments.{counts, counts_not}
use Rattle.annotate_lines.proofs.calls.counted_at.Goals as goal

pub returns-then-counts : goal.returns-then-counts
returns-then-counts c = counts c.if-counts.true (ap meant (c.atom_of.ensures ∙ ap (placed _) c.row_at.ensures))

pub returns-else-counts : goal.returns-else-counts
returns-else-counts c = counts_not _ c.if-counts.false
