-- The first i words are copied.
use Rattle.store_reset.proofs.Copying.{Copying}
use Rattle.store_reset.proofs.save_words.Given as goal

abbrev pub invariant-loop-i : goal.invariant-loop-i
invariant-loop-i g l = (none : _) → Copying none l.words l.saved l.i
