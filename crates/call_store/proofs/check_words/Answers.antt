-- `call_store::check_words` meets its contract.
use Rattle.prelude.specs.Kit.{ap, not}
use Rattle.laws.specs.Tests.{passed, failed}
use Rattle.store_words.proofs.Counting.{taken_few}
use Rattle.call_store.proofs.Laws.{not_checked, checks, done_small}
use Rattle.call_store.proofs.check_words.Goals as goal

pub returns-then-not-is_sound-clause-heads_value : goal.returns-then-not-is_sound-clause-heads_value
returns-then-not-is_sound-clause-heads_value c =
    not_checked _ _ _ (failed c.is_sound.ensures (ap not c.if-not-is_sound.true))

pub returns-clause-heads_value : goal.returns-clause-heads_value
returns-clause-heads_value c =
    rw c.done.ensures
    (checks _ _ _ _ (passed c.is_sound.ensures (ap not c.if-not-is_sound.false)) c.cells_taken.ensures)

pub returns-clause-small_answer : goal.returns-clause-small_answer
returns-clause-small_answer c = done_small c.done.ensures (rw c.cells_taken.ensures (taken_few _ _))
