-- `call_saved::save_words` meets its contract, by `SaveLaws`.
use Rattle.prelude.specs.Kit.{ap, not}
use Rattle.laws.specs.Tests.{passed, failed}
use Rattle.store_words.proofs.Counting.{taken_few}
use Rattle.call_store.proofs.Laws.{done_small}
use Rattle.call_saved.proofs.SaveLaws.{unsound, no_room, saves}
use Rattle.call_saved.proofs.save_words.Goals as goal

pub returns-then-not-is_sound-clause-saved_after : goal.returns-then-not-is_sound-clause-saved_after
returns-then-not-is_sound-clause-saved_after c =
    unsound _ _ _ _ (failed c.is_sound.ensures (ap not c.if-not-is_sound.true)) _ (c.fill.ensures.after (λ y e. e))

pub returns-then-not-write_totals-clause-saved_after : goal.returns-then-not-write_totals-clause-saved_after
returns-then-not-write_totals-clause-saved_after c =
    no_room _ _ _ _ (passed c.is_sound.ensures (ap not c.if-not-is_sound.false)) _ _ c.write_totals.ensures
    c.if-not-write_totals.true

pub returns-clause-saved_after : goal.returns-clause-saved_after
returns-clause-saved_after c =
    rw c.done.ensures
    (saves _ _ _ _ (passed c.is_sound.ensures (ap not c.if-not-is_sound.false)) _ _ c.write_totals.ensures
    c.if-not-write_totals.false _ c.cells_taken.ensures)

pub returns-clause-small_answer : goal.returns-clause-small_answer
returns-clause-small_answer c = done_small c.done.ensures (rw c.cells_taken.ensures (taken_few _ _))
