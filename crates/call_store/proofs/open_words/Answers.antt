-- `call_store::open_words` meets its contract.
use Rattle.prelude.specs.Kit.{ap, not}
use Rattle.laws.specs.Tests.{passed, failed}
use Rattle.store_words.proofs.Counting.{taken_few}
use Rattle.call_store.proofs.Laws.{not_opened, opens, done_small}
use Rattle.call_store.proofs.open_words.Goals as goal

pub returns-then-not-lengths_fit-clause-heads_after : goal.returns-then-not-lengths_fit-clause-heads_after
returns-then-not-lengths_fit-clause-heads_after c =
    not_opened _ _ _ (failed c.lengths_fit.ensures (ap not c.if-not-lengths_fit.true))

pub returns-clause-heads_after : goal.returns-clause-heads_after
returns-clause-heads_after c =
    let store = c.open_store in
    rw c.done.ensures
    (opens _ _ _ _ _ _ (passed c.lengths_fit.ensures (ap not c.if-not-lengths_fit.false))
    (record { slots_long = store.auto.slots; heads_long = store.auto.heads }) store.ensures c.cells_taken.ensures)

pub returns-clause-small_answer : goal.returns-clause-small_answer
returns-clause-small_answer c = done_small c.done.ensures (rw c.cells_taken.ensures (taken_few _ _))
