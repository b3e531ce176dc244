-- `call_saved::restore_words` meets its contract, by `Laws`.
use Rattle.prelude.specs.Kit.{arith, ◌∙◌, to_z-of_z, ap, not, w64, SFits}
use Rattle.laws.specs.Tests.{passed, failed}
use Rattle.store_words.proofs.Counting.{taken_few}
use Rattle.call_store.proofs.Laws.{done_small}
use Rattle.call_saved.proofs.Laws.{misshapen, mislabelled, can_read, loading, restores, clears}
use Rattle.call_saved.proofs.restore_words.Goals as goal

pub returns-then-not-lengths_fit-clause-heads_after : goal.returns-then-not-lengths_fit-clause-heads_after
returns-then-not-lengths_fit-clause-heads_after c =
    misshapen _ _ _ _ (failed c.lengths_fit.ensures (ap not c.if-not-lengths_fit.true))

pub returns-then-not-is_readable-clause-heads_after : goal.returns-then-not-is_readable-clause-heads_after
returns-then-not-is_readable-clause-heads_after c =
    mislabelled _ _ _ _ (passed c.lengths_fit.ensures (ap not c.if-not-lengths_fit.false))
    (failed c.is_readable.ensures (ap not c.if-not-is_readable.true))

pub load_value-requires : goal.load_value-requires
load_value-requires c =
    let reads = can_read _ _ (passed c.is_readable.ensures (ap not c.if-not-is_readable.false)) in
    omega (arith, c.short_at-k.ensures.0, reads.few)

pub returns-in_default-clause-heads_after : goal.returns-in_default-clause-heads_after
returns-in_default-clause-heads_after c =
    let o = c.open_store in
    let r = c.load_value in
    let zero = c.zero_words in
    let loads = loading _ (passed c.lengths_fit.ensures (ap not c.if-not-lengths_fit.false))
    (passed c.is_readable.ensures (ap not c.if-not-is_readable.false)) o.ensures
    (record { slots_long = r.auto.slots ∙ o.auto.slots; heads_long = r.auto.heads ∙ o.auto.heads })
    c.short_at-k.ensures.0 r.ensures in
    clears loads c.in_default.is (record { slots_long = zero.auto.slots; heads_long = zero.auto.heads }) zero.ensures

pub returns-clause-heads_after : goal.returns-clause-heads_after
returns-clause-heads_after c =
    let o = c.open_store in
    let r = c.load_value in
    let fits : SFits w64 c.in-Some.loaded.word = record { sfits = omega arith } in
    let loads = loading _ (passed c.lengths_fit.ensures (ap not c.if-not-lengths_fit.false))
    (passed c.is_readable.ensures (ap not c.if-not-is_readable.false)) o.ensures
    (record { slots_long = r.auto.slots ∙ o.auto.slots; heads_long = r.auto.heads ∙ o.auto.heads })
    c.short_at-k.ensures.0 r.ensures in
    rw c.done.ensures
    (restores loads c.in-Some.loaded c.in-Some.is _ (rw (to_z-of_z fits) at c.set_totals.ensures) _ c.cells_taken.ensures)

pub returns-clause-small_answer : goal.returns-clause-small_answer
returns-clause-small_answer c = done_small c.done.ensures (rw c.cells_taken.ensures (taken_few _ _))
