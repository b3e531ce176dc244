-- `store_check::zero_from` meets its contract.
use Rattle.prelude.specs.Kit.{◌+◌, ◌*◌, arith, ◌∙◌, ap, pos, get_or, w64, SFits}
use Rattle.semantics.specs.Number.{is_zero}
use Rattle.store_words.proofs.CellWords.{slot_is}
use Rattle.laws.specs.Numbers.{zero_is, zero_not}
use Rattle.store_check.proofs.Comparing.{zeros_are}
use Rattle.store_check.proofs.Ranges.{testing_more, testing_fails, testing_all}
use Rattle.store_check.proofs.zero_from.Goals as goal

pub returns-then-slots-c-ne0 : goal.returns-then-slots-c-ne0
returns-then-slots-c-ne0 c =
    let inside = c.loop-i-test.true in
    zeros_are _ _
    (testing_fails c.loop-i.invariant inside (ap is_zero (slot_is _ _ _ inside) ∙ zero_not _ c.if-slots-c-ne0.true))

pub loop-i-preserved : goal.loop-i-preserved
loop-i-preserved c =
    let a = c.args in
    let inside = c.loop-i-test.true in
    let w = get_or a.slots.now (1 + 16 * a.c + c.loop-i.i) (pos 0) in
    let fits : SFits w64 w = record { sfits = omega arith } in
    testing_more c.loop-i.invariant inside
    (ap is_zero (slot_is _ _ _ inside) ∙ zero_is w fits.sfits c.if-slots-c-ne0.false)

pub returns : goal.returns
returns c = zeros_are _ _ (testing_all c.loop-i.invariant (omega arith))
