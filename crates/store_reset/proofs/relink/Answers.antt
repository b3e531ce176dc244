-- `store_reset::relink` meets its contract, by the laws of `Linking`.
use Rattle.prelude.specs.Kit.{◌<◌, ◌≤◌, arith, length}
use Rattle.store_words.proofs.Puts.{cells_kept}
use Rattle.store_words.proofs.CellWords.{store_size}
use Rattle.store_reset.proofs.Linking.{linking_none, linking_step, linking_all, linking_empty}
use Rattle.store_reset.proofs.relink.Goals as goal

pub loop-c-init : goal.loop-c-init
loop-c-init c =
    let a = c.args in
    linking_none _ _ (omega (arith, c.cells-n.ensures.is, store_size a.slots.now a.heads.now))

pub loop-c-preserved : goal.loop-c-preserved
loop-c-preserved c =
    let l = c.loop-c in
    let r = c.relink_cell-head in
    let kept = cells_kept (record { slots_long = l.auto.slots; heads_long = l.auto.heads }) in
    linking_step _ _ l.slots l.heads l.c l.head l.invariant (omega arith)
    (omega (arith, c.cells-n.ensures.is, kept)) _ r.result r.ensures.0 r.ensures.1

pub returns-in-Some : goal.returns-in-Some
returns-in-Some c =
    let l = c.loop-c in
    let there : 0 < length l.heads = grind (arith, c.in-Some.ensures.item) in
    linking_all _ _ l.slots l.heads l.c l.head l.invariant (omega arith) there

pub returns-in_default : goal.returns-in_default
returns-in_default c =
    let l = c.loop-c in
    let none : length l.heads ≤ 0 = grind (arith, c.in_default.ensures.item) in
    linking_empty _ _ l.slots l.heads l.c l.head l.invariant (omega arith) (omega arith) (omega arith)
