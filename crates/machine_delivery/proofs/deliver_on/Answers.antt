-- `deliver_on` meets its contract: a store of the right shape fits the arrays.
use Rattle.prelude.specs.Kit.{arith}
use Rattle.store_words.proofs.CellWords.{few_cells}
use Rattle.store_words.proofs.Spelling.{shaped_means}
use Rattle.machine_delivery.proofs.deliver_on.Goals as goal

pub deliver_kept-requires : goal.deliver_kept-requires
deliver_kept-requires c =
    let a = c.args in
    let fit = shaped_means a.slots.now a.heads.now c.requires.0 in
    let few = few_cells a.slots.now a.heads.now in (
      omega (arith, fit.slots_long),
      omega (arith, fit.slots_long, few, c.if-slots-le-FEW_SLOTS.true),
      omega (arith, fit.slots_long, fit.heads_long, few, c.if-slots-le-FEW_SLOTS.true),
      c.requires.1,
    )

pub deliver_kept-requires-2 : goal.deliver_kept-requires-2
deliver_kept-requires-2 c =
    let a = c.args in
    let fit = shaped_means a.slots.now a.heads.now c.requires.0 in
    let few = few_cells a.slots.now a.heads.now in (
      omega (arith, fit.slots_long),
      omega (arith, fit.slots_long, few),
      omega (arith, fit.slots_long, fit.heads_long, few),
      c.requires.1,
    )
