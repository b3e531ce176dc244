-- `store_check::gather` meets its contract.
use Rattle.prelude.specs.Kit.{arith, ◌∙◌}
use Rattle.semantics.specs.Store.{clear}
use Rattle.semantics.specs.Words.{store_of}
use Rattle.store_words.proofs.CellWords.{store_size, cell_listed}
use Rattle.store_words.proofs.Each.{doing_more, doing_all}
use Rattle.store_check.proofs.Gathering.{gathered}
use Rattle.store_check.proofs.gather.Goals as goal

pub loop-c-preserved : goal.loop-c-preserved
loop-c-preserved c =
    let a = c.args in
    let one = c.count_cell in (
      one.auto.counts ∙ c.loop-c.invariant.0,
      doing_more c.loop-c.invariant.1 (omega (arith, store_size a.slots.now a.heads.now)) (clear 0) _
          (cell_listed (store_of a.slots.now a.heads.now) c.loop-c.c) one.ensures,
    )

pub returns : goal.returns
returns c =
    let a = c.args in
    gathered a.slots.now a.heads.now c.requires a.depth c.count_words.ensures
    (doing_all c.loop-c.invariant.1 (omega (arith, store_size a.slots.now a.heads.now)))
