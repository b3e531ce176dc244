-- `store_release::release` calls itself and meets its contract, by `Releasing`.
use Rattle.prelude.specs.Kit.{arith, refl, pos, get_or, take, to_z-of_z, w64, SFits}
use Rattle.store_words.proofs.CellWords.{told_there, told_gone}
use Rattle.store_release.proofs.Releasing.{no_levels, released_out, released_free}
use Rattle.store_release.proofs.Releasing.{released_less, released_flat, released_all}
use Rattle.store_release.proofs.Releasing.{releasing_none, releasing_more}
use Rattle.store_release.proofs.+release.Goals as goal
use Rattle.store_release.proofs.+release.Goals.{then-levels-eq0-via-then-levels-eq0}
use Rattle.store_release.proofs.+release.Goals.{then-levels-eq0-via-else-levels-eq0+then-not-is_cell}

pub returns-then-levels-eq0 : goal.returns-then-levels-eq0
returns-then-levels-eq0 t c = elim c.then-levels-eq0.branch [
  | then-levels-eq0-via-then-levels-eq0 w ↦ no_levels _ _ _ w.if-levels-eq0.true
  | then-levels-eq0-via-else-levels-eq0+then-not-is_cell w ↦
      released_out _ _ _ _ (told_gone w.is_cell.ensures w.if-not-is_cell.true)
]

pub returns-then-n-eq0 : goal.returns-then-n-eq0
returns-then-n-eq0 t c =
    released_free _ _ _ _ (told_there c.is_cell.ensures c.if-not-is_cell.false).0 c.if-n-eq0.true

pub returns-then-n-gt1 : goal.returns-then-n-gt1
returns-then-n-gt1 t c =
    released_less _ _ _ _ (omega arith) (told_there c.is_cell.ensures c.if-not-is_cell.false).0 (omega arith)

pub returns-then-depth-eq0 : goal.returns-then-depth-eq0
returns-then-depth-eq0 t c =
    released_flat _ _ _ _ (omega arith) (told_there c.is_cell.ensures c.if-not-is_cell.false).0 (omega arith)
    c.free.ensures c.if-depth-eq0.true

pub loop-word-init : goal.loop-word-init
loop-word-init t c = releasing_none _ _ _ _

pub overflow_add-freed : goal.overflow_add-freed
overflow_add-freed t c =
    let inv = c.loop-word.invariant in
    record { fits = omega (arith, inv.counted, inv.taken, c.release-freed.ensures.few) }

pub loop-word-preserved : goal.loop-word-preserved
loop-word-preserved t c =
    let w = get_or (take c.min-size.result c.slots_of-words.result) c.loop-word.word-index (pos 0) in
    let fits : SFits w64 w = record { sfits = omega arith } in
    releasing_more c.loop-word.invariant c.loop-word-test.true _ (rw (to_z-of_z fits) at c.named_cell.ensures) _ _
    c.release-freed.ensures

pub returns : goal.returns
returns t c =
    released_all _ _ _ _ (omega arith) (told_there c.is_cell.ensures c.if-not-is_cell.false).0 (omega arith)
    c.if-depth-eq0.false (rw (c.slots_of-words.ensures, c.min-size.ensures) refl) c.free-2.ensures
    c.loop-word.invariant (omega arith)
