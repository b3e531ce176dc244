-- Blocks of zeros are passed over, and then the last place is zero or the last one in use, by the laws of `Whole`.
use Rattle.prelude.specs.Kit.{arith, ◌-◌, ◌+◌, ◌≡◌, ◌∙◌, sym, not-true, not-false}
use Rattle.lent_form.proofs.Whole.{used_zero, used_here, used_none, used_all, zeros_none, zeros_more, block_passed}
use Rattle.lent_form.proofs.used.Goals as goal

pub loop-word-init : goal.loop-word-init
loop-word-init g c = zeros_none _

pub loop-word-preserved : goal.loop-word-preserved
loop-word-preserved g c =
    zeros_more _ _ _ (omega arith) _ c.word-item.is c.loop-word.invariant c.eq-none.ensures

pub loop-end-init : goal.loop-end-init
loop-end-init g c = (omega arith, used_all _ _)

pub loop-end-preserved : goal.loop-end-preserved
loop-end-preserved g c =
    let before = c.loop-end.invariant in
    let end : (c.loop-end.end - 16) + (c.loop-end.end - (c.loop-end.end - 16)) ≡ c.loop-end.end = omega arith in (
      omega (arith, before.0),
      before.1 ∙ rw end at (block_passed _ c.args.words.now (c.loop-end.end - 16)
          (c.loop-end.end - (c.loop-end.end - 16)) c.loop-word.word-index (omega arith)
          c.loop-word.invariant c.if-not-none.false),
    )

pub returns-then-ne : goal.returns-then-ne
returns-then-ne g c =
    let i : c.loop-i.i - 1 + 1 ≡ c.loop-i.i = omega arith in
    i ∙ sym (c.loop-i.invariant
    ∙ used_here _ _ c.loop-i.i (omega arith) (omega (arith, c.loop-end.invariant.0)) _ c.index-words-i.is
    (not-true _ (sym c.if-ne.ensures)))

pub loop-i-preserved : goal.loop-i-preserved
loop-i-preserved g c =
    c.loop-i.invariant
    ∙ used_zero _ _ c.loop-i.i (omega arith) (omega (arith, c.loop-end.invariant.0)) _ c.index-words-i.is
    (not-false _ (sym c.if-ne.ensures))

pub returns : goal.returns
returns g c = sym (c.loop-i.invariant ∙ used_none _ _ c.loop-i.i (omega arith))
