-- `store::append_all` meets its contract: one word more, and none left.
use Rattle.prelude.specs.Kit.{arith, refl, sym, ap, ◌∙◌, pos, get_or, to_z-of_z, w64, SFits}
use Rattle.store.specs.Acquiring.{appended_all}
use Rattle.store.proofs.Filling.{appended_next, appended_end}
use Rattle.store.proofs.append_all.Goals as goal

pub loop-w-preserved : goal.loop-w-preserved
loop-w-preserved c =
    let w = get_or c.args.words.now c.loop-w.w-index (pos 0) in
    let fits : SFits w64 w = record { sfits = omega arith } in
    c.loop-w.invariant ∙ appended_next _ _ _ w _ c.loop-w-test.true refl
    ∙ ap (appended_all _ _) (sym (rw (to_z-of_z fits) at c.append.ensures))

pub returns : goal.returns
returns c = sym (c.loop-w.invariant ∙ appended_end _ _ c.loop-w.w-index _ (omega arith))
