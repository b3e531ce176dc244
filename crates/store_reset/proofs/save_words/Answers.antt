-- `store_reset::save_words` meets its contract: what is kept is the front of the array.
use Rattle.prelude.specs.Kit.{arith, ◌∙◌}
use Rattle.std.proofs.lemmas.List.{get_or_default}
use Rattle.store_reset.proofs.Copying.{copying_more, copied_front}
use Rattle.store_reset.proofs.save_words.Goals as goal

pub loop-i-preserved : goal.loop-i-preserved
loop-i-preserved g c none =
    let a = c.args in
    copying_more (c.loop-i.invariant none) _ (omega (arith, c.requires))
    (c.index-words-i.is ∙ get_or_default a.words.now c.loop-i.i _ none (omega arith))

pub returns : goal.returns
returns g c none = copied_front (c.loop-i.invariant none) (omega arith)
