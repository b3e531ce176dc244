-- `store_release::slots_of` meets its contract: the sixteen words are cut out of the array.
use Rattle.prelude.specs.Kit.{arith, refl, ◌∙◌}
use Rattle.store_words.proofs.Slots.{slots_cut}
use Rattle.store_release.proofs.slots_of.Goals as goal

pub returns : goal.returns
returns c = c.copy_from_slice.ensures.after ∙ slots_cut _ _ _ _ (omega arith) refl c.requires.1
