-- `store_reset::zero_words` meets its contract: arrays of zeros hold a zeroed store.
use Rattle.prelude.specs.Kit.{◌∙◌}
use Rattle.clearing.proofs.Clearing.{cleared_whole}
use Rattle.store_reset.proofs.Opening.{zeros_hold}
use Rattle.store_reset.proofs.zero_words.Goals as goal

pub returns : goal.returns
returns c = zeros_hold _ _ (c.clear_from.ensures ∙ cleared_whole _ _) (c.clear_from-2.ensures ∙ cleared_whole _ _)
