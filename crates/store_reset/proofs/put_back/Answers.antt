-- `store_reset::put_back` meets its contract.
use Rattle.prelude.specs.Kit.{◌∙◌, ap₂}
use Rattle.semantics.specs.Store.{relinked}
use Rattle.semantics.specs.Words.{store_of}
use Rattle.store_reset.proofs.put_back.Goals as goal

pub returns : goal.returns
returns c = c.relink.ensures ∙ ap₂ (λ slots heads. relinked (store_of slots heads)) c.copy_padded.ensures c.copy_padded-2.ensures
