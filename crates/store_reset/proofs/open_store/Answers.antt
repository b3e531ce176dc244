-- `store_reset::open_store` meets its contract.
use Rattle.store_reset.proofs.Opening.{open_flat, open_deep}
use Rattle.store_reset.proofs.open_store.Goals as goal

pub returns-then-depth-eq0 : goal.returns-then-depth-eq0
returns-then-depth-eq0 c = open_flat _ _ c.if-depth-eq0.true c.zero_words.ensures c.relink.ensures

pub returns : goal.returns
returns c = open_deep _ _ c.if-depth-eq0.false c.zero_words.ensures c.relink.ensures c.acquire_empty.ensures.1
