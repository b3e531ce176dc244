-- `saved_write::put_bytes` calls itself and meets its contract.
use Rattle.saved_write.proofs.Laws.{no_bytes, more_bytes}
use Rattle.saved_write.proofs.+put_bytes.Goals as goal

pub returns-then-count-eq0 : goal.returns-then-count-eq0
returns-then-count-eq0 t c = no_bytes _ _ _ _ c.if-count-eq0.true

pub returns : goal.returns
returns t c = more_bytes _ _ _ _ _ _ c.if-count-eq0.false c.put_byte.ensures c.put_bytes.ensures
