-- `saved_write::put_byte` meets its contract.
use Rattle.prelude.specs.Kit.{sym, set_out}
use Rattle.saved_write.proofs.put_byte.Goals as goal

pub returns-else-i-bytes : goal.returns-else-i-bytes
returns-else-i-bytes c = sym (set_out _ _ _ c.if-i-bytes.false)
