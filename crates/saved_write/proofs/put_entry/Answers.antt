-- `saved_write::put_entry` meets its contract.
use Rattle.prelude.specs.Kit.{to_z-of_z}
use Rattle.saved_write.specs.Writing.{entry}
use Rattle.saved_write.proofs.Laws.{no_entry, one_entry}
use Rattle.saved_write.proofs.put_entry.Goals as goal

pub returns-then-k-p : goal.returns-then-k-p
returns-then-k-p c = let a = c.args in no_entry a.k a.p (entry a.mark a.number) a.saved.now c.if-k-p.true

pub returns : goal.returns
returns c =
    let bits = rw (to_z-of_z {z = c.args.number} c.ranges.number) at c.unsigned_of.ensures in
    one_entry _ _ _ _ _ _ _ _ c.if-k-p.false c.put_byte.ensures bits c.put_bytes.ensures
