-- `carry_first` meets its contract.
use Rattle.prelude.specs.Kit.{to_z-of_z}
use Rattle.semantics.specs.Words.{store_of}
use Rattle.machine_loops.proofs.Beginning.{alone_told, alone_carried}
use Rattle.machine_loops.proofs.carry_first.Goals as goal

pub returns-then-is_alone : goal.returns-then-is_alone
returns-then-is_alone c =
    let a = c.args in
    let word = c.word_of-w in
    rw (to_z-of_z {z = word.result} (record { sfits = word.type_inv }))
    (alone_carried a.calls a.env.now a.l c.in-Rewrite.field-0 c.in-Rewrite.a c.in-Rewrite.is a.depth a.slots.now
    a.heads.now word.result word.ensures
    (alone_told (store_of a.slots.now a.heads.now) word.result c.named_cell.result
    (rw (to_z-of_z {z = word.result} (record { sfits = word.type_inv })) at c.named_cell.ensures) _ _
    c.is_alone.ensures c.if-is_alone.true))
