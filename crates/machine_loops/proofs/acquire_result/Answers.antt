-- `acquire_result` meets its contract.
use Rattle.prelude.specs.Kit.{arith, to_z-of_z}
use Rattle.semantics.specs.Words.{store_of}
use Rattle.machine_loops.proofs.Beginning.{within_kept, cell_within, cell_carried}
use Rattle.machine_loops.proofs.acquire_result.Goals as goal

pub word_from-requires : goal.word_from-requires
word_from-requires c =
    let a = c.args in
    let taken = c.acquire_empty in
    omega (
      arith,
      (cell_within a.slots.now a.heads.now c.level.result taken.result c.in_ok-gained.gained
          taken.ensures.0 c.in_ok-gained.was).0,
    )

pub returns : goal.returns
returns c =
    let a = c.args in
    let taken = c.acquire_empty in
    let g = c.in_ok-gained.gained in
    let number = c.word_from in
    rw (to_z-of_z {z = number.result} (record { sfits = number.type_inv }))
    (cell_carried a.depth (store_of a.slots.now a.heads.now) a.env.now c.level.result c.level.ensures.0
    taken.new.slots taken.new.heads taken.result taken.ensures.0 taken.ensures.1 g c.in_ok-gained.was
    c.note_level.new.env c.note_level.ensures
    (within_kept a.slots.now taken.new.slots a.heads.now taken.new.heads g.cell taken.auto.slots taken.auto.heads
    (cell_within a.slots.now a.heads.now c.level.result taken.result g taken.ensures.0 c.in_ok-gained.was))
    number.result number.ensures)
