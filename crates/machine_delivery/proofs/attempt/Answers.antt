-- `attempt` meets its contract.
use Rattle.prelude.specs.Kit.{arith, ◌∙◌, to_z-of_z, w64}
use Rattle.machine_lines.proofs.Lines.{next_small}
use Rattle.machine_spec.specs.Machine.{code}
use Rattle.machine_delivery.proofs.Laws.{attempt_cell, attempt_none}
use Rattle.machine_delivery.proofs.attempt.Goals as goal

pub returns-in_default : goal.returns-in_default
returns-in_default c =
    let a = c.args in
    let free = c.cells_free-free in
    let taken = c.acquire in
    attempt_none (code a.kinds.now a.operands.now a.table.now) a.readings.now a.depth a.budget
    a.slots.now a.heads.now free.result free.ensures.0 taken.result taken.ensures.0
    taken.new.slots taken.new.heads taken.ensures.1 c.in_default.is

pub word_from-w-requires : goal.word_from-w-requires
word_from-w-requires c =
    let a = c.args in
    omega (
      arith,
      next_small c.cells_free-free.result a.slots.now a.heads.now c.acquire.result c.in-Some.gained
          c.acquire.ensures.0 c.in-Some.is,
    )

pub returns : goal.returns
returns c =
    let a = c.args in
    let free = c.cells_free-free in
    let taken = c.acquire in
    let old = c.get_or-old in
    let number = c.word_from-w in
    let main = c.work_main in
    let gained = c.in-Some.gained in
    attempt_cell (code a.kinds.now a.operands.now a.table.now) a.readings.now a.depth a.budget a.slots.now a.heads.now
    free.result free.ensures.0 taken.result taken.ensures.0 taken.new.slots taken.new.heads taken.ensures.1 gained
    c.in-Some.is old.result old.ensures main.result main.new.slots main.new.heads
    (rw (to_z-of_z {z = old.result} (record { sfits = old.type_inv })) at (main.ensures gained.cell
    (to_z-of_z {w = w64} {z = number.result} (record { sfits = number.type_inv }) ∙ number.ensures)))
