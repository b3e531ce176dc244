-- `work_replicate` meets its contract.
use Rattle.prelude.specs.Kit.{false, to_z-of_z}
use Rattle.semantics.specs.Words.{store_of}
use Rattle.machine_frames.specs.Work.{memory, shown}
use Rattle.machine_lines.proofs.Counts.{array_bound}
use Rattle.machine_lines.proofs.arrays.work_replicate.Goals as goal

pub returns : goal.returns
returns c =
    let a = c.args in
    let count = c.word_of-n in
    let value = c.word_of-w in
    let depth = c.element_depth-depth in
    let made = c.make_array-made in
    rw (← count.ensures, ← value.ensures, ← depth.ensures)
    (array_bound a.calls a.x a.next made.new.env (shown made.result)
    (store_of made.new.slots made.new.heads) (shown c.bind_result.result) c.bind_result.new.env
    c.bind_result.ensures false value.result depth.result count.result a.steps
    (memory (store_of a.slots.now a.heads.now) a.env.now)
    (rw (
      to_z-of_z {z = count.result} (record { sfits = count.type_inv }),
      to_z-of_z {z = value.result} (record { sfits = value.type_inv }),
    ) at made.ensures))
