-- `work_index` meets its contract.
use Rattle.prelude.specs.Kit.{to_z-of_z, w64, SFits}
use Rattle.semantics.specs.Words.{store_of}
use Rattle.machine_frames.specs.Work.{shown}
use Rattle.machine_lines.proofs.Lines.{index_spent, index_negative, index_past, index_value}
use Rattle.machine_lines.proofs.work_index.Goals as goal
use Rattle.machine_lines.proofs.work_index.Goals.{then-w-lt0-via-then-w-lt0, then-w-lt0-via-else-w-lt0+then-read_length-w}

pub returns-then-steps-eq0 : goal.returns-then-steps-eq0
returns-then-steps-eq0 c =
    let a = c.args in
    index_spent (store_of a.slots.now a.heads.now) a.calls a.x a.a a.b a.next a.steps
    a.env.now (shown c.halt.result) c.if-steps-eq0.true c.halt.ensures

pub returns-then-w-lt0 : goal.returns-then-w-lt0
returns-then-w-lt0 c =
    let a = c.args in
    let word = c.word_of in
    let cell = c.named_cell-cell in
    let word2 = c.word_of-w in
    let halted = c.halt-then-w-lt0 in
    elim c.then-w-lt0.branch [
      | then-w-lt0-via-then-w-lt0 w ↦
          index_negative (store_of a.slots.now a.heads.now) a.calls a.x a.a a.b a.next a.steps
          a.env.now c.if-steps-eq0.false word.result word2.result word.ensures word2.ensures cell.result
          (rw (to_z-of_z {z = word.result} (record { sfits = word.type_inv })) at cell.ensures)
          (rw (to_z-of_z {z = word2.result} (record { sfits = word2.type_inv })) at w.if-w-lt0.true)
          (shown halted.result) halted.ensures
      | then-w-lt0-via-else-w-lt0+then-read_length-w w ↦
          let size = w.read_length in
          index_past (store_of a.slots.now a.heads.now) a.calls a.x a.a a.b a.next a.steps
          a.env.now c.if-steps-eq0.false word.result word2.result word.ensures word2.ensures cell.result
          (rw (to_z-of_z {z = word.result} (record { sfits = word.type_inv })) at cell.ensures)
          size.result size.ensures
          (rw (to_z-of_z {z = word2.result} (record { sfits = word2.type_inv })) at w.if-read_length-w.true)
          (shown halted.result) halted.ensures
    ]

pub returns : goal.returns
returns c =
    let a = c.args in
    let word = c.word_of in
    let cell = c.named_cell-cell in
    let word2 = c.word_of-w in
    let size = c.read_length in
    let read = c.read_slot-v in
    let fits : SFits w64 word2.result = record { sfits = word2.type_inv } in
    let fit : SFits w64 read.result = record { sfits = read.type_inv } in
    index_value (store_of a.slots.now a.heads.now) a.calls a.x a.a a.b a.next a.steps
    a.env.now c.if-steps-eq0.false word.result word2.result word.ensures word2.ensures cell.result
    (rw (to_z-of_z {z = word.result} (record { sfits = word.type_inv })) at cell.ensures) size.result size.ensures
    (rw (to_z-of_z {z = word2.result} fits) at c.if-w-lt0.false)
    (rw (to_z-of_z {z = word2.result} fits) at c.if-read_length-w.false) read.result
    (rw (to_z-of_z {z = word2.result} fits) at read.ensures) _
    (rw (to_z-of_z {z = read.result} fit) at c.bind.ensures) (shown c.go_on.result)
    (rw (to_z-of_z {z = read.result} fit) at c.go_on.ensures)
