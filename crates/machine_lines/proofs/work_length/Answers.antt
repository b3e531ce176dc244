-- `work_length` meets its contract.
use Rattle.prelude.specs.Kit.{arith, ◌∙◌, ap, pos, to_z-of_z}
use Rattle.semantics.specs.Words.{store_of}
use Rattle.machine_frames.specs.Work.{shown}
use Rattle.machine_lines.proofs.Lines.{length_spent, length_value, few_elements}
use Rattle.machine_lines.proofs.work_length.Goals as goal

pub returns-then-steps-eq0 : goal.returns-then-steps-eq0
returns-then-steps-eq0 c =
    let a = c.args in
    length_spent (store_of a.slots.now a.heads.now) a.calls a.x a.a a.next a.steps a.env.now
    (shown c.halt.result) c.if-steps-eq0.true c.halt.ensures

pub word_from-n-requires : goal.word_from-n-requires
word_from-n-requires c =
    let a = c.args in
    omega (arith, c.read_length.ensures, few_elements a.slots.now a.heads.now c.named_cell-cell.result)

pub returns : goal.returns
returns c =
    let a = c.args in
    let word = c.word_of in
    let cell = c.named_cell-cell in
    let number = c.word_from-n in
    length_value (store_of a.slots.now a.heads.now) a.calls a.x a.a a.next a.steps a.env.now
    c.if-steps-eq0.false word.result word.ensures
    cell.result (rw (to_z-of_z {z = word.result} (record { sfits = word.type_inv })) at cell.ensures)
    number.result (number.ensures ∙ ap pos c.read_length.ensures) _ (rw
    (to_z-of_z {z = number.result} (record { sfits = number.type_inv })) at c.bind.ensures) (shown c.go_on.result)
    (rw (to_z-of_z {z = number.result} (record { sfits = number.type_inv })) at c.go_on.ensures)
