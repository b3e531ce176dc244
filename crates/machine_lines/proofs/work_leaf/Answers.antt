-- `work_leaf` meets its contract: one law for each kind of leaf.
use Rattle.prelude.specs.Kit.{rules, to_z-of_z}
use Rattle.semantics.specs.Words.{store_of}
use Rattle.machine_frames.specs.Work.{memory, shown}
use Rattle.machine_lines.proofs.Lines.{leaf_operation, leaf_index, leaf_length, leaf_literal, leaf_iota}
use Rattle.machine_lines.proofs.Lines.{leaf_replicate, leaf_retain, leaf_release, leaf_other}
use Rattle.machine_lines.proofs.work_leaf.Goals as goal

pub returns-in-Operation : goal.returns-in-Operation
returns-in-Operation c =
    let a = c.args in
    leaf_operation a.kinds.now a.operands.now a.table.now a.calls a.at a.steps
    (memory (store_of a.slots.now a.heads.now) a.env.now) a.l c.in-Operation.kind c.in-Operation.x
    c.in-Operation.a c.in-Operation.b c.in-Operation.is (shown c.work_operation.result) c.work_operation.new.env
    c.work_operation.ensures

pub returns-in-Literal : goal.returns-in-Literal
returns-in-Literal c =
    let a = c.args in
    leaf_literal a.kinds.now a.operands.now a.table.now a.calls a.at a.steps
    (memory (store_of a.slots.now a.heads.now) a.env.now) a.l c.in-Literal.x c.in-Literal.d c.in-Literal.is _
    c.work_literal.ensures

pub returns-in-Index : goal.returns-in-Index
returns-in-Index c =
    let a = c.args in
    leaf_index a.kinds.now a.operands.now a.table.now a.calls a.at a.steps
    (memory (store_of a.slots.now a.heads.now) a.env.now) a.l c.in-Index.x c.in-Index.a
    c.in-Index.b c.in-Index.is (shown c.work_index.result) c.work_index.new.env c.work_index.ensures

pub returns-in-Length : goal.returns-in-Length
returns-in-Length c =
    let a = c.args in
    leaf_length a.kinds.now a.operands.now a.table.now a.calls a.at a.steps
    (memory (store_of a.slots.now a.heads.now) a.env.now) a.l c.in-Length.x c.in-Length.a c.in-Length.is
    (shown c.work_length.result) c.work_length.new.env c.work_length.ensures

pub returns-in-Iota : goal.returns-in-Iota
returns-in-Iota c =
    let a = c.args in
    leaf_iota a.kinds.now a.operands.now a.table.now a.calls a.at a.steps
    (memory (store_of a.slots.now a.heads.now) a.env.now) a.l c.in-Iota.x c.in-Iota.a c.in-Iota.is _
    c.work_iota.ensures

pub returns-in-Replicate : goal.returns-in-Replicate
returns-in-Replicate c =
    let a = c.args in
    leaf_replicate a.kinds.now a.operands.now a.table.now a.calls a.at a.steps
    (memory (store_of a.slots.now a.heads.now) a.env.now) a.l c.in-Replicate.x c.in-Replicate.a
    c.in-Replicate.b c.in-Replicate.is _ c.work_replicate.ensures

pub returns-in-Retain : goal.returns-in-Retain
returns-in-Retain c =
    let a = c.args in
    let word = c.word_of in
    let cell = c.named_cell-cell in
    leaf_retain a.kinds.now a.operands.now a.table.now a.calls a.at a.steps
    (memory (store_of a.slots.now a.heads.now) a.env.now) a.l c.in-Retain.x word.result
    word.ensures cell.result (rw (to_z-of_z {z = word.result} (record { sfits = word.type_inv })) at cell.ensures) _
    (shown c.go_on.result) c.go_on.ensures c.in-Retain.is c.retain.ensures

pub returns-in-Release : goal.returns-in-Release
returns-in-Release c =
    let a = c.args in
    let word = c.word_of-in-Release in
    let cell = c.named_cell-cell-in-Release in
    let freed = c.release-freed in
    leaf_release a.kinds.now a.operands.now a.table.now a.calls a.at a.steps
    (memory (store_of a.slots.now a.heads.now) a.env.now) a.l c.in-Release.x word.result
    word.ensures cell.result (rw (to_z-of_z {z = word.result} (record { sfits = word.type_inv })) at cell.ensures) _
    (shown c.go_on-in-Release.result) c.go_on-in-Release.ensures c.in-Release.is freed.result freed.ensures
    c.raise_level.new.env c.raise_level.ensures

pub returns-in_default : goal.returns-in_default
returns-in_default c =
    let a = c.args in
    leaf_other a.kinds.now a.operands.now a.table.now a.calls a.at
    (memory (store_of a.slots.now a.heads.now) a.env.now) a.steps a.l (search rules)
    (shown c.lost.result) c.lost.ensures
