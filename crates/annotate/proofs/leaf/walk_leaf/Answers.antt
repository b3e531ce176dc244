-- Answers for `annotate::leaf::walk_leaf`.
use Rattle.prelude.specs.Kit.{◌≡◌, ◌+◌, ◌*◌, arith, ⊎_elim}
use Rattle.semantics.specs.Borrow.{borrows}
use Rattle.plain_rows.specs.Plain.{plain}
use Rattle.plain_rows.specs.Parts.{depth_in}
use Rattle.annotate.proofs.Lines.{unary_done, binary_done, call_done, literal_done, if_no_leaf, loop_no_leaf}
use Rattle.annotate.proofs.leaf.walk_leaf.Goals as goal

pub unreachable-requires : goal.unreachable-requires
unreachable-requires c =
    ⊎_elim (λ w. if_no_leaf _ _ (rw w.2 at c.requires.leaf)) (λ w. loop_no_leaf _ _ _ _ _ _ (rw w.6 at c.requires.leaf))
    c.in-If.is

pub returns-in-Unary : goal.returns-in-Unary
returns-in-Unary c =
    let a = c.args in
    let code = plain a.operands.now a.rows.now a.notes.now in
    rw c.in-Unary.is (unary_done code (borrows a.table.now) (depth_in a.depths.now) a.p _ _ _ _
    (c.put_unary.ensures (borrows a.table.now)) c.take_pair.ensures)

pub returns-in-Binary : goal.returns-in-Binary
returns-in-Binary c =
    let a = c.args in
    let code = plain a.operands.now a.rows.now a.notes.now in
    rw c.in-Binary.is (binary_done code (borrows a.table.now) (depth_in a.depths.now) a.p _ _ _ _
    (c.put_binary.ensures (borrows a.table.now)) c.take_pair-in-Binary.ensures)

pub returns-in-Call : goal.returns-in-Call
returns-in-Call c =
    let a = c.args in
    let code = plain a.operands.now a.rows.now a.notes.now in
    rw c.in-Call.is (call_done code (borrows a.table.now) (depth_in a.depths.now) a.p _ _ _ c.put_call.ensures
    c.take_handed.ensures)

pub returns-in-Literal : goal.returns-in-Literal
returns-in-Literal c =
    let a = c.args in
    let code = plain a.operands.now a.rows.now a.notes.now in
    let l = c.in-Literal in
    let n : c.from_le_bytes-n.result ≡ l.name + 256 * l.count + 65536 * l.depth = omega arith in
    rw l.is (literal_done code (borrows a.table.now) (depth_in a.depths.now) a.p _ _ _
    (rw n at c.put_handing.ensures) c.take_handed-in-Literal.ensures)
