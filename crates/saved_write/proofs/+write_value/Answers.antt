-- `saved_write::write_value` calls itself and meets its contract.
use Rattle.prelude.specs.Kit.{arith, ◌∙◌, ap, pos, length, get_or, to_z-of_z, w64, SFits}
use Rattle.semantics.specs.Store.{cell, elements}
use Rattle.semantics.specs.Words.{store_of}
use Rattle.store_words.proofs.CellWords.{few_elements}
use Rattle.saved_write.specs.Writing.{written}
use Rattle.saved_write.proofs.Laws.{write_number, write_goes, write_ends}
use Rattle.saved_write.proofs.+write_value.Goals as goal

pub returns-then-depth-eq0 : goal.returns-then-depth-eq0
returns-then-depth-eq0 t c =
    let a = c.args in
    write_number _ _ _ _ _ c.if-depth-eq0.true _ (rw (to_z-of_z {z = a.w} c.ranges.w) at c.put_entry.ensures)

pub overflow_add-size : goal.overflow_add-size
overflow_add-size t c =
    let a = c.args in
    record { fits = omega (arith, few_elements a.slots.now a.heads.now c.named_cell-c.result, c.read_length-size.ensures) }

pub overflow_cast-size : goal.overflow_cast-size
overflow_cast-size t c =
    let a = c.args in
    record { fits = omega (arith, few_elements a.slots.now a.heads.now c.named_cell-c.result, c.read_length-size.ensures) }

pub loop-i-preserved : goal.loop-i-preserved
loop-i-preserved t c =
    let a = c.args in
    let l = c.loop-i in
    let σ = store_of a.slots.now a.heads.now in
    let e = to_z-of_z {z = a.w} c.ranges.w in
    let named = rw e at c.named_cell-c.ensures in
    let size = c.read_length-size.ensures ∙ ap (λ j. length (elements (cell σ j))) named in
    let u = c.read_slot-e in
    let fits : SFits w64 u.result = record { sfits = u.type_inv } in
    let one = rw (to_z-of_z fits) at c.write_value-q.ensures in
    rw e (write_goes σ a.depth a.w a.k (written a.p a.saved.now) _ (written l.q l.saved) l.i (rw e at l.invariant)
    (omega (arith, size, c.loop-i-test.true)) u.result
    (u.ensures ∙ ap (λ j. get_or (elements (cell σ j)) l.i (pos 0)) named) _ one)

pub returns : goal.returns
returns t c =
    let a = c.args in
    let l = c.loop-i in
    let σ = store_of a.slots.now a.heads.now in
    let e = to_z-of_z {z = a.w} c.ranges.w in
    let named = rw e at c.named_cell-c.ensures in
    let size = c.read_length-size.ensures ∙ ap (λ j. length (elements (cell σ j))) named in
    write_ends σ a.depth a.w a.k (written a.p a.saved.now) c.if-depth-eq0.false _ size _ (written l.q l.saved) l.i
    c.put_entry-q.ensures (rw e at l.invariant) (omega (arith, size, c.loop-i-test.false))
