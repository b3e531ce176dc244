-- `saved_write::count_value` calls itself and meets its contract.
use Rattle.prelude.specs.Kit.{arith, ◌∙◌, ap, pos, length, get_or, to_z-of_z, w64, SFits}
use Rattle.semantics.specs.Store.{cell, elements}
use Rattle.semantics.specs.Words.{store_of}
use Rattle.saved_write.proofs.Laws.{count_number, count_starts, count_goes, count_stops, count_ends}
use Rattle.saved_write.proofs.+count_value.Goals as goal

pub returns-then-depth-eq0 : goal.returns-then-depth-eq0
returns-then-depth-eq0 t c = count_number _ _ _ _ (omega arith) c.if-depth-eq0.true

pub loop-i-init : goal.loop-i-init
loop-i-init t c = (omega arith, count_starts _ _ _ _ c.if-depth-eq0.false)

pub returns-in_err-counted : goal.returns-in_err-counted
returns-in_err-counted t c =
    let a = c.args in
    let l = c.loop-i in
    let σ = store_of a.slots.now a.heads.now in
    let e = to_z-of_z {z = a.w} c.ranges.w in
    let named = rw e at c.named_cell-c.ensures in
    let size = c.read_length-i-end.ensures ∙ ap (λ j. length (elements (cell σ j))) named in
    let u = c.read_slot-e in
    let fits : SFits w64 u.result = record { sfits = u.type_inv } in
    rw c.from_residual.ensures
    (count_stops σ a.depth a.w a.n l.counted l.i (rw e at l.invariant.1) (omega (arith, size, c.loop-i-test.true)) u.result
    (u.ensures ∙ ap (λ j. get_or (elements (cell σ j)) l.i (pos 0)) named)
    (rw (to_z-of_z fits) at c.in_err-counted.ensures))

pub loop-i-preserved : goal.loop-i-preserved
loop-i-preserved t c =
    let a = c.args in
    let l = c.loop-i in
    let σ = store_of a.slots.now a.heads.now in
    let e = to_z-of_z {z = a.w} c.ranges.w in
    let named = rw e at c.named_cell-c.ensures in
    let size = c.read_length-i-end.ensures ∙ ap (λ j. length (elements (cell σ j))) named in
    let u = c.read_slot-e in
    let fits : SFits w64 u.result = record { sfits = u.type_inv } in
    rw e
    (count_goes σ a.depth a.w a.n l.counted l.i (rw e at l.invariant.1) (omega (arith, size, c.loop-i-test.true)) u.result
    (u.ensures ∙ ap (λ j. get_or (elements (cell σ j)) l.i (pos 0)) named) _
    (rw (to_z-of_z fits) at c.in_ok-counted.ensures))

pub returns : goal.returns
returns t c =
    let a = c.args in
    let l = c.loop-i in
    let σ = store_of a.slots.now a.heads.now in
    let e = to_z-of_z {z = a.w} c.ranges.w in
    let named = rw e at c.named_cell-c.ensures in
    let size = c.read_length-i-end.ensures ∙ ap (λ j. length (elements (cell σ j))) named in
    count_ends σ a.depth a.w a.n l.counted l.i (rw e at l.invariant.1) l.invariant.0
    (omega (arith, size, c.loop-i-test.false))
