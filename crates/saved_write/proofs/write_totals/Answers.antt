-- `saved_write::write_totals` meets its contract, by `Saving`.
use Rattle.prelude.specs.Kit.{◌≤◌, arith, ◌∙◌, to_z-of_z}
use Rattle.clearing.proofs.Clearing.{cleared_whole}
use Rattle.saved_write.proofs.Laws.{counted_some}
use Rattle.saved_write.proofs.Saving.{begins, narrow, saves}
use Rattle.saved_write.proofs.write_totals.Goals as goal
use Rattle.saved_write.proofs.write_totals.Goals.{In-Some}

-- no more entries than a file has
few : (c : In-Some) → c.in-Some.k ≤ 4096
few c = (counted_some _ _ c.in-Some.ensures).1

pub overflow_mul-k : goal.overflow_mul-k
overflow_mul-k c = record { fits = omega (arith, few (goal.at.overflow_mul-k c).In-Some) }

pub overflow_add-k : goal.overflow_add-k
overflow_add-k c = record { fits = omega (arith, few (goal.at.overflow_add-k c).In-Some) }

pub write_value-requires : goal.write_value-requires
write_value-requires c = few (goal.at.write_value-requires c).In-Some

pub returns-then-saved-k : goal.returns-then-saved-k
returns-then-saved-k c =
    let w = c.get_or-w in
    narrow
    (begins _ _ _ _ w.ensures (record { sfits = w.type_inv }) (c.clear_from.ensures ∙ cleared_whole _ _) _ c.in-Some.ensures)
    c.if-saved-k.true

pub returns : goal.returns
returns c =
    let w = c.get_or-w in
    let put = c.write_value in
    saves
    (begins _ _ _ _ w.ensures (record { sfits = w.type_inv }) (c.clear_from.ensures ∙ cleared_whole _ _) _ c.in-Some.ensures)
    c.if-saved-k.false c.put_byte.new.bytes c.put_bytes.new.bytes put.new.saved put.result
    c.put_byte.ensures c.put_bytes.ensures
    (rw (to_z-of_z {z = w.result} (record { sfits = w.type_inv })) at put.ensures)
