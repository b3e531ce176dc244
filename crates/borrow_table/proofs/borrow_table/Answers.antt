-- Each step reads the rows of one function.
use Rattle.prelude.specs.Kit.{arith, refl}
use Rattle.flatten_functions.proofs.Functions.{known, fits_at}
use Rattle.borrow_table.proofs.Gathering.{gather_begin, laid_room, laid_goes, gather_ends}
use Rattle.borrow_table.proofs.Settling.{settled_is, alone_is}
use Rattle.borrow_table.proofs.borrow_table.Goals as goal

pub returns-then-functions-lt2-clause-borrowed_by : goal.returns-then-functions-lt2-clause-borrowed_by
returns-then-functions-lt2-clause-borrowed_by c =
    let t = c.requires.translatable in
    rw t.reads (alone_is t.tree (known t).1.1 (omega (arith, (known t).1.0, c.if-functions-lt2.true)))

pub loop-f-init : goal.loop-f-init
loop-f-init c =
    let t = c.requires.translatable in (
      t,
      rw t.reads at c.requires.resulting_by,
      gather_begin t.tree _ refl (known t).1.1,
      omega arith,
      omega arith,
    )

pub lay_function-q-requires-clause-fitting : goal.lay_function-q-requires-clause-fitting
lay_function-q-requires-clause-fitting c =
    let v = c.loop-f.invariant in
    fits_at v.0 v.1 c.loop-f.f _ c.loop-f-test.true refl

pub gather-requires-clause-q_bound_2 : goal.gather-requires-clause-q_bound_2
gather-requires-clause-q_bound_2 c =
    let v = c.loop-f.invariant in
    laid_room v.0 v.1 v.2 (omega arith) c.loop-f-test.true refl c.lay_function-q.ensures

pub loop-f-preserved : goal.loop-f-preserved
loop-f-preserved c =
    let laid = c.lay_function-q.ensures in
    let v = c.loop-f.invariant in (
      v.0,
      v.1,
      laid_goes v.0 v.1 v.2 (omega arith) c.loop-f-test.true refl laid c.gather.ensures,
      laid.long_rows,
      laid.long_notes,
    )

pub returns-clause-borrowed_by : goal.returns-clause-borrowed_by
returns-clause-borrowed_by c =
    let v = c.loop-f.invariant in
    let all = gather_ends v.2 (omega (arith, (known v.0).1.0, c.loop-f-test.false)) in
    rw v.0.reads (settled_is all c.work_out.ensures.settled)
