-- Each step writes the row of the parameter before.
use Rattle.prelude.specs.Kit.{◌≡◌, ◌+◌, ◌-◌, ◌*◌, arith}
use Rattle.annotate_rows.proofs.Rows.{lower}
use Rattle.translate_script.proofs.Parameters.{rows_begin, rows_go, rows_end}
use Rattle.translate_script.proofs.put_parameters.Goals as goal

pub loop-i-init : goal.loop-i-init
loop-i-init c = let a = c.args in (c.requires.1.1.1, rows_begin a.kinds.now a.operands.now a.at a.count)

pub loop-i-preserved : goal.loop-i-preserved
loop-i-preserved c =
    let a = c.args in
    let v = c.loop-i.invariant in
    let n : c.from_le_bytes.result ≡ c.loop-i.i - 1 + 256 * c.high_at-d.result = omega arith in (
      lower c.put_row-w.ensures v.0,
      rows_go a.kinds.now a.operands.now a.at c.loop-i.i a.count c.high_at-d.result (omega arith) (omega arith)
          c.high_at-d.ensures v.1 (rw n at c.put_row-w.ensures),
    )

pub returns : goal.returns
returns c =
    let a = c.args in
    rows_end a.kinds.now a.operands.now a.at c.loop-i.i a.count (omega arith) c.loop-i.invariant.1
