-- A line whose operand is in range is what its atoms say, by `Lines.line_read`.
use Rattle.prelude.specs.Kit.{arith, to_z-of_z}
use Rattle.lent_form.proofs.Lines.{line_read}
use Rattle.lent_form.proofs.reading.form_line.Goals as goal

pub returns-in_err-next : goal.returns-in_err-next
returns-in_err-next c =
    let a = c.args in
    grind (
      arith,
      to_z-of_z,
      line_read a.kinds.now a.operands.now c.requires.1.lined.even _ a.over a.at a.arities.now c.requires.1.known,
    )

pub returns : goal.returns
returns c =
    let a = c.args in
    grind (
      arith,
      to_z-of_z,
      line_read a.kinds.now a.operands.now c.requires.1.lined.even _ a.over a.at a.arities.now c.requires.1.known,
    )
