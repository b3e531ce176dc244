-- `element` meets its contract.
use Rattle.std.proofs.Common.{to_z-of_z}
use Rattle.prelude.specs.Kit.{◌∙◌}
use Rattle.machine_lines.proofs.Counts.{element_counts}
use Rattle.machine_lines.proofs.arrays.element.Goals as goal

pub returns-then-counting : goal.returns-then-counting
returns-then-counting c =
    let a = c.args in
    rw (to_z-of_z {z = c.word_from.result} (record { sfits = c.word_from.type_inv }))
    (c.word_from.ensures ∙ element_counts a.w a.n a.i c.requires.0 a.counting c.if-counting.true)
