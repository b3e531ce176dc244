-- `append_elements` meets its contract.
use Rattle.prelude.specs.Kit.{◌+◌, arith, ◌∙◌, sym, ap, drop, to_z-of_z}
use Rattle.store.specs.Acquiring.{appended_all}
use Rattle.store.proofs.Filling.{appended_next, appended_end}
use Rattle.machine_lines.specs.Lines.{elements_by}
use Rattle.machine_lines.proofs.Counts.{elements_length}
use Rattle.machine_lines.proofs.arrays.append_elements.Goals as goal

pub loop-i-preserved : goal.loop-i-preserved
loop-i-preserved c =
    let a = c.args in
    let i = c.loop-i.i in
    let ws = elements_by a.counting a.w a.n in
    let v = c.element in
    rw (to_z-of_z {z = a.w} c.ranges.w) (
    (rw (to_z-of_z {z = a.w} c.ranges.w) at c.loop-i.invariant)
    ∙ appended_next a.c ws i v.result _ (omega (arith, elements_length a.counting a.w a.n))
    (rw (to_z-of_z {z = a.w} c.ranges.w) at v.ensures)
    ∙ ap (appended_all a.c (drop (i + 1) ws))
    (sym (rw (to_z-of_z {z = v.result} (record { sfits = v.type_inv })) at c.append.ensures))
    )

pub returns : goal.returns
returns c =
    let a = c.args in
    sym ((rw (to_z-of_z {z = a.w} c.ranges.w) at c.loop-i.invariant)
    ∙ appended_end a.c (elements_by a.counting a.w a.n) c.loop-i.i _
    (omega (arith, elements_length a.counting a.w a.n)))
