-- `append_atoms` meets its contract.
use Rattle.prelude.specs.Kit.{arith, ◌∙◌, sym, to_z-of_z}
use Rattle.machine_lines.proofs.Appending.{appending_more, appended_end, appended_full}
use Rattle.machine_lines.proofs.arrays.append_atoms.Goals as goal

pub returns-then-not-atom_stands : goal.returns-then-not-atom_stands
returns-then-not-atom_stands c =
    appended_end c.loop-n.invariant (sym c.atom_stands.ensures ∙ c.if-not-atom_stands.true)

pub loop-n-preserved : goal.loop-n-preserved
loop-n-preserved c =
    let w = c.word_of-w in
    appending_more c.loop-n.invariant (omega arith) (sym c.atom_stands.ensures ∙ c.if-not-atom_stands.false)
    c.atom_at-a.result w.result c.atom_at-a.ensures w.ensures _
    (rw (to_z-of_z {z = w.result} (record { sfits = w.type_inv })) at c.append.ensures)

pub returns : goal.returns
returns c = appended_full c.loop-n.invariant (omega arith)
