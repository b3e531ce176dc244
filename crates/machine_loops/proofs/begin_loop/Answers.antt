-- `begin_loop` meets its contract.
use Rattle.prelude.specs.Kit.{◌∙◌, ap, subst, rules, to_z-of_z, w64, SFits}
use Rattle.semantics.specs.Store.{cell_of}
use Rattle.semantics.specs.Words.{store_of}
use Rattle.machine_frames.specs.Frames.{element_depth}
use Rattle.machine_frames.specs.Work.{memory}
use Rattle.machine_lines.specs.Lines.{kind_of, first_name, second_name}
use Rattle.machine_loops.specs.Loops.{Carries}
use Rattle.machine_loops.proofs.Beginning.{words, readied, dry_begun}
use Rattle.machine_loops.proofs.begin_loop.Goals as goal

pub returns-in_err-carried : goal.returns-in_err-carried
returns-in_err-carried c =
    let a = c.args in
    let k = kind_of a.l in
    let ws = words a.calls a.env.now a.l a.l in
    let depth = c.element_depth-depth in
    let first = c.carry_first in
    rw c.from_residual.ensures
    (dry_begun k (first_name a.l) (second_name a.l) (element_depth a.table.now a.calls a.x a.env.now)
    ws a.slots.now first.new.slots a.heads.now first.new.heads a.env.now first.new.env
    first.auto.slots first.auto.heads depth.result depth.ensures
    (subst (Carries k depth.result ws (memory (store_of a.slots.now a.heads.now) a.env.now)
    first.new.slots first.new.heads first.new.env) c.in_err-carried.was first.ensures))

pub returns : goal.returns
returns c =
    let a = c.args in
    let k = kind_of a.l in
    let ws = words a.calls a.env.now a.l a.l in
    let word = c.array_word in
    let depth = c.element_depth-depth in
    let first = c.carry_first in
    let carried = c.in_ok-carried.carried in
    let fits : SFits w64 carried = search rules in
    rw (to_z-of_z {z = carried} fits)
    (readied k (first_name a.l) (second_name a.l)
    (element_depth a.table.now a.calls a.x a.env.now) ws a.slots.now first.new.slots a.heads.now
    first.new.heads a.env.now first.new.env first.auto.slots first.auto.heads
    depth.result depth.ensures _
    (rw (to_z-of_z {z = carried} fits) at c.way_of-way.ensures)
    c.first_name-first.ensures c.second_name-second.ensures
    ((rw (to_z-of_z {z = word.result} (record { sfits = word.type_inv })) at c.named_cell-from.ensures)
    ∙ ap cell_of word.ensures) c.read_length-count.ensures
    (subst (Carries k depth.result ws (memory (store_of a.slots.now a.heads.now) a.env.now)
    first.new.slots first.new.heads first.new.env) c.in_ok-carried.was first.ensures))
