-- `work_main` meets its contract.
use Rattle.prelude.specs.Kit.{ℕ, arith, ◌≡◌, refl, ◌∙◌, ap, subst, List, ℤ, pos, rules, to_z-of_z, w64, SFits}
use Rattle.std.specs.Prelude.{Result}
use Rattle.machine_frames.specs.declared.Done.{Done}
use Rattle.machine_frames.specs.declared.Halted.{Halted}
use Rattle.machine_frames.specs.Work.{shown}
use Rattle.semantics.specs.Words.{store_of}
use Rattle.store_words.proofs.Puts.{totals_store}
use Rattle.machine_spec.specs.Machine.{code}
use Rattle.machine_spec.specs.Delivery.{released_totals, main_on}
use Rattle.machine_delivery.proofs.Laws.{MainEnds, main_ends, main_stops, main_goes}
use Rattle.machine_delivery.proofs.work_main.Goals as goal
use Rattle.machine_delivery.proofs.work_main.Goals.{After-lowest-lowest}

-- what main's tree leaves, as its answer shows it
abbrev Ends : After-lowest-lowest → ℕ → Result Done Halted → Type 0
Ends c k r =
    let tree = c.work_tree-worked in
    let a = c.args in
    MainEnds (main_on (code a.kinds.now a.operands.now a.table.now) a.depth a.old k a.free a.budget
    (store_of a.slots.now a.heads.now)) a.budget a.depth a.old (shown r) c.lowest-lowest.result
    (store_of tree.new.slots tree.new.heads)

ends : (c : After-lowest-lowest) (k : ℕ) → c.args.readings ≡ pos k → Ends c k c.work_tree-worked.result
ends c k e =
    let a = c.args in
    let old = to_z-of_z {z = a.old} c.ranges.old in
    let tree = c.work_tree-worked in
    main_ends (code a.kinds.now a.operands.now a.table.now) a.depth a.old k a.free a.budget
    a.slots.now a.heads.now c.retain_totals.new.heads (rw old at c.retain_totals.ensures) a.readings e
    c.start_in-head.result c.start_in-head.ensures.0 c.name_at-n.result c.name_at-x.result c.name_at-y.result
    c.name_at-n.ensures c.name_at-x.ensures c.name_at-y.ensures c.set_level.new.env c.bind.new.env c.bind-2.new.env
    c.set_function.new.env c.set_level.ensures (rw old at c.bind.ensures)
    (rw (to_z-of_z {z = a.readings} c.ranges.readings) at c.bind-2.ensures) c.set_function.ensures
    (shown tree.result) tree.new.slots tree.new.heads tree.new.env tree.ensures c.lowest-lowest.result
    c.lowest-lowest.ensures.0

pub returns-in-Ok : goal.returns-in-Ok
returns-in-Ok c k e =
    let a = c.args in
    let tree = c.work_tree-worked in
    let slots = tree.new.slots in
    let heads = tree.new.heads in
    let released = c.release_totals in
    let given = c.in-Ok.given in
    let fit : SFits w64 given.value = search rules in
    main_goes slots heads (subst (Ends (goal.at.returns-in-Ok c).After-lowest-lowest k) c.in-Ok.is
    (ends (goal.at.returns-in-Ok c).After-lowest-lowest k e)) refl released.new.slots released.new.heads
    (rw (to_z-of_z {z = a.old} c.ranges.old) at released.ensures
    ∙ ap (released_totals a.depth a.old) (ap (λ (l : List ℤ). store_of l heads)
    (rw (to_z-of_z {z = given.value} fit) at c.set_totals.ensures)
    ∙ totals_store slots heads given.value (omega (arith, c.requires.0, tree.auto.slots))))

pub returns-in-Err : goal.returns-in-Err
returns-in-Err c k e =
    let tree = c.work_tree-worked in
    main_stops tree.new.slots tree.new.heads (subst (Ends (goal.at.returns-in-Err c).After-lowest-lowest k) c.in-Err.is
    (ends (goal.at.returns-in-Err c).After-lowest-lowest k e)) c.in-Err.halted.cause refl
