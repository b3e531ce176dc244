-- The workers meet their contracts: one law for each way out of the code.
use Rattle.prelude.specs.Kit.{ℕ, ◌+◌, arith, refl, ◌∙◌, sym, ap, subst, inl, inr, pos, get_or, map, rules}
use Rattle.prelude.specs.Kit.{to_z-of_z, to_z, w64, SFits}
use Rattle.std.specs.Prelude.{Ok, Err}
use Rattle.std.proofs.lemmas.Result.{err_from_is_err_and}
use Rattle.semantics.specs.Store.{cell_of}
use Rattle.semantics.specs.Words.{store_of}
use Rattle.machine_frames.specs.Frames.{place, word_of, element_depth}
use Rattle.machine_frames.specs.Work.{memory, shown}
use Rattle.machine_frames.proofs.Results.{cause_real}
use Rattle.machine_lines.specs.Lines.{kind_of, first_name, second_name, atoms_of}
use Rattle.machine_loops.specs.Loops.{Begins, CarriesOn}
use Rattle.machine_loops.proofs.Ending.{taken, not_taken}
use Rattle.machine_spec.specs.Machine.{code, tree_on, call_on}
use Rattle.machine_spec.specs.LineLaws.{if_spent, if_doubts, if_stops, if_goes, call_spent, call_deep, call_stops}
use Rattle.machine_spec.specs.LineLaws.{call_goes, loop_spent, loop_dry, loop_goes, line_if, line_call, line_loop}
use Rattle.machine_spec.specs.LineLaws.{line_leaf}
use Rattle.machine_spec.specs.Parts.{pass_dry, pass_end, pass_stops, pass_doubts, pass_goes, stays_on, carries_on}
use Rattle.machine_spec.specs.TreeLaws.{not_end, tree_out, tree_closed, tree_stops, tree_goes, rows_there}
use Rattle.machine.proofs.+workers.Goals as goal

-- ---- a tree

pub work_tree-returns-then-not-two_rows : goal.work_tree-returns-then-not-two_rows
work_tree-returns-then-not-two_rows t c =
    tree_out c.loop-left.invariant (inr (sym c.two_rows.ensures ∙ c.if-not-two_rows.true)) (shown c.lost.result)
    c.lost.ensures

pub work_tree-line_at-l-requires : goal.work_tree-line_at-l-requires
work_tree-line_at-l-requires t c = (
  rows_there c.args.kinds.now.now c.args.operands.now.now c.loop-left.p
      (sym c.two_rows.ensures ∙ c.if-not-two_rows.false),
  c.requires.1,
)

pub work_tree-overflow_add-p : goal.work_tree-overflow_add-p
work_tree-overflow_add-p t c =
    omega (
      arith,
      rows_there c.args.kinds.now.now c.args.operands.now.now c.loop-left.p
          (sym c.two_rows.ensures ∙ c.if-not-two_rows.false),
    )

pub work_tree-returns-in-End : goal.work_tree-returns-in-End
work_tree-returns-in-End t c =
    let line = c.line_at-l in
    let w = c.word_of-w in
    tree_closed c.loop-left.invariant line.result c.loop-left-test.true
    (sym c.two_rows.ensures ∙ c.if-not-two_rows.false) line.ensures c.in-End.a c.in-End.is w.result w.ensures
    (shown c.go_on.result) (rw (to_z-of_z {z = w.result} (record { sfits = w.type_inv })) at c.go_on.ensures)

pub work_tree-work_line-requires : goal.work_tree-work_line-requires
work_tree-work_line-requires t c =
    let inv = c.loop-left.invariant in
    let there = rows_there c.args.kinds.now.now c.args.operands.now.now c.loop-left.p
    (sym c.two_rows.ensures ∙ c.if-not-two_rows.false) in (
      omega (arith, c.decreases, inv.fewer, inv.under, c.loop-left-test.true),
      (omega (arith, there), c.requires.0, c.requires.1),
    )

pub work_tree-returns-in-Err : goal.work_tree-returns-in-Err
work_tree-returns-in-Err t c =
    let worked = c.work_line in
    let line = c.line_at-l in
    tree_stops c.loop-left.invariant line.result c.loop-left-test.true
    (sym c.two_rows.ensures ∙ c.if-not-two_rows.false) line.ensures (not_end line.result (search rules))
    _ worked.new.slots worked.new.heads worked.new.env c.in-Err.ensures
    (cause_real _)

pub work_tree-loop-left-preserved : goal.work_tree-loop-left-preserved
work_tree-loop-left-preserved t c =
    let inv = c.loop-left.invariant in
    let worked = c.work_line in
    let line = c.line_at-l in
    tree_goes inv line.result c.loop-left-test.true (sym c.two_rows.ensures ∙ c.if-not-two_rows.false) line.ensures
    (not_end line.result (search rules)) (shown (Ok c.in-Ok.given)) worked.new.slots worked.new.heads
    worked.new.env c.in-Ok.ensures refl (record {
      slots_long = worked.auto.slots;
      heads_long = worked.auto.heads;
      env_long = omega arith;
    })

pub work_tree-returns : goal.work_tree-returns
work_tree-returns t c =
    tree_out c.loop-left.invariant (inl (omega arith)) (shown c.lost-2.result) c.lost-2.ensures

-- ---- a line

pub work_line-returns-in-If : goal.work_line-returns-in-If
work_line-returns-in-If t c =
    let a = c.args in
    let k = code a.kinds.now.now a.operands.now.now a.table.now in
    let worked = c.work_if in
    line_if (tree_on a.lines (call_on a.calls k) k a.calls) (call_on a.calls k) k a.calls a.at a.steps a.slots.now
    a.heads.now a.env.now a.l (shown worked.result) worked.new.slots worked.new.heads worked.new.env c.in-If.x c.in-If.g
    c.in-If.is worked.ensures

pub work_line-returns-in-Call : goal.work_line-returns-in-Call
work_line-returns-in-Call t c =
    let a = c.args in
    let k = code a.kinds.now.now a.operands.now.now a.table.now in
    let worked = c.work_call in
    line_call (tree_on a.lines (call_on a.calls k) k a.calls) (call_on a.calls k) k a.calls a.at a.steps a.slots.now
    a.heads.now a.env.now a.l (shown worked.result) worked.new.slots worked.new.heads worked.new.env c.in-Call.x c.in-Call.g
    c.in-Call.is worked.ensures

pub work_line-returns-in-Loop : goal.work_line-returns-in-Loop
work_line-returns-in-Loop t c =
    let a = c.args in
    let k = code a.kinds.now.now a.operands.now.now a.table.now in
    let worked = c.work_loop in
    line_loop (tree_on a.lines (call_on a.calls k) k a.calls) (call_on a.calls k) k a.calls a.at a.steps a.slots.now
    a.heads.now a.env.now a.l (shown worked.result) worked.new.slots worked.new.heads worked.new.env c.in-Loop.x c.in-Loop.l
    c.in-Loop.is worked.ensures

pub work_line-returns-in_default : goal.work_line-returns-in_default
work_line-returns-in_default t c =
    let a = c.args in
    let k = code a.kinds.now.now a.operands.now.now a.table.now in
    let leaf = c.work_leaf in
    line_leaf (tree_on a.lines (call_on a.calls k) k a.calls) (call_on a.calls k) k a.calls a.at a.steps a.slots.now
    a.heads.now a.env.now a.l (shown leaf.result) leaf.new.slots leaf.new.heads leaf.new.env
    (search rules) leaf.ensures

-- ---- an if

pub work_if-returns-then-steps-eq0 : goal.work_if-returns-then-steps-eq0
work_if-returns-then-steps-eq0 t c =
    let a = c.args in
    let k = code a.kinds.now.now a.operands.now.now a.table.now in
    if_spent (tree_on a.lines (call_on a.calls k) k a.calls) a.table.now a.calls a.x a.g a.at a.steps a.slots.now
    a.heads.now a.env.now (shown c.halt.result) c.if-steps-eq0.true c.halt.ensures

pub work_if-returns-then-not-is_answer : goal.work_if-returns-then-not-is_answer
work_if-returns-then-not-is_answer t c =
    let a = c.args in
    let k = code a.kinds.now.now a.operands.now.now a.table.now in
    let g = c.word_of-guard in
    let halted = c.halt-then-not-is_answer in
    if_doubts (tree_on a.lines (call_on a.calls k) k a.calls) a.table.now a.calls a.x a.g a.at a.steps a.slots.now
    a.heads.now a.env.now c.if-steps-eq0.false g.result g.ensures
    (sym (rw (to_z-of_z {z = g.result} (record { sfits = g.type_inv })) at c.is_answer.ensures)
    ∙ c.if-not-is_answer.true) (shown halted.result) halted.ensures

pub work_if-returns-in_err-given : goal.work_if-returns-in_err-given
work_if-returns-in_err-given t c =
    let a = c.args in
    let k = code a.kinds.now.now a.operands.now.now a.table.now in
    let g = c.word_of-guard in
    let fits : SFits w64 g.result = record { sfits = g.type_inv } in
    let start = c.branch_start-start in
    let tree = c.work_tree in
    let halted = c.in_err-given.field-0.0 in
    let exit = err_from_is_err_and c.from_residual.result c.from_residual.ensures.1 in
    rw (exit.1, exit.2)
    (if_stops (tree_on a.lines (call_on a.calls k) k a.calls) a.table.now a.calls a.x a.g a.at a.steps a.slots.now
    a.heads.now a.env.now c.if-steps-eq0.false g.result g.ensures
    (sym (rw (to_z-of_z {z = g.result} fits) at c.is_answer.ensures) ∙ c.if-not-is_answer.false)
    start.result (rw (to_z-of_z {z = g.result} fits) at start.ensures) (shown (Err halted)) tree.new.slots
    tree.new.heads tree.new.env c.in_err-given.ensures (cause_real halted.cause))

pub work_if-returns : goal.work_if-returns
work_if-returns t c =
    let a = c.args in
    let k = code a.kinds.now.now a.operands.now.now a.table.now in
    let g = c.word_of-guard in
    let fits : SFits w64 g.result = record { sfits = g.type_inv } in
    let start = c.branch_start-start in
    let tree = c.work_tree in
    let next = c.branch_end-next in
    let given = c.in_ok-given.given in
    let fit : SFits w64 given.value = search rules in
    if_goes (tree_on a.lines (call_on a.calls k) k a.calls) a.table.now a.calls a.x a.g a.at a.steps a.slots.now
    a.heads.now a.env.now c.if-steps-eq0.false g.result g.ensures
    (sym (rw (to_z-of_z {z = g.result} fits) at c.is_answer.ensures) ∙ c.if-not-is_answer.false)
    start.result (rw (to_z-of_z {z = g.result} fits) at start.ensures) (shown (Ok given)) tree.new.slots
    tree.new.heads tree.new.env c.in_ok-given.ensures refl next.result
    (rw (to_z-of_z {z = g.result} fits) at next.ensures) c.bind.new.env
    (rw (to_z-of_z {z = given.value} fit) at c.bind.ensures) (shown c.go_on.result)
    (rw (to_z-of_z {z = given.value} fit) at c.go_on.ensures)

-- ---- a call

pub work_call-returns-then-steps-eq0 : goal.work_call-returns-then-steps-eq0
work_call-returns-then-steps-eq0 t c =
    let a = c.args in
    let k = code a.kinds.now.now a.operands.now.now a.table.now in
    call_spent k a.calls a.x a.g a.at a.steps a.slots.now a.heads.now a.env.now (shown c.halt.result) c.if-steps-eq0.true
    c.halt.ensures

pub work_call-returns-then-calls-eq0 : goal.work_call-returns-then-calls-eq0
work_call-returns-then-calls-eq0 t c =
    let a = c.args in
    let k = code a.kinds.now.now a.operands.now.now a.table.now in
    let halted = c.halt-then-calls-eq0 in
    call_deep k a.calls a.x a.g a.at a.steps a.slots.now a.heads.now a.env.now c.if-steps-eq0.false
    c.if-calls-eq0.true (shown halted.result) halted.ensures

pub work_call-returns-in_err-given : goal.work_call-returns-in_err-given
work_call-returns-in_err-given t c =
    let a = c.args in
    let k = code a.kinds.now.now a.operands.now.now a.table.now in
    let tree = c.work_tree in
    let halted = c.in_err-given.field-0.0 in
    let exit = err_from_is_err_and c.from_residual.result c.from_residual.ensures.1 in
    rw (exit.1, exit.2)
    (call_stops k a.calls a.x a.g a.at a.steps a.slots.now a.heads.now a.env.now c.if-steps-eq0.false
    c.if-calls-eq0.false c.start_in-head.result c.start_in-head.ensures.0 c.name_at-n.result c.name_at-n.ensures
    c.pass_arguments.new.env c.pass_arguments.ensures c.set_function.new.env c.set_function.ensures
    (shown (Err halted)) tree.new.slots tree.new.heads tree.new.env c.in_err-given.ensures (cause_real halted.cause))

pub work_call-returns : goal.work_call-returns
work_call-returns t c =
    let a = c.args in
    let k = code a.kinds.now.now a.operands.now.now a.table.now in
    let tree = c.work_tree in
    let given = c.in_ok-given.given in
    let fit : SFits w64 given.value = search rules in
    call_goes k a.calls a.x a.g a.at a.steps a.slots.now a.heads.now a.env.now c.if-steps-eq0.false
    c.if-calls-eq0.false c.start_in-head.result c.start_in-head.ensures.0 c.name_at-n.result c.name_at-n.ensures
    c.pass_arguments.new.env c.pass_arguments.ensures c.set_function.new.env c.set_function.ensures
    (shown (Ok given)) tree.new.slots tree.new.heads tree.new.env c.in_ok-given.ensures refl c.bind.new.env
    (rw (to_z-of_z {z = given.value} fit) at c.bind.ensures) (shown c.go_on.result)
    (rw (to_z-of_z {z = given.value} fit) at c.go_on.ensures)

-- ---- a loop

pub work_loop-returns-then-steps-eq0 : goal.work_loop-returns-then-steps-eq0
work_loop-returns-then-steps-eq0 t c =
    let a = c.args in
    let k = code a.kinds.now.now a.operands.now.now a.table.now in
    loop_spent (tree_on a.lines (call_on a.calls k) k a.calls) k a.calls a.x (kind_of a.l) (first_name a.l)
    (second_name a.l) (atoms_of a.l) a.at a.steps a.slots.now a.heads.now a.env.now (shown c.halt.result)
    c.if-steps-eq0.true c.halt.ensures

pub work_loop-returns-in_default : goal.work_loop-returns-in_default
work_loop-returns-in_default t c =
    let a = c.args in
    let k = code a.kinds.now.now a.operands.now.now a.table.now in
    let began = c.begin_loop in
    loop_dry (tree_on a.lines (call_on a.calls k) k a.calls) k a.calls a.x (kind_of a.l) (first_name a.l)
    (second_name a.l) (atoms_of a.l) a.at a.steps a.slots.now a.heads.now a.env.now c.if-steps-eq0.false
    began.new.slots began.new.heads began.new.env
    (subst (Begins (kind_of a.l) (first_name a.l) (second_name a.l) (element_depth a.table.now a.calls a.x a.env.now)
    (map (word_of a.calls a.env.now) (atoms_of a.l)) (memory (store_of a.slots.now a.heads.now) a.env.now)
    began.new.slots began.new.heads began.new.env) c.in_default.is began.ensures)
    (shown c.halt-in_default.result) c.halt-in_default.ensures

pub work_loop-returns : goal.work_loop-returns
work_loop-returns t c =
    let a = c.args in
    let k = code a.kinds.now.now a.operands.now.now a.table.now in
    let began = c.begin_loop in
    let passes = c.work_pass-r in
    let rows = c.rows_before in
    let ended = c.end_loop in
    loop_goes (tree_on a.lines (call_on a.calls k) k a.calls) k a.calls a.x (kind_of a.l) (first_name a.l)
    (second_name a.l) (atoms_of a.l) a.at a.steps a.slots.now a.heads.now a.env.now c.if-steps-eq0.false
    began.new.slots began.new.heads began.new.env c.in-Some.passes
    (subst (Begins (kind_of a.l) (first_name a.l) (second_name a.l) (element_depth a.table.now a.calls a.x a.env.now)
    (map (word_of a.calls a.env.now) (atoms_of a.l)) (memory (store_of a.slots.now a.heads.now) a.env.now)
    began.new.slots began.new.heads began.new.env) c.in-Some.is began.ensures) (a.at + rows.result)
    (ap (λ (n : ℕ). a.at + n) rows.ensures.0 ∙ omega arith) (shown passes.result) passes.new.slots passes.new.heads
    passes.new.env passes.ensures c.end_in-next.result c.end_in-next.ensures.0 (shown ended.result) ended.new.slots
    ended.new.heads ended.new.env ended.ensures

-- ---- the passes of a loop

pub work_pass-returns-then-s-eq0 : goal.work_pass-returns-then-s-eq0
work_pass-returns-then-s-eq0 t c =
    pass_dry c.loop-i.invariant.passing c.loop-i-test.true c.if-s-eq0.true (shown c.halt.result) c.halt.ensures

pub work_pass-returns-in_err-given : goal.work_pass-returns-in_err-given
work_pass-returns-in_err-given t c =
    let tree = c.work_tree in
    let halted = c.in_err-given.field-0.0 in
    let exit = err_from_is_err_and c.from_residual.result c.from_residual.ensures.1 in
    rw (exit.1, exit.2)
    (pass_stops c.loop-i.invariant.passing c.loop-i-test.true c.if-s-eq0.false c.begin_pass.new.env
    c.begin_pass.ensures (shown (Err halted)) tree.new.slots tree.new.heads tree.new.env c.in_err-given.ensures
    (cause_real halted.cause))

pub work_pass-returns-in_default : goal.work_pass-returns-in_default
work_pass-returns-in_default t c =
    let a = c.args in
    let tree = c.work_tree in
    let ended = c.end_pass-carried in
    let given = c.in_ok-given.given in
    let fit : SFits w64 given.value = search rules in
    let doubt = not_taken (subst (CarriesOn a.l.way (cell_of a.l.carried) (to_z w64 c.loop-i.v-bits) c.loop-i.i
    (get_or tree.new.env (place a.calls a.l.first) (pos 0)) given.value (store_of tree.new.slots tree.new.heads)
    (store_of ended.new.slots ended.new.heads)) c.in_default.is
    (rw (to_z-of_z {z = given.value} fit) at ended.ensures)) in
    pass_doubts c.loop-i.invariant.passing c.loop-i-test.true c.if-s-eq0.false c.begin_pass.new.env
    c.begin_pass.ensures (shown (Ok given)) tree.new.slots tree.new.heads tree.new.env c.in_ok-given.ensures refl
    doubt.0 ended.new.slots ended.new.heads doubt.1 (shown c.halt-in_default.result) c.halt-in_default.ensures

pub work_pass-loop-i-preserved : goal.work_pass-loop-i-preserved
work_pass-loop-i-preserved t c =
    let a = c.args in
    let v = to_z w64 c.loop-i.v-bits in
    let i = c.loop-i.i in
    let inv = c.loop-i.invariant in
    let tree = c.work_tree in
    let ended = c.end_pass-carried in
    let given = c.in_ok-given.given in
    let u = c.in-Some.u in
    let fit : SFits w64 given.value = search rules in
    let fits : SFits w64 u = search rules in
    let w = get_or tree.new.env (place a.calls a.l.first) (pos 0) in
    let says = taken (subst (CarriesOn a.l.way (cell_of a.l.carried) v i w given.value
    (store_of tree.new.slots tree.new.heads) (store_of ended.new.slots ended.new.heads)) c.in-Some.is
    (rw (to_z-of_z {z = given.value} fit) at ended.ensures)) in
    rw (to_z-of_z {z = u} fits) (record {
      passing = pass_goes inv.passing c.loop-i-test.true c.if-s-eq0.false c.begin_pass.new.env c.begin_pass.ensures
          (shown (Ok given)) tree.new.slots tree.new.heads tree.new.env c.in_ok-given.ensures refl u ended.new.slots
          ended.new.heads
          (carries_on a.l.way a.l.carried v i w inv.stays (shown (Ok given)) (store_of tree.new.slots tree.new.heads)
          (store_of ended.new.slots ended.new.heads) tree.new.env u says.0 says.1 says.2)
          (record {
            slots_long = ended.auto.slots ∙ tree.auto.slots;
            heads_long = ended.auto.heads ∙ tree.auto.heads;
            env_long = omega arith;
          });
      stays = stays_on a.l.way a.l.carried v given.value u inv.stays says.1;
    })

pub work_pass-returns : goal.work_pass-returns
work_pass-returns t c = pass_end c.loop-i.invariant.passing (omega arith) (shown c.go_on.result) c.go_on.ensures
