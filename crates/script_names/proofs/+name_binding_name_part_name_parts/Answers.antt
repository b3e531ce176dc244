use Rattle.std.proofs.Common.{ℕ, ◌<◌, arith, refl, sym, ◌∙◌, length}
use Rattle.std.specs.Prelude.{Ok}
use Rattle.semantics.specs.File.{at_part}
use Rattle.script_read.proofs.Nodes.{Seen, seen, inside}
use Rattle.script_read.proofs.Turns.{none_done, one_more, one_stops, passed_on}
use Rattle.script_names.specs.Walk.{scope, names}
use Rattle.script_names.proofs.Laws.{no_levels, known_name, unknown_name, binding, last_part, no_callee, others}
use Rattle.script_names.proofs.Laws.{no_node}
use Rattle.script_names.proofs.Laws.{at_scope, rebound, unbound, unknown_told, unknown_passed}
use Rattle.script_names.proofs.+name_binding_name_part_name_parts.Goals as goal
use Rattle.script_names.proofs.+name_binding_name_part_name_parts.Goals.{name_part-In_ok-node}

-- the node of a part is there, and so is the next place
node_seen : {t : ℕ} (c : name_part-In_ok-node t) →
    let n = c.in_ok-node.node in
    Seen c.args.kinds.now c.args.operands.now at_part c.args.at n.kind n.low n.high
node_seen c = seen _ _ at_part _ (Ok c.in_ok-node.node) c.in_ok-node.ensures _ refl

there : {t : ℕ} (c : name_part-In_ok-node t) → c.args.at < length c.args.kinds.now
there c =
    inside c.args.kinds.now c.args.operands.now at_part c.args.at (Ok c.in_ok-node.node) c.in_ok-node.ensures _ refl

pub name_part-returns-then-levels-eq0 : goal.name_part-returns-then-levels-eq0
name_part-returns-then-levels-eq0 t c =
    (unknown_told _ _ c.unknown.ensures ∙ no_levels _ _ _ _ _ _ c.if-levels-eq0.true, refl)

pub name_part-returns-in_err-node : goal.name_part-returns-in_err-node
name_part-returns-in_err-node t c =
    let fault = c.in_err-node.ensures in
    (unknown_passed _ _ _ c.from_residual.ensures.1 fault.0 ∙ no_node _ _ _ _ _ _ fault.1.0 fault.1.1, refl)

pub name_part-overflow_add-result : goal.name_part-overflow_add-result
name_part-overflow_add-result t c = omega (arith, there (goal.at.name_part-overflow_add-result t c).In_ok-node)

pub name_part-returns-then-known-low : goal.name_part-returns-then-known-low
name_part-returns-then-known-low t c = (
  known_name (node_seen (goal.at.name_part-returns-then-known-low t c).In_ok-node) _ _ _
      c.if-levels-eq0.false c.if-kind-eq-NAME.true (at_scope _ _ _ c.if-known-low.true),
  refl,
)

pub name_part-returns-else-known-low : goal.name_part-returns-else-known-low
name_part-returns-else-known-low t c = (
  unknown_told _ _ c.unknown-else-known-low.ensures
      ∙ unknown_name (node_seen (goal.at.name_part-returns-else-known-low t c).In_ok-node) _ _ _
      c.if-levels-eq0.false c.if-kind-eq-NAME.true (at_scope _ _ _ c.if-known-low.false),
  refl,
)

pub name_part-overflow_sub-bound : goal.name_part-overflow_sub-bound
name_part-overflow_sub-bound t c =
    last_part _ _ _ _ (sym c.is_binding.ensures ∙ c.if-is_binding.true) c.parts_of-count.ensures

pub name_part-overflow_add-at : goal.name_part-overflow_add-at
name_part-overflow_add-at t c = omega (arith, there (goal.at.name_part-overflow_add-at t c).In_ok-node)

pub name_part-returns-then-is_binding : goal.name_part-returns-then-is_binding
name_part-returns-then-is_binding t c = (
  binding (node_seen (goal.at.name_part-returns-then-is_binding t c).In_ok-node) _ _ _
      c.if-levels-eq0.false c.if-kind-eq-NAME.false (sym c.is_binding.ensures ∙ c.if-is_binding.true) _ _
      c.parts_of-count.ensures c.second_name.ensures _ c.name_binding.ensures.0,
  c.name_binding.ensures.1,
)

pub name_part-returns-then-calls_none : goal.name_part-returns-then-calls_none
name_part-returns-then-calls_none t c = (
  unknown_told _ _ c.unknown-then-calls_none.ensures
      ∙ no_callee (node_seen (goal.at.name_part-returns-then-calls_none t c).In_ok-node) _ _ _
      c.if-levels-eq0.false c.if-kind-eq-NAME.false (sym c.is_binding.ensures ∙ c.if-is_binding.false)
      (sym c.calls_none.ensures ∙ c.if-calls_none.true),
  refl,
)

pub name_part-overflow_add-at-2 : goal.name_part-overflow_add-at-2
name_part-overflow_add-at-2 t c = omega (arith, there (goal.at.name_part-overflow_add-at-2 t c).In_ok-node)

pub name_part-returns : goal.name_part-returns
name_part-returns t c = (
  others (node_seen (goal.at.name_part-returns t c).In_ok-node) _ _ _ c.if-levels-eq0.false
      c.if-kind-eq-NAME.false (sym c.is_binding.ensures ∙ c.if-is_binding.false)
      (sym c.calls_none.ensures ∙ c.if-calls_none.false) _ c.parts_of-count.ensures _ c.name_parts.ensures.0,
  c.name_parts.ensures.1,
)

pub name_binding-returns : goal.name_binding-returns
name_binding-returns t c =
    let a = c.args in
    rebound (names a.kinds.now a.operands.now a.functions a.levels) a.known.now a.bound.first a.bound.second
    a.bound.before a.at _ _ _ _ (omega arith) (omega arith) (omega arith) c.name_parts.ensures.1
    c.name_part-outcome.ensures.1 c.in_ok-body.ensures.0 c.name_part-outcome.ensures.0

pub name_binding-returns-in_err-body : goal.name_binding-returns-in_err-body
name_binding-returns-in_err-body t c =
    let a = c.args in (
      passed_on _ _ c.from_residual.ensures.1
          ∙ unbound (names a.kinds.now a.operands.now a.functions a.levels) a.known.now a.bound.first a.bound.second
          a.bound.before a.at _ _ c.in_err-body.ensures.0,
      c.name_parts.ensures.1,
    )

pub name_parts-loop-init : goal.name_parts-loop-init
name_parts-loop-init t c = (refl, none_done _ c.args.at)

pub name_parts-returns-in_err-p : goal.name_parts-returns-in_err-p
name_parts-returns-in_err-p t c =
    let a = c.args in
    let same = c.loop.invariant.0 in (
      passed_on _ _ c.from_residual.ensures.1
          ∙ one_stops (names a.kinds.now a.operands.now a.functions a.levels (scope a.known.now)) _ _ a.at
          c.loop.invariant.1 c.loop-test.true (rw same at c.in_err-p.ensures.0),
      c.name_part.ensures.1 ∙ same,
    )

pub name_parts-loop-preserved : goal.name_parts-loop-preserved
name_parts-loop-preserved t c =
    let a = c.args in
    let same = c.loop.invariant.0 in (
      c.name_part.ensures.1 ∙ same,
      one_more (names a.kinds.now a.operands.now a.functions a.levels (scope a.known.now)) _ a.at
          c.loop.invariant.1 (rw same at c.in_ok-p.ensures.0),
    )
