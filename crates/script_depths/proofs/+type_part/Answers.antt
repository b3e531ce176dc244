-- What the five functions that type parts have to show.
use Rattle.prelude.specs.Kit.{arith, ◌≡◌, refl, ◌∙◌, sym, rules}
use Rattle.semantics.specs.File.{at_part}
use Rattle.script_read.proofs.Nodes.{fitting, fitting_inside}
use Rattle.script_read.proofs.Tables.{put_back, put_back_two}
use Rattle.script_rules.proofs.Rules.{few_parts}
use Rattle.script_depths.specs.Walk.{mismatch_at}
use Rattle.script_depths.proofs.Laws.{no_levels, no_node, a_number, a_name, unknown_name, a_let}
use Rattle.script_depths.proofs.Laws.{a_loop, any_other, let_bound, loop_bound, passed_on}
use Rattle.script_depths.proofs.Laws.{going_starts, going_on, part_faulty, judged_good, judged_bad}
use Rattle.script_depths.proofs.+type_part.Goals as goal
use Rattle.script_depths.proofs.+type_part.Goals.{type_plain-in-Some, type_plain-in_default+in_ok-part}

-- ---- a part

pub type_part-returns-then-levels-eq0 : goal.type_part-returns-then-levels-eq0
type_part-returns-then-levels-eq0 t c = (rw c.mismatch.ensures (no_levels _ _ _ _ _ _ c.if-levels-eq0.true), refl)

pub type_part-returns-in_err-node : goal.type_part-returns-in_err-node
type_part-returns-in_err-node t c =
    let fault = c.in_err-node.ensures in
    let e = passed_on _ _ c.from_residual.ensures.1 in
    (rw fault.0 at e ∙ no_node _ _ _ _ _ _ _ fault.1.1, refl)

pub type_part-overflow_add-result : goal.type_part-overflow_add-result
type_part-overflow_add-result t c = omega (arith, fitting_inside _ _ at_part _ _ c.in_ok-node.ensures)

pub type_part-overflow_add-result-in-3 : goal.type_part-overflow_add-result-in-3
type_part-overflow_add-result-in-3 t c = omega (arith, fitting_inside _ _ at_part _ _ c.in_ok-node.ensures)

pub type_part-overflow_add-at : goal.type_part-overflow_add-at
type_part-overflow_add-at t c = omega (arith, fitting_inside _ _ at_part _ _ c.in_ok-node.ensures)

pub type_part-type_loop-requires : goal.type_part-type_loop-requires
type_part-type_loop-requires t c =
    (omega arith, fitting_inside _ _ at_part _ _ c.in_ok-node.ensures)

pub type_part-type_plain-requires : goal.type_part-type_plain-requires
type_part-type_plain-requires t c =
    let n = fitting _ _ at_part _ _ c.in_ok-node.ensures in
    (omega arith, (fitting_inside _ _ at_part _ _ c.in_ok-node.ensures, n.lowest, n.highest))

pub type_part-returns-in-2 : goal.type_part-returns-in-2
type_part-returns-in-2 t c =
    (a_number (fitting _ _ at_part _ _ c.in_ok-node.ensures) _ _ _ c.if-levels-eq0.false c.in-2.is, refl)

pub type_part-returns-in_err-depth-in-3 : goal.type_part-returns-in_err-depth-in-3
type_part-returns-in_err-depth-in-3 t c =
    let node = fitting _ _ at_part _ _ c.in_ok-node.ensures in
    let e = c.in_err-depth-in-3.ensures in
    let same : c.in_err-depth-in-3.field-0.0 ≡ mismatch_at c.args.at =
    let z = rw (e.ok_part, c.mismatch-in-3.ensures) at e.value in cc in (
      passed_on _ _ c.from_residual-in_err-depth-in-3.ensures.1
          ∙ rw same (unknown_name node _ _ _ c.if-levels-eq0.false c.in-3.is (sym e.ok_part ∙ c.known.ensures)),
      refl,
    )

pub type_part-returns-in_ok-depth-in-3 : goal.type_part-returns-in_ok-depth-in-3
type_part-returns-in_ok-depth-in-3 t c =
    let node = fitting _ _ at_part _ _ c.in_ok-node.ensures in
    let is = sym c.in_ok-depth-in-3.ensures.ok_part ∙ c.known.ensures in
    (a_name node _ _ _ c.if-levels-eq0.false c.in-3.is _ is, refl)

pub type_part-returns-in-7 : goal.type_part-returns-in-7
type_part-returns-in-7 t c =
    let e = c.type_let.ensures in
    (a_let (fitting _ _ at_part _ _ c.in_ok-node.ensures) _ _ _ c.if-levels-eq0.false c.in-7.is _ e.0, e.1)

pub type_part-returns-in_default : goal.type_part-returns-in_default
type_part-returns-in_default t c =
    let e = c.type_loop.ensures in (
      a_loop (fitting _ _ at_part _ _ c.in_ok-node.ensures) _ _ _ c.if-levels-eq0.false (search rules)
          (sym c.if-is_loop.ensures) _ e.0,
      e.1,
    )

pub type_part-returns-in_default-2 : goal.type_part-returns-in_default-2
type_part-returns-in_default-2 t c =
    let e = c.type_plain.ensures in (
      any_other (fitting _ _ at_part _ _ c.in_ok-node.ensures) _ _ _ c.if-levels-eq0.false (search rules)
          (sym c.if-is_loop.ensures) _ e.0,
      e.1,
    )

-- ---- a let

pub type_let-returns : goal.type_let-returns
type_let-returns t c =
    let bound = c.in_ok-bound.ensures in
    let body = c.type_part-body.ensures in (
      let_bound _ _ _ _ _ c.args.x _ _ bound.0 _ _ _ _ (omega arith) (omega arith) bound.1 refl body.0,
      put_back 0 _ _ _ _ _ bound.1 body.1,
    )

-- ---- a loop

pub type_loop-returns-in_err-body : goal.type_loop-returns-in_err-body
type_loop-returns-in_err-body t c =
    let a = c.args in
    let start = c.in_ok-start.ensures in
    let array = c.in_ok-array.ensures in
    let body = c.in_err-body.ensures in (
      loop_bound _ _ _ _ _ a.at a.node.kind a.node.low a.node.high _ start.0 _ _ _ refl start.1 _ array.0 _ _ _ _ _ _
          (omega arith) (omega arith) (omega arith) array.1 refl c.if-array-eq0.false c.second_name-j.ensures body.0
          (passed_on _ _ c.from_residual-in_err-body.ensures.1),
      put_back_two 0 _ _ _ _ _ _ _ (array.1 ∙ start.1) body.1,
    )

pub type_loop-returns : goal.type_loop-returns
type_loop-returns t c =
    let a = c.args in
    let start = c.in_ok-start.ensures in
    let array = c.in_ok-array.ensures in
    let body = c.in_ok-body.ensures in (
      loop_bound _ _ _ _ _ a.at a.node.kind a.node.low a.node.high _ start.0 _ _ _ refl start.1 _ array.0 _ _ _ _ _ _
          (omega arith) (omega arith) (omega arith) array.1 refl c.if-array-eq0.false c.second_name-j.ensures body.0
          c.end_loop.ensures,
      put_back_two 0 _ _ _ _ _ _ _ (array.1 ∙ start.1) body.1,
    )

-- ---- any other node

pub type_plain-loop-i-init : goal.type_plain-loop-i-init
type_plain-loop-i-init t c =
    let n = c.args.node in (
      refl,
      going_starts _ _ _ _
          (omega (arith, c.parts_of-n.ensures, few_parts n.kind n.low n.high c.requires.1 c.requires.2)) refl,
    )

pub type_plain-returns-in_err-part : goal.type_plain-returns-in_err-part
type_plain-returns-in_err-part t c =
    let v = c.loop-i.invariant in
    let part = c.in_err-part.ensures in (
      passed_on _ _ c.from_residual.ensures.1
          ∙ part_faulty _ _ _ _ _ _ _ _ c.parts_of-n.ensures v.1 c.loop-i-test.true _ (rw v.0 at part.0) _ _ refl,
      part.1 ∙ v.0,
    )

pub type_plain-loop-i-preserved : goal.type_plain-loop-i-preserved
type_plain-loop-i-preserved t c =
    let v = c.loop-i.invariant in
    elim c.match-atom_depth.branch [
      | type_plain-in-Some w ↦
          let atom = rw v.0 at w.in-Some.ensures in
          rw (w.table-is, w.ds-is, w.p-is) (v.0, going_on v.1 c.loop-i-test.true _ (atom.1 _) _ _ refl)
      | type_plain-in_default+in_ok-part w ↦
          let part = w.in_ok-part.ensures in
          rw (w.table-is, w.ds-is, w.p-is)
          (part.1 ∙ v.0, going_on v.1 c.loop-i-test.true _ (rw v.0 at part.0) _ _ refl)
    ]

pub type_plain-returns-in_err-depth : goal.type_plain-returns-in_err-depth
type_plain-returns-in_err-depth t c =
    let v = c.loop-i.invariant in
    let e = c.in_err-depth.ensures in
    let same : c.in_err-depth.field-0.0 ≡ mismatch_at c.args.at =
    let z = rw (e.ok_part, c.mismatch.ensures) at e.value in cc in (
      passed_on _ _ c.from_residual-in_err-depth.ensures.1
          ∙ rw same
          (judged_bad _ _ _ _ _ _ _ _ c.parts_of-n.ensures v.1 c.loop-i-test.false _ c.judge.ensures e.ok_part),
      v.0,
    )

pub type_plain-returns : goal.type_plain-returns
type_plain-returns t c =
    let v = c.loop-i.invariant in (
      judged_good _ _ _ _ _ _ _ _ c.parts_of-n.ensures v.1 c.loop-i-test.false _ c.judge.ensures _
          c.in_ok-depth.ensures.ok_part,
      v.0,
    )
