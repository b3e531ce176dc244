-- What each row makes of what is known before it.
use Rattle.prelude.specs.Kit.{arith, refl, ◌∙◌, sym}
use Rattle.borrow_table.proofs.Reading.{reading_begins, reading_ends, reading_line, reading_past}
use Rattle.borrow_table.proofs.Reading.{reading_other, reading_link, reading_hand, some_room, below_all}
use Rattle.borrow_table.proofs.scan.gather.Goals as goal
use Rattle.borrow_table.proofs.scan.gather.Goals.{then-kind-eq-CALL, else-kind-eq-CALL+then-hands_by}
use Rattle.borrow_table.proofs.scan.gather.Goals.{else-kind-eq-CALL+else-hands_by}

pub loop-p-init : goal.loop-p-init
loop-p-init c = reading_begins _ _ _ _ c.args.links.now.list (omega arith)

pub loop-p-preserved-then-left-eq0 : goal.loop-p-preserved-then-left-eq0
loop-p-preserved-then-left-eq0 c =
    reading_line c.loop-p.invariant c.loop-p-test.true _ _ refl c.if-left-eq0.true c.atoms_after-left.ensures

pub loop-p-preserved-then-v-ge8 : goal.loop-p-preserved-then-v-ge8
loop-p-preserved-then-v-ge8 c =
    reading_past c.loop-p.invariant c.loop-p-test.true _ refl c.if-left-eq0.false c.if-v-ge8.true

pub link_in-requires : goal.link_in-requires
link_in-requires c = (
  c.requires.f_bound,
  c.if-v-ge8.false,
  below_all _ _ c.loop-p.invariant.few c.if-left-eq0.false (rw c.to_le_bytes.ensures at c.if-kind-eq-CALL.true),
)

pub bounds-links-links : goal.bounds-links-links
bounds-links-links c =
    some_room c.loop-p.invariant c.loop-p-test.true _ refl c.if-left-eq0.false c.requires.q_bound_2 c.if-v-ge8.false
    (rw c.to_le_bytes.ensures at c.if-kind-eq-CALL.true)

pub loop-p-preserved : goal.loop-p-preserved
loop-p-preserved c =
    let v = c.loop-p.invariant in
    let turn = c.loop-p-test.true in
    let some = c.if-left-eq0.false in
    let low = c.if-v-ge8.false in
    let bytes = c.to_le_bytes.ensures in
    elim c.if-kind-eq-CALL.branch [
      | then-kind-eq-CALL w ↦
          rw (w.links-is, w.names-is, w.link_in.ensures)
          (reading_link v turn _ refl some low (rw bytes at w.if-kind-eq-CALL.true) c.requires.q_bound_2)
      | else-kind-eq-CALL+then-hands_by w ↦
          rw (w.links-is, w.names-is)
          (reading_hand v turn _ refl some low (rw bytes at w.if-kind-eq-CALL.false)
          (rw bytes at (sym w.hands_by.ensures ∙ w.if-hands_by.true)))
      | else-kind-eq-CALL+else-hands_by w ↦
          rw (w.links-is, w.names-is)
          (reading_other v turn _ refl some (rw bytes at w.if-kind-eq-CALL.false)
          (rw bytes at (sym w.hands_by.ensures ∙ w.if-hands_by.false)))
    ]

pub returns : goal.returns
returns c = reading_ends c.loop-p.invariant c.loop-p-test.false
