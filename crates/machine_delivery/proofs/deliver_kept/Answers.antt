-- `deliver_kept` meets its contract.
use Rattle.prelude.specs.Kit.{rules, pos}
use Rattle.semantics.specs.Words.{store_of}
use Rattle.store_reset.proofs.Saved.{put_back_is}
use Rattle.machine_spec.specs.Machine.{code}
use Rattle.machine_delivery.proofs.Laws.{delivery_stops, delivery_goes}
use Rattle.machine_delivery.proofs.deliver_kept.Goals as goal
use Rattle.machine_delivery.proofs.deliver_kept.Goals.{then-stopped, else-stopped}

pub returns : goal.returns
returns c =
    let a = c.args in
    let tried = c.attempt-r in
    elim c.if-stopped.branch [
      | then-stopped w ↦
          let back = w.put_back in
          rw (w.slots-is, w.heads-is)
          (delivery_stops (code a.kinds.now a.operands.now a.table.now) a.readings.now a.depth a.budget
          (store_of a.slots.now a.heads.now) tried.result tried.new.slots tried.new.heads tried.ensures
          (search rules) back.new.slots back.new.heads
          (put_back_is a.slots.now a.heads.now c.save_words.new.saved c.save_words-2.new.saved
          (c.save_words.ensures (pos 0)) (c.save_words-2.ensures 0) tried.auto.slots tried.auto.heads back.ensures))
      | else-stopped w ↦
          rw (w.slots-is, w.heads-is)
          (delivery_goes (code a.kinds.now a.operands.now a.table.now) a.readings.now a.depth a.budget
          (store_of a.slots.now a.heads.now) tried.result tried.new.slots tried.new.heads tried.ensures
          (search rules))
    ]
