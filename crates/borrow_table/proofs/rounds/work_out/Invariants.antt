-- The rounds so far are together one reduction; each but the last takes an entry away.
use Rattle.prelude.specs.Kit.{◌≡◌, length, take}
use Rattle.borrow_table.specs.Rounds.{Reduced, entries}
use Rattle.borrow_table.proofs.rounds.work_out.Given as goal

abbrev pub invariant-rounds : goal.invariant-rounds
invariant-rounds l = Reduced (take l.links.count l.links.list) l.initial.t l.t × (length l.after ≡ 2048)

abbrev pub decreases-rounds : goal.decreases-rounds
decreases-rounds l = entries l.t
