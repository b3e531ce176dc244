-- The first k links are followed; then those that lead to the entries taken away, which are never more than 256.
use Rattle.prelude.specs.Kit.{◌<◌, ◌-◌, ◌≡◌, length}
use Rattle.borrow_table.proofs.Working.{Sweeping, Chased, Chasing}
use Rattle.borrow_table.proofs.rounds.rework.Given as goal

abbrev pub invariant-loop-k : goal.invariant-loop-k
invariant-loop-k l = Sweeping l.links.list l.links.count l.initial.t l.t l.m l.k × (length l.after ≡ 2048)

abbrev pub invariant-loop-p : goal.invariant-loop-p
invariant-loop-p l = Chasing l.links.list l.links.count l.initial.t l.t l.initial.m l.m

abbrev pub decreases-loop-p : goal.decreases-loop-p
decreases-loop-p l = 256 - l.p

abbrev pub invariant-loop-j : goal.invariant-loop-j
invariant-loop-j l = Chased l.links.list l.links.count l.initial.t l.t l.m × (0 < l.m)

abbrev pub decreases-loop-j : goal.decreases-loop-j
decreases-loop-j l = l.j
