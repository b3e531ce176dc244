-- The measure is the levels. In the loop so many of the cell's elements are released.
use Rattle.prelude.specs.Kit.{◌-◌}
use Rattle.semantics.specs.Words.{store_of}
use Rattle.store_release.proofs.Releasing.{Releasing}
use Rattle.store_release.proofs.+release.Given as goal

abbrev pub decreases-release : goal.decreases-release
decreases-release l = l.levels

abbrev pub invariant-loop-word : goal.invariant-loop-word
invariant-loop-word l =
    Releasing (l.levels - 1) l.word-items (store_of l.initial.slots l.initial.heads) l.freed l.word-index
    (store_of l.slots l.heads)
