-- The measure is the depth. In the loop those counted and the entries of the words that are left give the whole.
use Rattle.prelude.specs.Kit.{◌≤◌}
use Rattle.semantics.specs.Words.{store_of}
use Rattle.saved_write.proofs.Laws.{Counting}
use Rattle.saved_write.proofs.+count_value.Given as goal

abbrev pub decreases-count_value : goal.decreases-count_value
decreases-count_value l = l.depth

abbrev pub invariant-loop-i : goal.invariant-loop-i
invariant-loop-i l = (l.counted ≤ 4096) × Counting (store_of l.slots l.heads) l.depth l.w l.n l.counted l.i
