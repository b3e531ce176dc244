-- The measure is the depth. In the loop the entries of the words that are left, put at q, give the whole.
use Rattle.semantics.specs.Words.{store_of}
use Rattle.saved_write.specs.Writing.{written}
use Rattle.saved_write.proofs.Laws.{Going}
use Rattle.saved_write.proofs.+write_value.Given as goal

abbrev pub decreases-write_value : goal.decreases-write_value
decreases-write_value l = l.depth

abbrev pub invariant-loop-i : goal.invariant-loop-i
invariant-loop-i l =
    Going (store_of l.slots l.heads) l.depth l.w l.k (written l.fn.p l.fn.saved) (written l.initial.q l.initial.saved)
    (written l.q l.saved) l.i
