-- The words before this one name cells.
use Rattle.prelude.specs.Kit.{◌-◌, length}
use Rattle.semantics.specs.Words.{store_of}
use Rattle.store_check.proofs.Comparing.{names_at}
use Rattle.store_check.proofs.Ranges.{Testing}
use Rattle.store_check.proofs.all_name_cells.Given as goal

abbrev pub invariant-loop-w : goal.invariant-loop-w
invariant-loop-w l =
    Testing (names_at (store_of l.slots l.heads) (l.depth - 1) l.words) 0 (length l.words) l.w-index
