-- The functions from 1 to before f are read.
use Rattle.prelude.specs.Kit.{◌≡◌, length}
use Rattle.flatten_functions.specs.Script.{Translatable, Resulting}
use Rattle.borrow_table.proofs.Gathering.{Gathering}
use Rattle.borrow_table.proofs.borrow_table.Given as goal

abbrev pub invariant-loop-f : goal.invariant-loop-f
invariant-loop-f l =
    (t : Translatable l.kinds l.operands l.functions l.starts) × Resulting t.tree l.results
    × Gathering t.tree l.f l.first l.links.list l.links.count × (length l.rows ≡ 2048) × (length l.notes ≡ 2048)
