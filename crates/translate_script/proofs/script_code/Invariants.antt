-- The functions from the i-th on are written, with the depths of their names and their places.
use Rattle.prelude.specs.Kit.{◌≡◌, length}
use Rattle.semantics.specs.Borrow.{borrowed}
use Rattle.annotate_rows.specs.Wrote.{Wrote, Room}
use Rattle.flatten_functions.specs.Script.{Translatable, Resulting}
use Rattle.translate_script.specs.Depths.{DepthsFrom}
use Rattle.translate_script.specs.Places.{rows_from, PlacesFrom}
use Rattle.translate_script.proofs.script_code.Given as goal

abbrev pub invariant-loop-i : goal.invariant-loop-i
invariant-loop-i l =
    let s = l.initial in
    (t : Translatable l.kinds l.operands l.functions s.starts) × Resulting t.tree l.results
    × Room l.ks l.os l.v × Wrote s.ks s.os l.ks l.os l.w l.v (rows_from t.tree l.i)
    × DepthsFrom l.i t.tree s.table l.table × (length l.rows ≡ 2048) × (length l.notes ≡ 2048)
    × (l.borrowing ≡ borrowed t.tree) × PlacesFrom l.i t.tree l.w s.starts l.starts
