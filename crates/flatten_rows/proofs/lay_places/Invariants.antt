-- As many places are laid as the loop has come.
use Rattle.flatten_rows.proofs.Laws.{Placing}
use Rattle.flatten_rows.proofs.lay_places.Given as goal

abbrev pub invariant-loop-i : goal.invariant-loop-i
invariant-loop-i l =
    let s = l.initial in
    Placing l.places l.p l.m s.rows s.notes s.last l.rows l.notes l.last l.i
