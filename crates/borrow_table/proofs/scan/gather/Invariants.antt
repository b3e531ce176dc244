-- The rows before p are read.
use Rattle.borrow_table.proofs.Reading.{Reading}
use Rattle.borrow_table.proofs.scan.gather.Given as goal

abbrev pub invariant-loop-p : goal.invariant-loop-p
invariant-loop-p l =
    Reading l.rows l.f l.q l.initial.links.count l.initial.links.list l.names l.links.list l.links.count l.line l.left
    l.p
