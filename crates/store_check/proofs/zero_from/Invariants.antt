-- The slots before this one are zero.
use Rattle.semantics.specs.Words.{slots_at}
use Rattle.store_check.proofs.Comparing.{zero_at}
use Rattle.store_check.proofs.Ranges.{Testing}
use Rattle.store_check.proofs.zero_from.Given as goal

abbrev pub invariant-loop-i : goal.invariant-loop-i
invariant-loop-i l = Testing (zero_at (slots_at l.slots l.c)) l.from 16 l.i
