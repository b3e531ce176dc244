-- The cells before this one are as they should be.
use Rattle.semantics.specs.Words.{store_of}
use Rattle.store_check.specs.Fitting.{fits}
use Rattle.store_check.proofs.Ranges.{Testing}
use Rattle.store_check.proofs.cells_are_sound.Given as goal

abbrev pub invariant-loop-c : goal.invariant-loop-c
invariant-loop-c l = Testing (fits (store_of l.slots l.heads) l.met l.holders) 0 l.c-end l.c
