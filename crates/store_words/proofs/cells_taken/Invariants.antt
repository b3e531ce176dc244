-- Of the first c cells so many are in use.
use Rattle.semantics.specs.Words.{store_of}
use Rattle.store_words.proofs.Counting.{Counting}
use Rattle.store_words.proofs.cells_taken.Given as goal

abbrev pub invariant-loop-c : goal.invariant-loop-c
invariant-loop-c l = Counting (store_of l.slots l.heads) l.c l.taken
