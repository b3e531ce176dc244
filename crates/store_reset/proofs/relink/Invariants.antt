-- The cells from c on are linked.
use Rattle.semantics.specs.Words.{store_of}
use Rattle.store_reset.proofs.Linking.{Linking}
use Rattle.store_reset.proofs.relink.Given as goal

abbrev pub invariant-loop-c : goal.invariant-loop-c
invariant-loop-c l = Linking (store_of l.initial.slots l.initial.heads) (store_of l.slots l.heads) l.c l.head
