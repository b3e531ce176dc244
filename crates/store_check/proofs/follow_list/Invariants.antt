-- What is left of the list gives what the whole gives.
use Rattle.prelude.specs.Kit.{◌-◌, get_or}
use Rattle.semantics.specs.Words.{store_of}
use Rattle.store_check.proofs.FreeList.{Following}
use Rattle.store_check.proofs.follow_list.Given as goal

abbrev pub invariant-loop : goal.invariant-loop
invariant-loop l =
    Following (store_of l.slots l.heads) (get_or l.heads 0 0) l.n l.initial.met l.c (l.n - l.counter) l.met
