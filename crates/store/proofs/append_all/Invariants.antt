-- The words that are left, appended to what the loop has, give what all of them give.
use Rattle.prelude.specs.Kit.{◌≡◌, drop}
use Rattle.semantics.specs.Words.{store_of}
use Rattle.store.specs.Acquiring.{appended_all}
use Rattle.store.proofs.append_all.Given as goal

abbrev pub invariant-loop-w : goal.invariant-loop-w
invariant-loop-w l = appended_all l.c l.words (store_of l.initial.slots l.initial.heads)
    ≡ appended_all l.c (drop l.w-index l.words) (store_of l.slots l.heads)
