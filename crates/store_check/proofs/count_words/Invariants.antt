-- So many of the words are counted.
use Rattle.prelude.specs.Kit.{map}
use Rattle.semantics.specs.Store.{cell_of}
use Rattle.store_words.proofs.Each.{Doing}
use Rattle.store_check.specs.Holders.{tally_one}
use Rattle.store_check.proofs.count_words.Given as goal

abbrev pub invariant-loop-w : goal.invariant-loop-w
invariant-loop-w l = Doing tally_one (map cell_of l.words) l.initial.counts l.w-index l.counts
