-- So many of the cells are counted.
use Rattle.prelude.specs.Kit.{◌≡◌, length}
use Rattle.semantics.specs.Words.{store_of}
use Rattle.store_words.proofs.Each.{Doing}
use Rattle.store_check.proofs.Gathering.{tally_cell}
use Rattle.store_check.proofs.gather.Given as goal

abbrev pub invariant-loop-c : goal.invariant-loop-c
invariant-loop-c l =
    (length l.counts ≡ 256) × Doing tally_cell (store_of l.slots l.heads).cells l.initial.counts l.c l.counts
