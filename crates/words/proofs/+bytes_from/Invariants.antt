-- The measure of `words::bytes_from` is the count.
use Rattle.words.proofs.+bytes_from.Given as goal

abbrev pub decreases-bytes_from : goal.decreases-bytes_from
decreases-bytes_from l = l.count
