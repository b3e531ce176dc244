-- The measure is the number of bytes left.
use Rattle.saved_write.proofs.+put_bytes.Given as goal

abbrev pub decreases-put_bytes : goal.decreases-put_bytes
decreases-put_bytes l = l.count
