-- `has_value` calls itself and ends: the depth falls.
use Rattle.test_ledger.proofs.Store.+has_value.Given as goal

abbrev pub decreases-has_value : goal.decreases-has_value
decreases-has_value l = l.depth
