-- `reach` calls itself and ends: the depth falls.
use Rattle.test_values.proofs.memory.Memory.+reach.Given as goal

abbrev pub decreases-reach : goal.decreases-reach
decreases-reach l = l.depth
