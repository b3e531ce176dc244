-- `test_text::text::start_of` meets its contract.
use Rattle.std.proofs.Common.{◌-◌, ◌≤◌, length}
use Rattle.test_text.proofs.text.start_of.Given as goal

abbrev pub invariant-loop-at : goal.invariant-loop-at
invariant-loop-at l = l.at ≤ length l.case

abbrev pub decreases-loop-at : goal.decreases-loop-at
decreases-loop-at l = length l.case - l.at
