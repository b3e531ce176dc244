-- `test_cases::run_text` ends: the text left falls.
use Rattle.std.proofs.Common.{◌-◌, ◌≤◌, length}
use Rattle.test_cases.proofs.run_text.Given as goal

abbrev pub invariant-loop-at : goal.invariant-loop-at
invariant-loop-at l = l.at ≤ length l.text

abbrev pub decreases-loop-at : goal.decreases-loop-at
decreases-loop-at l = length l.text - l.at
