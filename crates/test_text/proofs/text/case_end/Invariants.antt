-- `test_text::text::case_end` meets its contract.
use Rattle.std.proofs.Common.{◌-◌, ◌≤◌, length, min}
use Rattle.test_text.proofs.text.case_end.Given as goal

abbrev pub invariant-loop-i : goal.invariant-loop-i
invariant-loop-i l = (min l.at (length l.text) ≤ l.i) × (l.at ≤ l.i)

abbrev pub decreases-loop-i : goal.decreases-loop-i
decreases-loop-i l = length l.text - l.i
