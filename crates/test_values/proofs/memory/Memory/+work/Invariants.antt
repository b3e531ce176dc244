-- The workers call one another and end. What falls is the calls left and, within a call, the levels left; where neither
-- changes, the last number of a measure falls.
use Rattle.std.proofs.Common.{◌+◌, ◌*◌}
use Rattle.test_values.proofs.memory.Memory.+work.Given as goal

abbrev pub decreases-work_call : goal.decreases-work_call
decreases-work_call l = 325 * l.at.calls

abbrev pub decreases-work_if : goal.decreases-work_if
decreases-work_if l = 5 * (65 * l.at.calls + l.at.levels) + 1

abbrev pub decreases-work_let : goal.decreases-work_let
decreases-work_let l = 5 * (65 * l.at.calls + l.at.levels) + 2

abbrev pub decreases-work_loop : goal.decreases-work_loop
decreases-work_loop l = 5 * (65 * l.at.calls + l.at.levels) + 3

abbrev pub decreases-work_node : goal.decreases-work_node
decreases-work_node l = 5 * (65 * l.at.calls + l.at.levels) + 4

abbrev pub decreases-work_part : goal.decreases-work_part
decreases-work_part l = 5 * (65 * l.at.calls + l.at.levels)

abbrev pub decreases-work_parts : goal.decreases-work_parts
decreases-work_parts l = 5 * (65 * l.at.calls + l.at.levels) + 1

abbrev pub decreases-work_pass : goal.decreases-work_pass
decreases-work_pass l = 5 * (65 * l.at.calls + l.at.levels) + 2

abbrev pub decreases-work_under : goal.decreases-work_under
decreases-work_under l = 5 * (65 * l.at.calls + l.at.levels) + 1
