-- The workers: what falls from call to call, the steps left and then the lines left, and the invariants of the loops.
use Rattle.std.proofs.Common.{◌+◌, ◌*◌}
use Rattle.machine_spec.specs.Machine.{code, looped, tree_on, call_on}
use Rattle.machine_spec.specs.Parts.{Passing, Stays}
use Rattle.machine_spec.specs.TreeLaws.{Working}
use Rattle.machine.proofs.+workers.Given as goal

abbrev pub decreases-work_call : goal.decreases-work_call
decreases-work_call l = 4 * (l.steps * 4097) + 2

abbrev pub decreases-work_if : goal.decreases-work_if
decreases-work_if l = 4 * (l.steps * 4097 + l.lines) + 2

abbrev pub decreases-work_line : goal.decreases-work_line
decreases-work_line l = 4 * (l.steps * 4097 + l.lines) + 3

abbrev pub decreases-work_loop : goal.decreases-work_loop
decreases-work_loop l = 4 * (l.steps * 4097 + l.lines) + 2

abbrev pub decreases-work_pass : goal.decreases-work_pass
decreases-work_pass l = 4 * (l.steps * 4097 + l.lines) + 1

abbrev pub decreases-work_tree : goal.decreases-work_tree
decreases-work_tree l = 4 * (l.steps * 4097 + l.lines)

abbrev pub invariant-work_pass-loop-i : goal.invariant-work_pass-loop-i
invariant-work_pass-loop-i l =
    let k = code l.kinds.now l.operands.now l.table in
    record {
      passing : Passing
          (looped l.l.way (tree_on l.lines (call_on l.calls k) k l.calls l.at) l.calls l.l.first l.l.second l.l.from)
          l.l.count l.steps l.l.carried l.initial.slots l.initial.heads l.initial.env l.v l.s l.i l.slots l.heads l.env;
      stays : Stays l.l.way l.l.carried l.v;
    }

abbrev pub invariant-work_tree-loop-left : goal.invariant-work_tree-loop-left
invariant-work_tree-loop-left l =
    let k = code l.kinds.now l.operands.now l.table in
    Working (call_on l.calls k) k l.calls l.lines l.at l.steps l.initial.slots l.initial.heads l.initial.env l.left l.p
    l.s l.slots l.heads l.env
