-- `script_count::count_script`: the nodes left, from p on, give what all of them give.
use Rattle.prelude.specs.Kit.{◌≡◌, ◌-◌, length}
use Rattle.script_count.specs.Count.{crowd}
use Rattle.script_count.proofs.count_script.Given as goal

abbrev pub invariant-loop-p : goal.invariant-loop-p
invariant-loop-p l =
    crowd l.kinds (length l.kinds) 0 0 0 ≡ crowd l.kinds (length l.kinds - l.p) l.p l.start l.count
