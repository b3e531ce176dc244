use Rattle.std.proofs.Common.{◌≡◌, ◌-◌}
use Rattle.semantics.specs.File.{function}
use Rattle.script_read.specs.Told.{told, repeated, marked, Next}
use Rattle.script_read.proofs.read_script.Given as goal

abbrev pub invariant-loop-i : goal.invariant-loop-i
invariant-loop-i l =
    (repeated l.i (λ q. told (function l.kinds l.operands q)) 0 ≡ Next l.p)
    × (marked l.functions (λ q. told (function l.kinds l.operands q)) 0 0 l.fn.starts
    ≡ marked (l.functions - l.i) (λ q. told (function l.kinds l.operands q)) l.p l.i l.starts)
