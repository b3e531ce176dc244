use Rattle.std.proofs.Common.{◌≡◌, ◌+◌, ◌*◌}
use Rattle.semantics.specs.File.{part}
use Rattle.script_read.specs.Told.{told, repeated, Next}
use Rattle.script_read.proofs.+read_part_read_parts.Given as goal

abbrev pub decreases-read_part : goal.decreases-read_part
decreases-read_part l = 2 * l.levels

abbrev pub decreases-read_parts : goal.decreases-read_parts
decreases-read_parts l = 2 * l.levels + 1

abbrev pub invariant-read_parts-loop : goal.invariant-read_parts-loop
invariant-read_parts-loop l = repeated l.counter (λ q. told (part l.kinds l.operands l.levels q)) l.at ≡ Next l.p
