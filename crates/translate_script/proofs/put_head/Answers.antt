-- The rows of the parameters, and before them the function's own.
use Rattle.prelude.specs.Kit.{◌≡◌, ◌+◌, ◌*◌, arith}
use Rattle.flatten_functions.proofs.Parameters.{count_most}
use Rattle.translate_script.proofs.Parameters.{head_wrote}
use Rattle.translate_script.proofs.put_head.Goals as goal

pub put_parameters-v-requires : goal.put_parameters-v-requires
put_parameters-v-requires c =
    let a = c.args in
    let few = count_most a.kinds.now a.operands.now a.at in
    (c.requires.0, (omega arith, (omega (arith, few), c.requires.1.1)))

pub returns : goal.returns
returns c =
    let a = c.args in
    let count = c.low_at-count in
    let depth = c.high_at-result in
    let n : c.from_le_bytes-n.result ≡ count.result + 256 * depth.result = omega arith in
    head_wrote a.kinds.now a.operands.now a.at count.result depth.result count.ensures depth.ensures
    c.put_parameters-v.ensures (rw n at c.put_row.ensures)
