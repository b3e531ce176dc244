-- The function's tree is laid after its parameters are bound.
use Rattle.prelude.specs.Kit.{arith, ap, length}
use Rattle.flatten_functions.proofs.Whole.{given, ready, function_laid}
use Rattle.flatten_functions.proofs.lay_function.Goals as goal

pub lay_tree-tree-requires : goal.lay_tree-tree-requires
lay_tree-tree-requires c =
    let count = c.low_at-count in
    let r = c.requires in
    let a = c.args in
    let bound = c.bind_parameters.ensures in (
      given a.kinds.now a.operands.now a.results.now a.at r.fitting bound.long.0,
      ready a.kinds.now a.operands.now a.results.now a.at r.fitting count.result count.ensures bound
          (omega arith) (omega arith) (ap length r.last_value.0),
    )

pub returns : goal.returns
returns c =
    let count = c.low_at-count in
    let r = c.requires in
    let a = c.args in
    function_laid a.kinds.now a.operands.now a.results.now a.at r.fitting count.result count.ensures
    c.bind_parameters.ensures r.last_value.0 c.lay_tree-tree.ensures.tree_made
