-- The walk of the body, the opening releases and the head.
use Rattle.translate_script.proofs.Whole.{code_wrote}
use Rattle.translate_script.proofs.function_code.Goals as goal

pub returns-clause-wrote : goal.returns-clause-wrote
returns-clause-wrote c =
    let a = c.args in
    let count = c.low_at-count in
    let owned = c.owned_depths-owned in
    code_wrote a.kinds.now a.operands.now a.results.now a.borrowing.now a.f a.at c.requires.fitting.0 count.result
    count.ensures owned.result c.lay_function-p.ensures owned.ensures c.walk_tree-live.ensures
    c.put_releases-u.ensures c.put_head.ensures
