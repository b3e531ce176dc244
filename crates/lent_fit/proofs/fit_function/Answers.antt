-- A function's parameters are bound, and then its tree fits, by the laws of `Laws`.
use Rattle.std.proofs.lemmas.Result.{err_from_is_err_and}
use Rattle.lent_fit.proofs.Laws.{function_tree, function_stops}
use Rattle.lent_fit.proofs.fit_function.Goals as goal

pub returns-in_err-tree : goal.returns-in_err-tree
returns-in_err-tree c =
    let a = c.args in
    let p = err_from_is_err_and c.from_residual.result c.from_residual.ensures.1 in
    rw (p.1, p.2) (
      function_stops a.kinds.now a.operands.now a.starts.now a.at a.depths.now c.requires.1 _ c.first_at-n.ensures _
          c.in_err-tree.ensures.is c.fit_parameters.new.depths,
      c.fit_parameters.ensures.deep,
    )

pub returns : goal.returns
returns c =
    let a = c.args in (
      function_tree a.kinds.now a.operands.now a.starts.now a.at a.depths.now c.requires.1 _ c.first_at-n.ensures _ _ _
          c.in_ok-tree.ensures.is _ c.second_at-result.ensures _ _ _ c.fit_tree.ensures.is,
      c.fit_tree.ensures.deep,
    )
