-- Each step adds the depth of one function's result.
use Rattle.prelude.specs.Kit.{arith, refl, ◌∙◌}
use Rattle.flatten_functions.proofs.Functions.{known, results_none, results_more, results_all, result_there}
use Rattle.flatten_functions.proofs.results_of.Goals as goal

pub loop-i-init : goal.loop-i-init
loop-i-init c = (c.requires, results_none _)

pub loop-i-preserved : goal.loop-i-preserved
loop-i-preserved c =
    let v = c.loop-i.invariant in (
      v.0,
      results_more v.1 c.high_at.result (omega (arith, v.0.few, c.loop-i-test.true))
          (c.high_at.ensures ∙ result_there v.0 c.loop-i.i _ c.loop-i-test.true refl),
    )

pub returns : goal.returns
returns c =
    let v = c.loop-i.invariant in
    rw v.0.reads (results_all v.1 (omega (arith, (known v.0).1.0, c.loop-i-test.false)))
