use Rattle.std.proofs.Common.{rules, take, eqb, ◌∙◌, ap}
use Rattle.std.proofs.lemmas.Iterator.{YieldsList-from_slice}
use Rattle.std.proofs.lemmas.Iterator.Search.{all_from_yields_List}
use Rattle.script_rules.specs.Rules.{judged_outcome}
use Rattle.script_rules.proofs.Rules.{judged_alike}
use Rattle.script_rules.proofs.judge_all.Goals as goal

pub returns : goal.returns
returns c =
    let a = c.args in
    ap judged_outcome c.then_some.ensures
    ∙ judged_alike c.all.result a.d a.depth (take a.n a.ds.now)
    (all_from_yields_List (λ e. eqb e a.d) _ _ _ c.all.ensures.ran (YieldsList-from_slice (take a.n a.ds.now) cc)
    (λ x b q k. search rules))
