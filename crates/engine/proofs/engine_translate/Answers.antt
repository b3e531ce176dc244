-- `engine_translate`: the lines of a loaded script, or the answer of a refusal.
use Rattle.prelude.specs.Kit.{arith, ◌∙◌, sym, subst}
use Rattle.semantics.specs.Calls.{engine_translate}
use Rattle.words.proofs.Packing.{packed_small}
use Rattle.engine.specs.Promises.{Translates}
use Rattle.engine.proofs.Laws.{translates, translates_not, lines_fit}
use Rattle.engine.proofs.engine_translate.Goals as goal

pub returns-in-Ok : goal.returns-in-Ok
returns-in-Ok c =
    let a = c.args in
    let code = c.load.new in
    let h = c.in-Ok.ensures in
    let small = packed_small {number = 0} {node = 0} {count = c.in-Ok.field-0.lines} {cells = 0} (omega arith) (omega arith)
    (omega (arith, lines_fit h)) (omega arith) in
    subst (λ x. Translates (engine_translate a.file.now a.kinds.now a.operands.now) x code.kinds code.operands)
    (sym (c.pack.ensures ∙ small)) (translates h)

pub returns-in-Err : goal.returns-in-Err
returns-in-Err c = translates_not c.in-Err.ensures
