-- The code that was written backwards is moved to the front, or does not fit.
use Rattle.prelude.specs.Kit.{min, ◌≡◌, ◌∙◌, ap, pos, replicate}
use Rattle.semantics.specs.Calls.{room}
use Rattle.translate.proofs.Answers.{refused_is, accepted_is}
use Rattle.translate.proofs.translate_accepted.Goals as goal

pub returns-in_default-clause-leaves : goal.returns-in_default-clause-leaves
returns-in_default-clause-leaves c =
    let a = c.args in
    let t = c.requires in
    let e : c.min-most.result ≡ room a.ks.now a.os.now = c.min-most.ensures ∙ ap (min 4096) c.min.ensures in
    let wrote = rw t.reads at c.in_default.ensures.coded_by in
    rw t.reads (refused_is t.tree a.ks.now a.os.now _ e wrote _ _
    (c.clear_code.ensures.0 ∙ ap (λ n. replicate n 0) wrote.long_kinds)
    (c.clear_code.ensures.1 ∙ ap (λ n. replicate n (pos 0)) wrote.long_operands))

pub returns-clause-leaves : goal.returns-clause-leaves
returns-clause-leaves c =
    let a = c.args in
    let t = c.requires in
    let e : c.min-most.result ≡ room a.ks.now a.os.now = c.min-most.ensures ∙ ap (min 4096) c.min.ensures in
    rw t.reads (accepted_is t.tree a.ks.now a.os.now _ e _ (rw t.reads at c.in-Some.ensures.coded_by) _ _
    c.settle.ensures c.settle-2.ensures)
