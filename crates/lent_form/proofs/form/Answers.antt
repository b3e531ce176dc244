-- The lines that are looked at are those of the definition, by the laws of `Cut`.
use Rattle.prelude.specs.Kit.{arith, ◌∙◌, ◌≡◌, min, length}
use Rattle.semantics_lent.specs.Form.{code_length}
use Rattle.lent_form.proofs.Cut.{all_lines, cut_form}
use Rattle.lent_form.proofs.form.Goals as goal

pub returns : goal.returns
returns c =
    let a = c.args in
    let all : c.max-all.result ≡ code_length a.kinds.now a.operands.now =
    c.max-all.ensures ∙ rw (c.used.ensures, c.used-2.ensures) (all_lines a.kinds.now a.operands.now) in
    let room : c.min-room.result ≡ min 4096 (min (length a.kinds.now) (length a.operands.now)) =
    omega (arith, c.min.ensures, c.min-room.ensures) in
    rw (cut_form a.kinds.now a.operands.now c.max-all.result c.min-room.result c.min-lines.result all room
    (omega (arith, c.min-lines.ensures))) at c.form_functions.ensures
