-- `==` of two slices tells whether their words are the same.
use Rattle.std.proofs.Common.{◌∙◌, sym}
use Rattle.std.proofs.lemmas.Bool.Decides.{Decides-int_eq}
use Rattle.std.proofs.lemmas.Slice.Eq.{slice_eq-Decides}
use Rattle.test_text.proofs.code.Code.is_same.Goals as goal

pub returns-then-eq-clause-operands : goal.returns-then-eq-clause-operands
returns-then-eq-clause-operands c h =
    sym c.operands.ensures ∙ (slice_eq-Decides Decides-int_eq _ _ _ c.eq-then-eq.ensures).0 h
    ∙ c.first_operands.ensures
