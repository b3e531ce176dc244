-- `==` of two slices tells whether their words are the same.
use Rattle.std.proofs.Common.{◌∙◌, sym, refl}
use Rattle.std.proofs.lemmas.Bool.Decides.{Decides-int_eq}
use Rattle.std.proofs.lemmas.Slice.Eq.{slice_eq-Decides}
use Rattle.test_text.proofs.store.Store.is_same.Goals as goal

pub returns-then-eq-clause-slots : goal.returns-then-eq-clause-slots
returns-then-eq-clause-slots c h =
    sym c.slots.ensures ∙ (slice_eq-Decides Decides-int_eq _ _ _ c.if-eq.ensures).0 refl
    ∙ c.slots-2.ensures
