-- `store::acquire` meets its contract.
use Rattle.prelude.specs.Kit.{◌∙◌, ap}
use Rattle.store.specs.Acquiring.{appended_all}
use Rattle.store.proofs.Acquiring.{with_remaining}
use Rattle.store.proofs.Filling.{filled_by_appending, none_given}
use Rattle.store.proofs.acquire.Goals as goal

pub returns-in_err-gained : goal.returns-in_err-gained
returns-in_err-gained c =
    rw c.from_residual.ensures (with_remaining _ _ _ _ _ _ (
      c.in_err-gained.ensures.0,
      c.acquire_empty.ensures.1 ∙ none_given _ _ _ _ c.in_err-gained.ensures.0,
    ))

pub returns : goal.returns
returns c =
    let e = c.in_ok-gained.ensures.0 in
    with_remaining _ _ _ _ _ _ (
      e,
      c.append_all.ensures ∙ ap (appended_all _ _) c.acquire_empty.ensures.1 ∙ filled_by_appending _ _ _ _ _ e,
    )
