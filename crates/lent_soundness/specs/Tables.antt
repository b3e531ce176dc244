-- The table of lent code is worked as order 7's, by what its functions hand over, retain or release.
use Rattle.std.specs.Prelude.{ℕ, suc, zero, true, ◌≡◌, refl, List, [], ◌∷◌, get_or}
use Rattle.prelude.specs.Kit.{arith, sym, subst}
use Rattle.semantics.specs.Kinds.{Borrowing}
use Rattle.semantics.specs.Live.{Set}
use Rattle.semantics.specs.Borrow.{spent, Table, borrows, all_borrowed}
use Rattle.semantics_lent.specs.Form.{Lent}
use Rattle.semantics_lent.specs.Fit.{no_lent}
use Rattle.semantics_lent.specs.Hold.{names_of, name_in, reworked_lent, worked_lent, lent_table}
use Rattle.soundness.proofs.borrowing.Rounds.{Within}
use Rattle.soundness.proofs.borrowing.Spending.{Spending, round_by, rounds_by, StableBy, rounds_are, rounds_stable}
use Rattle.soundness.proofs.borrowing.Spending.{rounds_largest}
use Rattle.soundness.proofs.borrowing.Largest.{spent_fewer}

abbrev pub lent_spends : List Lent → Spending
lent_spends gs B f i = name_in (spent B (get_or gs f no_lent).tree) (names_of (get_or gs f no_lent)) i

module _ (gs : List Lent) where
  rounds_same : lent_table gs ≡ rounds_by (lent_spends gs) 257 all_borrowed
  unfolding lent_table worked_lent reworked_lent round_by
  rounds_same =
      rounds_are (lent_spends gs) (λ n T. worked_lent n gs T) (λ T. refl) (λ n T. refl) 257 all_borrowed

  -- it keeps the rule: no borrowed parameter is spent or retained, and main owns its two
  pub lent_stable : StableBy (lent_spends gs) (borrows (lent_table gs))
  lent_stable = subst (λ (T : Table). StableBy (lent_spends gs) (borrows T)) (sym rounds_same)
      (rounds_stable (lent_spends gs) 257 (omega arith))

  name_fewer : (S U : Set) (xs : List ℕ) (i : ℕ) → ((x : ℕ) → S x ≡ true → U x ≡ true) → name_in S xs i ≡ true →
      name_in U xs i ≡ true
  name_fewer S U [] i h e = e
  name_fewer S U (x ∷ xs) zero h e = h x e
  name_fewer S U (x ∷ xs) (suc i) h e = name_fewer S U xs i h e

  lent_fewer : (U W : Borrowing) → Within U W → (f i : ℕ) → lent_spends gs W f i ≡ true → lent_spends gs U f i ≡ true
  lent_fewer U W w f i e =
      let g = get_or gs f no_lent in
      name_fewer (spent W g.tree) (spent U g.tree) (names_of g) i (spent_fewer w g.tree) e

  -- and is the largest that does
  pub lent_largest : (U : Borrowing) → StableBy (lent_spends gs) U → Within U (borrows (lent_table gs))
  lent_largest U stable = subst (λ (T : Table). Within U (borrows T)) (sym rounds_same)
      (rounds_largest (lent_spends gs) lent_fewer U stable 257)
