-- `stable`: in the table of borrowed parameters of a script no borrowed parameter is spent.
use Rattle.prelude.specs.Kit.{ℕ, ◌<◌, arith, true, false, ◌≡◌, refl, sym, subst}
use Rattle.semantics.specs.Kinds.{Borrowing}
use Rattle.semantics.specs.Syntax.{Script, function_at}
use Rattle.semantics.specs.Normal.{normal_body}
use Rattle.semantics.specs.Borrow.{spent, Table, borrows, all_borrowed, reworked, worked_out, borrowed}
use Rattle.soundness.proofs.borrowing.Spending.{Spending, round_by, rounds_by, StableBy, rounds_are, rounds_stable}

-- a choice of borrowed parameters that keeps the rule
pub record Stable (fs : Script) (U : Borrowing) : Type 0 where
  -- only parameters that a script may have
  pub small : (f i : ℕ) → U f i ≡ true → (f < 32) × (i < 8)
  -- none of main's
  pub main_owns : (i : ℕ) → U 0 i ≡ false
  -- none that its function spends
  pub kept : (f i : ℕ) → U f i ≡ true → spent U (normal_body (function_at fs f)) i ≡ false

-- ---- the rounds

-- a script's function spends what its code before annotation hands over
abbrev pub script_spends : Script → Spending
script_spends fs B f i = spent B (normal_body (function_at fs f)) i

module _ (fs : Script) where
  pub rounds_same : (n : ℕ) → worked_out n fs all_borrowed ≡ rounds_by (script_spends fs) n all_borrowed
  unfolding worked_out reworked round_by
  rounds_same n = rounds_are (script_spends fs) (λ k T. worked_out k fs T) (λ T. refl) (λ k T. refl) n all_borrowed

  stable_for : {U : Borrowing} → StableBy (script_spends fs) U → Stable fs U
  stable_for s = record {
    small = s.small;
    main_owns = s.main_owns;
    kept = s.kept;
  }

  worked_stable : (n : ℕ) → 256 < n → Stable fs (borrows (worked_out n fs all_borrowed))
  worked_stable n h =
      subst (λ (T : Table). Stable fs (borrows T)) (sym (rounds_same n))
      (stable_for (rounds_stable (script_spends fs) n h))

pub stable : (fs : Script) → Stable fs (borrows (borrowed fs))
unfolding borrowed
stable fs = worked_stable fs 257 (omega arith)
