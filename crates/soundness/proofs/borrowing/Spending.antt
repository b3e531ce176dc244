-- Tables of borrowed parameters, worked until nothing changes by any rule of what a function spends: the result keeps
-- the rule, and is the largest that does. Each round that changes something takes away one entry of 256.
use Rattle.prelude.specs.Kit.{ℕ, ◌<◌, suc, zero, arith, true, false, Bool, cond, ◌&&◌, not, false≢true, ◌≡◌, refl, ◌∙◌}
use Rattle.prelude.specs.Kit.{sym, ap, inl, inr, eqb, ne_eqb, not-true}
use Rattle.laws.specs.Tests.{both_hold, say_and}
use Rattle.semantics.specs.Kinds.{Borrowing}
use Rattle.semantics.specs.Borrow.{Table, borrows, all_borrowed, same_table}
use Rattle.soundness.proofs.borrowing.Rounds.{Within, Shaped, entry_small, all_shaped, all_at, tabled, entry_at}
use Rattle.soundness.proofs.borrowing.Rounds.{tabled_shaped}
use Rattle.soundness.proofs.borrowing.Counts.{same_tables, count, Shrinks, table_shrinks, all_count}

not_both : (a b : Bool) → (a ≡ true → b ≡ true) → b ≡ false → not a ≡ true
not_both true b f e = absurd (false≢true (sym e ∙ f refl))
not_both false b f e = refl

-- whether a function spends its parameter at a place, where some places are borrowed
abbrev pub Spending : Type 0
Spending = Borrowing → ℕ → ℕ → Bool

module _ (S : Spending) where
  -- one round: an entry stays if it is not main's and its function does not spend that parameter
  abbrev pub stays : Table → Borrowing
  stays T f i = borrows T f i && (not (eqb f 0) && not (S (borrows T) f i))

  unfoldable pub round_by : Table → Table
  round_by T = tabled (stays T)

  unfoldable pub rounds_by : ℕ → Table → Table
  rounds_by zero T = T
  rounds_by (suc n) T = let U = round_by T in cond (same_table T U) T (rounds_by n U)

  -- any definition that goes by the same rounds gives the same tables
  pub rounds_are : (worked : ℕ → Table → Table) → ((T : Table) → worked zero T ≡ T) →
      ((n : ℕ) (T : Table) → worked (suc n) T ≡ cond (same_table T (round_by T)) T (worked n (round_by T))) →
      (n : ℕ) (T : Table) → worked n T ≡ rounds_by n T
  unfolding rounds_by
  rounds_are worked first more zero T = first T
  rounds_are worked first more (suc n) T =
      more n T ∙ ap (cond (same_table T (round_by T)) T) (rounds_are worked first more n (round_by T))

  -- a choice of borrowed parameters that keeps the rule
  pub record StableBy (U : Borrowing) : Type 0 where
    pub small : (f i : ℕ) → U f i ≡ true → (f < 32) × (i < 8)
    pub main_owns : (i : ℕ) → U 0 i ≡ false
    pub kept : (f i : ℕ) → U f i ≡ true → S U f i ≡ false

  round_shaped : (T : Table) → Shaped (round_by T)
  unfolding round_by
  round_shaped T = tabled_shaped (stays T)

  round_at : (T : Table) (f i : ℕ) → f < 32 → i < 8 → borrows (round_by T) f i ≡ stays T f i
  unfolding round_by
  round_at T f i p q = entry_at (stays T) f i p q

  round_stays : (T : Table) (f i : ℕ) → borrows (round_by T) f i ≡ true → stays T f i ≡ true
  round_stays T f i e =
      let small = entry_small (round_by T) (round_shaped T) f i e in
      sym (round_at T f i small.0 small.1) ∙ e

  -- a round takes an entry away, or leaves all as it is
  round : (T : Table) → Shaped T → Shrinks (same_table T (round_by T)) (count T) (count (round_by T))
  round T s =
      let t = round_shaped T in
      table_shrinks T (round_by T) (t.rows ∙ sym s.rows)
      (λ f p. let q : f < 32 = omega (arith, s.rows) in t.columns f q ∙ sym (s.columns f q))
      (λ f i e. (both_hold (borrows T f i) _ (round_stays T f i e)).0)

  -- a table that a round leaves as it is
  unchanged : (T : Table) → Shaped T → same_table T (round_by T) ≡ true → StableBy (borrows T)
  unchanged T s e = record {
    small = entry_small T s;
    main_owns = λ i. owned i (borrows T 0 i) refl;
    kept = λ f i h. not-true (S (borrows T) f i) (right f i h).1;
  }
    where
      right : (f i : ℕ) → borrows T f i ≡ true → (not (eqb f 0) ≡ true) × (not (S (borrows T) f i) ≡ true)
      right f i h =
          let same = ap (λ (U : Table). borrows U f i) (same_tables T (round_by T) e) in
          both_hold (not (eqb f 0)) _ (both_hold (borrows T f i) _ (round_stays T f i (sym same ∙ h))).1

      owned : (i : ℕ) (b : Bool) → borrows T 0 i ≡ b → b ≡ false
      owned i true h = absurd (false≢true (right 0 i h).0)
      owned i false h = refl

  rounds : (n : ℕ) (T : Table) → Shaped T → count T < n → StableBy (borrows (rounds_by n T))
  unfolding rounds_by
  rounds zero T s h = absurd (omega arith)
  rounds (suc n) T s h =
      by (same_table T U) refl (round T s) (λ fewer. rounds n U (round_shaped T) (omega (arith, fewer, h)))
    where
      U : Table
      U = round_by T

      by : (b : Bool) → same_table T U ≡ b → Shrinks (same_table T U) (count T) (count U) →
          (count U < count T → StableBy (borrows (rounds_by n U))) → StableBy (borrows (cond b T (rounds_by n U)))
      by true e r next = unchanged T s e
      by false e (inl q) next = absurd (false≢true (sym e ∙ q.0))
      by false e (inr q) next = next q

  pub rounds_stable : (n : ℕ) → 256 < n → StableBy (borrows (rounds_by n all_borrowed))
  rounds_stable n h = rounds n all_borrowed all_shaped (omega (arith, all_count, h))

  -- ---- the more is borrowed, the less is spent: then it is the largest

  module _ (fewer : (U W : Borrowing) → Within U W → (f i : ℕ) → S W f i ≡ true → S U f i ≡ true)
      (U : Borrowing) (stable : StableBy U) where
    not_main : (f i : ℕ) → U f i ≡ true → not (eqb f 0) ≡ true
    not_main zero i e = absurd (false≢true (sym (stable.main_owns i) ∙ e))
    not_main (suc f) i e = ap not (ne_eqb (suc f) 0 (λ q. omega (arith, q)))

    -- a round takes nothing away that U has
    round_keeps : (T : Table) → Within U (borrows T) → Within U (borrows (round_by T))
    round_keeps T w f i e =
        let small = stable.small f i e in
        round_at T f i small.0 small.1
        ∙ say_and (borrows T f i) _ (w f i e) (say_and (not (eqb f 0)) _ (not_main f i e)
        (not_both (S (borrows T) f i) (S U f i) (fewer U (borrows T) w f i) (stable.kept f i e)))

    rounds_keep : (n : ℕ) (T : Table) → Within U (borrows T) → Within U (borrows (rounds_by n T))
    unfolding rounds_by
    rounds_keep zero T w = w
    rounds_keep (suc n) T w = by (same_table T (round_by T)) (rounds_keep n (round_by T) (round_keeps T w))
      where
        by : (b : Bool) → Within U (borrows (rounds_by n (round_by T))) →
            Within U (borrows (cond b T (rounds_by n (round_by T))))
        by true next = w
        by false next = next

    pub rounds_largest : (n : ℕ) → Within U (borrows (rounds_by n all_borrowed))
    rounds_largest n = rounds_keep n all_borrowed
        (λ f i e. let small = stable.small f i e in all_at f i small.0 small.1)
