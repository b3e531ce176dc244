-- Tables of borrowed parameters that are the same, and how many entries a table has: one with no entry more is the
-- same, or has fewer.
use Rattle.prelude.specs.Kit.{ℕ, ◌+◌, ◌<◌, suc, arith, true, false, Bool, cond, ◌&&◌, false≢true, ◌≡◌, refl, sym, inl}
use Rattle.prelude.specs.Kit.{inr, ◌⊎◌, List, [], ◌∷◌, length, get_or, not-true}
use Rattle.laws.specs.Tests.{both_hold, say_and}
use Rattle.semantics.specs.Basics.{tabulate}
use Rattle.semantics.specs.Borrow.{Table, borrows, all_borrowed, same, same_row, same_table}
use Rattle.soundness.proofs.borrowing.Rounds.{Within}

-- ---- tables that are the same have the same entries

same_entry : (a b : Bool) → same a b ≡ true → a ≡ b
same_entry true b e = sym e
same_entry false b e = sym (not-true b e)

same_rows : (k l : List Bool) → same_row k l ≡ true → k ≡ l
same_rows [] [] e = refl
same_rows [] (b ∷ l) e = absurd (false≢true e)
same_rows (a ∷ k) [] e = absurd (false≢true e)
same_rows (a ∷ k) (b ∷ l) e =
    let both = both_hold (same a b) (same_row k l) e in
    λ i. same_entry a b both.0 i ∷ same_rows k l both.1 i

pub same_tables : (T U : Table) → same_table T U ≡ true → T ≡ U
same_tables [] [] e = refl
same_tables [] (l ∷ U) e = absurd (false≢true e)
same_tables (k ∷ T) [] e = absurd (false≢true e)
same_tables (k ∷ T) (l ∷ U) e =
    let both = both_hold (same_row k l) (same_table T U) e in
    λ i. same_rows k l both.0 i ∷ same_tables T U both.1 i

-- ---- how many entries there are

row_count : List Bool → ℕ
row_count [] = 0
row_count (b ∷ l) = cond b 1 0 + row_count l

pub count : Table → ℕ
count [] = 0
count (r ∷ T) = row_count r + count T

-- what had so many entries is unchanged, or has fewer now
abbrev pub Shrinks : Bool → ℕ → ℕ → Type 0
Shrinks unchanged before now = ((unchanged ≡ true) × (now ≡ before)) ⊎ (now < before)

shrinks_both : (a b : Bool) (k l m n : ℕ) → Shrinks a k l → Shrinks b m n → Shrinks (a && b) (k + m) (l + n)
shrinks_both a b k l m n (inl p) (inl q) = inl (say_and a b p.0 q.0, omega (arith, p.1, q.1))
shrinks_both a b k l m n (inl p) (inr q) = inr (omega (arith, p.1, q))
shrinks_both a b k l m n (inr p) (inl q) = inr (omega (arith, p, q.1))
shrinks_both a b k l m n (inr p) (inr q) = inr (omega (arith, p, q))

entry_shrinks : (a b : Bool) → (b ≡ true → a ≡ true) → Shrinks (same a b) (cond a 1 0) (cond b 1 0)
entry_shrinks true true w = inl (refl, refl)
entry_shrinks true false w = inr (omega arith)
entry_shrinks false true w = absurd (false≢true (w refl))
entry_shrinks false false w = inl (refl, refl)

row_shrinks : (k l : List Bool) → length l ≡ length k →
    ((i : ℕ) → get_or l i false ≡ true → get_or k i false ≡ true) → Shrinks (same_row k l) (row_count k) (row_count l)
unfolding row_count
row_shrinks [] [] e w = inl (refl, refl)
row_shrinks [] (b ∷ l) e w = absurd (omega (arith, e))
row_shrinks (a ∷ k) [] e w = absurd (omega (arith, e))
row_shrinks (a ∷ k) (b ∷ l) e w =
    shrinks_both (same a b) (same_row k l) (cond a 1 0) (cond b 1 0) (row_count k) (row_count l)
    (entry_shrinks a b (w 0)) (row_shrinks k l (omega (arith, e)) (λ i. w (suc i)))

pub table_shrinks : (T U : Table) → length U ≡ length T →
    ((f : ℕ) → f < length T → length (get_or U f []) ≡ length (get_or T f [])) → Within (borrows U) (borrows T) →
    Shrinks (same_table T U) (count T) (count U)
unfolding count
table_shrinks [] [] e s w = inl (refl, refl)
table_shrinks [] (l ∷ U) e s w = absurd (omega (arith, e))
table_shrinks (k ∷ T) [] e s w = absurd (omega (arith, e))
table_shrinks (k ∷ T) (l ∷ U) e s w =
    shrinks_both (same_row k l) (same_table T U) (row_count k) (row_count l) (count T) (count U)
    (row_shrinks k l (s 0 (omega arith)) (w 0))
    (table_shrinks T U (omega (arith, e)) (λ f p. s (suc f) (omega (arith, p))) (λ f. w (suc f)))

pub all_count : count all_borrowed ≡ 256
unfolding all_borrowed count row_count tabulate
all_count = refl
