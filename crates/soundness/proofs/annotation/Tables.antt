-- The depths that the lines of an expression give to their names, by recursion on the expression.
use Rattle.prelude.specs.Kit.{ℕ, ◌≤◌, ◌+◌, ◌<◌, suc, arith, ◌≡◌, refl, ◌∙◌, ap, List, [], ◌∷◌, map, length}
use Rattle.laws.specs.Endings.{ending_lines}
use Rattle.laws.specs.Updates.{updated_other, updated_same}
use Rattle.semantics.specs.Basics.{updated}
use Rattle.semantics.specs.Syntax as S
use Rattle.semantics.specs.Syntax.{Expr, Exprs}
use Rattle.semantics.specs.Code.{Tree, end, ending}
use Rattle.semantics.specs.Normal.{Meanings, fresh, fresh_all, atom, atoms, numbered, meaning_names, lines, all_lines}
use Rattle.semantics.specs.Annotate.{NameDepths, atom_depth, with_depths, pass_depths, leaf_depth, loop_depth}
use Rattle.semantics.specs.Annotate.{tree_depths}

-- no name from n on, k of them
abbrev pub Off : ℕ → ℕ → ℕ → Type 0
Off y n k = n ≤ y → y < n + k → ⊥

-- ---- the names of a pass

-- only they get depths
pub with_off : (xs ds : List ℕ) (m : ℕ) (Γ : NameDepths) (y : ℕ) → Off y m (length xs) →
    with_depths (numbered xs m) ds Γ y ≡ Γ y
with_off [] ds m Γ y h = refl
with_off (x ∷ xs) [] m Γ y h = refl
with_off (x ∷ xs) (d ∷ ds) m Γ y h =
    with_off xs ds (suc m) (updated Γ m d) y (λ p q. h (omega arith) (omega arith))
    ∙ updated_other Γ m d y (λ e. h (omega arith) (omega arith))

-- depths that agree on the names of a pass
pub numbered_agree : (xs : List ℕ) (m : ℕ) (Γ Δ : NameDepths) → ((y : ℕ) → m ≤ y → y < m + length xs → Γ y ≡ Δ y) →
    map Γ (numbered xs m) ≡ map Δ (numbered xs m)
numbered_agree [] m Γ Δ h = refl
numbered_agree (x ∷ xs) m Γ Δ h =
    λ i. h m (omega arith) (omega arith) i
    ∷ numbered_agree xs (suc m) Γ Δ (λ y p q. h y (omega arith) (omega arith)) i

-- and these depths are theirs
pub with_same : (xs ds : List ℕ) (m : ℕ) (Γ : NameDepths) → length xs ≡ length ds →
    map (with_depths (numbered xs m) ds Γ) (numbered xs m) ≡ ds
with_same [] [] m Γ h = refl
with_same [] (d ∷ ds) m Γ h = absurd (omega arith)
with_same (x ∷ xs) [] m Γ h = absurd (omega arith)
with_same (x ∷ xs) (d ∷ ds) m Γ h =
    let first = with_off xs ds (suc m) (updated Γ m d) m (λ p q. omega arith) ∙ updated_same Γ m d in
    let rest = with_same xs ds (suc m) (updated Γ m d) (omega arith) in
    λ i. first i ∷ rest i

module _ (results : ℕ → ℕ) where
  unfoldable mutual
    -- the depths after the lines of an expression whose new names begin at n
    pub table : Expr → Meanings → ℕ → NameDepths → NameDepths
    table (S.number z) μ n Γ = Γ
    table (S.name x) μ n Γ = Γ
    table (S.let_in x a b) μ n Γ = table b (updated μ x (atom a μ n)) (n + fresh a) (table a μ n Γ)
    table (S.leaf l es) μ n Γ =
        let Δ = tables es μ n Γ in
        updated Δ (n + fresh_all es) (leaf_depth results l Δ (atoms es μ n))
    table (S.if_else a b c) μ n Γ =
        let x = n + fresh a in
        let Δ = table c μ (x + 1 + fresh b) (table b μ (x + 1) (table a μ n Γ)) in
        updated Δ x (atom_depth Δ (atom b μ (x + 1)))
    table (S.loop k xs es b) μ n Γ =
        let x = n + fresh_all es in
        let us = atoms es μ n in
        let μ' = meaning_names xs (x + 1) μ in
        let i = x + (1 + length xs) in
        let Δ = tables es μ n Γ in
        let Δ' = table b μ' i (with_depths (numbered xs (x + 1)) (pass_depths k Δ us) Δ) in
        updated Δ' x (loop_depth k Δ' us (atom b μ' i))

    pub tables : Exprs → Meanings → ℕ → NameDepths → NameDepths
    tables S.none μ n Γ = Γ
    tables (S.more e es) μ n Γ = tables es μ (n + fresh e) (table e μ n Γ)

  mutual
    unfolding table lines tree_depths ending

    -- the lines of an expression, before a tree
    pub lines_table : (e : Expr) (μ : Meanings) (n : ℕ) (k : Tree) (Γ : NameDepths) →
        tree_depths results (lines e μ n k) Γ ≡ tree_depths results k (table e μ n Γ)
    lines_table (S.number z) μ n k Γ = refl
    lines_table (S.name x) μ n k Γ = refl
    lines_table (S.let_in x a b) μ n k Γ =
        lines_table a μ n _ Γ ∙ lines_table b (updated μ x (atom a μ n)) (n + fresh a) k (table a μ n Γ)
    lines_table (S.leaf l es) μ n k Γ = all_lines_table es μ n _ Γ
    lines_table (S.if_else a b c) μ n k Γ =
        let x = n + fresh a in
        let y = x + 1 + fresh b in
        let Γ₁ = table a μ n Γ in
        let inner = ap (tree_depths results (lines c μ y (end (atom c μ y))))
        (lines_table b μ (x + 1) (end (atom b μ (x + 1))) Γ₁)
        ∙ lines_table c μ y (end (atom c μ y)) (table b μ (x + 1) Γ₁) in
        let last = ending_lines b μ (x + 1) (end (atom b μ (x + 1))) in
        lines_table a μ n _ Γ ∙ (λ i. tree_depths results k (updated (inner i) x (atom_depth (inner i) (last i))))
    lines_table (S.loop j xs es b) μ n k Γ =
        let x = n + fresh_all es in
        let us = atoms es μ n in
        let μ' = meaning_names xs (x + 1) μ in
        let m = x + (1 + length xs) in
        let Γ₁ = tables es μ n Γ in
        let t = end (atom b μ' m) in
        let inner = lines_table b μ' m t (with_depths (numbered xs (x + 1)) (pass_depths j Γ₁ us) Γ₁) in
        let last = ending_lines b μ' m t in
        all_lines_table es μ n _ Γ
        ∙ (λ i. tree_depths results k (updated (inner i) x (loop_depth j (inner i) us (last i))))

    all_lines_table : (es : Exprs) (μ : Meanings) (n : ℕ) (k : Tree) (Γ : NameDepths) →
        tree_depths results (all_lines es μ n k) Γ ≡ tree_depths results k (tables es μ n Γ)
    all_lines_table S.none μ n k Γ = refl
    all_lines_table (S.more e es) μ n k Γ =
        lines_table e μ n _ Γ ∙ all_lines_table es μ (n + fresh e) k (table e μ n Γ)

  mutual
    unfolding table fresh

    -- only the new names get depths
    pub table_off : (e : Expr) (μ : Meanings) (n : ℕ) (Γ : NameDepths) (y : ℕ) → Off y n (fresh e) →
        table e μ n Γ y ≡ Γ y
    table_off (S.number z) μ n Γ y h = refl
    table_off (S.name x) μ n Γ y h = refl
    table_off (S.let_in x a b) μ n Γ y h =
        table_off b (updated μ x (atom a μ n)) (n + fresh a) _ y (λ p q. h (omega arith) (omega arith))
        ∙ table_off a μ n Γ y (λ p q. h p (omega arith))
    table_off (S.leaf l es) μ n Γ y h =
        updated_other _ (n + fresh_all es) _ y (λ e. h (omega arith) (omega arith))
        ∙ tables_off es μ n Γ y (λ p q. h p (omega arith))
    table_off (S.if_else a b c) μ n Γ y h =
        let x = n + fresh a in
        updated_other _ x _ y (λ e. h (omega arith) (omega arith))
        ∙ table_off c μ (x + 1 + fresh b) _ y (λ p q. h (omega arith) (omega arith))
        ∙ table_off b μ (x + 1) _ y (λ p q. h (omega arith) (omega arith))
        ∙ table_off a μ n Γ y (λ p q. h p (omega arith))
    table_off (S.loop k xs es b) μ n Γ y h =
        let x = n + fresh_all es in
        updated_other _ x _ y (λ e. h (omega arith) (omega arith))
        ∙ table_off b (meaning_names xs (x + 1) μ) (x + (1 + length xs)) _ y (λ p q. h (omega arith) (omega arith))
        ∙ with_off xs _ (x + 1) _ y (λ p q. h (omega arith) (omega arith))
        ∙ tables_off es μ n Γ y (λ p q. h p (omega arith))

    pub tables_off : (es : Exprs) (μ : Meanings) (n : ℕ) (Γ : NameDepths) (y : ℕ) → Off y n (fresh_all es) →
        tables es μ n Γ y ≡ Γ y
    tables_off S.none μ n Γ y h = refl
    tables_off (S.more e es) μ n Γ y h =
        tables_off es μ (n + fresh e) _ y (λ p q. h (omega arith) (omega arith))
        ∙ table_off e μ n Γ y (λ p q. h p (omega arith))
