-- Expressions whose new names have the right depths in a table. `typed_fitted`: the table of a typed expression's own
-- lines is such a one.
use Rattle.prelude.specs.Kit.{ℕ, ◌≤◌, ◌+◌, ◌<◌, suc, arith, true, false, cond, ◌≡◌, refl, ◌∙◌, sym, ap, subst, ◌≢◌}
use Rattle.prelude.specs.Kit.{some, List, [], ◌∷◌, ◌++◌, map, eqb, length}
use Rattle.laws.specs.Updates.{updated_other, updated_same}
use Rattle.semantics.specs.Basics.{updated}
use Rattle.semantics.specs.Syntax as S
use Rattle.semantics.specs.Syntax.{Expr, Exprs}
use Rattle.semantics.specs.Types.{leaf_rule, loop_rule}
use Rattle.semantics.specs.Code.{Atom, number, name}
use Rattle.semantics.specs.Normal.{Meanings, fresh, fresh_all, atom, atoms, numbered, meaning_names}
use Rattle.semantics.specs.Annotate.{NameDepths, atom_depth, with_depths, pass_depths, leaf_depth, loop_depth}
use Rattle.discipline.proofs.normal.Agree.{AtomBelow, below_more, below_updated}
use Rattle.discipline.proofs.normal.Agree.{atom_below}
use Rattle.soundness.proofs.annotation.Typed.{count, element_depths, Functions, LeafType, LoopType, Typed}
use Rattle.soundness.proofs.annotation.Typed.{AllTyped}
use Rattle.soundness.proofs.annotation.Rules.{leaf_gives, loop_gives, pass_gives, element_count}
use Rattle.soundness.proofs.annotation.Tables.{with_off, numbered_agree, with_same, table, tables, table_off}
use Rattle.soundness.proofs.annotation.Tables.{tables_off}

-- ---- the atoms of the written names

-- they are below n, and have the depths δ in the table Γ
pub record MeaningsFit (μ : Meanings) (δ : ℕ → ℕ) (n : ℕ) (Γ : NameDepths) : Type 0 where
  pub below : (y : ℕ) → AtomBelow (μ y) n
  pub depth : (y : ℕ) → atom_depth Γ (μ y) ≡ δ y

-- the names from n to m have the same depths
pub record DepthsAgree (Γ Δ : NameDepths) (n m : ℕ) : Type 0 where
  pub same : (y : ℕ) → n ≤ y → y < m → Γ y ≡ Δ y

atom_kept : (u : Atom) (Γ Δ : NameDepths) (n : ℕ) → AtomBelow u n → ((y : ℕ) → y < n → Δ y ≡ Γ y) →
    atom_depth Δ u ≡ atom_depth Γ u
atom_kept (number z) Γ Δ n below kept = refl
atom_kept (name x) Γ Δ n below kept = kept x below

pub meanings_kept : (μ : Meanings) (δ : ℕ → ℕ) (n m : ℕ) (Γ Δ : NameDepths) → n ≤ m → ((y : ℕ) → y < n → Δ y ≡ Γ y) →
    MeaningsFit μ δ n Γ → MeaningsFit μ δ m Δ
meanings_kept μ δ n m Γ Δ le kept s = record {
  below = λ y. below_more (μ y) le (s.below y);
  depth = λ y. atom_kept (μ y) Γ Δ n (s.below y) kept ∙ s.depth y;
}

pub meanings_up : (μ : Meanings) (δ : ℕ → ℕ) (n m : ℕ) (Γ : NameDepths) → n ≤ m → MeaningsFit μ δ n Γ →
    MeaningsFit μ δ m Γ
meanings_up μ δ n m Γ le s = meanings_kept μ δ n m Γ Γ le (λ y h. refl) s

pub meanings_updated : (μ : Meanings) (δ : ℕ → ℕ) (n : ℕ) (Γ : NameDepths) (x : ℕ) (u : Atom) (d : ℕ) →
    AtomBelow u n → atom_depth Γ u ≡ d → MeaningsFit μ δ n Γ → MeaningsFit (updated μ x u) (updated δ x d) n Γ
unfolding updated
meanings_updated μ δ n Γ x u d below e s = record {
  below = below_updated μ n x u below s.below;
  depth = λ y. elim (eqb x y) as (λ b. atom_depth Γ (cond b u (μ y)) ≡ cond b d (δ y))
      [ true ↦ e | false ↦ s.depth y ];
}

-- with the names of a pass, of the depths ds in Γ
pub meanings_with : (xs ds : List ℕ) (μ : Meanings) (δ : ℕ → ℕ) (m : ℕ) (Γ : NameDepths) →
    map Γ (numbered xs m) ≡ ds → MeaningsFit μ δ m Γ →
    MeaningsFit (meaning_names xs m μ) (with_depths xs ds δ) (m + length xs) Γ
meanings_with [] ds μ δ m Γ e s = meanings_up μ δ m (m + 0) Γ (omega arith) s
meanings_with (x ∷ xs) ds μ δ m Γ e s =
    subst (λ es. MeaningsFit (meaning_names (x ∷ xs) m μ) (with_depths (x ∷ xs) es δ) (m + suc (length xs)) Γ) e
    (let inner = meanings_with xs (map Γ (numbered xs (suc m))) (updated μ x (name m)) (updated δ x (Γ m))
    (suc m) Γ refl
    (meanings_updated μ δ (suc m) Γ x (name m) (Γ m) (omega arith) refl
    (meanings_up μ δ m (suc m) Γ (omega arith) s)) in
    meanings_up (meaning_names xs (suc m) (updated μ x (name m)))
    (with_depths xs (map Γ (numbered xs (suc m))) (updated δ x (Γ m))) (suc m + length xs) (m + suc (length xs)) Γ
    (omega arith) inner)

agrees_part : (Γ Δ : NameDepths) (n m n' m' : ℕ) → n ≤ n' → m' ≤ m → DepthsAgree Γ Δ n m → DepthsAgree Γ Δ n' m'
agrees_part Γ Δ n m n' m' le ge g = record { same = λ y p q. g.same y (omega arith) (omega arith) }

-- without the name that was bound last
agrees_inner : (Γ Δ : NameDepths) (x v n m n' m' : ℕ) → n ≤ n' → m' ≤ m → ((y : ℕ) → n' ≤ y → y < m' → x ≢ y) →
    DepthsAgree Γ (updated Δ x v) n m → DepthsAgree Γ Δ n' m'
agrees_inner Γ Δ x v n m n' m' le ge apart g = record {
  same = λ y p q. g.same y (omega arith) (omega arith) ∙ updated_other Δ x v y (apart y p q);
}

module _ (F : Functions) (Γ : NameDepths) where
  -- an expression of depth d whose new names, from n on, have their depths in Γ
  abbrev mutual
    pub Fitted : Expr → (ℕ → ℕ) → ℕ → ℕ → Type 0
    Fitted (S.number z) δ d n = d ≡ 0
    Fitted (S.name x) δ d n = δ x ≡ d
    Fitted (S.let_in x a b) δ d n = (j : ℕ) × Fitted a δ j n × Fitted b (updated δ x j) d (n + fresh a)
    Fitted (S.leaf l es) δ d n =
        (ds : List ℕ) × LeafType F l (count es) ds d × AllFitted es δ ds n × (Γ (n + fresh_all es) ≡ d)
    Fitted (S.if_else a b c) δ d n =
        let x = n + fresh a in
        Fitted a δ 0 n × Fitted b δ d (x + 1) × Fitted c δ d (x + 1 + fresh b) × (Γ x ≡ d)
    Fitted (S.loop k xs es b) δ d n =
        let x = n + fresh_all es in
        (ds : List ℕ) × (e : ℕ) × LoopType k (length xs) (count es) ds e d × AllFitted es δ ds n
        × Fitted b (with_depths xs (element_depths k ds) δ) e (x + (1 + length xs))
        × (Γ x ≡ d) × (map Γ (numbered xs (x + 1)) ≡ element_depths k ds)

    pub AllFitted : Exprs → (ℕ → ℕ) → List ℕ → ℕ → Type 0
    AllFitted S.none δ ds n = ds ≡ []
    AllFitted (S.more e es) δ ds n =
        (d : ℕ) × (rest : List ℕ) × (ds ≡ d ∷ rest) × Fitted e δ d n × AllFitted es δ rest (n + fresh e)

  -- the atom has the depth of the expression
  pub atom_fitted : (e : Expr) (μ : Meanings) (δ : ℕ → ℕ) (d n : ℕ) → Fitted e δ d n → MeaningsFit μ δ n Γ →
      atom_depth Γ (atom e μ n) ≡ d
  unfolding atom
  atom_fitted (S.number z) μ δ d n f s = sym f
  atom_fitted (S.name x) μ δ d n f s = s.depth x ∙ f
  atom_fitted (S.let_in x a b) μ δ d n f s =
      atom_fitted b (updated μ x (atom a μ n)) (updated δ x f.0) d (n + fresh a) f.2
      (meanings_updated μ δ (n + fresh a) Γ x (atom a μ n) f.0 (atom_below a μ n s.below)
      (atom_fitted a μ δ f.0 n f.1 s) (meanings_up μ δ n (n + fresh a) Γ (omega arith) s))
  atom_fitted (S.leaf l es) μ δ d n f s = f.3
  atom_fitted (S.if_else a b c) μ δ d n f s = f.3
  atom_fitted (S.loop k xs es b) μ δ d n f s = f.5

  -- the depths of the atoms are those of the expressions
  pub atoms_fitted : (es : Exprs) (μ : Meanings) (δ : ℕ → ℕ) (ds : List ℕ) (n : ℕ) → AllFitted es δ ds n →
      MeaningsFit μ δ n Γ → map (atom_depth Γ) (atoms es μ n) ≡ ds
  unfolding atoms
  atoms_fitted S.none μ δ ds n f s = sym f
  atoms_fitted (S.more e es) μ δ ds n f s =
      let first = atom_fitted e μ δ f.0 n f.3 s in
      let rest = atoms_fitted es μ δ f.1 (n + fresh e) f.4 (meanings_up μ δ n (n + fresh e) Γ (omega arith) s) in
      (λ i. first i ∷ rest i) ∙ sym f.2

pub atoms_count : (es : Exprs) (μ : Meanings) (n : ℕ) → length (atoms es μ n) ≡ count es
unfolding atoms
atoms_count S.none μ n = refl
atoms_count (S.more e es) μ n = ap suc (atoms_count es μ (n + fresh e))

module _ (F : Functions) where
  abbrev results : ℕ → ℕ
  results f = (F.signatures f).result

  -- before the lines of b, the names below them
  agrees_before : (Γ Δ : NameDepths) (b : Expr) (μ : Meanings) (n m i : ℕ) → m ≤ i →
      DepthsAgree Γ (table results b μ i Δ) n m → DepthsAgree Γ Δ n m
  agrees_before Γ Δ b μ n m i le g = record {
    same = λ y p q. g.same y p q ∙ table_off results b μ i Δ y (λ u v. omega arith);
  }

  -- the two parts of a node
  agrees_first : (Γ Δ : NameDepths) (b : Expr) (μ : Meanings) (n m i : ℕ) → i ≤ m →
      DepthsAgree Γ (table results b μ i Δ) n m → DepthsAgree Γ Δ n i
  agrees_first Γ Δ b μ n m i le g =
      agrees_before Γ Δ b μ n i i (omega arith) (agrees_part Γ (table results b μ i Δ) n m n i (omega arith) le g)

  agrees_self : (Γ : NameDepths) (n m : ℕ) → DepthsAgree Γ Γ n m
  agrees_self Γ n m = record { same = λ y p q. refl }

  -- the lines of an expression leave the depths of an atom below their names
  atom_table : (u : Atom) (Γ : NameDepths) (b : Expr) (μ : Meanings) (i : ℕ) → AtomBelow u i →
      atom_depth (table results b μ i Γ) u ≡ atom_depth Γ u
  atom_table u Γ b μ i below =
      atom_kept u Γ (table results b μ i Γ) i below (λ y h. table_off results b μ i Γ y (λ p q. omega arith))

  meanings_table : (a : Expr) (μ : Meanings) (δ : ℕ → ℕ) (n m : ℕ) (Γ : NameDepths) → n ≤ m →
      MeaningsFit μ δ n Γ → MeaningsFit μ δ m (table results a μ n Γ)
  meanings_table a μ δ n m Γ le s =
      meanings_kept μ δ n m Γ (table results a μ n Γ) le (λ y h. table_off results a μ n Γ y (λ p q. omega arith)) s

  meanings_tables : (es : Exprs) (μ : Meanings) (δ : ℕ → ℕ) (n m : ℕ) (Γ : NameDepths) → n ≤ m →
      MeaningsFit μ δ n Γ → MeaningsFit μ δ m (tables results es μ n Γ)
  meanings_tables es μ δ n m Γ le s =
      meanings_kept μ δ n m Γ (tables results es μ n Γ) le (λ y h. tables_off results es μ n Γ y (λ p q. omega arith)) s

  -- an expression that fits the table of its own lines
  atom_after : (e : Expr) (μ : Meanings) (δ : ℕ → ℕ) (d n : ℕ) (Γ : NameDepths) → MeaningsFit μ δ n Γ →
      Fitted F (table results e μ n Γ) e δ d n → atom_depth (table results e μ n Γ) (atom e μ n) ≡ d
  atom_after e μ δ d n Γ s f =
      atom_fitted F (table results e μ n Γ) e μ δ d n f (meanings_table e μ δ n n Γ (omega arith) s)

  atoms_after : (es : Exprs) (μ : Meanings) (δ : ℕ → ℕ) (ds : List ℕ) (n : ℕ) (Γ : NameDepths) → MeaningsFit μ δ n Γ →
      AllFitted F (tables results es μ n Γ) es δ ds n →
      map (atom_depth (tables results es μ n Γ)) (atoms es μ n) ≡ ds
  atoms_after es μ δ ds n Γ s f =
      atoms_fitted F (tables results es μ n Γ) es μ δ ds n f (meanings_tables es μ δ n n Γ (omega arith) s)

  mutual
    unfolding table fresh

    -- a typed expression fits a table that agrees with that of its lines on the new names
    pub typed_fitted : (e : Expr) (μ : Meanings) (δ : ℕ → ℕ) (d n : ℕ) (Γ₀ Γ : NameDepths) → Typed F e δ d →
        MeaningsFit μ δ n Γ₀ → DepthsAgree Γ (table results e μ n Γ₀) n (n + fresh e) → Fitted F Γ e δ d n
    typed_fitted (S.number z) μ δ d n Γ₀ Γ t s g = t
    typed_fitted (S.name x) μ δ d n Γ₀ Γ t s g = t
    typed_fitted (S.let_in x a b) μ δ d n Γ₀ Γ t s g =
        let m = n + fresh a in
        let j = t.0 in
        let u = atom a μ n in
        let μ' = updated μ x u in
        let Γ₁ = table results a μ n Γ₀ in
        let Γ₂ = table results b μ' m Γ₁ in
        let value = atom_after a μ δ j n Γ₀ s (typed_fitted a μ δ j n Γ₀ Γ₁ t.1 s (agrees_self Γ₁ n m)) in (
          j,
          typed_fitted a μ δ j n Γ₀ Γ t.1 s (agrees_first Γ Γ₁ b μ' n _ m (omega arith) g),
          typed_fitted b μ' (updated δ x j) d m Γ₁ Γ t.2
              (meanings_updated μ δ m Γ₁ x u j (atom_below a μ n s.below) value
              (meanings_table a μ δ n m Γ₀ (omega arith) s))
              (agrees_part Γ Γ₂ n _ m (m + fresh b) (omega arith) (omega arith) g),
        )
    typed_fitted (S.leaf l es) μ δ d n Γ₀ Γ t s g =
        let x = n + fresh_all es in
        let ds = t.0 in
        let us = atoms es μ n in
        let Γ₁ = tables results es μ n Γ₀ in
        let v = leaf_depth results l Γ₁ us in
        let depths = atoms_after es μ δ ds n Γ₀ s (all_typed_fitted es μ δ ds n Γ₀ Γ₁ t.2 s
        (agrees_self Γ₁ n x)) in (
          ds,
          t.1,
          all_typed_fitted es μ δ ds n Γ₀ Γ t.2 s
              (agrees_inner Γ Γ₁ x v n _ n x (omega arith) (omega arith) (λ y p q e. omega arith) g),
          g.same x (omega arith) (omega arith) ∙ updated_same Γ₁ x v
              ∙ leaf_gives F.signatures l Γ₁ us d (ap (leaf_rule F.signatures l) depths ∙ t.1.rule),
        )
    typed_fitted (S.if_else a b c) μ δ d n Γ₀ Γ t s g =
        let x = n + fresh a in
        let y = x + 1 + fresh b in
        let u = atom b μ (x + 1) in
        let Γ₁ = table results a μ n Γ₀ in
        let Γ₂ = table results b μ (x + 1) Γ₁ in
        let Γ₃ = table results c μ y Γ₂ in
        let v = atom_depth Γ₃ u in
        let s₁ = meanings_table a μ δ n (x + 1) Γ₀ (omega arith) s in
        let s₂ = meanings_table b μ δ (x + 1) y Γ₁ (omega arith) s₁ in
        let upper : DepthsAgree Γ Γ₃ (x + 1) (y + fresh c) =
        agrees_inner Γ Γ₃ x v n _ (x + 1) (y + fresh c) (omega arith) (omega arith) (λ z p q e. omega arith) g in
        let lower : DepthsAgree Γ Γ₃ n x = agrees_inner Γ Γ₃ x v n _ n x (omega arith) (omega arith)
        (λ z p q e. omega arith) g in
        let depth : v ≡ d =
        atom_table u Γ₂ c μ y (atom_below b μ (x + 1) s₁.below)
        ∙ atom_after b μ δ d (x + 1) Γ₁ s₁
        (typed_fitted b μ δ d (x + 1) Γ₁ Γ₂ t.1 s₁ (agrees_self Γ₂ (x + 1) y)) in (
          typed_fitted a μ δ 0 n Γ₀ Γ t.0 s
              (agrees_before Γ Γ₁ b μ n x (x + 1) (omega arith) (agrees_before Γ Γ₂ c μ n x y (omega arith) lower)),
          typed_fitted b μ δ d (x + 1) Γ₁ Γ t.1 s₁
              (agrees_first Γ Γ₂ c μ (x + 1) (y + fresh c) y (omega arith) upper),
          typed_fitted c μ δ d y Γ₂ Γ t.2 s₂
              (agrees_part Γ Γ₃ (x + 1) (y + fresh c) y (y + fresh c) (omega arith) (omega arith) upper),
          g.same x (omega arith) (omega arith) ∙ updated_same Γ₃ x v ∙ depth,
        )
    typed_fitted (S.loop k xs es b) μ δ d n Γ₀ Γ t s g =
        let x = n + fresh_all es in
        let i = x + (1 + length xs) in
        let ds = t.0 in
        let r = t.1 in
        let us = atoms es μ n in
        let ps = numbered xs (x + 1) in
        let μ' = meaning_names xs (x + 1) μ in
        let δ' = with_depths xs (element_depths k ds) δ in
        let w = atom b μ' i in
        let Γ₁ = tables results es μ n Γ₀ in
        let Γ₂ = with_depths ps (pass_depths k Γ₁ us) Γ₁ in
        let Γ₃ = table results b μ' i Γ₂ in
        let v = loop_depth k Γ₃ us w in
        let depths : map (atom_depth Γ₁) us ≡ ds =
        atoms_after es μ δ ds n Γ₀ s (all_typed_fitted es μ δ ds n Γ₀ Γ₁ t.3 s (agrees_self Γ₁ n x)) in
        let elements : map Γ₂ ps ≡ element_depths k ds =
        with_same xs (pass_depths k Γ₁ us) (x + 1) Γ₁
        (t.2.named ∙ sym (ap length (pass_gives k Γ₁ us) ∙ element_count k (map (atom_depth Γ₁) us)))
        ∙ pass_gives k Γ₁ us ∙ ap (element_depths k) depths in
        let kept : (y : ℕ) → y < x + 1 → Γ₂ y ≡ Γ₁ y =
        λ y h. with_off xs (pass_depths k Γ₁ us) (x + 1) Γ₁ y (λ p q. omega arith) in
        let s₁ : MeaningsFit μ δ (x + 1) Γ₂ =
        meanings_kept μ δ (x + 1) (x + 1) Γ₁ Γ₂ (omega arith) kept (meanings_tables es μ δ n (x + 1) Γ₀
        (omega arith) s) in
        let s₂ : MeaningsFit μ' δ' i Γ₂ =
        meanings_up μ' δ' (x + 1 + length xs) i Γ₂ (omega arith)
        (meanings_with xs (element_depths k ds) μ δ (x + 1) Γ₂ elements s₁) in
        let upper : DepthsAgree Γ Γ₃ (x + 1) (i + fresh b) =
        agrees_inner Γ Γ₃ x v n _ (x + 1) (i + fresh b) (omega arith) (omega arith) (λ y p q e. omega arith) g in
        let lower : DepthsAgree Γ Γ₃ n x = agrees_inner Γ Γ₃ x v n _ n x (omega arith) (omega arith)
        (λ y p q e. omega arith) g in
        let first : DepthsAgree Γ Γ₁ n x = record {
          same = λ y p q. (agrees_before Γ Γ₂ b μ' n x i (omega arith) lower).same y p q ∙ kept y (omega arith);
        } in
        let outer : DepthsAgree Γ₃ Γ₁ n x = record {
          same = λ y p q. table_off results b μ' i Γ₂ y (λ u h. omega arith) ∙ kept y (omega arith);
        } in
        let body : atom_depth Γ₃ w ≡ r =
        atom_after b μ' δ' r i Γ₂ s₂ (typed_fitted b μ' δ' r i Γ₂ Γ₃ t.4 s₂ (agrees_self Γ₃ i (i + fresh b))) in
        let depths₃ : map (atom_depth Γ₃) us ≡ ds =
        atoms_fitted F Γ₃ es μ δ ds n (all_typed_fitted es μ δ ds n Γ₀ Γ₃ t.3 s outer)
        (meanings_kept μ δ n n Γ₀ Γ₃ (omega arith) (λ y h. table_off results b μ' i Γ₂ y (λ p q. omega arith)
        ∙ kept y (omega arith) ∙ tables_off results es μ n Γ₀ y (λ p q. omega arith)) s) in
        let rule : loop_rule k (map (atom_depth Γ₃) us ++ (atom_depth Γ₃ w ∷ [])) ≡ some d =
        (λ j. loop_rule k (depths₃ j ++ (body j ∷ []))) ∙ t.2.rule in (
          ds,
          r,
          t.2,
          all_typed_fitted es μ δ ds n Γ₀ Γ t.3 s first,
          typed_fitted b μ' δ' r i Γ₂ Γ t.4 s₂
              (agrees_part Γ Γ₃ (x + 1) (i + fresh b) i (i + fresh b) (omega arith) (omega arith) upper),
          g.same x (omega arith) (omega arith) ∙ updated_same Γ₃ x v
              ∙ loop_gives k Γ₃ us w d (atoms_count es μ n ∙ t.2.parted) rule,
          numbered_agree xs (x + 1) Γ Γ₂ (λ y p q. upper.same y p (omega arith)
              ∙ table_off results b μ' i Γ₂ y (λ u h. omega arith)) ∙ elements,
        )

    pub all_typed_fitted : (es : Exprs) (μ : Meanings) (δ : ℕ → ℕ) (ds : List ℕ) (n : ℕ) (Γ₀ Γ : NameDepths) →
        AllTyped F es δ ds → MeaningsFit μ δ n Γ₀ →
        DepthsAgree Γ (tables results es μ n Γ₀) n (n + fresh_all es) → AllFitted F Γ es δ ds n
    all_typed_fitted S.none μ δ ds n Γ₀ Γ t s g = t
    all_typed_fitted (S.more e es) μ δ ds n Γ₀ Γ t s g =
        let m = n + fresh e in
        let Γ₁ = table results e μ n Γ₀ in
        let Γ₂ = tables results es μ m Γ₁ in (
          t.0,
          t.1,
          t.2,
          typed_fitted e μ δ t.0 n Γ₀ Γ t.3 s (record {
            same = λ y p q. g.same y p (omega arith) ∙ tables_off results es μ m Γ₁ y (λ u v. omega arith);
          }),
          all_typed_fitted es μ δ t.1 m Γ₁ Γ t.4 (meanings_table e μ δ n m Γ₀ (omega arith) s)
              (agrees_part Γ Γ₂ n _ m (m + fresh_all es) (omega arith) (omega arith) g),
        )
