-- `check_typed`: an expression in which the check finds no fault is typed.
use Rattle.prelude.specs.Kit.{ℕ, ◌+◌, suc, true, false, cond, ◌≡◌, refl, ◌∙◌, sym, ap, subst, some, Option, List, []}
use Rattle.prelude.specs.Kit.{◌∷◌, ◌++◌, map, eqb, length}
use Rattle.semantics.specs.Basics.{updated}
use Rattle.semantics.specs.Syntax as S
use Rattle.semantics.specs.Syntax.{Expr, number, name, let_in, leaf, if_else, loop, Exprs, size, sizes}
use Rattle.semantics.specs.Types as T
use Rattle.semantics.specs.Types.{Depths, part_faults, Signature, let_rule, if_rule, leaf_rule, depths_with, check}
use Rattle.semantics.specs.Types.{checks}
use Rattle.semantics.specs.Annotate.{with_depths}
use Rattle.laws.specs.Tests.{some_same}
use Rattle.soundness.proofs.annotation.Typed.{count, Limited, AllLimited, Called, AllCalled, element_depths}
use Rattle.soundness.proofs.annotation.Typed.{Functions}
use Rattle.soundness.proofs.annotation.Typed.{Typed, AllTyped}
use Rattle.laws.specs.Lists.{append_empty}
use Rattle.soundness.proofs.annotation.Rules.{if_typed, Each, node_parts, node_depth, loop_whole}
use Rattle.soundness.proofs.annotation.Rules.{loop_parts, loop_found, pass_found}

-- every written name has a depth
pub record Known (Δ : Depths) (δ : ℕ → ℕ) : Type 0 where
  pub depth : (y : ℕ) → Δ y ≡ some (δ y)

pub known_updated : (Δ : Depths) (δ : ℕ → ℕ) (x : ℕ) (o : Option ℕ) (d : ℕ) → Known Δ δ → o ≡ some d →
    Known (updated Δ x o) (updated δ x d)
unfolding updated
known_updated Δ δ x o d k e = record {
  depth = λ y. elim (eqb x y) as (λ b. cond b o (Δ y) ≡ some (cond b d (δ y))) [ true ↦ e | false ↦ k.depth y ];
}

-- the names of a pass
known_with : (xs ds : List ℕ) (Δ : Depths) (δ : ℕ → ℕ) → Known Δ δ →
    Known (depths_with xs (map (λ d. some d) ds) Δ) (with_depths xs ds δ)
known_with [] ds Δ δ k = k
known_with (x ∷ xs) [] Δ δ k = k
known_with (x ∷ xs) (d ∷ ds) Δ δ k =
    known_with xs ds (updated Δ x (some d)) (updated δ x d) (known_updated Δ δ x (some d) d k refl)

module _ (F : Functions) where
  abbrev signatures : ℕ → Signature
  signatures = F.signatures

  -- a tree at node p has a depth, and is of that type
  abbrev Found : Expr → Depths → (ℕ → ℕ) → ℕ → Type 0
  Found e Δ δ p = (d : ℕ) × ((check signatures e Δ p).depth ≡ some d) × Typed F e δ d

  abbrev AllFound : Exprs → Depths → (ℕ → ℕ) → ℕ → Type 0
  AllFound es Δ δ p = (ds : List ℕ) × Each (checks signatures es Δ p) ds × AllTyped F es δ ds

  abbrev Faultless : Expr → Depths → ℕ → Type 0
  Faultless e Δ p = (check signatures e Δ p).faults ≡ []

  typed_count : (es : Exprs) (δ : ℕ → ℕ) (ds : List ℕ) → AllTyped F es δ ds → length ds ≡ count es
  typed_count S.none δ ds t = ap length t
  typed_count (S.more e es) δ ds t = ap length t.2 ∙ ap suc (typed_count es δ t.1 t.4)

  -- ---- a node, from what is found of its parts

  let_found : (x : ℕ) (a b : Expr) (Δ : Depths) (δ : ℕ → ℕ) (p : ℕ) → Faultless (let_in x a b) Δ p →
      (fa : Found a Δ δ (p + 1)) →
      Found b (updated Δ x (check signatures a Δ (p + 1)).depth) (updated δ x fa.0) (p + 1 + size a) →
      Found (let_in x a b) Δ δ p
  unfolding check
  let_found x a b Δ δ p e fa fb =
      let ca = check signatures a Δ (p + 1) in
      let cb = check signatures b (updated Δ x ca.depth) (p + 1 + size a) in
      let whole = node_depth p let_rule (ca ∷ cb ∷ []) (fa.0 ∷ fb.0 ∷ []) e (fa.1, (fb.1, tt)) in
      let same_depth = some_same fb.0 whole.0 whole.2 in
      (whole.0, whole.1, (fa.0, fa.2, subst (Typed F b (updated δ x fa.0)) same_depth fb.2))

  if_found : (a b c : Expr) (Δ : Depths) (δ : ℕ → ℕ) (p : ℕ) → Faultless (if_else a b c) Δ p → Found a Δ δ (p + 1) →
      Found b Δ δ (p + 1 + size a) → Found c Δ δ (p + 1 + size a + size b) → Found (if_else a b c) Δ δ p
  unfolding check
  if_found a b c Δ δ p e fa fb fc =
      let cs = check signatures a Δ (p + 1) ∷ check signatures b Δ (p + 1 + size a)
      ∷ check signatures c Δ (p + 1 + size a + size b) ∷ [] in
      let whole = node_depth p if_rule cs (fa.0 ∷ fb.0 ∷ fc.0 ∷ []) e (fa.1, (fb.1, (fc.1, tt))) in
      let typed = if_typed fa.0 fb.0 fc.0 whole.0 whole.2 in (
        whole.0,
        whole.1,
        (
          subst (Typed F a δ) typed.0 fa.2,
          subst (Typed F b δ) typed.1 fb.2,
          subst (Typed F c δ) typed.2 fc.2,
        ),
      )

  -- ---- the whole tree

  mutual
    unfolding check

    pub check_typed : (e : Expr) (Δ : Depths) (δ : ℕ → ℕ) (p : ℕ) → Limited e → Called F.number e → Known Δ δ →
        Faultless e Δ p →
        Found e Δ δ p
    check_typed (number z) Δ δ p l c k e = (0, refl, refl)
    check_typed (name x) Δ δ p l c k e = (δ x, k.depth x, refl)
    check_typed (let_in x a b) Δ δ p l c k e =
        let ca = check signatures a Δ (p + 1) in
        let inner = updated Δ x ca.depth in
        let cb = check signatures b inner (p + 1 + size a) in
        let parts = node_parts p let_rule (ca ∷ cb ∷ []) e in
        let first = append_empty ca.faults (cb.faults ++ []) parts in
        let fa = check_typed a Δ δ (p + 1) l.0 c.0 k first.0 in
        let k' = known_updated Δ δ x ca.depth fa.0 k fa.1 in
        let_found x a b Δ δ p e fa (check_typed b inner (updated δ x fa.0) (p + 1 + size a) l.1 c.1 k'
        (append_empty cb.faults [] first.1).0)
    check_typed (leaf j es) Δ δ p l c k e =
        let cs = checks signatures es Δ (p + 1) in
        let fs = checks_typed es Δ δ (p + 1) l.1 c.1 k (node_parts p (leaf_rule signatures j) cs e) in
        let whole = node_depth p (leaf_rule signatures j) cs fs.0 e fs.1 in
        (whole.0, whole.1, (fs.0, record { limits = l.0; calls = c.0; rule = whole.2 }, fs.2))
    check_typed (if_else a b d) Δ δ p l c k e =
        let ca = check signatures a Δ (p + 1) in
        let cb = check signatures b Δ (p + 1 + size a) in
        let cd = check signatures d Δ (p + 1 + size a + size b) in
        let parts = node_parts p if_rule (ca ∷ cb ∷ cd ∷ []) e in
        let first = append_empty ca.faults (cb.faults ++ (cd.faults ++ [])) parts in
        let second = append_empty cb.faults (cd.faults ++ []) first.1 in
        if_found a b d Δ δ p e (check_typed a Δ δ (p + 1) l.0 c.0 k first.0)
        (check_typed b Δ δ (p + 1 + size a) l.1 c.1 k second.0)
        (check_typed d Δ δ (p + 1 + size a + size b) l.2 c.2 k (append_empty cd.faults [] second.1).0)
    check_typed (loop j xs es b) Δ δ p l c k e =
        let cs = checks signatures es Δ (p + 1) in
        let at = p + 1 + sizes es in
        let inner = depths_with xs (T.pass_depths j cs) Δ in
        let cb = check signatures b inner at in
        let parts = loop_parts p j cs cb e in
        let fs = checks_typed es Δ δ (p + 1) l.2 c.0 k parts.0 in
        let ds = fs.0 in
        let δ' = with_depths xs (element_depths j ds) δ in
        let found = pass_found j cs ds fs.1 (typed_count es δ ds fs.2 ∙ l.1) (loop_whole p j cs cb e).0 in
        let k' : Known inner δ' =
        subst (λ os. Known (depths_with xs os Δ) δ') (sym found.1) (known_with xs (element_depths j ds) Δ δ k) in
        let fb = check_typed b inner δ' at l.3 c.1 k' parts.1 in
        let whole = loop_found p j cs cb ds fb.0 e fs.1 fb.1 in (
          whole.0,
          whole.1,
          (
            ds,
            fb.0,
            record { named = l.0; parted = l.1; plain = l.4; array = found.0; rule = whole.2 },
            fs.2,
            fb.2,
          ),
        )

    checks_typed : (es : Exprs) (Δ : Depths) (δ : ℕ → ℕ) (p : ℕ) → AllLimited es → AllCalled F.number es →
        Known Δ δ →
        part_faults (checks signatures es Δ p) ≡ [] → AllFound es Δ δ p
    checks_typed S.none Δ δ p l c k e = ([], tt, refl)
    checks_typed (S.more a es) Δ δ p l c k e =
        let parts = append_empty (check signatures a Δ p).faults
        (part_faults (checks signatures es Δ (p + size a))) e in
        let fa = check_typed a Δ δ p l.0 c.0 k parts.0 in
        let fs = checks_typed es Δ δ (p + size a) l.1 c.1 k parts.1 in
        (fa.0 ∷ fs.0, (fa.1, fs.1), (fa.0, fs.0, refl, fa.2, fs.2))
