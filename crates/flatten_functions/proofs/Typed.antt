-- The tree of a function without fault is shallow: what the check of types finds keeps every depth at 4 or less.
use Rattle.prelude.specs.Kit.{ℕ, ◌≤◌, ◌+◌, suc, zero, arith, false, ◌&&◌, ◌≡◌, refl, ◌∙◌, sym, ap, subst, some, List}
use Rattle.prelude.specs.Kit.{[], ◌∷◌, ◌++◌, map, eqb, leb, length, get_or, eqb-true, leb-true}
use Rattle.laws.specs.Routines.{length_routines}
use Rattle.laws.specs.Endings.{ending_lines}
use Rattle.laws.specs.Tests.{both_hold, not_some, some_if_holds}
use Rattle.semantics.specs.Basics.{updated}
use Rattle.semantics.specs.Kinds.{Leaf, operation, call, literal, index, length_of, iota, replicate, Loop, mapping}
use Rattle.semantics.specs.Kinds.{filtering, reducing, rewriting}
use Rattle.semantics.specs.Syntax as S
use Rattle.semantics.specs.Syntax.{Expr, Exprs, Function, Script, function_at}
use Rattle.semantics.specs.Names.{name_faults}
use Rattle.semantics.specs.Types.{Signature, replicate_rule, leaf_rule, loop_rule, signatures_of, main_shape}
use Rattle.semantics.specs.Types.{type_faults}
use Rattle.semantics.specs.Code as C
use Rattle.semantics.specs.Code.{Atom, Tree, end, line, ending}
use Rattle.semantics.specs.Normal.{Meanings, fresh, fresh_all, atom, atoms, numbered, meaning_names, lines, all_lines}
use Rattle.semantics.specs.Normal.{normal, parameter_names, normal_body}
use Rattle.semantics.specs.Machine.{program_in}
use Rattle.semantics.specs.Annotate.{NameDepths, atom_depth, with_depths, pass_depths, loop_depth, tree_depths}
use Rattle.semantics.specs.Annotate.{line_depths, parameter_depths_from, result_of}
use Rattle.discipline.proofs.machine.Discipline.{loop_arity}
use Rattle.discipline.proofs.normal.Agree.{below_more, atom_below}
use Rattle.discipline.proofs.normal.Parameters.{parameters_below}
use Rattle.soundness.proofs.annotation.Typed.{count, element_depths, Functions, Typed, AllTyped}
use Rattle.soundness.proofs.annotation.Rules.{depth_of_map, pass_gives, element_count}
use Rattle.soundness.proofs.annotation.Tables.{with_off, with_same, table, tables, lines_table, table_off, tables_off}
use Rattle.soundness.proofs.annotation.Fitted.{MeaningsFit, DepthsAgree, meanings_kept, meanings_up, meanings_updated}
use Rattle.soundness.proofs.annotation.Fitted.{meanings_with, atom_fitted, atoms_fitted, typed_fitted}
use Rattle.soundness.proofs.annotation.Fitted.{all_typed_fitted}
use Rattle.soundness.proofs.annotation.Parameters.{written, written_depth}
use Rattle.soundness.proofs.annotation.Functions.{functions_in, Accepted}
use Rattle.soundness.proofs.annotation.Accepting.{Clean, accepted_at}
use Rattle.flatten_rows.specs.Shallow.{Shallow, ShallowLeaf, ShallowLoop}

-- ---- leaves and loops, by their rules

replicate_shallow : (ds : List ℕ) (d : ℕ) → replicate_rule ds ≡ some d → get_or ds 1 0 ≤ 3
replicate_shallow [] d e = not_some d e
replicate_shallow (suc c ∷ ds) d e = not_some d e
replicate_shallow (zero ∷ []) d e = not_some d e
replicate_shallow (zero ∷ x ∷ ds) d e =
    omega (arith, leb-true (suc x) 4 (some_if_holds (leb (suc x) 4) (suc x) d e).0)

leaf_shallow : (signatures : ℕ → Signature) (l : Leaf) (Γ : NameDepths) (us : List Atom) (d : ℕ) →
    leaf_rule signatures l (map (atom_depth Γ) us) ≡ some d → ShallowLeaf l Γ us
leaf_shallow signatures (operation o) Γ us d e = tt
leaf_shallow signatures (call f) Γ us d e = tt
leaf_shallow signatures (literal r) Γ us d e = tt
leaf_shallow signatures index Γ us d e = tt
leaf_shallow signatures length_of Γ us d e = tt
leaf_shallow signatures iota Γ us d e = tt
leaf_shallow signatures replicate Γ us d e =
    omega (arith, depth_of_map Γ us 1, replicate_shallow (map (atom_depth Γ) us) d e)

-- over as many parts as there should be
map_shallow : (ds : List ℕ) (e d : ℕ) → length ds ≡ 1 → loop_rule mapping (ds ++ (e ∷ [])) ≡ some d → e ≤ 3
map_shallow [] e d h r = absurd (omega arith)
map_shallow (c ∷ []) e d h r = omega (arith, leb-true (suc e) 4 (some_if_holds (leb (suc e) 4) (suc e) d r).0)
map_shallow (c ∷ b ∷ ds) e d h r = absurd (omega arith)

rewrite_shallow : (ds : List ℕ) (e d : ℕ) → length ds ≡ 1 → loop_rule rewriting (ds ++ (e ∷ [])) ≡ some d → e ≤ 3
rewrite_shallow [] e d h r = absurd (omega arith)
rewrite_shallow (c ∷ []) e d h r =
    omega (arith, eqb-true e 0 (both_hold (eqb c 1) (eqb e 0) (some_if_holds (eqb c 1 && eqb e 0) 1 d r).0).1)
rewrite_shallow (c ∷ b ∷ ds) e d h r = absurd (omega arith)

loop_shallow : (k : Loop) (Γ : NameDepths) (a : Atom) (ds : List ℕ) (e d : ℕ) → atom_depth Γ a ≡ e →
    length ds ≡ loop_arity k → loop_rule k (ds ++ (e ∷ [])) ≡ some d → ShallowLoop k Γ a
loop_shallow mapping Γ a ds e d f h r = omega (arith, map_shallow ds e d h r)
loop_shallow filtering Γ a ds e d f h r = tt
loop_shallow reducing Γ a ds e d f h r = tt
loop_shallow rewriting Γ a ds e d f h r = omega (arith, rewrite_shallow ds e d h r)

-- ---- trees

module _ (F : Functions) where
  abbrev results : ℕ → ℕ
  results f = (F.signatures f).result

  agrees : (Γ : NameDepths) (n m : ℕ) → DepthsAgree Γ Γ n m
  agrees Γ n m = record { same = λ y p q. refl }

  depths_count : (es : Exprs) (δ : ℕ → ℕ) (ds : List ℕ) → AllTyped F es δ ds → length ds ≡ count es
  depths_count S.none δ ds t = ap length t
  depths_count (S.more e es) δ ds t = ap length t.2 ∙ ap suc (depths_count es δ t.1 t.4)

  -- what the lines of an expression leave: the written names, and the depth of its atom
  module _ (e : Expr) (μ : Meanings) (δ : ℕ → ℕ) (n : ℕ) (Γ : NameDepths) (s : MeaningsFit μ δ n Γ) where
    after : (m : ℕ) → n ≤ m → MeaningsFit μ δ m (table results e μ n Γ)
    after m le =
        meanings_kept μ δ n m Γ (table results e μ n Γ) le (λ y h. table_off results e μ n Γ y (λ p q. omega arith)) s

    depth_after : (d : ℕ) → Typed F e δ d → atom_depth (table results e μ n Γ) (atom e μ n) ≡ d
    depth_after d t =
        atom_fitted F (table results e μ n Γ) e μ δ d n
        (typed_fitted F e μ δ d n Γ (table results e μ n Γ) t s (agrees (table results e μ n Γ) n (n + fresh e)))
        (after n (omega arith))

  -- the lines of some expressions
  module _ (es : Exprs) (μ : Meanings) (δ : ℕ → ℕ) (n : ℕ) (Γ : NameDepths) (s : MeaningsFit μ δ n Γ) where
    all_after : (m : ℕ) → n ≤ m → MeaningsFit μ δ m (tables results es μ n Γ)
    all_after m le =
        meanings_kept μ δ n m Γ (tables results es μ n Γ) le
        (λ y h. tables_off results es μ n Γ y (λ p q. omega arith)) s

    depths_after : (ds : List ℕ) → AllTyped F es δ ds → map (atom_depth (tables results es μ n Γ)) (atoms es μ n) ≡ ds
    depths_after ds t =
        atoms_fitted F (tables results es μ n Γ) es μ δ ds n
        (all_typed_fitted F es μ δ ds n Γ (tables results es μ n Γ) t s
        (agrees (tables results es μ n Γ) n (n + fresh_all es)))
        (all_after n (omega arith))

  -- the depths after the own tree of an expression
  tree_table : (e : Expr) (μ : Meanings) (n : ℕ) (Γ : NameDepths) →
      tree_depths results (lines e μ n (end (atom e μ n))) Γ ≡ table results e μ n Γ
  unfolding tree_depths
  tree_table e μ n Γ = lines_table results e μ n (end (atom e μ n)) Γ

  -- the depths after the line of an if and of a loop
  module _ (μ : Meanings) (n : ℕ) (Γ : NameDepths) where
    if_table : (a b c : Expr) →
        let x = n + fresh a in
        let y = x + 1 + fresh b in
        line_depths results (C.if_else x (atom a μ n) (lines b μ (x + 1) (end (atom b μ (x + 1))))
        (lines c μ y (end (atom c μ y)))) (table results a μ n Γ)
        ≡ table results (S.if_else a b c) μ n Γ
    unfolding table tree_depths ending
    if_table a b c =
        let x = n + fresh a in
        let y = x + 1 + fresh b in
        let Γ₁ = table results a μ n Γ in
        let inner = ap (tree_depths results (lines c μ y (end (atom c μ y)))) (tree_table b μ (x + 1) Γ₁)
        ∙ tree_table c μ y (table results b μ (x + 1) Γ₁) in
        let last = ending_lines b μ (x + 1) (end (atom b μ (x + 1))) in
        λ i. updated (inner i) x (atom_depth (inner i) (last i))

    loop_table : (j : Loop) (xs : List ℕ) (es : Exprs) (b : Expr) →
        let x = n + fresh_all es in
        let μ' = meaning_names xs (x + 1) μ in
        let i = x + (1 + length xs) in
        line_depths results (C.loop x j (numbered xs (x + 1)) (atoms es μ n) (lines b μ' i (end (atom b μ' i))))
        (tables results es μ n Γ)
        ≡ table results (S.loop j xs es b) μ n Γ
    unfolding table tree_depths ending
    loop_table j xs es b =
        let x = n + fresh_all es in
        let μ' = meaning_names xs (x + 1) μ in
        let m = x + (1 + length xs) in
        let us = atoms es μ n in
        let Γ₁ = tables results es μ n Γ in
        let inner = tree_table b μ' m (with_depths (numbered xs (x + 1)) (pass_depths j Γ₁ us) Γ₁) in
        let last = ending_lines b μ' m (end (atom b μ' m)) in
        λ i. updated (inner i) x (loop_depth j (inner i) us (last i))

  mutual
    unfolding table lines fresh tree_depths ending

    pub typed_shallow : (e : Expr) (μ : Meanings) (δ : ℕ → ℕ) (d n : ℕ) (Γ : NameDepths) (k : Tree) → Typed F e δ d →
        MeaningsFit μ δ n Γ → Shallow results k (table results e μ n Γ) → Shallow results (lines e μ n k) Γ
    typed_shallow (S.number z) μ δ d n Γ k t s h = h
    typed_shallow (S.name x) μ δ d n Γ k t s h = h
    typed_shallow (S.let_in x a b) μ δ d n Γ k t s h =
        let m = n + fresh a in
        let u = atom a μ n in
        let Γ₁ = table results a μ n Γ in
        typed_shallow a μ δ t.0 n Γ _ t.1 s
        (typed_shallow b (updated μ x u) (updated δ x t.0) d m Γ₁ k t.2
        (meanings_updated μ δ m Γ₁ x u t.0 (atom_below a μ n s.below) (depth_after a μ δ n Γ s t.0 t.1)
        (after a μ δ n Γ s m (omega arith))) h)
    typed_shallow (S.leaf l es) μ δ d n Γ k t s h =
        let us = atoms es μ n in
        let Γ₁ = tables results es μ n Γ in
        all_typed_shallow es μ δ t.0 n Γ (line (C.leaf (n + fresh_all es) l us) k) t.2 s (
          leaf_shallow F.signatures l Γ₁ us d
              (ap (leaf_rule F.signatures l) (depths_after es μ δ n Γ s t.0 t.2) ∙ t.1.rule),
          h,
        )
    typed_shallow (S.if_else a b c) μ δ d n Γ k t s h =
        let x = n + fresh a in
        let y = x + 1 + fresh b in
        let Γ₁ = table results a μ n Γ in
        let Γ₂ = table results b μ (x + 1) Γ₁ in
        let s₁ = after a μ δ n Γ s (x + 1) (omega arith) in
        let s₂ = after b μ δ (x + 1) Γ₁ s₁ y (omega arith) in
        let own = lines b μ (x + 1) (end (atom b μ (x + 1))) in
        let other = lines c μ y (end (atom c μ y)) in
        typed_shallow a μ δ 0 n Γ (line (C.if_else x (atom a μ n) own other) k) t.0 s (
          (
            typed_shallow b μ δ d (x + 1) Γ₁ (end (atom b μ (x + 1))) t.1 s₁ tt,
            subst (λ (Δ : NameDepths). Shallow results other Δ) (sym (tree_table b μ (x + 1) Γ₁))
                (typed_shallow c μ δ d y Γ₂ (end (atom c μ y)) t.2 s₂ tt),
          ),
          subst (λ (Δ : NameDepths). Shallow results k Δ) (sym (if_table μ n Γ a b c)) h,
        )
    typed_shallow (S.loop j xs es b) μ δ d n Γ k t s h =
        let x = n + fresh_all es in
        let i = x + (1 + length xs) in
        let us = atoms es μ n in
        let ps = numbered xs (x + 1) in
        let μ' = meaning_names xs (x + 1) μ in
        let δ' = with_depths xs (element_depths j t.0) δ in
        let w = atom b μ' i in
        let Γ₁ = tables results es μ n Γ in
        let Γ₂ = with_depths ps (pass_depths j Γ₁ us) Γ₁ in
        let Γ₃ = table results b μ' i Γ₂ in
        let elements : map Γ₂ ps ≡ element_depths j t.0 =
        with_same xs (pass_depths j Γ₁ us) (x + 1) Γ₁
        (t.2.named ∙ sym (ap length (pass_gives j Γ₁ us) ∙ element_count j (map (atom_depth Γ₁) us)))
        ∙ pass_gives j Γ₁ us ∙ ap (element_depths j) (depths_after es μ δ n Γ s t.0 t.3) in
        let s₁ : MeaningsFit μ δ (x + 1) Γ₂ =
        meanings_kept μ δ (x + 1) (x + 1) Γ₁ Γ₂ (omega arith)
        (λ y l. with_off xs (pass_depths j Γ₁ us) (x + 1) Γ₁ y (λ p q. omega arith))
        (all_after es μ δ n Γ s (x + 1) (omega arith)) in
        let s₂ : MeaningsFit μ' δ' i Γ₂ =
        meanings_up μ' δ' (x + 1 + length xs) i Γ₂ (omega arith)
        (meanings_with xs (element_depths j t.0) μ δ (x + 1) Γ₂ elements s₁) in
        let body = lines b μ' i (end w) in
        let last : ending body ≡ w = ending_lines b μ' i (end w) in
        all_typed_shallow es μ δ t.0 n Γ (line (C.loop x j ps us body) k) t.3 s (
          (
            typed_shallow b μ' δ' t.1 i Γ₂ (end w) t.4 s₂ tt,
            loop_shallow j (tree_depths results body Γ₂) (ending body) t.0 t.1 d
                (ap (λ (Δ : NameDepths). atom_depth Δ (ending body)) (tree_table b μ' i Γ₂)
                ∙ ap (atom_depth Γ₃) last ∙ depth_after b μ' δ' i Γ₂ s₂ t.1 t.4)
                (depths_count es δ t.0 t.3 ∙ t.2.parted) t.2.rule,
          ),
          subst (λ (Δ : NameDepths). Shallow results k Δ) (sym (loop_table μ n Γ j xs es b)) h,
        )

    all_typed_shallow : (es : Exprs) (μ : Meanings) (δ : ℕ → ℕ) (ds : List ℕ) (n : ℕ) (Γ : NameDepths) (k : Tree) →
        AllTyped F es δ ds → MeaningsFit μ δ n Γ → Shallow results k (tables results es μ n Γ) →
        Shallow results (all_lines es μ n k) Γ
    all_typed_shallow S.none μ δ ds n Γ k t s h = h
    all_typed_shallow (S.more e es) μ δ ds n Γ k t s h =
        typed_shallow e μ δ t.0 n Γ _ t.3 s
        (all_typed_shallow es μ δ t.1 (n + fresh e) (table results e μ n Γ) k t.4
        (after e μ δ n Γ s (n + fresh e) (omega arith)) h)

-- ---- functions

-- the body of an accepted function
pub body_shallow : (fs : Script) (g : Function) → Accepted fs g →
    Shallow (result_of fs) (normal_body g) (parameter_depths_from g.parameters 0)
unfolding normal_body normal program_in
body_shallow fs g ok =
    let μ = parameter_names g.parameters 0 in
    let arity = length g.parameters in
    typed_shallow (functions_in fs) g.body μ (written g.parameters (λ _. 0)) g.result arity
    (parameter_depths_from g.parameters 0) (end (atom g.body μ arity)) ok.typed
    (record {
      below = λ y. below_more (μ y) (omega arith) (parameters_below g.parameters 0 y);
      depth = λ y. written_depth g.parameters (λ _. false) (λ _. 0) 0 y ok.distinct refl refl;
    }) tt

-- each function of a script without fault is accepted
pub clean_accepted : (fs : Script) → Clean fs → (f : ℕ) → Accepted fs (function_at fs f)
unfolding name_faults type_faults program_in
clean_accepted fs c f =
    accepted_at fs (length fs) (sym (length_routines fs)) (main_shape (signatures_of fs 0)) fs 0 f
    c.limits.1 (record { names = c.names; types = c.types; roomy = c.roomy })
