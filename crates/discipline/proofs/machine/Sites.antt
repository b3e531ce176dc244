-- A loop where it stands in a tree: the array that it lends to its passes, the name of their element, and the rules for
-- the tree of a pass.
use Rattle.prelude.specs.Kit.{ℕ, ◌<◌, suc, pred, arith, ◌≡◌, ◌∙◌, ap, subst, List, [], ◌∷◌, ◌++◌, append-nil, length}
use Rattle.semantics.specs.Kinds.{Loop, loop_reads, element_name, carried_name}
use Rattle.semantics.specs.Code.{Atom, loop, Tree, ending}
use Rattle.semantics.specs.Live.{Set, ◌∪◌, just, after_pass}
use Rattle.semantics.specs.Annotate.{NameDepths, atom_depth, pass_depths}
use Rattle.laws.specs.Lists.{◌⊆◌}
use Rattle.discipline.proofs.machine.Discipline.{loop_arity, holds_of, loop_holds, less, unlent}
use Rattle.discipline.proofs.machine.Frames.{Setting, own, given}
use Rattle.discipline.proofs.machine.Fits.{element_fits}
use Rattle.discipline.proofs.machine.Rules.{Names, LineRules, TreeRules, outer_names, pass_rules}
use Rattle.discipline.proofs.machine.Claims.{LineClaim}
use Rattle.discipline.proofs.machine.Passes.{outer, lent_names}

module _ (C : Setting) where
  -- a loop with one part, whose passes have one name
  pub one_part : {x : ℕ} (k : Loop) (ps : List ℕ) (us : List Atom) (t : Tree) → loop_arity k ≡ 1 →
      ((Γ : NameDepths) (vs : List Atom) → length (pass_depths k Γ vs) ≡ 1) →
      ((p : ℕ) (a : Atom) → LineClaim C (loop x k (p ∷ []) (a ∷ []) t)) → LineClaim C (loop x k ps us t)
  one_part k ps [] t one each claim = λ B T A H P Δ rules. absurd (omega (arith, rules.fits.0.limits))
  one_part k ps (a ∷ (b ∷ us)) t one each claim = λ B T A H P Δ rules. absurd (omega (arith, rules.fits.0.limits))
  one_part k [] (a ∷ []) t one each claim = λ B T A H P Δ rules.
      absurd (omega (arith, ap length rules.fits.0.names, each C.depths (a ∷ [])))
  one_part k (p ∷ (q ∷ ps)) (a ∷ []) t one each claim = λ B T A H P Δ rules.
      absurd (omega (arith, ap length rules.fits.0.names, each C.depths (a ∷ [])))
  one_part k (p ∷ []) (a ∷ []) t one each claim = claim p a

  -- the loop is over the array a, and a pass names the element p
  pub record Site (x : ℕ) (k : Loop) (ps : List ℕ) (us : List Atom) (t : Tree) (a : Atom) (p : ℕ) (B : List ℕ)
      (T A : Set) (H P Δ : List ℕ) : Type 0 where
    pub rules : LineRules C (loop x k ps us t) B T A H P Δ
    pub over : loop_reads k us ≡ a ∷ []
    pub element : element_name k ps ≡ p ∷ []
    pub array : atom_depth C.depths a ≡ suc (C.depths p)

  module _ {x : ℕ} {k : Loop} {ps : List ℕ} {us : List Atom} {t : Tree} {a : Atom} {p : ℕ} {B : List ℕ} {T A : Set}
      {H P Δ : List ℕ} where
    pub loop_site : LineRules C (loop x k ps us t) B T A H P Δ → loop_reads k us ≡ a ∷ [] →
        element_name k ps ≡ p ∷ [] → C.depths p ≡ pred (atom_depth C.depths a) → 0 < atom_depth C.depths a →
        Site x k ps us t a p B T A H P Δ
    loop_site rules over element below deep = record {
      rules = rules;
      over = over;
      element = element;
      array = element_fits (C.depths p) (atom_depth C.depths a) below deep;
    }

    module _ (site : Site x k ps us t a p B T A H P Δ) where
      -- the holds once what is handed over is spent, and those of them that a pass has from outside
      abbrev left : List ℕ
      left = loop_holds C.depths k us H

      abbrev outside : List ℕ
      outside = outer C a B left

      pub site_reads : given C (a ∷ []) ⊆ (B ++ left)
      site_reads = subst (λ (l : List Atom). given C l ⊆ (B ++ left)) site.over site.rules.holds.1

      -- before the names of a pass are bound
      pub site_names : Names T (lent_names C a B left) outside outside
      site_names = subst (λ (l : List Atom). Names T (given C l ++ B) (less (unlent B (given C l)) left)
          (less (unlent B (given C l)) left)) site.over (outer_names C site.rules)

      pub site_tree : TreeRules C t (lent_names C a B left) (T ∪ just ps) (after_pass x ps t A)
          (holds_of C.depths (carried_name k ps) ++ outside) (own C p) outside (atom_depth C.depths (ending t))
      site_tree = subst (λ (q : List ℕ). TreeRules C t (lent_names C a B left) (T ∪ just ps) (after_pass x ps t A)
          (holds_of C.depths (carried_name k ps) ++ outside) q outside (atom_depth C.depths (ending t)))
          (ap (holds_of C.depths) site.element ∙ append-nil (own C p))
          (subst (λ (l : List Atom). TreeRules C t (given C l ++ B) (T ∪ just ps) (after_pass x ps t A)
          (holds_of C.depths (carried_name k ps) ++ less (unlent B (given C l)) left)
          (holds_of C.depths (element_name k ps)) (less (unlent B (given C l)) left)
          (atom_depth C.depths (ending t))) site.over (pass_rules C site.rules))
