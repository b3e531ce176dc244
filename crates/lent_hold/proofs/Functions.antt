-- One law for each way out of the functions.
use Rattle.prelude.specs.Kit.{ℕ, ◌≤◌, ◌+◌, ◌<◌, ◌-◌, suc, arith, not, ◌≡◌, refl, ◌∙◌, sym, ap}
use Rattle.prelude.specs.Kit.{fun_ext, List, ℤ, length, replicate}
use Rattle.semantics.specs.Outcome.{done, onward}
use Rattle.semantics.specs.Kinds.{Borrowing, picked}
use Rattle.semantics.specs.Live.{Set, empty}
use Rattle.semantics.specs.Annotate.{NameDepths}
use Rattle.semantics_lent.specs.Hold.{none_held, arrays_in, hold_all, same_holds}
use Rattle.machine_code.specs.Reading.{name_at}
use Rattle.lent_counts.specs.Counted.{counted}
use Rattle.std.specs.Prelude.{Result, Ok, Err, IfOk}
use Rattle.lent_form.specs.declared.Fault.{Fault}
use Rattle.lent_hold_lines.specs.Lines.{Below, ended, Ended}
use Rattle.lent_hold_trees.specs.Walk.{tree_at}
use Rattle.lent_hold_trees.proofs.Trees.{after_tree}
use Rattle.lent_hold.specs.Functions.{said, names_from, forgot, function_at, functions_at}
use Rattle.lent_hold.proofs.Parameters.{always}

module _ (kinds : List ℕ) (operands : List ℤ) (β : Borrowing) (Γ : NameDepths) (f p : ℕ) where
  module _ (c : ℕ) (is : c ≡ name_at operands p) (B : Set) (k : List ℕ) {l : List ℕ} {r : Result ℕ Fault}
      (tree : Ended (tree_at kinds operands β Γ 64 B empty (counted k) (same_holds (counted (replicate 256 0)))
      (p + 1 + c)) r l) where
    pub function_said : B ≡ arrays_in Γ (picked (β f) 0 (names_from operands c (p + 1))) →
        counted k ≡ hold_all Γ (picked (λ i. not (β f i)) 0 (names_from operands c (p + 1))) none_held →
        function_at kinds operands β Γ f p ≡ said r
    unfolding function_at forgot
    function_said b h =
        let place : p + 1 + c ≡ p + (1 + c) = omega arith in
        rw (← is, ← b, ← h, ← zeros, ← place) (ap forgot tree.is ∙ go r)
      where
        zeros : counted (replicate 256 0) ≡ none_held
        zeros = fun_ext (λ n. always 0 256 n)

        go : (r : Result ℕ Fault) → forgot (ended r l) ≡ said r
        go (Ok line) = refl
        go (Err fault) = refl

    pub function_near : length kinds ≤ 4096 → Below (p + 1 + c) k → IfOk r (λ line. line ≤ 4096)
    function_near few b = go r tree
      where
        go : (r : Result ℕ Fault) → Ended (tree_at kinds operands β Γ 64 B empty (counted k)
            (same_holds (counted (replicate 256 0))) (p + 1 + c)) r l → IfOk r (λ line. line ≤ 4096)
        go (Ok line) t =
            omega (arith, few, (after_tree kinds operands β Γ 64 B empty (same_holds (counted (replicate 256 0))) k b t).1.0)
        go (Err fault) t = tt

module _ (kinds : List ℕ) (operands : List ℤ) (β : Borrowing) (Γs : ℕ → NameDepths) (n : ℕ) where
  pub record Passing (f p : ℕ) : Type 0 where
    pub same : functions_at kinds operands β Γs n 0 0 ≡ functions_at kinds operands β Γs (n - f) f p
    pub near : p ≤ 4096

  pub passing_none : Passing 0 0
  passing_none = record {
    same = let z : n - 0 ≡ n = omega arith in ap (λ (m : ℕ). functions_at kinds operands β Γs m 0 0) (sym z);
    near = omega arith;
  }

  module _ {f p : ℕ} (g : Passing f p) where
    pub passing_all : n ≤ f → functions_at kinds operands β Γs n 0 0 ≡ done tt p
    unfolding functions_at
    passing_all h =
        g.same ∙ (let z : n - f ≡ 0 = omega (arith, h) in ap
        (λ (m : ℕ). functions_at kinds operands β Γs m f p) z)
        ∙ shut
      where
        shut : functions_at kinds operands β Γs 0 f p ≡ done tt p
        shut = refl

    module _ (more : f < n) (w : Result ℕ Fault) (one : function_at kinds operands β (Γs f) f p ≡ said w) where
      opened : functions_at kinds operands β Γs n 0 0
          ≡ onward (λ (u : Unit {0}). functions_at kinds operands β Γs (n - (f + 1)) (suc f)) (said w)
      unfolding functions_at
      opened =
          g.same
          ∙ (let z : n - f ≡ suc (n - (f + 1)) = omega (arith, more) in ap
          (λ (m : ℕ). functions_at kinds operands β Γs m f p) z)
          ∙ open_one (n - (f + 1)) ∙ ap (onward (λ (u : Unit {0}). functions_at kinds operands β Γs
          (n - (f + 1)) (suc f))) one
        where
          open_one : (m : ℕ) → functions_at kinds operands β Γs (suc m) f p
              ≡ onward (λ (u : Unit {0}). functions_at kinds operands β Γs m (suc f))
              (function_at kinds operands β (Γs f) f p)
          open_one m = refl

      pub passing_fault : {e : Fault} → w ≡ Err e → functions_at kinds operands β Γs n 0 0 ≡ said (Err e)
      unfolding onward
      passing_fault e = opened ∙ rw e refl

      pub passing_more : {line : ℕ} → w ≡ Ok line → line ≤ 4096 → Passing (f + 1) line
      unfolding onward
      passing_more e h = record {
        same = opened ∙ (let z : suc f ≡ f + 1 = omega arith in rw (e, z) refl);
        near = h;
      }
