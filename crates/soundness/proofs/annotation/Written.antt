-- The loop that annotation writes: the one that was there, or a map that rewrites its array.
use Rattle.prelude.specs.Kit.{ℕ, arith, true, false, Bool, cond, not, ◌≡◌, refl, inl, inr, ◌⊎◌, List, [], ◌∷◌, eqb}
use Rattle.prelude.specs.Kit.{length, eqb-true, not-true}
use Rattle.semantics.specs.Kinds.{Borrowing, Loop, mapping, filtering, reducing, rewriting}
use Rattle.semantics.specs.Code.{Atom, number, name, Tree}
use Rattle.semantics.specs.Live.{Set, ◌∖∖◌, uses}
use Rattle.semantics.specs.Annotate.{NameDepths, Style, rewritable, written}
use Rattle.laws.specs.Tests.{both_hold}
use Rattle.discipline.proofs.machine.Discipline.{loop_arity}

-- A map i that binds x, after which A is live, is written as the loop j, which rewrites its array.
pub record Rewritten (Γ : NameDepths) (i j : Loop) (x : ℕ) (ps : List ℕ) (us : List Atom) (t : Tree) (A : Set) :
    Type 0 where
  pub was : i ≡ mapping
  pub is : j ≡ rewriting
  pub over : ℕ
  pub atoms : us ≡ name over ∷ []
  pub array : Γ over ≡ 1
  pub result : Γ x ≡ 1
  pub dead : A over ≡ false
  pub unused : (uses t ∖∖ ps) over ≡ false

module _ (style : Style) (β : Borrowing) (Γ : NameDepths) where
  pub written_as : (i : Loop) (x : ℕ) (ps : List ℕ) (us : List Atom) (t : Tree) (A : Set) → length us ≡ loop_arity i →
      (written style β Γ i x ps us t A ≡ i) ⊎ Rewritten Γ i (written style β Γ i x ps us t A) x ps us t A
  written_as mapping x ps [] t A h = inl refl
  written_as mapping x ps (number z ∷ us) t A h = inl refl
  written_as mapping x ps (name y ∷ []) t A h = go (rewritable style β Γ x ps (name y ∷ []) t A) refl
    where
      go : (b : Bool) → rewritable style β Γ x ps (name y ∷ []) t A ≡ b →
          (cond b rewriting mapping ≡ mapping)
          ⊎ Rewritten Γ mapping (cond b rewriting mapping) x ps (name y ∷ []) t A
      go true e =
          let array = both_hold (eqb (Γ y) 1) _ (both_hold style.rewrites _ e).1 in
          let result = both_hold (eqb (Γ x) 1) _ array.1 in
          let dead = both_hold (not (A y)) _ result.1 in
          inr record {
            was = refl;
            is = refl;
            over = y;
            atoms = refl;
            array = eqb-true (Γ y) 1 array.0;
            result = eqb-true (Γ x) 1 result.0;
            dead = not-true (A y) dead.0;
            unused = not-true ((uses t ∖∖ ps) y) dead.1;
          }
      go false e = inl refl
  written_as mapping x ps (name y ∷ u ∷ us) t A h = absurd (omega arith)
  written_as filtering x ps us t A h = inl refl
  written_as reducing x ps us t A h = inl refl
  written_as rewriting x ps us t A h = inl refl

  -- it has as many names
  pub written_arity : (i : Loop) (x : ℕ) (ps : List ℕ) (us : List Atom) (t : Tree) (A : Set) →
      loop_arity (written style β Γ i x ps us t A) ≡ loop_arity i
  written_arity mapping x ps us t A = go (rewritable style β Γ x ps us t A)
    where
      go : (b : Bool) → loop_arity (cond b rewriting mapping) ≡ 1
      go true = refl
      go false = refl
  written_arity filtering x ps us t A = refl
  written_arity reducing x ps us t A = refl
  written_arity rewriting x ps us t A = refl
