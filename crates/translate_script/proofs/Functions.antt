-- Laws of the code of the functions of an accepted script, from the last to the first.
use Rattle.prelude.specs.Kit.{ℕ, ◌≤◌, ◌<◌, ◌-◌, suc, zero, arith, ◌≡◌, refl, ◌∙◌, sym, ap, fun_ext, List, [], ◌∷◌}
use Rattle.prelude.specs.Kit.{◌++◌, ℤ, length, get_or, drop, drop-cons}
use Rattle.semantics.specs.Syntax.{Function, Script, function_at, no_function}
use Rattle.semantics.specs.Code.{Row}
use Rattle.semantics.specs.Borrow.{Table, borrowed}
use Rattle.semantics.specs.Annotate.{result_of, depths_of, owned_depths, annotated_in, function_rows, functions_rows}
use Rattle.semantics.specs.Annotate.{code}
use Rattle.annotate_rows.specs.Wrote.{Wrote}
use Rattle.annotate_rows.proofs.Rows.{wrote_none, wrote_then, wrote_as}
use Rattle.flatten_functions.specs.Read.{read_function, depths_by}
use Rattle.flatten_functions.specs.Script.{Translatable, Resulting}
use Rattle.flatten_functions.proofs.Functions.{known, function_there}
use Rattle.translate_script.specs.Rows.{head_rows, owned_by, rows_by}
use Rattle.translate_script.specs.Places.{rows_from}

rows_same : (fs : Script) (T : Table) (f : ℕ) (g : Function) →
    rows_by (result_of fs) T f g ≡ function_rows fs T f g
unfolding rows_by owned_by depths_by function_rows annotated_in owned_depths depths_of head_rows
rows_same fs T f g = refl

depths_same : (fs : Script) (g : Function) → depths_by (result_of fs) g ≡ depths_of fs g
unfolding depths_by depths_of
depths_same fs g = refl

none_left : (gs : Script) (i : ℕ) → length gs ≤ i → drop i gs ≡ []
none_left [] zero h = refl
none_left [] (suc i) h = refl
none_left (g ∷ gs) zero h = absurd (let f : ⊥ = omega arith in f)
none_left (g ∷ gs) (suc i) h = none_left gs i (omega arith)

next_rows : (fs : Script) (i : ℕ) → i < length fs →
    rows_from fs i ≡ function_rows fs (borrowed fs) i (function_at fs i) ++ rows_from fs (suc i)
unfolding functions_rows
next_rows fs i h = ap (functions_rows fs (borrowed fs) i) (drop-cons fs i no_function h)

module _ {k w : List ℕ} {n : ℕ} {ss rs : List ℕ} (t : Translatable k w n ss) (hd : Resulting t.tree rs) where
  pub code_begins : {ks : List ℕ} {os : List ℤ} {v : ℕ} → Wrote ks os ks os v v (rows_from t.tree n)
  unfolding functions_rows
  code_begins =
      wrote_as (sym (ap (functions_rows t.tree (borrowed t.tree) n) (none_left t.tree n
      (omega (arith, (known t).1.0))))) wrote_none

  -- the function before number i, before those from i on
  pub code_goes : (T : Table) (i at : ℕ) {ks ks₁ ks₂ : List ℕ} {os os₁ os₂ : List ℤ} {v₀ v v₂ : ℕ} →
      T ≡ borrowed t.tree → 0 < i → i ≤ n → at ≡ get_or ss (i - 1) 0 →
      Wrote ks os ks₁ os₁ v₀ v (rows_from t.tree i) →
      Wrote ks₁ os₁ ks₂ os₂ v v₂ (rows_by (λ f. get_or rs f 0) T (i - 1) (read_function k w at)) →
      Wrote ks os ks₂ os₂ v₀ v₂ (rows_from t.tree (i - 1))
  code_goes T i at is g h e x y =
      wrote_as
      (ap (λ (l : List Row). l ++ rows_from t.tree i) rows_there
      ∙ ap (λ (j : ℕ). function_rows t.tree (borrowed t.tree) (i - 1) (function_at t.tree (i - 1))
      ++ rows_from t.tree j) (let z : i ≡ suc (i - 1) = omega arith in z)
      ∙ sym (next_rows t.tree (i - 1) (omega (arith, (known t).1.0))))
      (wrote_then x y)
    where
      rows_there : rows_by (λ f. get_or rs f 0) T (i - 1) (read_function k w at)
          ≡ function_rows t.tree (borrowed t.tree) (i - 1) (function_at t.tree (i - 1))
      rows_there =
          ap (λ (U : Table). rows_by (λ f. get_or rs f 0) U (i - 1) (read_function k w at)) is
          ∙ ap (λ (q : ℕ → ℕ). rows_by q (borrowed t.tree) (i - 1) (read_function k w at)) (fun_ext (λ f. hd.at f))
          ∙ ap (rows_by (result_of t.tree) (borrowed t.tree) (i - 1))
          (function_there t hd (i - 1) at (omega arith) e)
          ∙ rows_same t.tree (borrowed t.tree) (i - 1) (function_at t.tree (i - 1))

  -- the depths of the names of the function that is written
  pub depths_there : (i at : ℕ) → 0 < i → i ≤ n → at ≡ get_or ss (i - 1) 0 →
      depths_by (λ f. get_or rs f 0) (read_function k w at) ≡ depths_of t.tree (function_at t.tree (i - 1))
  depths_there i at g h e =
      ap (λ (q : ℕ → ℕ). depths_by q (read_function k w at)) (fun_ext (λ f. hd.at f))
      ∙ ap (depths_by (result_of t.tree)) (function_there t hd (i - 1) at (omega arith) e)
      ∙ depths_same t.tree (function_at t.tree (i - 1))

pub code_ends : (fs : Script) (i : ℕ) {ks ks₁ : List ℕ} {os os₁ : List ℤ} {v₀ v : ℕ} → i ≤ 0 →
    Wrote ks os ks₁ os₁ v₀ v (rows_from fs i) → Wrote ks os ks₁ os₁ v₀ v (code fs)
unfolding code
code_ends fs i h x = let e : i ≡ 0 = omega arith in rw e at x
