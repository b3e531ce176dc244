-- Laws of the rows of parameters, written from the last to the first.
use Rattle.prelude.specs.Kit.{ℕ, ◌≤◌, ◌+◌, ◌<◌, ◌-◌, suc, ◌*◌, arith, ◌≡◌, ◌∙◌, sym, ap, List, [], ◌∷◌, ℤ}
use Rattle.semantics.specs.Syntax.{Parameter}
use Rattle.semantics.specs.Code.{row}
use Rattle.semantics.specs.File.{at_function, at_parameter}
use Rattle.semantics.specs.Annotate.{parameter_rows}
use Rattle.script_read.specs.Told.{low_at, high_at}
use Rattle.annotate_rows.specs.Wrote.{Wrote}
use Rattle.annotate_rows.proofs.Rows.{wrote_none, wrote_then, wrote_as}
use Rattle.flatten_functions.specs.Read.{parameters_at, read_function}
use Rattle.flatten_functions.proofs.Parameters.{Rest, rest_none, rest_more, rest_all, length_parameters}
use Rattle.translate_script.specs.Rows.{head_rows}

module _ (k w : List ℕ) (at : ℕ) where
  pub rows_begin : (m : ℕ) {ks : List ℕ} {os : List ℤ} {v : ℕ} →
      Wrote ks os ks os v v (parameter_rows (Rest k w at m m) m)
  unfolding parameter_rows
  rows_begin m = wrote_as (sym (ap (λ (l : List Parameter). parameter_rows l m) (rest_none k w at m))) wrote_none

  pub rows_go : (i m d : ℕ) → 0 < i → i ≤ m → d ≡ high_at k w at_parameter (at + (i - 1)) →
      {ks ks₁ ks₂ : List ℕ} {os os₁ os₂ : List ℤ} {v v₁ v₂ : ℕ} → Wrote ks os ks₁ os₁ v v₁ (parameter_rows
      (Rest k w at i m) i) →
      Wrote ks₁ os₁ ks₂ os₂ v₁ v₂ (row 1 (i - 1 + 256 * d) ∷ []) → Wrote ks os ks₂ os₂ v v₂ (parameter_rows
      (Rest k w at (i - 1) m) (i - 1))
  unfolding parameter_rows
  rows_go i m d g h e x y =
      wrote_as
      (rw (e) (sym (ap (λ (l : List Parameter). parameter_rows l (i - 1)) (rest_more k w at i m g h)
      ∙ ap (λ (j : ℕ). row 1 (i - 1 + 256 * high_at k w at_parameter (at + (i - 1)))
      ∷ parameter_rows (Rest k w at i m) j)
      (let z : suc (i - 1) ≡ i = omega arith in z))))
      (wrote_then x y)

  pub rows_end : (i m : ℕ) → i ≤ 0 → {ks ks₁ : List ℕ} {os os₁ : List ℤ} {v v₁ : ℕ} → Wrote ks os ks₁ os₁ v v₁
      (parameter_rows (Rest k w at i m) i) →
      Wrote ks os ks₁ os₁ v v₁ (parameter_rows (parameters_at k w at m) 0)
  rows_end i m h x = let e : i ≡ 0 = omega arith in wrote_as (ap (parameter_rows (Rest k w at i m)) e ∙ ap
      (λ (l : List Parameter). parameter_rows l 0) (rest_all k w at i m h)) x

-- ---- the rows before those of a function's tree

pub head_wrote : (k w : List ℕ) (at count result : ℕ) → count ≡ low_at k w at_function at →
    result ≡ high_at k w at_function at →
    {ks ks₁ ks₂ : List ℕ} {os os₁ os₂ : List ℤ} {v v₁ v₂ : ℕ} →
    Wrote ks os ks₁ os₁ v v₁ (parameter_rows (parameters_at k w (at + 1) count) 0) →
    Wrote ks₁ os₁ ks₂ os₂ v₁ v₂ (row 0 (count + 256 * result) ∷ []) →
    Wrote ks os ks₂ os₂ v v₂ (head_rows (read_function k w at))
unfolding head_rows read_function
head_wrote k w at count result e f x y =
    wrote_as
    (rw (← e, ← f) (ap (λ (n : ℕ). row 0 (n + 256 * result) ∷ parameter_rows (parameters_at k w (at + 1) count) 0)
    (sym (length_parameters k w at (at + 1) count))))
    (wrote_then x y)
