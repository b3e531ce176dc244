-- Laws of the table of depths, written function by function.
use Rattle.prelude.specs.Kit.{ℕ, ◌≤◌, ◌+◌, ◌<◌, ◌*◌, arith, ℕ_discrete, ◌≡◌, refl, ◌∙◌, ap, List, length, get_or}
use Rattle.semantics.specs.Syntax.{Script, function_at}
use Rattle.semantics.specs.Annotate.{depths_of}
use Rattle.translate_script.specs.Depths.{Noted, DepthsFrom}

-- ---- functions, from the last to the first

module _ {fs : Script} {table : List ℕ} where
  pub depths_none : (n : ℕ) → length fs ≤ n → DepthsFrom n fs table table
  depths_none n h = record {
    long = refl;
    there = λ g x a b k l. absurd (omega arith);
    before = λ i k. refl;
    after = λ i k. refl;
  }

  -- function n, after those behind it
  pub depths_one : {n m : ℕ} {depths table' table'' : List ℕ} → DepthsFrom m fs table table' → m ≡ n + 1 → n < length
      fs →
      (λ x. get_or depths x 0) ≡ depths_of fs (function_at fs n) → Noted n depths table' table'' →
      DepthsFrom n fs table table''
  depths_one {n} {m} {depths} {table'} {table''} h s l e k = record {
    long = k.long ∙ h.long;
    there = λ g x a b m o. one g x a b m o (ℕ_discrete g n);
    before = λ i m. k.before i m ∙ h.before i (omega arith);
    after = λ i m. k.after i (omega arith) ∙ h.after i m;
  }
    where
      one : (g x : ℕ) → n ≤ g → g < length fs → x < 256 → 8192 ≤ length table → Dec (g ≡ n) →
          get_or table'' (256 * g + x) 0 ≡ depths_of fs (function_at fs g) x
      one g x a b m o (yes z) = rw z (k.there x m (omega (arith, h.long)) ∙ ap (λ (d : ℕ → ℕ). d x) e)
      one g x a b m o (no z) =
          k.after (256 * g + x) (omega (arith, z)) ∙ h.there g x (omega (arith, z)) b m o
