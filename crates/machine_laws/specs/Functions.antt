-- Functions in the code: the rows of each behind those of the one before it, and what is read of a function's rows.
use Rattle.std.specs.Prelude.{ℕ, ◌≤◌, ◌+◌, ◌<◌, suc, zero, ◌*◌, ◌%◌, ◌≡◌, List, [], ◌∷◌, ◌++◌, ℤ, length, get_or}
use Rattle.prelude.specs.Kit.{arith, ◌∙◌, ap, subst}
use Rattle.semantics.specs.Code.{Tree, Row, row, rows}
use Rattle.machine_code.specs.Reading.{low_bits, name_at}
use Rattle.machine_code.specs.Rows.{At, at_first, at_second, NamesAt}

-- the rows of some functions, one behind the other
unfoldable pub joined : List (List Row) → List Row
joined [] = []
joined (rs ∷ rss) = rs ++ joined rss

-- where those of function g begin
unfoldable pub head_of : List (List Row) → ℕ → ℕ
head_of [] g = 0
head_of (rs ∷ rss) zero = 0
head_of (rs ∷ rss) (suc g) = length rs + head_of rss g

-- each of them has a row
abbrev pub AllSome : List (List Row) → Type 0
AllSome [] = Unit {0}
AllSome (rs ∷ rss) = (0 < length rs) × AllSome rss

module _ (kinds : List ℕ) (operands : List ℤ) where
  pub joined_at : (rss : List (List Row)) (p g : ℕ) (none : List Row) → At kinds operands p (joined rss) →
      g < length rss → At kinds operands (p + head_of rss g) (get_or rss g none)
  unfolding joined head_of
  joined_at [] p g none h l = absurd (omega arith)
  joined_at (rs ∷ rss) p zero none h l =
      subst (λ (q : ℕ). At kinds operands q rs) (let z : p ≡ p + 0 = omega arith in z)
      (at_first kinds operands p rs (joined rss) h)
  joined_at (rs ∷ rss) p (suc g) none h l =
      subst (λ (q : ℕ). At kinds operands q (get_or rss g none))
      (let z : p + length rs + head_of rss g ≡ p + (length rs + head_of rss g) = omega arith in z)
      (joined_at rss (p + length rs) g none (at_second kinds operands p rs (joined rss) h) (omega arith))

-- a function stands at a position: its line, with how many parameters it has, their names and its tree
pub record FunctionAt (kinds : List ℕ) (operands : List ℤ) (p n : ℕ) (names : List ℕ) (t : Tree) : Type 0 where
  pub counted : name_at operands p ≡ n
  pub named : NamesAt operands (p + 1) names
  pub tree : At kinds operands (p + 1 + n) (rows t)

-- where the rows of the parameters have these names
pub function_at_rows : (kinds : List ℕ) (operands : List ℤ) (p n d : ℕ) (names : List ℕ) (rs : List Row) (t : Tree) →
    n ≤ 8 → length rs ≡ n → (At kinds operands (p + 1) rs → NamesAt operands (p + 1) names) →
    At kinds operands p (row 0 (n + 256 * d) ∷ (rs ++ rows t)) → FunctionAt kinds operands p n names t
function_at_rows kinds operands p n d names rs t few many named h = record {
  counted = ap (λ (z : ℤ). low_bits z % 256) h.0.operand
      ∙ (let z : (n + 256 * d) % 16777216 % 256 ≡ n = omega (arith, few) in z);
  named = named (at_first kinds operands (p + 1) rs (rows t) h.1);
  tree = subst (λ (k : ℕ). At kinds operands (p + 1 + k) (rows t)) many
      (at_second kinds operands (p + 1) rs (rows t) h.1);
}
