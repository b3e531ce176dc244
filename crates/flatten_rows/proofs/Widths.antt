-- How many rows the lines of a tree take: as many as laid, and few by its nodes and new names.
use Rattle.prelude.specs.Kit.{ℕ, ◌≤◌, ◌+◌, ◌*◌, arith, ◌≡◌, ◌∙◌, length}
use Rattle.semantics.specs.Basics.{updated}
use Rattle.semantics.specs.Syntax as S
use Rattle.semantics.specs.Syntax.{Expr, Exprs, size, sizes}
use Rattle.semantics.specs.Code.{Tree, end}
use Rattle.semantics.specs.Normal.{Meanings, fresh, fresh_all, atom, atoms, lines, all_lines, normal}
use Rattle.plain_rows.specs.Marks.{extent}
use Rattle.flatten_rows.specs.Source.{laid_rows, laid_all}

mutual
  unfolding laid_rows fresh size

  -- at most one row for each node and three for each name, less one
  pub laid_bound : (e : Expr) → laid_rows e + 1 ≤ size e + 3 * fresh e
  laid_bound (S.number z) = omega arith
  laid_bound (S.name x) = omega arith
  laid_bound (S.let_in x a b) = omega (arith, laid_bound a, laid_bound b)
  laid_bound (S.leaf l es) = omega (arith, laid_all_bound es)
  laid_bound (S.if_else a b c) = omega (arith, laid_bound a, laid_bound b, laid_bound c)
  laid_bound (S.loop k xs es b) = omega (arith, laid_all_bound es, laid_bound b)

  laid_all_bound : (es : Exprs) → laid_all es ≤ sizes es + 3 * fresh_all es
  laid_all_bound S.none = omega arith
  laid_all_bound (S.more e es) = omega (arith, laid_bound e, laid_all_bound es)

leaf_rows : (a c m k : ℕ) → a + m ≡ c + (1 + m + k) → a ≡ c + 1 + k
leaf_rows a c m k e = omega arith

loop_rows : (a c m t l k : ℕ) → a + m ≡ c + (1 + m + t + k) → t ≡ l + 2 → a ≡ c + l + 3 + k
loop_rows a c m t l k e f = omega arith

mutual
  unfolding laid_rows lines atom extent

  pub lines_extent : (e : Expr) (μ : Meanings) (n : ℕ) (k : Tree) → extent (lines e μ n k) ≡ laid_rows e + extent k
  lines_extent (S.number z) μ n k = omega arith
  lines_extent (S.name x) μ n k = omega arith
  lines_extent (S.let_in x a b) μ n k =
      lines_extent a μ n _ ∙ omega (arith, lines_extent b (updated μ x (atom a μ n)) (n + fresh a) k)
  lines_extent (S.leaf l es) μ n k = leaf_rows _ _ (length (atoms es μ n)) (extent k) (all_extent es μ n _)
  lines_extent (S.if_else a b c) μ n k =
      lines_extent a μ n _
      ∙ omega (
        arith,
        lines_extent b μ (n + fresh a + 1) (end (atom b μ (n + fresh a + 1))),
        lines_extent c μ (n + fresh a + 1 + fresh b) (end (atom c μ (n + fresh a + 1 + fresh b))),
      )
  lines_extent (S.loop j xs es b) μ n k =
      loop_rows _ _ (length (atoms es μ n)) _ _ (extent k) (all_extent es μ n _) (lines_extent b _ _ _)

  all_extent : (es : Exprs) (μ : Meanings) (n : ℕ) (k : Tree) →
      extent (all_lines es μ n k) + length (atoms es μ n) ≡ laid_all es + extent k
  all_extent S.none μ n k = omega arith
  all_extent (S.more e es) μ n k = omega (
    arith,
    lines_extent e μ n (all_lines es μ (n + fresh e) k),
    all_extent es μ (n + fresh e) k,
  )

pub normal_extent : (e : Expr) (μ : Meanings) (n : ℕ) → extent (normal e μ n) ≡ laid_rows e + 2
unfolding normal extent
normal_extent e μ n = lines_extent e μ n (end (atom e μ n))
