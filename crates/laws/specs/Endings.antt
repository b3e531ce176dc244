-- The lines of an expression end as what comes after them ends.
use Rattle.std.specs.Prelude.{ℕ, ◌+◌, ◌≡◌, refl}
use Rattle.prelude.specs.Kit.{◌∙◌}
use Rattle.semantics.specs.Basics.{updated}
use Rattle.semantics.specs.Syntax as S
use Rattle.semantics.specs.Syntax.{Expr, Exprs}
use Rattle.semantics.specs.Code.{Tree, ending}
use Rattle.semantics.specs.Normal.{Meanings, fresh, atom, lines, all_lines}

mutual
  unfolding lines ending

  pub ending_lines : (e : Expr) (μ : Meanings) (n : ℕ) (k : Tree) → ending (lines e μ n k) ≡ ending k
  ending_lines (S.number z) μ n k = refl
  ending_lines (S.name x) μ n k = refl
  ending_lines (S.let_in x a b) μ n k = ending_lines a μ n _ ∙ ending_lines b (updated μ x (atom a μ n)) (n + fresh a) k
  ending_lines (S.leaf l es) μ n k = ending_all_lines es μ n _
  ending_lines (S.if_else a b c) μ n k = ending_lines a μ n _
  ending_lines (S.loop j xs es b) μ n k = ending_all_lines es μ n _

  pub ending_all_lines : (es : Exprs) (μ : Meanings) (n : ℕ) (k : Tree) → ending (all_lines es μ n k) ≡ ending k
  ending_all_lines S.none μ n k = refl
  ending_all_lines (S.more e es) μ n k = ending_lines e μ n _ ∙ ending_all_lines es μ (n + fresh e) k
