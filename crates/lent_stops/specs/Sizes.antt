-- How many lines lent code has, by its trees and functions.
use Rattle.std.specs.Prelude.{ℕ, ◌+◌, suc, List, [], ◌∷◌, length}
use Rattle.semantics.specs.Code.{Line, leaf, if_else, loop, retain, release, Tree, end, line}
use Rattle.semantics_lent.specs.Form.{Lent}

-- each atom has a line of its own
unfoldable mutual
  pub tree_size : Tree → ℕ
  tree_size (end a) = 2
  tree_size (line l t) = line_size l + tree_size t

  pub line_size : Line → ℕ
  line_size (leaf x l us) = suc (length us)
  line_size (if_else x g t e) = 2 + (tree_size t + tree_size e)
  line_size (loop x k ps us t) = suc (length us) + tree_size t
  line_size (retain x) = 1
  line_size (release x) = 1

abbrev pub function_size : Lent → ℕ
function_size g = suc (length g.parameters) + tree_size g.tree

unfoldable pub code_size : List Lent → ℕ
code_size [] = 0
code_size (g ∷ gs) = function_size g + code_size gs
