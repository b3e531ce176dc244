-- The tree that stands at a node of an accepted file, and how many rows its lines take.
use Rattle.std.specs.Prelude.{◌≡◌, cond, List, ℕ, zero, suc, ◌+◌, pos, eqb}
use Rattle.semantics.specs.Kinds.{Leaf, call, literal, Loop}
use Rattle.semantics.specs.Syntax.{Expr, number, name, let_in, leaf, if_else, loop, Exprs, none, more, size, sizes}
use Rattle.semantics.specs.File as S
use Rattle.semantics.specs.File.{at_part, look, node_at, part_count, Shape, leaf_of, shape_of}
use Rattle.semantics.specs.Outcome.{done}
use Rattle.script_read.specs.Told.{parted}
use Rattle.plain_rows.specs.Plain.{is_unary, is_looping, unary_of, binary_of, loop_of, loop_size, of_loop}

-- m trees, one after the other
unfoldable pub several : (ℕ → Expr) → ℕ → ℕ → Exprs
several R zero p = none
several R (suc m) p = more (R p) (several R m (p + size (R p)))

-- the second number of a call (its function) and of a literal (its element depth)
abbrev pub second_part : ℕ → ℕ → ℕ → ℕ
second_part kind low high = cond (eqb kind 8) low (cond (eqb kind 9) high 0)

-- the leaf of a line by its kind and its second number
abbrev pub leaf_by : ℕ → ℕ → Leaf
leaf_by kind y =
    cond (eqb kind 8) (call y) (cond (eqb kind 9) (literal y) (cond (is_unary kind) (unary_of kind) (binary_of kind)))

-- how many parts a node has before its tree, if it is a loop's, or all in all
abbrev pub parts_before : ℕ → ℕ → ℕ → ℕ
parts_before kind low high = cond (is_looping kind) (loop_size (loop_of kind)) (part_count kind low high)

-- the tree of a leaf's or a loop's node whose parts are read by R from p on
abbrev pub loop_from : (ℕ → Expr) → Loop → ℕ → ℕ → ℕ → Expr
loop_from R k low high p =
    let es = several R (loop_size k) p in
    loop k (of_loop k low high) es (R (p + sizes es))

abbrev pub compound : (ℕ → Expr) → ℕ → ℕ → ℕ → ℕ → Expr
compound R kind low high p =
    cond (is_looping kind) (loop_from R (loop_of kind) low high p)
    (leaf (leaf_by kind (second_part kind low high)) (several R (part_count kind low high) p))

-- the trees of a let and an if whose first part is at p
abbrev pub let_from : (ℕ → Expr) → ℕ → ℕ → Expr
let_from R x p = let_in x (R p) (R (p + size (R p)))

abbrev pub if_from : (ℕ → Expr) → ℕ → Expr
if_from R p = if_else (R p) (R (p + size (R p))) (R (p + size (R p) + size (R (p + size (R p)))))

-- the nodes after two and three parts from p on
abbrev pub two_after : (ℕ → Expr) → ℕ → ℕ
two_after R p = p + size (R p) + size (R (p + size (R p)))

abbrev pub three_after : (ℕ → Expr) → ℕ → ℕ
three_after R p = two_after R p + size (R (two_after R p))

-- the tree of the node at p by its shape; R reads its parts
abbrev pub tree_of : (ℕ → Expr) → ℕ → S.Head → Shape → Expr
tree_of R p h S.none =
    cond (eqb h.kind 2) (number h.value)
    (cond (eqb h.kind 3) (name h.low)
    (cond (eqb h.kind 7) (let_from R h.low (p + 1)) (if_from R (p + 1))))
tree_of R p h (leaf_of l) = leaf l (several R (part_count h.kind h.low h.high) (p + 1))
tree_of R p h (S.loop_of k xs c) =
    loop k xs (several R c (p + 1)) (R (p + 1 + sizes (several R c (p + 1))))

abbrev pub node_tree : (ℕ → Expr) → ℕ → S.Node → Expr
node_tree R p (S.fits h) = tree_of R p h (shape_of h)
node_tree R p S.wrong_kind = number (pos 0)
node_tree R p S.wrong_operand = number (pos 0)

module _ (kinds operands : List ℕ) where
  -- the tree at node p, with so many levels left
  unfoldable pub tree_at : ℕ → ℕ → Expr
  tree_at zero p = number (pos 0)
  tree_at (suc d) p = node_tree (tree_at d) p (node_at kinds operands at_part p)

-- how many rows the lines of a tree take in the plain code
unfoldable mutual
  pub laid_rows : Expr → ℕ
  laid_rows (number z) = 0
  laid_rows (name x) = 0
  laid_rows (let_in x a b) = laid_rows a + laid_rows b
  laid_rows (leaf l es) = laid_all es + 1
  laid_rows (if_else a b c) = laid_rows a + laid_rows b + laid_rows c + 6
  laid_rows (loop k xs es b) = laid_all es + laid_rows b + 3

  -- with a row for the atom of each
  pub laid_all : Exprs → ℕ
  laid_all none = 0
  laid_all (more e es) = laid_rows e + 1 + laid_all es

-- at a node stands one of this kind and these parts of its operand, and some level is left for it
pub record NodeFits (kinds operands : List ℕ) (levels node kind low high : ℕ) : Type 0 where
  pub deep : levels ≡ 0 → ⊥
  pub stands : done (record { kind = kind; low = low; high = high }) node ≡ parted (look kinds operands at_part node)
