-- All nodes of a written script are in the file.
use Rattle.prelude.specs.Kit.{ℕ, ◌≤◌, ◌+◌, ◌<◌, arith, ◌≡◌, refl, ap, List, [], ◌∷◌, length}
use Rattle.semantics.specs.File as S
use Rattle.semantics.specs.File.{Place, at_part, node_at}
use Rattle.semantics.specs.Syntax.{Expr, number, name, let_in, leaf, if_else, loop, Exprs, none, more, size, sizes}
use Rattle.semantics.specs.Syntax.{Script, function_size}
use Rattle.script_read.proofs.Nodes.{told_node, node_says, inside}
use Rattle.script_read.proofs.Written.{Written, AllWritten, ScriptWritten, total}

module _ (k w : List ℕ) where
  pub node_inside : (place : Place) (p : ℕ) (h : S.Head) → node_at k w place p ≡ S.fits h → p < length k
  node_inside place p h e =
      let n = told_node (node_at k w place p) in
      inside k w place p n (node_says k w place p n refl) _ (ap told_node e)

  mutual
    unfolding size

    tree_ends : (e : Expr) (d p : ℕ) → Written k w e d p → p + size e ≤ length k
    tree_ends (number z) d p h = omega (arith, node_inside at_part p _ h.1)
    tree_ends (name x) d p h = omega (arith, node_inside at_part p _ h.1.is)
    tree_ends (let_in x a b) d p h = omega (arith, tree_ends b h.0.below (p + 1 + size a) h.3)
    tree_ends (leaf l es) d p h =
        omega (arith, trees_end es h.0.below (p + 1) h.2 (omega (arith, node_inside at_part p _ h.1.is)))
    tree_ends (if_else a b c) d p h = omega (arith, tree_ends c h.0.below (p + 1 + size a + size b) h.4)
    tree_ends (loop c xs es b) d p h = omega (arith, tree_ends b h.0.below (p + 1 + sizes es) h.3)

    trees_end : (es : Exprs) (d p : ℕ) → AllWritten k w es d p → p ≤ length k → p + sizes es ≤ length k
    trees_end none d p h l = omega arith
    trees_end (more e es) d p h l =
        omega (arith, trees_end es d (p + size e) h.1 (tree_ends e d p h.0))

  pub script_ends : (gs : Script) (p : ℕ) → ScriptWritten k w gs p → p ≤ length k → p + total gs ≤ length k
  unfolding function_size
  script_ends [] p h l = omega arith
  script_ends (g ∷ gs) p h l =
      omega (
        arith,
        script_ends gs (p + function_size g) h.1
            (omega (arith, tree_ends g.body 64 (p + 1 + length g.parameters) h.0.body)),
      )
