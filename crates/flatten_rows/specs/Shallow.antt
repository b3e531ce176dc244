-- Arrays are made of what has a depth of 3 at most, so that no name of a tree has a depth above 4. Only a replicate and
-- a map make an array deeper than all that they are given.
use Rattle.std.specs.Prelude.{List, ℕ, ◌≤◌}
use Rattle.semantics.specs.Kinds.{Leaf, operation, call, literal, index, length_of, iota, replicate}
use Rattle.semantics.specs.Kinds.{Loop, mapping, filtering, reducing, rewriting}
use Rattle.semantics.specs.Code as C
use Rattle.semantics.specs.Code.{Atom, Tree, end, line, ending}
use Rattle.semantics.specs.Annotate.{NameDepths, atom_depth, depth_of, pass_depths, with_depths, tree_depths}
use Rattle.semantics.specs.Annotate.{line_depths}

abbrev pub ShallowLeaf : Leaf → NameDepths → List Atom → Type 0
ShallowLeaf (operation o) Γ us = Unit {0}
ShallowLeaf (call f) Γ us = Unit {0}
ShallowLeaf (literal d) Γ us = Unit {0}
ShallowLeaf index Γ us = Unit {0}
ShallowLeaf length_of Γ us = Unit {0}
ShallowLeaf iota Γ us = Unit {0}
ShallowLeaf replicate Γ us = depth_of Γ us 1 ≤ 3

abbrev pub ShallowLoop : Loop → NameDepths → Atom → Type 0
ShallowLoop mapping Γ a = atom_depth Γ a ≤ 3
ShallowLoop filtering Γ a = Unit {0}
ShallowLoop reducing Γ a = Unit {0}
ShallowLoop rewriting Γ a = atom_depth Γ a ≤ 3

-- over the results of the functions: Γ are the depths of the names before a tree or a line
module _ (results : ℕ → ℕ) where
  abbrev mutual
    pub Shallow : Tree → NameDepths → Type 0
    Shallow (end a) Γ = Unit {0}
    Shallow (line l t) Γ = ShallowLine l Γ × Shallow t (line_depths results l Γ)

    pub ShallowLine : C.Line → NameDepths → Type 0
    ShallowLine (C.leaf x l us) Γ = ShallowLeaf l Γ us
    ShallowLine (C.if_else x g t e) Γ = Shallow t Γ × Shallow e (tree_depths results t Γ)
    ShallowLine (C.loop x k ps us t) Γ =
        let Δ = with_depths ps (pass_depths k Γ us) Γ in
        Shallow t Δ × ShallowLoop k (tree_depths results t Δ) (ending t)
    ShallowLine (C.retain x) Γ = Unit {0}
    ShallowLine (C.release x) Γ = Unit {0}
