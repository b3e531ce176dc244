-- The functions' lines among the rows of lent code.
use Rattle.std.specs.Prelude.{ℕ, ◌≤◌, ◌+◌, ◌*◌, ◌≡◌, refl, List, [], ◌∷◌, ◌++◌, map, length}
use Rattle.prelude.specs.Kit.{arith, ◌∙◌, ap, ap₂, some, Option, append_assoc}
use Rattle.semantics.specs.Number.{sum, difference, less}
use Rattle.semantics.specs.Kinds.{Leaf, operation, call, literal, index, length_of, iota, replicate, Loop, mapping}
use Rattle.semantics.specs.Kinds.{filtering, reducing, rewriting, leaf_kind, leaf_operand, loop_kind, packed_names}
use Rattle.semantics.specs.Syntax.{Parameter}
use Rattle.semantics.specs.Code as C
use Rattle.semantics.specs.Code.{Atom, number, name, Line, leaf, if_else, loop, retain, release, Tree, end, line, Row}
use Rattle.semantics.specs.Code.{row, atom_row}
use Rattle.semantics_lent.specs.Form.{Lent, arities_of, arity_of}
use Rattle.lent_passing.specs.Operands.{parts_read}
use Rattle.lent_passing.specs.Functions.{parameter_row, lent_code}

-- rows that are no functions' are passed over
leaf_skips : (l : Leaf) (z : ℕ) (rs : List Row) → arities_of (row (leaf_kind l) z ∷ rs) ≡ arities_of rs
unfolding arities_of
leaf_skips (operation sum) z rs = refl
leaf_skips (operation difference) z rs = refl
leaf_skips (operation less) z rs = refl
leaf_skips (call f) z rs = refl
leaf_skips (literal d) z rs = refl
leaf_skips index z rs = refl
leaf_skips length_of z rs = refl
leaf_skips iota z rs = refl
leaf_skips replicate z rs = refl

loop_skips : (k : Loop) (z : ℕ) (rs : List Row) → arities_of (row (loop_kind k) z ∷ rs) ≡ arities_of rs
unfolding arities_of
loop_skips mapping z rs = refl
loop_skips filtering z rs = refl
loop_skips reducing z rs = refl
loop_skips rewriting z rs = refl

atom_skips : (a : Atom) (rs : List Row) → arities_of (atom_row a ∷ rs) ≡ arities_of rs
unfolding arities_of
atom_skips (number z) rs = refl
atom_skips (name x) rs = refl

atoms_skip : (us : List Atom) (rs : List Row) → arities_of (map atom_row us ++ rs) ≡ arities_of rs
atoms_skip [] rs = refl
atoms_skip (a ∷ us) rs = atom_skips a (map atom_row us ++ rs) ∙ atoms_skip us rs

mutual
  unfolding C.rows arities_of

  tree_skips : (t : Tree) (rs : List Row) → arities_of (C.rows t ++ rs) ≡ arities_of rs
  tree_skips (end a) rs = atom_skips a rs
  tree_skips (line l t) rs =
      ap arities_of (append_assoc (C.line_rows l) (C.rows t) rs) ∙ line_skips l (C.rows t ++ rs) ∙ tree_skips t rs

  line_skips : (l : Line) (rs : List Row) → arities_of (C.line_rows l ++ rs) ≡ arities_of rs
  line_skips (leaf x l us) rs = leaf_skips l (leaf_operand l x (length us)) (map atom_row us ++ rs) ∙ atoms_skip us rs
  line_skips (if_else x g t e) rs =
      atom_skips g ((C.rows t ++ C.rows e) ++ rs)
      ∙ ap arities_of (append_assoc (C.rows t) (C.rows e) rs) ∙ tree_skips t (C.rows e ++ rs) ∙ tree_skips e rs
  line_skips (loop x k ps us t) rs =
      loop_skips k (x + 256 * packed_names ps) ((map atom_row us ++ C.rows t) ++ rs)
      ∙ ap arities_of (append_assoc (map atom_row us) (C.rows t) rs) ∙ atoms_skip us (C.rows t ++ rs) ∙ tree_skips t rs
  line_skips (retain x) rs = refl
  line_skips (release x) rs = refl

parameters_skip : (xs : List Parameter) (rs : List Row) → arities_of (map parameter_row xs ++ rs) ≡ arities_of rs
unfolding arities_of
parameters_skip [] rs = refl
parameters_skip (x ∷ xs) rs = parameters_skip xs rs

abbrev pub arity : Lent → Option ℕ
arity g = some (length g.parameters)

-- a function's line says at most 8 parameters and a depth of at most 4
abbrev pub Stated : List Lent → Type 0
Stated [] = Unit {0}
Stated (g ∷ gs) = ((length g.parameters ≤ 8) × (g.result ≤ 4)) × Stated gs

-- the functions' lines say how many parameters each has
pub arities_are : (gs : List Lent) → Stated gs → arities_of (lent_code gs) ≡ map arity gs
unfolding arities_of lent_code
arities_are [] h = refl
arities_are (g ∷ gs) h =
    let xs = g.parameters in
    ap₂ (λ (a : Option ℕ) (l : List (Option ℕ)). a ∷ l)
    (ap arity_of (parts_read 0 (length xs + 256 * g.result) (length xs) g.result 0 (omega arith)
    (omega (arith, h.0)) (omega (arith, h.0)) h.0.0 h.0.1 (omega arith)))
    (ap arities_of (append_assoc (map parameter_row xs) (C.rows g.tree) (lent_code gs))
    ∙ parameters_skip xs (C.rows g.tree ++ lent_code gs) ∙ tree_skips g.tree (lent_code gs)
    ∙ arities_are gs h.1)
