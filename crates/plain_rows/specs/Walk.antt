-- The walk of plain code backwards, as a function of positions: at each the live names, the rows of last uses and the
-- annotated rows from there on. What a tree uses is read from the rows of last uses; no tree is walked twice.
use Rattle.std.specs.Prelude.{cond, List, [], ◌∷◌, ◌++◌, ℕ, zero, suc, ◌+◌, ◌-◌, ltb, get_or, length}
use Rattle.semantics.specs.Kinds.{Leaf, call, literal, Loop, Borrowing}
use Rattle.semantics.specs.Kinds.{loop_hands, loop_reads}
use Rattle.semantics.specs.Code as C
use Rattle.semantics.specs.Code.{Row, row, atom_row}
use Rattle.semantics.specs.Live.{Set, only, among, ◌∪◌, ◌∖◌}
use Rattle.semantics.specs.Annotate.{NameDepths, dying, handed_again}
use Rattle.plain_rows.specs.Plain.{Plain, meant, placed, atoms_at, line_at, note}
use Rattle.plain_rows.specs.Plain.{unary_of, binary_of, loop_of, of_loop}
use Rattle.plain_rows.specs.Parts.{below, retain_rows, release_rows, leaf_part, loop_own, pass_opening}
use Rattle.plain_rows.specs.Parts.{written_as, loop_closing, ending}
use Rattle.plain_rows.specs.Marks.{Marks, marked}
use Rattle.plain_rows.specs.declared.Line.{Line}
use Rattle.plain_rows.specs.declared.Line.TheVariants as L

-- ---- names and rows of last uses

-- the names whose last use lies past a row
abbrev pub since : ℕ → Marks → Set
since s M = λ y. ltb s (M y)

-- the end line of an if's first tree, where the if is at row p: the note at that tree's first row says where the second
-- begins
unfoldable pub then_end : List ℕ → ℕ → ℕ
then_end notes p = cond (ltb (note notes (p + 2)) 4098) (note notes (p + 2) - 2) 0

-- the marks before an atom at row r: the note there is the row of the use before it
abbrev pub unmarked : List ℕ → ℕ → C.Atom → Marks → Marks
unmarked notes r a M = marked a (note notes r) M

-- the marks before some atoms from row r on
unfoldable pub unmarked_all : List ℕ → ℕ → List C.Atom → Marks → Marks
unmarked_all notes r [] M = M
unmarked_all notes r (a ∷ us) M = unmarked notes r a (unmarked_all notes (r + 1) us M)

-- ---- positions

pub record Point : Type 0 where
  pub names : Set
  pub marks : Marks
  pub rows : List Row

abbrev pub point : Set → Marks → List Row → Point
point A M rs = record { names = A; marks = M; rows = rs }

-- rows put before a position
abbrev pub put : List Row → Point → Point
put rs P = point P.names P.marks (rs ++ P.rows)

-- other names live there
abbrev pub with_names : Set → Point → Point
with_names A P = point A P.marks P.rows

-- over the places that are borrowed and the depths of a function's names
module _ (F : Plain) (B : Borrowing) (Γ : NameDepths) where
  -- the uses of some atoms from row r on taken back
  abbrev pub taken : ℕ → List C.Atom → Point → Point
  taken r us P = point (among us P.names) (unmarked_all F.notes r us P.marks) P.rows

  -- the names below x that are used past row r
  abbrev pub used_since : ℕ → ℕ → Point → Set
  used_since x r P = below x (since r P.marks)

  -- a leaf's line at row p
  unfoldable pub leaf_walk : ℕ → ℕ → Leaf → List C.Atom → Point → Point
  leaf_walk p x l us P = taken (p + 1) us (with_names (P.names ∖ x) (put (leaf_part B Γ x l us P.names) P))

  -- over the walk W of the tree whose end line is at a row
  module _ (W : ℕ → Point → Point) where
    -- the first tree of an if at p, after which A is live; E is the point before its second
    unfoldable pub then_walk : ℕ → ℕ → Set → Point → Point
    then_walk p x A E =
        W (then_end F.notes p)
        (with_names A (put (release_rows (dying Γ (used_since x (p + 2) E) E.names)) E))

    abbrev pub if_head : ℕ → ℕ → C.Atom → Point → Point → Point
    if_head p x g E T =
        taken (p + 1) (g ∷ []) (with_names (T.names ∪ E.names)
        (put (row 12 x ∷ (atom_row g ∷ [])) (put (release_rows (dying Γ (below x E.names) T.names)) T)))

    -- the trees of an if that stands from p to before q, its second and its first, and its own rows
    unfoldable pub if_trees : ℕ → ℕ → ℕ → C.Atom → Point → Point
    if_trees p q x g P = if_head p x g (W (q - 2) P) (then_walk p x P.names (W (q - 2) P))

    unfoldable pub if_walk : ℕ → ℕ → ℕ → C.Atom → Point → Point
    if_walk p q x g P =
        if_trees p q x g (with_names (P.names ∖ x) (put (release_rows (dying Γ (only x) P.names)) P))

    -- a loop of m atoms at p: the outer names that its tree uses, and what is live after its tree
    abbrev pub outer_names : ℕ → ℕ → ℕ → Point → Set
    outer_names p x m P = used_since x (p + 1 + m) P

    abbrev pub pass_names : ℕ → ℕ → ℕ → Point → Set
    pass_names p x m P = outer_names p x m P ∪ P.names ∖ x

    abbrev pub loop_head : ℕ → ℕ → Loop → List ℕ → List C.Atom → Set → Point → Point
    loop_head p x k ps us A T =
        taken (p + 1) us (with_names A
        (put (retain_rows (handed_again Γ (loop_hands k us) (among (loop_reads k us) A)))
        (put (loop_own x k ps us) (put (pass_opening Γ k ps T.names) T))))

    -- the tree of a loop that stands from p to before q, and its own rows
    unfoldable pub loop_tree : ℕ → ℕ → ℕ → Loop → List ℕ → List C.Atom → Point → Point
    loop_tree p q x k ps us P =
        let A = pass_names p x (length us) P in
        loop_head p x k ps us A (W (q - 2) (with_names A P))

    -- the loop k is written as another where it rewrites its array
    unfoldable pub loop_walk : ℕ → ℕ → ℕ → Loop → List ℕ → List C.Atom → Point → Point
    loop_walk p q x k ps us P =
        let O = outer_names p x (length us) P in
        let j = written_as Γ x k us O P.names in
        loop_tree p q x j ps us (put (loop_closing Γ x j us O P.names) P)

    -- a line that stands from p to before q
    unfoldable pub line_walk : ℕ → ℕ → Line → Point → Point
    line_walk p q (L.Unary x kind a) P = leaf_walk p x (unary_of kind) (meant a ∷ []) P
    line_walk p q (L.Binary x kind a b) P = leaf_walk p x (binary_of kind) (meant a ∷ (meant b ∷ [])) P
    line_walk p q (L.Call x f m) P = leaf_walk p x (call f) (atoms_at F.operands F.rows (p + 1) m) P
    line_walk p q (L.Literal x d m) P = leaf_walk p x (literal d) (atoms_at F.operands F.rows (p + 1) m) P
    line_walk p q (L.If x g) P = if_walk p q x (meant g) P
    line_walk p q (L.Loop x kind y z a b) P =
        let k = loop_of kind in
        loop_walk p q x k (of_loop k y z) (of_loop k (meant a) (meant b)) P

    -- the lines of a tree that stand before q, n at most
    unfoldable pub back_walk : ℕ → ℕ → Point → Point
    back_walk zero q P = P
    back_walk (suc n) q P =
        cond (ltb (note F.notes q) q)
        (back_walk n (note F.notes q)
        (line_walk (note F.notes q) q (line_at F.operands F.rows (note F.notes q)) P))
        P

  -- the end line at row e
  unfoldable pub end_walk : ℕ → Point → Point
  end_walk e P =
      let a = meant (placed F.operands (get_or F.rows (e + 1) 0)) in
      taken (e + 1) (a ∷ []) (put (ending Γ a P.names) P)

  -- the tree whose end line is at row e, with so many levels of trees in it
  unfoldable pub tree_walk : ℕ → ℕ → Point → Point
  tree_walk zero e P = end_walk e P
  tree_walk (suc d) e P = back_walk (tree_walk d) 4096 e (end_walk e P)
