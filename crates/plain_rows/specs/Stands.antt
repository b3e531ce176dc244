-- A tree stands in plain code from a row on: its lines and atoms are there, each line is linked to the one before it,
-- and each name's row to the row of the use before it.
use Rattle.std.specs.Prelude.{◌≡◌, List, [], ◌∷◌, false, ℕ, ◌+◌, ◌-◌, ◌%◌, ◌<◌, ◌≤◌, eqb, get_or, length}
use Rattle.semantics.specs.Kinds.{call, literal}
use Rattle.semantics.specs.Code as C
use Rattle.semantics.specs.Code.{Tree, end, line}
use Rattle.plain_rows.specs.Plain.{Plain, meant, placed, atoms_at, line_at, note}
use Rattle.plain_rows.specs.Plain.{unary_of, binary_of, loop_of, of_loop}
use Rattle.plain_rows.specs.Marks.{Marks, marked, marked_all, extent, line_extent, marks, line_marks}
use Rattle.plain_rows.specs.declared.Line.{Line}
use Rattle.plain_rows.specs.declared.Line.TheVariants as L

module _ (F : Plain) where
  -- the line l that begins at row p, with the trees t and e
  unfoldable pub line_with : ℕ → Tree → Tree → Line → C.Line
  line_with p t e (L.Unary x kind a) = C.leaf x (unary_of kind) (meant a ∷ [])
  line_with p t e (L.Binary x kind a b) = C.leaf x (binary_of kind) (meant a ∷ (meant b ∷ []))
  line_with p t e (L.Call x f m) = C.leaf x (call f) (atoms_at F.operands F.rows (p + 1) m)
  line_with p t e (L.Literal x d m) = C.leaf x (literal d) (atoms_at F.operands F.rows (p + 1) m)
  line_with p t e (L.If x g) = C.if_else x (meant g) t e
  line_with p t e (L.Loop x kind y z a b) =
      let k = loop_of kind in
      C.loop x k (of_loop k y z) (of_loop k (meant a) (meant b)) t

  -- the rows from p on are those of a line whose trees are t and e, and not of an end
  abbrev pub LineAt : ℕ → Tree → Tree → C.Line → Type 0
  LineAt p t e l =
      (line_with p t e (line_at F.operands F.rows p) ≡ l) × (eqb (get_or F.rows p 0 % 256) 16 ≡ false)

  -- the row p is an end's, and the row after it its atom's
  abbrev pub EndAt : ℕ → C.Atom → Type 0
  EndAt p a = (meant (placed F.operands (get_or F.rows (p + 1) 0)) ≡ a) × (get_or F.rows p 0 % 256 ≡ 16)

  -- a tree begins at row p: no line of its own tree stands before it
  abbrev pub Begins : ℕ → Type 0
  Begins p = p ≤ note F.notes p

  -- ---- links of uses

  -- the note at a name's row r is the row of its last use before, M
  abbrev pub Linked : C.Atom → ℕ → Marks → Type 0
  Linked (C.number z) r M = Unit {0}
  Linked (C.name x) r M = note F.notes r ≡ M x

  abbrev pub LinkedAll : List C.Atom → ℕ → Marks → Type 0
  LinkedAll [] r M = Unit {0}
  LinkedAll (a ∷ us) r M = Linked a r M × LinkedAll us (r + 1) (marked a r M)

  -- ---- trees

  -- The tree stands from row p on, where M are the last uses before; its own trees are of d levels at most.
  -- The note at the first row of an if's first tree says where the second begins.
  abbrev mutual
    pub Stands : ℕ → Tree → ℕ → Marks → Type 0
    Stands d (end a) p M = EndAt p a × Linked a (p + 1) M
    Stands d (line l t) p M =
        StandsLine d l p M × (note F.notes (p + line_extent l) ≡ p)
        × Stands d t (p + line_extent l) (line_marks l p M)

    pub StandsLine : ℕ → C.Line → ℕ → Marks → Type 0
    StandsLine d (C.leaf x l us) p M =
        LineAt p (end (C.name 0)) (end (C.name 0)) (C.leaf x l us) × LinkedAll us (p + 1) M
    StandsLine d (C.if_else x g t e) p M =
        LineAt p t e (C.if_else x g t e) × Linked g (p + 1) M × (0 < d)
        × ((note F.notes (p + 2) ≡ p + 2 + extent t) × Begins (p + 2 + extent t))
        × Stands (d - 1) t (p + 2) (marked g (p + 1) M)
        × Stands (d - 1) e (p + 2 + extent t) (marks t (p + 2) (marked g (p + 1) M))
    StandsLine d (C.loop x k ps us t) p M =
        LineAt p t t (C.loop x k ps us t) × LinkedAll us (p + 1) M × (0 < d) × Begins (p + 1 + length us)
        × Stands (d - 1) t (p + 1 + length us) (marked_all us (p + 1) M)
    StandsLine d (C.retain x) p M = ⊥
    StandsLine d (C.release x) p M = ⊥
