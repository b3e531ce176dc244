-- The row of each name's last use, as the rows of a tree are laid one after the other; 0 is no use yet.
use Rattle.std.specs.Prelude.{List, [], ◌∷◌, ℕ, ◌+◌, get_or, length}
use Rattle.semantics.specs.Basics.{updated}
use Rattle.semantics.specs.Code.{Atom, number, name, Line, leaf, if_else, loop, retain, release, Tree, end, line}

abbrev pub Marks : Type 0
Marks = ℕ → ℕ

-- the marks of an array
abbrev pub marks_of : List ℕ → Marks
marks_of c = λ x. get_or c x 0

-- ---- how many rows a tree takes before its annotation

unfoldable mutual
  pub extent : Tree → ℕ
  extent (end a) = 2
  extent (line l t) = line_extent l + extent t

  pub line_extent : Line → ℕ
  line_extent (leaf x l us) = 1 + length us
  line_extent (if_else x g t e) = 2 + extent t + extent e
  line_extent (loop x k ps us t) = 1 + length us + extent t
  line_extent (retain x) = 1
  line_extent (release x) = 1

-- ---- the last uses after some rows

-- after an atom at a row
unfoldable pub marked : Atom → ℕ → Marks → Marks
marked (number z) r M = M
marked (name x) r M = updated M x r

-- after some atoms from a row on
unfoldable pub marked_all : List Atom → ℕ → Marks → Marks
marked_all [] r M = M
marked_all (a ∷ us) r M = marked_all us (r + 1) (marked a r M)

unfoldable mutual
  -- after the tree that begins at row p
  pub marks : Tree → ℕ → Marks → Marks
  marks (end a) p M = marked a (p + 1) M
  marks (line l t) p M = marks t (p + line_extent l) (line_marks l p M)

  -- after the line at row p
  pub line_marks : Line → ℕ → Marks → Marks
  line_marks (leaf x l us) p M = marked_all us (p + 1) M
  line_marks (if_else x g t e) p M = marks e (p + 2 + extent t) (marks t (p + 2) (marked g (p + 1) M))
  line_marks (loop x k ps us t) p M = marks t (p + 1 + length us) (marked_all us (p + 1) M)
  line_marks (retain x) p M = M
  line_marks (release x) p M = M
