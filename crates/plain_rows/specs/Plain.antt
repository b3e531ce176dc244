-- Plain code: the A-normal form in one array of rows, with notes beside it.
-- A row of a line packs its kind, the name that it binds and two numbers more, a byte each: a call's function or a
-- literal's element depth and how many atoms follow, or the names of a loop's pass.
-- A row of an atom holds its place: below 256 a new name, from 256 on the number of a node of the file.
-- The note at a line's first row is the first row of the line before it in the same tree, and at a tree's first row no
-- less than that row; at a name's row it is the row where that name was used before.
use Rattle.std.specs.Prelude.{Bool, false, cond, ◌||◌, List, [], ◌∷◌, ℕ, zero, suc, ◌+◌, ◌-◌, ◌*◌, ◌/◌, ◌%◌, ℤ, pos, ltb, leb, eqb, get_or, length}
use Rattle.semantics.specs.Number.{Operation, sum, difference, less, bytes_at, signed}
use Rattle.semantics.specs.Kinds.{Leaf, operation, index, length_of, iota, replicate}
use Rattle.semantics.specs.Kinds.{Loop, mapping, filtering, reducing, rewriting}
use Rattle.semantics.specs.Code as C
use Rattle.semantics.specs.Live.{Set}
use Rattle.kinds.specs.declared.Atom.{Atom}
use Rattle.kinds.specs.declared.Atom.TheVariants.{Number, Name}
use Rattle.plain_rows.specs.declared.Line.{Line}
use Rattle.plain_rows.specs.declared.Line.TheVariants as L

-- the set of an array of bools
abbrev pub set_of : List Bool → Set
set_of s = λ x. get_or s x false

abbrev pub meant : Atom → C.Atom
meant (Number z) = C.number z
meant (Name x) = C.name x

-- ---- rows

-- the number of a node, over the bytes of the file's operands; 0 past the end
unfoldable pub number_at : List ℕ → ℕ → ℤ
number_at operands p =
    cond (leb (8 * p + 8) (length operands)) (signed (bytes_at 8 operands (8 * p))) (pos 0)

unfoldable pub placed : List ℕ → ℕ → Atom
placed operands v = cond (ltb v 256) (Name v) (Number (number_at operands (v - 256)))

-- the m atoms of the places from a row on
unfoldable pub atoms_at : List ℕ → List ℕ → ℕ → ℕ → List C.Atom
atoms_at operands rows at zero = []
atoms_at operands rows at (suc m) = meant (placed operands (get_or rows at 0)) ∷ atoms_at operands rows (at + 1) m

abbrev pub packed_row : ℕ → ℕ → ℕ → ℕ → ℕ
packed_row kind x y m = kind + 256 * x + 65536 * y + 16777216 * m

-- the kinds of lines that read one atom, and of loops; what is no other kind reads two
abbrev pub is_unary : ℕ → Bool
is_unary kind = eqb kind 11 || eqb kind 17

abbrev pub is_looping : ℕ → Bool
is_looping kind = eqb kind 13 || (eqb kind 19 || eqb kind 20)

-- which line a kind is, with the other numbers of its row and the two atoms after it
abbrev pub line_of : ℕ → ℕ → ℕ → ℕ → Atom → Atom → Line
line_of kind x y m a b =
    cond (eqb kind 8) (L.Call x y m)
    (cond (eqb kind 9) (L.Literal x y m)
    (cond (is_unary kind) (L.Unary x kind a)
    (cond (eqb kind 12) (L.If x a)
    (cond (is_looping kind) (L.Loop x kind y m a b)
    (L.Binary x kind a b)))))

abbrev pub line_in : List ℕ → List ℕ → ℕ → ℕ → Line
line_in operands rows at row =
    line_of (row % 256) (row / 256 % 256) (row / 65536 % 256) (row / 16777216 % 256)
    (placed operands (get_or rows (at + 1) 0)) (placed operands (get_or rows (at + 2) 0))

unfoldable pub line_at : List ℕ → List ℕ → ℕ → Line
line_at operands rows at = line_in operands rows at (get_or rows at 0)

-- ---- rows and notes, over the file's operands

pub record Plain : Type 0 where
  pub operands : List ℕ
  pub rows : List ℕ
  pub notes : List ℕ

abbrev pub plain : List ℕ → List ℕ → List ℕ → Plain
plain operands rows notes = record { operands = operands; rows = rows; notes = notes }

-- ---- what the lines of a kind are

abbrev pub operation_of : ℕ → Operation
operation_of kind = cond (eqb kind 4) sum (cond (eqb kind 5) difference less)

abbrev pub unary_of : ℕ → Leaf
unary_of kind = cond (eqb kind 17) iota length_of

abbrev pub binary_of : ℕ → Leaf
binary_of kind = cond (eqb kind 10) index (cond (eqb kind 18) replicate (operation (operation_of kind)))

-- no row of plain code has kind 21: the walk writes it
abbrev pub loop_of : ℕ → Loop
loop_of kind = cond (eqb kind 20) reducing (cond (eqb kind 19) filtering (cond (eqb kind 21) rewriting mapping))

-- how many atoms a loop has, and names of a pass
abbrev pub loop_size : Loop → ℕ
loop_size mapping = 1
loop_size filtering = 1
loop_size reducing = 2
loop_size rewriting = 1

-- of two names or atoms those that a loop has: a reduce has both
abbrev pub of_loop : {A : Type 0} → Loop → A → A → List A
of_loop mapping a b = a ∷ []
of_loop filtering a b = a ∷ []
of_loop reducing a b = a ∷ (b ∷ [])
of_loop rewriting a b = a ∷ []

abbrev pub note : List ℕ → ℕ → ℕ
note notes q = get_or notes q q
