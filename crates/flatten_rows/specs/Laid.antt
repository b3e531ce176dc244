-- Rows laid from a place on, the uses of names that they note, the meanings of written names, and the depth of a line's
-- name.
use Rattle.std.specs.Prelude.{◌≡◌, cond, List, [], ◌∷◌, ℕ, zero, suc, pred, ◌+◌, ltb, eqb, get_or, set}
use Rattle.semantics.specs.Kinds.{Loop, mapping, filtering, reducing, rewriting}
use Rattle.semantics.specs.Code as C
use Rattle.semantics.specs.Normal.{Meanings}
use Rattle.plain_rows.specs.Plain.{meant, placed}

-- the list l with vs from place p on
unfoldable pub laid : List ℕ → ℕ → List ℕ → List ℕ
laid l p [] = l
laid l p (v ∷ vs) = laid (set l p v) (p + 1) vs

-- ---- uses: a place below 256 is a name

-- the rows of the last uses, after a use of the atom of place v at row r
unfoldable pub used_once : List ℕ → ℕ → ℕ → List ℕ
used_once last r v = cond (ltb v 256) (set last v r) last

-- the notes after it: at row r stands the row of the name's use before
unfoldable pub noted_once : List ℕ → List ℕ → ℕ → ℕ → List ℕ
noted_once notes last r v = cond (ltb v 256) (set notes r (get_or last v 0)) notes

-- after uses of the atoms of some places from row r on
unfoldable pub used : List ℕ → ℕ → List ℕ → List ℕ
used last r [] = last
used last r (v ∷ vs) = used (used_once last r v) (r + 1) vs

unfoldable pub noted : List ℕ → List ℕ → ℕ → List ℕ → List ℕ
noted notes last r [] = notes
noted notes last r (v ∷ vs) = noted (noted_once notes last r v) (used_once last r v) (r + 1) vs

-- the atoms of the places vs are laid from row p on: the rows k, notes n and last uses l become k₁, n₁ and l₁
pub record UsesLaid (k n l k₁ n₁ l₁ : List ℕ) (p : ℕ) (vs : List ℕ) : Type 0 where
  pub rows : k₁ ≡ laid k p vs
  pub notes : n₁ ≡ noted n l p vs
  pub last : l₁ ≡ used l p vs

-- a line's row, and the atoms of the places vs after it
pub record LineLaid (k n l k₁ n₁ l₁ : List ℕ) (p row : ℕ) (vs : List ℕ) : Type 0 where
  pub rows : k₁ ≡ laid k p (row ∷ vs)
  pub notes : n₁ ≡ noted n l (p + 1) vs
  pub last : l₁ ≡ used l (p + 1) vs

-- ---- meanings and depths

-- the place of no node: the number 0
abbrev pub nowhere : ℕ
nowhere = 65535

-- the atoms that the written names mean, over the places that stand in a table
abbrev pub meanings : List ℕ → List ℕ → Meanings
meanings operands places = λ y. meant (placed operands (get_or places y nowhere))

-- the atoms of some places
abbrev pub placed_all : List ℕ → List ℕ → List C.Atom
placed_all operands [] = []
placed_all operands (v ∷ vs) = meant (placed operands v) ∷ placed_all operands vs

-- the depth of an atom by its place
abbrev pub place_depth : List ℕ → ℕ → ℕ
place_depth depths v = cond (ltb v 256) (get_or depths v 0) 0

-- the depth of the name that a leaf binds: y is its second number, v and u are the places of its first two atoms
abbrev pub line_depth : List ℕ → List ℕ → ℕ → ℕ → ℕ → ℕ → ℕ
line_depth results depths kind y v u =
    cond (eqb kind 8) (get_or results y 0)
    (cond (eqb kind 9) (suc y)
    (cond (eqb kind 10) (pred (place_depth depths v))
    (cond (eqb kind 17) 1
    (cond (eqb kind 18) (suc (place_depth depths u)) 0))))

-- the depths of the names of a loop's pass, by the places v and u of its atoms
abbrev pub pass_places : Loop → List ℕ → ℕ → ℕ → List ℕ
pass_places mapping depths v u = pred (place_depth depths v) ∷ []
pass_places filtering depths v u = pred (place_depth depths v) ∷ []
pass_places reducing depths v u = place_depth depths v ∷ (pred (place_depth depths u) ∷ [])
pass_places rewriting depths v u = pred (place_depth depths v) ∷ []

-- the depth of the name that a loop binds: v is the place of its first atom, t that of the atom that its tree gives
abbrev pub loop_place : Loop → List ℕ → ℕ → ℕ → ℕ
loop_place mapping depths v t = suc (place_depth depths t)
loop_place filtering depths v t = place_depth depths v
loop_place reducing depths v t = place_depth depths v
loop_place rewriting depths v t = suc (place_depth depths t)

-- the third number of a loop's row, whose name is n: a reduce's second name of a pass
abbrev pub third_of : Loop → ℕ → ℕ
third_of mapping n = 0
third_of filtering n = 0
third_of reducing n = n + 2
third_of rewriting n = 0

-- the first m of a list
unfoldable pub firsts : List ℕ → ℕ → ℕ → List ℕ
firsts l i zero = []
firsts l i (suc m) = get_or l i 0 ∷ firsts l (i + 1) m
