-- One function's plain rows read once, row by row: which names below 8 it hands over outside of calls, and a link for
-- each of them that it passes to a function. The reader keeps the row of the line whose atoms it is at, and how many
-- of them are still to come.
use Rattle.std.specs.Prelude.{◌≡◌, Bool, false, cond, not, ◌&&◌, ◌||◌, List, [], ◌++◌, ℕ, zero, suc}
use Rattle.std.specs.Prelude.{◌+◌, ◌-◌, ◌/◌, ◌%◌, ◌<◌, eqb, ltb, get_or, length, take}
use Rattle.semantics.specs.Basics.{with_if}
use Rattle.borrow_table.specs.Gathered.{link}

-- how many atoms a line of a kind has, m if it says so itself
abbrev pub atoms_by : ℕ → ℕ → ℕ
atoms_by kind m =
    cond (eqb kind 8) m
    (cond (eqb kind 9) m
    (cond (eqb kind 11) 1
    (cond (eqb kind 12) 1
    (cond (eqb kind 13) 1
    (cond (eqb kind 16) 1
    (cond (eqb kind 17) 1
    (cond (eqb kind 19) 1 2)))))))

-- how many atoms stand after the row of a line or an end
abbrev pub atoms_after : ℕ → ℕ
atoms_after row = atoms_by (row % 256) (row / 16777216 % 256)

-- whether an atom of a line of a kind is handed over outside of calls, where k more follow it: an end's, a literal's,
-- a reduce's start
abbrev pub hands_by : ℕ → ℕ → Bool
hands_by kind k = eqb kind 9 || (eqb kind 16 || (eqb kind 20 && eqb k 1))

abbrev pub hands : ℕ → ℕ → Bool
hands line k = hands_by (line % 256) k

-- the place of an atom of a call that k more follow
abbrev pub place_in : ℕ → ℕ → ℕ
place_in line k = line / 16777216 % 256 - suc k

-- the link of function f for the atom v of a call
abbrev pub link_in : ℕ → ℕ → ℕ → ℕ → ℕ
link_in f line k v = link f v (line / 65536 % 256) (place_in line k)

-- whether an atom v of a line makes a link
abbrev pub makes_link : ℕ → ℕ → Bool
makes_link line v = eqb (line % 256) 8 && ltb v 8

module _ (rows : List ℕ) where
  -- whether name i is handed over in the n rows from p on, the first of which are the last atoms of a line
  unfoldable pub hands_from : ℕ → ℕ → ℕ → ℕ → ℕ → Bool
  hands_from zero p line left i = false
  hands_from (suc n) p line zero i = hands_from n (p + 1) (get_or rows p 0) (atoms_after (get_or rows p 0)) i
  hands_from (suc n) p line (suc k) i =
      (hands line k && eqb (get_or rows p 0) i) || hands_from n (p + 1) line k i

  -- the links of function f in the n rows from p on
  unfoldable pub links_from : ℕ → ℕ → ℕ → ℕ → ℕ → List ℕ
  links_from f zero p line left = []
  links_from f (suc n) p line zero = links_from f n (p + 1) (get_or rows p 0) (atoms_after (get_or rows p 0))
  links_from f (suc n) p line (suc k) =
      with_if (makes_link line (get_or rows p 0)) (link_in f line k (get_or rows p 0)) (links_from f n (p + 1) line k)

-- of the first q rows
abbrev pub handed_over : List ℕ → ℕ → ℕ → Bool
handed_over rows q i = hands_from rows q 0 0 0 i

abbrev pub links_in : List ℕ → ℕ → ℕ → List ℕ
links_in rows f q = links_from rows f q 0 0 0

-- the first q rows of function f are read: its names, and its links after the n that there were
pub record Scanned (rows : List ℕ) (f q n : ℕ) (links₀ : List ℕ) (names : List Bool) (links : List ℕ) (count : ℕ) :
    Type 0 where
  pub long : length names ≡ 8
  pub handed : (i : ℕ) → i < 8 → get_or names i false ≡ not (handed_over rows q i)
  pub linked : take count links ≡ take n links₀ ++ links_in rows f q
  pub size : length links ≡ 1024
  pub many : count ≡ n + length (links_in rows f q)
