-- What the test of a store gathers: how many places name each cell, its holders.
use Rattle.std.specs.Prelude.{ℕ, zero, suc, ◌<◌, ◌≡◌, List, [], ◌∷◌, ◌++◌, get_or, set}
use Rattle.semantics.specs.Basics.{each, occurrences}
use Rattle.semantics.specs.Store.{Cell, Store, cell_count, inner, named_by, one_more}

-- ---- holders

-- the cells that a cell of this count names: only a cell in use names any
abbrev pub held_as : ℕ → Cell → List ℕ
held_as zero x = []
held_as (suc n) x = inner x

abbrev pub held : Cell → List ℕ
held x = held_as x.count x

abbrev pub all_held : List Cell → List ℕ
all_held [] = []
all_held (x ∷ l) = held x ++ all_held l

-- what the places name: the totals of depth d, and the slots within the length of a cell in use
unfoldable pub held_places : ℕ → Store → List ℕ
held_places d σ = named_by d (σ.totals ∷ []) ++ all_held σ.cells

-- how many of them name cell c
unfoldable pub holders : ℕ → Store → ℕ → ℕ
holders d σ c = occurrences c (held_places d σ)

-- a count for each cell, of its holders
pub record Gathered (d : ℕ) (σ : Store) (counts : List ℕ) : Type 0 where
  pub are : (c : ℕ) → c < cell_count σ → get_or counts c 0 ≡ holders d σ c

-- ---- counting

-- one more for cell c
unfoldable pub tally_one : ℕ → List ℕ → List ℕ
tally_one c counts = set counts c (one_more (get_or counts c 0))

-- one more for each cell of a list
abbrev pub tally : List ℕ → List ℕ → List ℕ
tally l counts = each tally_one l counts
