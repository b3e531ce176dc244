-- The holders of a store's cells, computed.
use Rattle.std.specs.Prelude.{ℕ, ◌≡◌, refl, List, [], ◌∷◌, ℤ, pos, negsuc}
use Rattle.semantics.specs.Basics.{tabulate, occurrences}
use Rattle.semantics.specs.Store.{Cell, Store, cell_of, padded, elements, inner}
use Rattle.store_check.specs.Holders.{held_places, holders}

unfoldable cell_with : ℕ → ℕ → ℕ → List ℤ → Cell
cell_with count size depth ws = record { count = count; size = size; depth = depth; next = 0; slots = padded ws }

-- cell 0 names cell 1 twice and cell 2 once, and words that name none: one below 0 and, past its length, 3;
-- cell 1 has a number, and cell 3 is free
unfoldable sample : Store
sample = record {
  totals = pos 0;
  first = 3;
  cells = cell_with 1 4 1 (pos 1 ∷ pos 1 ∷ negsuc 0 ∷ pos 2 ∷ pos 3 ∷ [])
      ∷ cell_with 2 1 0 (pos 2 ∷ [])
      ∷ cell_with 1 0 0 []
      ∷ cell_with 0 1 1 (pos 2 ∷ [])
      ∷ [];
}

abbrev holders_of : ℕ → List ℕ
holders_of d = tabulate 0 4 (holders d sample)

-- with totals that are an array, and with a number for totals
rows : holders_of 2 ∷ holders_of 0 ∷ [] ≡ (1 ∷ 2 ∷ 1 ∷ 0 ∷ []) ∷ (0 ∷ 2 ∷ 1 ∷ 0 ∷ []) ∷ []
unfolding tabulate occurrences cell_of padded elements inner held_places holders cell_with sample
rows = refl
