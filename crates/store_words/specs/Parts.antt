-- What the store's small functions promise of the two lent arrays.
use Rattle.std.specs.Prelude.{ℕ, ◌+◌, ◌-◌, ◌*◌, ◌<◌, ◌≤◌, ◌≡◌, ◌≢◌, List, Bool, true, false, ℤ, pos, length, get_or, set}
use Rattle.semantics.specs.Words.{cells_in}

-- the arrays hold n cells, and have room for each of them
pub record Holds (slots : List ℤ) (heads : List ℕ) (n : ℕ) : Type 0 where
  pub is : n ≡ cells_in slots heads
  pub in_heads : 4 * n ≤ length heads - 1
  pub in_slots : 16 * n ≤ length slots - 1
  pub most : n ≤ 256

-- c can be a cell's number, and the arrays have its head, its slots, or all its words
abbrev pub HasHead : List ℕ → ℕ → Type 0
HasHead heads c = (c < 256) × (4 * c + 4 < length heads)

abbrev pub HasSlots : List ℤ → ℕ → Type 0
HasSlots slots c = (c < 256) × (16 * c + 16 < length slots)

abbrev pub HasWords : List ℤ → List ℕ → ℕ → Type 0
HasWords slots heads c = (c < 256) × (4 * c + 4 < length heads) × (16 * c + 16 < length slots)

-- cell c is there, with all its words
abbrev pub InCells : List ℤ → List ℕ → ℕ → Type 0
InCells slots heads c = (c < cells_in slots heads) × HasWords slots heads c

-- the answer says whether cell c is there
pub record CellThere (slots : List ℤ) (heads : List ℕ) (c : ℕ) (r : Bool) : Type 0 where
  pub there : r ≡ true → InCells slots heads c
  pub gone : r ≡ false → cells_in slots heads ≤ c

-- the sixteen slots of cell c are zeros; every other word is as before
pub record Cleared (slots : List ℤ) (c : ℕ) (slots' : List ℤ) : Type 0 where
  pub inside : (k : ℕ) → k < 16 → get_or slots' (1 + 16 * c + k) (pos 0) ≡ pos 0
  pub outside : (d k : ℕ) → k < 16 → d ≢ c → get_or slots' (1 + 16 * d + k) (pos 0) ≡ get_or slots (1 + 16 * d + k) (pos 0)
  pub totals : get_or slots' 0 (pos 0) ≡ get_or slots 0 (pos 0)

-- the four numbers of a cell's head written
abbrev pub with_head : List ℕ → ℕ → ℕ → ℕ → ℕ → ℕ → List ℕ
with_head heads c count size depth next =
    set (set (set (set heads (1 + 4 * c) count) (2 + 4 * c) size) (3 + 4 * c) depth) (4 + 4 * c) next
