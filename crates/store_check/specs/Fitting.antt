-- How the test of a store compares a cell with what was gathered.
use Rattle.std.specs.Prelude.{ℕ, zero, suc, ◌≡◌, Bool, ◌&&◌, List, eqb, leb, get_or}
use Rattle.semantics.specs.Store.{Cell, Store, cell}
use Rattle.semantics.specs.Sound.{zeros_from, elements_used}
use Rattle.store_check.specs.declared.Head.{Head}

-- the head of a cell
pub record HeadOf (x : Cell) (h : Head) : Type 0 where
  pub count : h.count ≡ x.count
  pub size : h.size ≡ x.size
  pub depth : h.depth ≡ x.depth
  pub next : h.next ≡ x.next

-- a head by its count, for a cell that the free list met so often and that has so many holders
unfoldable pub head_fits : ℕ → ℕ → ℕ → ℕ → ℕ → ℕ → Bool
head_fits zero size depth next met holders = eqb size 0 && (eqb depth 0 && eqb met 1)
head_fits (suc n) size depth next met holders =
    leb size 16 && (leb depth 3 && (eqb next 0 && (eqb met 0 && eqb (suc n) holders)))

-- a cell with its head and its slots
unfoldable pub cell_fits : Store → ℕ → ℕ → ℕ → Bool
cell_fits σ c met holders =
    let x = cell σ c in
    head_fits x.count x.size x.depth x.next met holders
    && (zeros_from x.slots x.size && elements_used σ x.depth x.slots x.size)

-- cell c, by the counts of all cells
unfoldable pub fits : Store → List ℕ → List ℕ → ℕ → Bool
fits σ met holders c = cell_fits σ c (get_or met c 0) (get_or holders c 0)
