-- What an acquire answers, and elements appended one after another.
use Rattle.std.specs.Prelude.{◌≡◌, cond, List, [], ◌∷◌, ℕ, ◌-◌, ℤ, Option, Some, None}
use Rattle.semantics.specs.Outcome.{Outcome, done, stop}
use Rattle.semantics.specs.Store.{Store, cell, has_free, appended, free_cells}
use Rattle.store.specs.declared.Gained.{Gained}

abbrev pub gained : ℕ → ℕ → Gained
gained c n = record { cell = c; left = n }

-- document 01's number and value for each case: a cell, or 25
abbrev pub acquired_outcome : Option Gained → Outcome (Unit {0}) Gained
acquired_outcome (Some g) = done g tt
acquired_outcome None = stop 25 tt

-- the free list's first cell, after which so many are free, and where there is none 25
unfoldable pub first_cell : Store → ℕ → Outcome (Unit {0}) Gained
first_cell σ left = cond (has_free σ) (done (gained σ.first left) tt) (stop 25 tt)

-- the same, where so many were free before it
unfoldable pub next_cell : ℕ → Store → Outcome (Unit {0}) Gained
unfolding first_cell
next_cell free σ = first_cell σ (free - 1)

-- Document 02, order 2: told how many cells of σ are free, an acquire answers how many remain free in the store τ that
-- it leaves. The free list, where it has a cell, has to begin with a free one.
abbrev pub Remaining : ℕ → Store → Outcome (Unit {0}) Gained → Store → Type 0
Remaining free σ answer τ =
    free ≡ free_cells σ → (cell σ σ.first).count ≡ 0 → answer ≡ first_cell σ (free_cells τ)

-- words appended to a cell, first to last
unfoldable pub appended_all : ℕ → List ℤ → Store → Store
appended_all c [] σ = σ
appended_all c (w ∷ ws) σ = appended_all c ws (appended c w σ)
