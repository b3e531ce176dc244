-- A release by the count of its cell, and a count that was written.
use Rattle.std.specs.Prelude.{ℕ, suc, zero, ◌≡◌, refl}
use Rattle.prelude.specs.Kit.{ap}
use Rattle.semantics.specs.Basics.{each}
use Rattle.semantics.specs.Store.{Cell, Store, cell, inner, with_cell, with_count, freed, lowered, released}

pub count_with : (x : Cell) (n : ℕ) → (with_count x n).count ≡ n
unfolding with_count
count_with x n = refl

released_by : (levels c n : ℕ) (σ : Store) → (cell σ c).count ≡ n →
    released (suc levels) c σ ≡ lowered (released levels) n c σ
unfolding released
released_by levels c n σ e = ap (λ (m : ℕ). lowered (released levels) m c σ) e

pub released_none : (levels c : ℕ) (σ : Store) → (cell σ c).count ≡ 0 → released levels c σ ≡ σ
unfolding released lowered
released_none zero c σ e = refl
released_none (suc levels) c σ e = released_by levels c 0 σ e

pub released_one : (levels c n : ℕ) (σ : Store) → (cell σ c).count ≡ suc (suc n) →
    released (suc levels) c σ ≡ with_cell σ c (with_count (cell σ c) (suc n))
unfolding lowered
released_one levels c n σ e = released_by levels c (suc (suc n)) σ e

pub released_last : (levels c : ℕ) (σ : Store) → (cell σ c).count ≡ 1 →
    released (suc levels) c σ ≡ each (released levels) (inner (cell σ c)) (freed c σ)
unfolding lowered
released_last levels c σ e = released_by levels c 1 σ e
