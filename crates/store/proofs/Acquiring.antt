-- Acquiring a cell: a law for each way out of the code.
use Rattle.prelude.specs.Kit.{ℕ, ◌≤◌, ◌+◌, ◌<◌, ◌-◌, ◌*◌, arith, true, false, Bool, ◌≡◌, refl, ◌∙◌, sym, ap, List, []}
use Rattle.prelude.specs.Kit.{ℤ, length, get_or, length-set, lt-ltb, le-ltb, ltb-true}
use Rattle.std.specs.Prelude.{Some, slice_get}
use Rattle.std.proofs.lemmas.Option.{get_or_from_slice_get}
use Rattle.semantics.specs.Outcome.{Outcome, done, stop}
use Rattle.semantics.specs.Store.{Store, cell, cell_count, with_first, with_cell, has_free, filled, acquired}
use Rattle.semantics.specs.Store.{free_cells}
use Rattle.semantics.specs.Words.{cells_in, store_of}
use Rattle.laws.specs.Levels.{taken_with}
use Rattle.store_words.proofs.CellWords.{store_size, first_is, next_is}
use Rattle.store_words.proofs.Written.{Written, written_store}
use Rattle.store.specs.declared.Gained.{Gained}
use Rattle.store.specs.Acquiring.{gained, first_cell, next_cell, Remaining}

-- ---- how many cells remain free

module _ (d : ℕ) (ws : List ℤ) (σ : Store) (free : (cell σ σ.first).count ≡ 0) where
  -- one fewer than before, where there is one
  fewer : has_free σ ≡ true → free_cells σ - 1 ≡ free_cells (acquired d ws σ)
  unfolding has_free acquired filled with_first with_cell
  fewer e =
      let within = ltb-true σ.first (cell_count σ) e in
      let taken = taken_with σ σ.first (filled d ws) within in
      rw e (omega (arith, rw free at taken, length-set σ.cells σ.first (filled d ws)))

  remain : first_cell σ (free_cells σ - 1) ≡ first_cell σ (free_cells (acquired d ws σ))
  unfolding first_cell
  remain = go (has_free σ) refl
    where
      go : (t : Bool) → has_free σ ≡ t → first_cell σ (free_cells σ - 1) ≡ first_cell σ (free_cells (acquired d ws σ))
      go true e = ap (first_cell σ) (fewer e)
      go false e = rw e refl

-- what an acquire answers and leaves, with the cells that remain free
pub with_remaining : (free d : ℕ) (ws : List ℤ) (σ : Store) (answer : Outcome (Unit {0}) Gained)
    (τ : Store) → (answer ≡ next_cell free σ) × (τ ≡ acquired d ws σ) →
    (answer ≡ next_cell free σ) × (τ ≡ acquired d ws σ) × Remaining free σ answer τ
unfolding next_cell
with_remaining free d ws σ answer τ h = (
  h.0,
  h.1,
  λ told first. h.0 ∙ ap (λ (n : ℕ). first_cell σ (n - 1)) told ∙ remain d ws σ first
      ∙ ap (λ (υ : Store). first_cell σ (free_cells υ)) (sym h.1),
)

-- ---- the ways out

module _ (slots : List ℤ) (heads : List ℕ) where
  first_in : get_or heads 0 0 < cells_in slots heads → has_free (store_of slots heads) ≡ true
  unfolding has_free
  first_in h = lt-ltb (store_of slots heads).first (cell_count (store_of slots heads))
      (omega (arith, store_size slots heads, first_is slots heads))

  first_out : cells_in slots heads ≤ get_or heads 0 0 → has_free (store_of slots heads) ≡ false
  unfolding has_free
  first_out h = le-ltb (store_of slots heads).first (cell_count (store_of slots heads))
      (omega (arith, store_size slots heads, first_is slots heads))

  -- the free list's first cell c is not there
  pub none_acquired : (depth free : ℕ) (words : List ℤ) (c : ℕ) → Some c ≡ slice_get heads 0 → cells_in slots heads ≤ c →
      (stop 25 tt ≡ next_cell free (store_of slots heads))
      × (store_of slots heads ≡ acquired depth words (store_of slots heads))
  unfolding next_cell acquired
  none_acquired depth free words c e h =
      let out = first_out (rw (get_or_from_slice_get heads 0 c 0 (sym e)) h) in
      (sym (rw out refl), sym (rw out refl))

  -- where the heads have no word, no cell is free
  module _ (e : length heads ≡ 0) where
    none_in_empty : has_free (store_of slots heads) ≡ false
    unfolding cells_in
    none_in_empty = first_out (omega arith)

    pub first_of_empty : (left : ℕ) → first_cell (store_of slots heads) left ≡ stop 25 tt
    unfolding first_cell
    first_of_empty left = rw none_in_empty refl

    pub next_of_empty : (free : ℕ) → next_cell free (store_of slots heads) ≡ stop 25 tt
    unfolding next_cell
    next_of_empty free = rw none_in_empty refl

    pub acquired_of_empty : (depth : ℕ) (words : List ℤ) → acquired depth words (store_of slots heads)
        ≡ store_of slots heads
    unfolding acquired
    acquired_of_empty depth words = rw none_in_empty refl

  -- the free list's first cell c is there, and was written
  pub one_acquired : (depth free : ℕ) (c : ℕ) {slots' : List ℤ} {heads' : List ℕ} → Some c ≡ slice_get heads 0 →
      Written slots heads c (get_or heads (4 + 4 * c) 0) 1 0 depth 0 slots' heads' → c < cells_in slots heads →
      (done (gained c (free - 1)) tt ≡ next_cell free (store_of slots heads))
      × (store_of slots' heads' ≡ acquired depth [] (store_of slots heads))
  unfolding next_cell acquired filled with_first store_of with_cell cell
  one_acquired depth free c e w h =
      let is = get_or_from_slice_get heads 0 c 0 (sym e) in
      let first = first_in (rw is h) in (
        sym (rw (first, first_is slots heads, is) refl),
        sym (rw (first, first_is slots heads, is, next_is slots heads c h) (sym (written_store w h))),
      )

-- what an acquire answers and leaves where the heads have no word
pub ruleset of_empty = (first_of_empty, next_of_empty, acquired_of_empty)
