-- What a cell of the store that two arrays hold has, word by word.
use Rattle.prelude.specs.Kit.{ℕ, ◌≤◌, ◌+◌, ◌<◌, ◌*◌, min, arith, dec_lt, true, false, Bool}
use Rattle.prelude.specs.Kit.{◌≡◌, refl, ◌∙◌, sym, ap, ap₂, List, [], ℤ, pos, length, get_or, get_or-eq_default, take}
use Rattle.prelude.specs.Kit.{length-take, get_or-take, set_out, set-get_or}
use Rattle.semantics.specs.Store.{Cell, Store, cell, cell_count, clear, elements, with_cell}
use Rattle.semantics.specs.Words.{cells_in, slots_at, cell_at, store_of}
use Rattle.laws.specs.Cells.{same_store}
use Rattle.laws.specs.Lists.{tabulate_length}
use Rattle.store_words.specs.Parts.{InCells, CellThere}
use Rattle.store_words.proofs.Tables.{table_at}

-- a cell put back where it is
pub with_self : (σ : Store) (c : ℕ) → with_cell σ c (cell σ c) ≡ σ
unfolding with_cell cell
with_self σ c = same_store _ σ refl refl (set-get_or σ.cells c (clear 0))

pub cell_listed : (σ : Store) (c : ℕ) → get_or σ.cells c (clear 0) ≡ cell σ c
unfolding cell
cell_listed σ c = refl

module _ (slots : List ℤ) (heads : List ℕ) where
  -- all words of a cell that is there are there
  pub in_cells : (c : ℕ) → c < cells_in slots heads →
      (c < 256) × (4 * c + 4 < length heads) × (16 * c + 16 < length slots)
  unfolding cells_in
  in_cells c h = omega arith

  pub to_cells : (c : ℕ) → c < 256 → 4 * c + 4 < length heads → 16 * c + 16 < length slots → c < cells_in slots heads
  unfolding cells_in
  to_cells c a b d = omega arith

  pub few_cells : cells_in slots heads ≤ 256
  unfolding cells_in
  few_cells = omega arith

  pub store_size : cell_count (store_of slots heads) ≡ cells_in slots heads
  unfolding store_of
  store_size = tabulate_length (cells_in slots heads) 0 (cell_at slots heads)

  pub first_is : (store_of slots heads).first ≡ get_or heads 0 0
  unfolding store_of
  first_is = refl

  pub cell_is : (c : ℕ) → c < cells_in slots heads → cell (store_of slots heads) c ≡ cell_at slots heads c
  unfolding store_of cell
  cell_is c h = table_at (cells_in slots heads) (cell_at slots heads) c (clear 0) h

  pub cell_out : (c : ℕ) → cells_in slots heads ≤ c → cell (store_of slots heads) c ≡ clear 0
  unfolding cell
  cell_out c h = get_or-eq_default (store_of slots heads).cells (clear 0) (omega (arith, store_size))

  -- a cell that is not there takes no write
  pub with_out : (c : ℕ) (x : Cell) → cells_in slots heads ≤ c → with_cell (store_of slots heads) c x
      ≡ store_of slots heads
  unfolding with_cell
  with_out c x h = same_store _ _ refl refl (set_out (store_of slots heads).cells c x (omega (arith, store_size)))

  module _ (c : ℕ) (h : c < cells_in slots heads) where
    pub count_is : (cell (store_of slots heads) c).count ≡ get_or heads (1 + 4 * c) 0
    unfolding cell_at
    count_is = ap (λ (x : Cell). x.count) (cell_is c h)

    pub size_is : (cell (store_of slots heads) c).size ≡ get_or heads (2 + 4 * c) 0
    unfolding cell_at
    size_is = ap (λ (x : Cell). x.size) (cell_is c h)

    pub depth_is : (cell (store_of slots heads) c).depth ≡ get_or heads (3 + 4 * c) 0
    unfolding cell_at
    depth_is = ap (λ (x : Cell). x.depth) (cell_is c h)

    pub next_is : (cell (store_of slots heads) c).next ≡ get_or heads (4 + 4 * c) 0
    unfolding cell_at
    next_is = ap (λ (x : Cell). x.next) (cell_is c h)

    pub slots_are : (cell (store_of slots heads) c).slots ≡ slots_at slots c
    unfolding cell_at
    slots_are = ap (λ (x : Cell). x.slots) (cell_is c h)

-- ---- a test whether a cell is there

module _ {slots : List ℤ} {heads : List ℕ} {c : ℕ} where
  -- what is known past `if !is_cell(..)`, and inside it
  pub told_there : {r : Bool} → CellThere slots heads c r → r ≡ true → InCells slots heads c
  told_there t e = t.there e

  pub told_gone : {r : Bool} → CellThere slots heads c r → r ≡ false → cells_in slots heads ≤ c
  told_gone t e = t.gone e

-- ---- slots and elements

pub slots_length : (slots : List ℤ) (c : ℕ) → length (slots_at slots c) ≡ 16
unfolding slots_at
slots_length slots c = tabulate_length 16 0 (λ i. get_or slots (1 + 16 * c + i) (pos 0))

pub slot_is : (slots : List ℤ) (c i : ℕ) → i < 16 → get_or (slots_at slots c) i (pos 0)
    ≡ get_or slots (1 + 16 * c + i) (pos 0)
unfolding slots_at
slot_is slots c i h = table_at 16 (λ k. get_or slots (1 + 16 * c + k) (pos 0)) i (pos 0) h

module _ (slots : List ℤ) (heads : List ℕ) (c : ℕ) where
  pub elements_are : c < cells_in slots heads →
      elements (cell (store_of slots heads) c) ≡ take (get_or heads (2 + 4 * c) 0) (slots_at slots c)
  unfolding elements
  elements_are h = ap₂ take (size_is slots heads c h) (slots_are slots heads c h)

  pub elements_out : cells_in slots heads ≤ c → elements (cell (store_of slots heads) c) ≡ []
  unfolding elements clear
  elements_out h = ap elements (cell_out slots heads c h)

  pub length_in : c < cells_in slots heads → min (get_or heads (2 + 4 * c) 0) 16
      ≡ length (elements (cell (store_of slots heads) c))
  length_in h = sym (ap length (elements_are h)
      ∙ omega (arith, length-take (get_or heads (2 + 4 * c) 0) (slots_at slots c), slots_length slots c))

  pub length_out : cells_in slots heads ≤ c → 0 ≡ length (elements (cell (store_of slots heads) c))
  length_out h = sym (ap length (elements_out h))

  -- a cell has at most 16 elements
  pub few_elements : length (elements (cell (store_of slots heads) c)) ≤ 16
  few_elements = elim (dec_lt c (cells_in slots heads)) [
    | yes h ↦ omega (arith, length_in h)
    | no h ↦ omega (arith, length_out (omega (arith, h)))
  ]

  pub element_out : (i : ℕ) → length (elements (cell (store_of slots heads) c)) ≤ i →
      pos 0 ≡ get_or (elements (cell (store_of slots heads) c)) i (pos 0)
  element_out i h = sym (get_or-eq_default (elements (cell (store_of slots heads) c)) (pos 0) h)

  pub element_in : (i : ℕ) → c < cells_in slots heads → i < min (get_or heads (2 + 4 * c) 0) 16 →
      get_or slots (1 + 16 * c + i) (pos 0) ≡ get_or (elements (cell (store_of slots heads) c)) i (pos 0)
  element_in i h l = sym (ap (λ (ws : List ℤ). get_or ws i (pos 0)) (elements_are h)
      ∙ get_or-take (get_or heads (2 + 4 * c) 0) (slots_at slots c) i (pos 0) (omega arith)
      ∙ slot_is slots c i (omega arith))
