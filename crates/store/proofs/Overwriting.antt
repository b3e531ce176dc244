-- Overwriting an element of a cell, and the test whether it has one reference: a law for each way out of the code.
use Rattle.prelude.specs.Kit.{ℕ, ◌≤◌, ◌+◌, ◌<◌, ◌*◌, arith, false, ◌≡◌, refl, ◌∙◌, sym, ap, List, eqb, ℤ, pos, length}
use Rattle.prelude.specs.Kit.{get_or, set, length-set, get_or-set_other, set_out, lt-ltb, le-ltb}
use Rattle.semantics.specs.Store.{Cell, cell, clear, with_cell, with_slot, overwritten}
use Rattle.semantics.specs.Words.{cells_in, cell_at, store_of}
use Rattle.laws.specs.Cells.{same_cell}
use Rattle.store_words.proofs.CellWords.{in_cells, cell_is, cell_out, count_is, size_is, slots_are, slots_length}
use Rattle.store_words.proofs.CellWords.{with_self}
use Rattle.store_words.proofs.Puts.{Put, put_store, first_same}
use Rattle.store.proofs.Appending.{slots_here, slots_other}

module _ (slots : List ℤ) (heads : List ℕ) (c i : ℕ) (w : ℤ) (h : c < cells_in slots heads) where
  -- no word changes where the cell does not
  unchanged : with_slot (cell (store_of slots heads) c) i w ≡ cell (store_of slots heads) c →
      store_of slots heads ≡ overwritten c i w (store_of slots heads)
  unfolding overwritten
  unchanged e =
      sym (ap (λ (x : Cell). with_cell (store_of slots heads) c x) e ∙ with_self (store_of slots heads) c)

  pub overwrite_past : get_or heads (2 + 4 * c) 0 ≤ i → store_of slots heads ≡ overwritten c i w (store_of slots heads)
  unfolding with_slot
  overwrite_past b =
      unchanged (rw (le-ltb i (cell (store_of slots heads) c).size (omega (arith, size_is slots heads c h))))

  -- a cell has 16 slots, whatever its length
  pub overwrite_outside : i < get_or heads (2 + 4 * c) 0 → 16 ≤ i →
      store_of slots heads ≡ overwritten c i w (store_of slots heads)
  unfolding with_slot
  overwrite_outside l b =
      unchanged (rw (lt-ltb i (cell (store_of slots heads) c).size (omega (arith, size_is slots heads c h)))
      (same_cell _ _ refl refl refl refl (set_out (cell (store_of slots heads) c).slots i w
      (omega (arith, ap length (slots_are slots heads c h), slots_length slots c, b)))))

  overwrite_put : i < get_or heads (2 + 4 * c) 0 → i < 16 →
      Put slots heads c (with_slot (cell_at slots heads c) i w) (get_or heads 0 0) (set slots (1 + 16 * c + i) w) heads
  unfolding cell_at with_slot
  overwrite_put l b = let r = in_cells slots heads c h in record {
    kept = record { slots_long = length-set slots (1 + 16 * c + i) w; heads_long = refl };
    here = rw (lt-ltb i (get_or heads (2 + 4 * c) 0) l)
        (same_cell _ _ refl refl refl refl (slots_here slots heads c w i b r.2));
    other = λ d f. same_cell _ _ refl refl refl refl (slots_other slots heads c w i b d f);
    totals = get_or-set_other slots (1 + 16 * c + i) 0 w (pos 0) (λ q. omega arith);
    head = refl;
  }

  pub overwrite_one : i < get_or heads (2 + 4 * c) 0 → i < 16 →
      store_of (set slots (1 + 16 * c + i) w) heads ≡ overwritten c i w (store_of slots heads)
  unfolding overwritten
  overwrite_one l b = put_store (overwrite_put l b) h ∙ first_same slots heads c _
      ∙ ap (λ (x : Cell). with_cell (store_of slots heads) c (with_slot x i w)) (sym (cell_is slots heads c h))

-- ---- the test

module _ (slots : List ℤ) (heads : List ℕ) (c : ℕ) where
  pub alone_out : cells_in slots heads ≤ c → false ≡ eqb (cell (store_of slots heads) c).count 1
  unfolding clear
  alone_out h = ap (λ (x : Cell). eqb x.count 1) (sym (cell_out slots heads c h))

  pub alone_in : c < cells_in slots heads →
      eqb (get_or heads (1 + 4 * c) 0) 1 ≡ eqb (cell (store_of slots heads) c).count 1
  alone_in h = ap (λ (n : ℕ). eqb n 1) (sym (count_is slots heads c h))
