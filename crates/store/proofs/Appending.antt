-- Appending an element to a cell: a law for each way out of the code.
use Rattle.prelude.specs.Kit.{ℕ, ◌≤◌, ◌+◌, ◌<◌, ◌*◌, arith, ◌≡◌, refl, ◌∙◌, sym, ap, ◌≢◌, List, ℤ, pos, length, get_or}
use Rattle.prelude.specs.Kit.{set, length-set, get_or-set_other, get_or-set_same, lt-ltb, le-ltb}
use Rattle.semantics.specs.Store.{Cell, cell, with_cell, wider, appended}
use Rattle.semantics.specs.Words.{cells_in, slots_at, cell_at, store_of}
use Rattle.laws.specs.Cells.{same_cell}
use Rattle.store_words.proofs.Tables.{tabulate_same, set_tabulate}
use Rattle.store_words.proofs.CellWords.{in_cells, cell_is, size_is, with_out, with_self}
use Rattle.store_words.proofs.Puts.{Put, put_store, first_same}

module _ (slots : List ℤ) (heads : List ℕ) (c : ℕ) (w : ℤ) where
  pub append_out : cells_in slots heads ≤ c → store_of slots heads ≡ appended c w (store_of slots heads)
  unfolding appended
  append_out h = sym (with_out slots heads c _ h)

  pub append_full : c < cells_in slots heads → 16 ≤ get_or heads (2 + 4 * c) 0 →
      store_of slots heads ≡ appended c w (store_of slots heads)
  unfolding appended wider
  append_full h b = sym (ap (λ (x : Cell). with_cell (store_of slots heads) c x) e ∙ with_self (store_of slots heads) c)
    where
      e : wider (cell (store_of slots heads) c) w ≡ cell (store_of slots heads) c
      e = rw (le-ltb (cell (store_of slots heads) c).size 16 (omega (arith, size_is slots heads c h)))

  pub slots_here : (n : ℕ) → n < 16 → 16 * c + 16 < length slots →
      slots_at (set slots (1 + 16 * c + n) w) c ≡ set (slots_at slots c) n w
  unfolding slots_at
  slots_here n b h = set_tabulate 16 (λ i. get_or slots (1 + 16 * c + i) (pos 0))
      (λ i. get_or (set slots (1 + 16 * c + n) w) (1 + 16 * c + i) (pos 0)) n w b
      (get_or-set_same slots (1 + 16 * c + n) w (pos 0) (omega arith))
      (λ i l f. get_or-set_other slots (1 + 16 * c + n) (1 + 16 * c + i) w (pos 0) (λ q. f (omega arith)))

  pub slots_other : (n : ℕ) → n < 16 → (d : ℕ) → d ≢ c → slots_at (set slots (1 + 16 * c + n) w) d ≡ slots_at slots d
  unfolding slots_at
  slots_other n b d f = tabulate_same 16 _ _
      (λ k l. get_or-set_other slots (1 + 16 * c + n) (1 + 16 * d + k) w (pos 0) (λ q. f (omega arith)))

  -- any word of the heads but the length
  off : (n j : ℕ) → j ≢ 2 + 4 * c → get_or (set heads (2 + 4 * c) (n + 1)) j 0 ≡ get_or heads j 0
  off n j f = get_or-set_other heads (2 + 4 * c) j (n + 1) 0 f

  append_put : (n : ℕ) → n ≡ get_or heads (2 + 4 * c) 0 → c < cells_in slots heads → n < 16 →
      Put slots heads c (wider (cell_at slots heads c) w) (get_or heads 0 0) (set slots (1 + 16 * c + n) w)
      (set heads (2 + 4 * c) (n + 1))
  unfolding cell_at wider
  append_put n e h b = let r = in_cells slots heads c h in record {
    kept = record {
      slots_long = length-set slots (1 + 16 * c + n) w;
      heads_long = length-set heads (2 + 4 * c)
          (n + 1);
    };
    here = rw (← e, lt-ltb n 16 b) (same_cell _ _ (off n (1 + 4 * c) (λ q. omega arith))
        (get_or-set_same heads (2 + 4 * c) (n + 1) 0 (omega arith)) (off n (3 + 4 * c) (λ q. omega arith))
        (off n (4 + 4 * c) (λ q. omega arith)) (slots_here n b r.2));
    other = λ d f. same_cell _ _ (off n (1 + 4 * d) (λ q. omega arith)) (off n (2 + 4 * d) (λ q. f (omega arith)))
        (off n (3 + 4 * d) (λ q. omega arith)) (off n (4 + 4 * d) (λ q. omega arith)) (slots_other n b d f);
    totals = get_or-set_other slots (1 + 16 * c + n) 0 w (pos 0) (λ q. omega arith);
    head = off n 0 (λ q. omega arith);
  }

  pub append_one : c < cells_in slots heads → get_or heads (2 + 4 * c) 0 < 16 →
      store_of (set slots (1 + 16 * c + get_or heads (2 + 4 * c) 0) w)
      (set heads (2 + 4 * c) (get_or heads (2 + 4 * c) 0 + 1))
      ≡ appended c w (store_of slots heads)
  unfolding appended
  append_one h b = put_store (append_put (get_or heads (2 + 4 * c) 0) refl h b) h ∙ first_same slots heads c _
      ∙ ap (λ (x : Cell). with_cell (store_of slots heads) c (wider x w)) (sym (cell_is slots heads c h))
