-- Retaining a cell: a law for each way out of the code.
use Rattle.prelude.specs.Kit.{min, arith, dec_lt, ℕ, ◌≤◌, ◌+◌, ◌<◌, ◌*◌, ◌≡◌, ◌∙◌, sym, ap, List, ℤ, get_or, set}
use Rattle.semantics.specs.Store.{cell, with_cell, with_count, one_more, retained}
use Rattle.semantics.specs.Words.{cells_in, store_of}
use Rattle.store_words.proofs.CellWords.{count_is, with_out}
use Rattle.store_words.proofs.Counting.{most, saturates}
use Rattle.store_words.proofs.Puts.{count_store}

module _ (slots : List ℤ) (heads : List ℕ) (c : ℕ) where
  pub retain_out : cells_in slots heads ≤ c → store_of slots heads ≡ retained c (store_of slots heads)
  unfolding retained
  retain_out h = sym (with_out slots heads c _ h)

  pub retain_in : (n : ℕ) → c < cells_in slots heads → get_or heads (1 + 4 * c) 0 ≤ most →
      n ≡ min (get_or heads (1 + 4 * c) 0 + 1) most →
      store_of slots (set heads (1 + 4 * c) n) ≡ retained c (store_of slots heads)
  unfolding retained
  retain_in n h b e = count_store slots heads c n h
      ∙ ap (λ (k : ℕ). with_cell (store_of slots heads) c (with_count (cell (store_of slots heads) c) k))
      (e ∙ saturates _ b ∙ sym (ap one_more (count_is slots heads c h)))
