-- Gathering what the places name: words, a cell, the whole store.
use Rattle.prelude.specs.Kit.{ℕ, ◌≤◌, ◌<◌, suc, zero, ◌*◌, min, arith, ◌≡◌, refl, ◌∙◌, sym, ap, ap₂, List, []}
use Rattle.prelude.specs.Kit.{◌∷◌, map, ℤ, pos, length, get_or, replicate, take, length-append, length-take}
use Rattle.semantics.specs.Basics.{each, tabulate}
use Rattle.semantics.specs.Store.{Cell, cell, cell_of, named_by, elements, inner}
use Rattle.semantics.specs.Words.{cells_in, slots_at, cell_at, store_of}
use Rattle.laws.specs.Cells.{named_by_length}
use Rattle.store_words.proofs.Naming.{take_min}
use Rattle.store_words.proofs.CellWords.{store_size, slots_length, slots_are, few_cells}
use Rattle.store_check.specs.Holders.{held_as, held, all_held, held_places, holders, Gathered}
use Rattle.store_check.specs.Holders.{tally}
use Rattle.store_check.specs.Fitting.{HeadOf}
use Rattle.store_check.specs.declared.Head.{Head}
use Rattle.store_check.proofs.Tallying.{tallied, tally_append}

-- ---- words

module _ (words : List ℤ) (counts : List ℕ) where
  pub no_words : (d : ℕ) → d ≡ 0 → counts ≡ tally (named_by d words) counts
  unfolding each
  no_words zero e = refl
  no_words (suc d) e = absurd (omega arith)

  pub all_words : (d : ℕ) {r : List ℕ} → (d ≡ 0 → ⊥) → r ≡ tally (map cell_of words) counts →
      r ≡ tally (named_by d words) counts
  all_words zero f e = absurd (f refl)
  all_words (suc d) f e = e

-- ---- a cell

module _ (slots : List ℤ) (heads : List ℕ) (c : ℕ) {x : Head} (q : HeadOf (cell (store_of slots heads) c) x)
    (counts : List ℕ) where
  pub free_cell : x.count ≡ 0 → counts ≡ tally (held (cell (store_of slots heads) c)) counts
  unfolding each
  free_cell e = sym (ap (λ n. tally (held_as n (cell (store_of slots heads) c)) counts) (sym q.count ∙ e))

  pub used_cell : {r : List ℕ} {words : List ℤ} → c < cells_in slots heads → (x.count ≡ 0 → ⊥) →
      words ≡ take (min x.size 16) (slots_at slots c) → r ≡ tally (named_by x.depth words) counts →
      r ≡ tally (held (cell (store_of slots heads) c)) counts
  unfolding inner elements
  used_cell {r} {words} h f m e = e ∙ ap (λ l. tally l counts)
      (ap (named_by x.depth) (m ∙ sym (take_min x.size 16 (slots_at slots c) (slots_length slots c)))
      ∙ ap₂ (λ s d. named_by d (take s (slots_at slots c))) q.size q.depth
      ∙ ap (λ l. named_by (cell (store_of slots heads) c).depth (take (cell (store_of slots heads) c).size l))
      (sym (slots_are slots heads c h))
      ∙ go (cell (store_of slots heads) c).count (λ z. f (q.count ∙ z)))
    where
      go : (n : ℕ) → (n ≡ 0 → ⊥) → inner (cell (store_of slots heads) c) ≡ held_as n (cell (store_of slots heads) c)
      go zero g = absurd (g refl)
      go (suc n) g = refl

-- ---- all cells, and the totals

pub totals_word : (slots : List ℤ) → 0 < length slots → take 1 slots ≡ get_or slots 0 (pos 0) ∷ []
totals_word [] h = absurd (omega arith)
totals_word (w ∷ slots) h = refl

-- what a cell adds
abbrev pub tally_cell : Cell → List ℕ → List ℕ
tally_cell x counts = tally (held x) counts

tally_cells : (l : List Cell) (counts : List ℕ) → each tally_cell l counts ≡ tally (all_held l) counts
unfolding each
tally_cells [] counts = refl
tally_cells (x ∷ l) counts = tally_cells l (tally (held x) counts) ∙ sym (tally_append (held x) (all_held l) counts)

-- at most 16 names a cell, and one of the totals

held_length : (x : Cell) (n : ℕ) → length (held_as n x) ≤ length x.slots
unfolding inner elements
held_length x zero = omega arith
held_length x (suc n) = omega (arith, named_by_length x.depth (elements x), length-take x.size x.slots)

module _ (slots : List ℤ) (heads : List ℕ) where
  cells_length : (n i : ℕ) → length (all_held (tabulate i n (cell_at slots heads))) ≤ 16 * n
  unfolding tabulate cell_at
  cells_length zero i = omega arith
  cells_length (suc n) i = let x = cell_at slots heads i in
      omega (
        arith,
        length-append (held x) (all_held (tabulate (suc i) n (cell_at slots heads))),
        held_length x x.count,
        slots_length slots i,
        cells_length n (suc i),
      )

  few_places : (d : ℕ) → length (held_places d (store_of slots heads)) ≤ 5000
  unfolding held_places store_of
  few_places d = let w = get_or slots 0 (pos 0) in
      omega (
        arith,
        length-append (named_by d (w ∷ [])) (all_held (tabulate 0 (cells_in slots heads) (cell_at slots heads))),
        named_by_length d (w ∷ []),
        cells_length (cells_in slots heads) 0,
        few_cells slots heads,
      )

  pub gathered : 0 < length slots → (d : ℕ) {first counts : List ℕ} →
      first ≡ tally (named_by d (take 1 slots)) (replicate 256 0) →
      counts ≡ each tally_cell (store_of slots heads).cells first → Gathered d (store_of slots heads) counts
  unfolding holders held_places store_of
  gathered some d {first} {counts} p q = record {
    are = λ c l. ap (λ (r : List ℕ). get_or r c 0) whole
        ∙ tallied (held_places d (store_of slots heads)) c
        (omega (arith, few_cells slots heads, store_size slots heads)) (few_places d);
  }
    where
      whole : counts ≡ tally (held_places d (store_of slots heads)) (replicate 256 0)
      whole = q ∙ tally_cells (store_of slots heads).cells first
          ∙ ap (tally (all_held (store_of slots heads).cells))
          (p ∙ ap (λ l. tally (named_by d l) (replicate 256 0)) (totals_word slots some))
          ∙ sym (tally_append (named_by d ((store_of slots heads).totals ∷ []))
          (all_held (store_of slots heads).cells) (replicate 256 0))
