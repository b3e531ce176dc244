-- At the right lengths the two arrays are the words of the store that they hold.
use Rattle.prelude.specs.Kit.{ℕ, ◌≤◌, ◌+◌, ◌<◌, suc, zero, ◌*◌, arith, true, ◌&&◌, ◌≡◌, refl, ◌∙◌, sym, ap, ap₂, List}
use Rattle.prelude.specs.Kit.{[], ◌∷◌, ◌++◌, eqb, ltb, ℤ, pos, length, get_or, take, drop, length-take, length-drop}
use Rattle.prelude.specs.Kit.{drop-cons, ext_get_or, get_or-take, take_all, get_or-drop, drop-drop, take-add, eqb-true}
use Rattle.prelude.specs.Kit.{ltb-true}
use Rattle.semantics.specs.Basics.{tabulate}
use Rattle.semantics.specs.Store.{Cell, Store}
use Rattle.semantics.specs.Words.{cells_in, slots_at, cell_at, store_of, shaped}
use Rattle.semantics.specs.Words.{all_slots, all_heads, slot_words, head_words}
use Rattle.laws.specs.Tests.{both_hold}
use Rattle.store_words.proofs.CellWords.{slots_length, slot_is}
use Rattle.store_words.proofs.Puts.{LengthsKept, cells_kept}

-- ---- the lengths that the test accepts

-- one number of cells, from 1 on, fits both lengths
pub record Shaped (slots : List ℤ) (heads : List ℕ) : Type 0 where
  pub some : 0 < cells_in slots heads
  pub slots_long : length slots ≡ 1 + 16 * cells_in slots heads
  pub heads_long : length heads ≡ 1 + 4 * cells_in slots heads

pub shaped_means : (slots : List ℤ) (heads : List ℕ) → shaped slots heads ≡ true → Shaped slots heads
unfolding shaped
shaped_means slots heads e = record {
  some = ltb-true 0 (cells_in slots heads) outer.0;
  slots_long = eqb-true (length slots) (1 + 16 * cells_in slots heads) inner.0;
  heads_long = eqb-true (length heads) (1 + 4 * cells_in slots heads) inner.1;
}
  where
    outer : (ltb 0 (cells_in slots heads) ≡ true) × (eqb (length slots) (1 + 16 * cells_in slots heads)
        && eqb (length heads) (1 + 4 * cells_in slots heads) ≡ true)
    outer = both_hold _ _ e

    inner : (eqb (length slots) (1 + 16 * cells_in slots heads) ≡ true)
        × (eqb (length heads) (1 + 4 * cells_in slots heads) ≡ true)
    inner = both_hold _ _ outer.1

-- ---- a list spelt cell by cell, k words each, from place `at i` on

module _ {A : Type 0} (spelt : List Cell → List A) (part : Cell → List A) (none : spelt [] ≡ [])
    (more : (x : Cell) (l : List Cell) → spelt (x ∷ l) ≡ part x ++ spelt l)
    (k : ℕ) (at long : ℕ → ℕ) (on : (i : ℕ) → at (suc i) ≡ at i + k) (long_none : long 0 ≡ 0)
    (long_more : (n : ℕ) → long (suc n) ≡ k + long n)
    (l : List A) (f : ℕ → Cell) (here : (i : ℕ) → at i + k ≤ length l → part (f i) ≡ take k (drop (at i) l)) where
  spelt_from : (n i : ℕ) → at i + long n ≤ length l → spelt (tabulate i n f) ≡ take (long n) (drop (at i) l)
  unfolding tabulate
  spelt_from zero i h = rw long_none none
  spelt_from (suc n) i h = more (f i) (tabulate (suc i) n f)
      ∙ ap₂ {C = List A} ◌++◌ (here i (omega (arith, long_more n)))
      (spelt_from n (suc i) (omega (arith, long_more n, on i)) ∙ ap (λ (j : ℕ). take (long n) (drop j l)) (on i)
      ∙ ap (take (long n)) (sym (drop-drop k (at i) l)))
      ∙ sym (take-add k (long n) (drop (at i) l)) ∙ ap (λ (m : ℕ). take m (drop (at i) l)) (sym (long_more n))

-- ---- the words of one cell

slots_part : (slots : List ℤ) (heads : List ℕ) (i : ℕ) → 1 + 16 * i + 16 ≤ length slots →
    (cell_at slots heads i).slots ≡ take 16 (drop (1 + 16 * i) slots)
unfolding cell_at
slots_part slots heads i h = ext_get_or (pos 0) (slots_at slots i) (take 16 (drop (1 + 16 * i) slots))
    (slots_length slots i ∙ omega (arith, length-take 16 (drop (1 + 16 * i) slots), length-drop (1 + 16 * i) slots))
    (λ k l. let b : k < 16 = omega (arith, slots_length slots i) in
    slot_is slots i k b
    ∙ sym (get_or-take 16 (drop (1 + 16 * i) slots) k (pos 0) b ∙ get_or-drop (1 + 16 * i) slots k (pos 0)))

abbrev head_of : Cell → List ℕ
head_of x = x.count ∷ x.size ∷ x.depth ∷ x.next ∷ []

-- four words in a row
four : (l : List ℕ) (a b c d : ℕ) → b ≡ suc a → c ≡ suc b → d ≡ suc c → d < length l →
    get_or l a 0 ∷ get_or l b 0 ∷ get_or l c 0 ∷ get_or l d 0 ∷ [] ≡ take 4 (drop a l)
four l a b c d p q r h = sym (ap (take 4) (
    drop-cons l a 0 (omega arith) ∙ ap (λ (t : List ℕ). get_or l a 0 ∷ t) (ap (λ (n : ℕ). drop n l) (sym p)
    ∙ drop-cons l b 0 (omega arith) ∙ ap (λ (t : List ℕ). get_or l b 0 ∷ t) (ap (λ (n : ℕ). drop n l) (sym q)
    ∙ drop-cons l c 0 (omega arith) ∙ ap (λ (t : List ℕ). get_or l c 0 ∷ t) (ap (λ (n : ℕ). drop n l) (sym r)
    ∙ drop-cons l d 0 h)))))

heads_part : (slots : List ℤ) (heads : List ℕ) (i : ℕ) → 1 + 4 * i + 4 ≤ length heads →
    head_of (cell_at slots heads i) ≡ take 4 (drop (1 + 4 * i) heads)
unfolding cell_at
heads_part slots heads i h = four heads (1 + 4 * i) (2 + 4 * i) (3 + 4 * i) (4 + 4 * i)
    (omega arith) (omega arith) (omega arith) (omega arith)

-- ---- all words

module _ (slots : List ℤ) (heads : List ℕ) (fit : Shaped slots heads) where
  pub slots_spelt : slots ≡ slot_words (store_of slots heads)
  unfolding slot_words store_of
  slots_spelt = sym (ap (λ (r : List ℤ). get_or slots 0 (pos 0) ∷ r)
      (spelt_from all_slots (λ x. x.slots) refl (λ x l. refl) 16 (λ i. 1 + 16 * i) (λ n. 16 * n)
      (λ i. omega arith) refl (λ n. omega arith) slots (cell_at slots heads) (slots_part slots heads)
      (cells_in slots heads) 0 (omega (arith, fit.slots_long))
      ∙ take_all (16 * cells_in slots heads) (drop 1 slots) (omega (arith, length-drop 1 slots, fit.slots_long)))
      ∙ sym (drop-cons slots 0 (pos 0) (omega (arith, fit.slots_long))))

  pub heads_spelt : heads ≡ head_words (store_of slots heads)
  unfolding head_words store_of
  heads_spelt = sym (ap (λ (r : List ℕ). get_or heads 0 0 ∷ r)
      (spelt_from all_heads head_of refl (λ x l. refl) 4 (λ i. 1 + 4 * i) (λ n. 4 * n)
      (λ i. omega arith) refl (λ n. omega arith) heads (cell_at slots heads) (heads_part slots heads)
      (cells_in slots heads) 0 (omega (arith, fit.heads_long))
      ∙ take_all (4 * cells_in slots heads) (drop 1 heads) (omega (arith, length-drop 1 heads, fit.heads_long)))
      ∙ sym (drop-cons heads 0 0 (omega (arith, fit.heads_long))))

-- ---- after an operation, which keeps the lengths

pub shaped_kept : {slots : List ℤ} {heads : List ℕ} {slots' : List ℤ} {heads' : List ℕ} →
    LengthsKept slots heads slots' heads' →
    Shaped slots heads → Shaped slots' heads'
shaped_kept k fit = record {
  some = omega (arith, fit.some, cells_kept k);
  slots_long = omega (arith, k.slots_long, fit.slots_long, cells_kept k);
  heads_long = omega (arith, k.heads_long, fit.heads_long, cells_kept k);
}

-- arrays of the right lengths that hold σ are its words
pub words_are : {slots : List ℤ} {heads : List ℕ} {slots' : List ℤ} {heads' : List ℕ} {σ : Store} →
    LengthsKept slots heads slots' heads' → Shaped slots heads → store_of slots' heads' ≡ σ →
    (slots' ≡ slot_words σ) × (heads' ≡ head_words σ)
words_are {slots} {heads} {slots'} {heads'} k fit e =
    let fit' = shaped_kept k fit in
    (slots_spelt slots' heads' fit' ∙ ap slot_words e, heads_spelt slots' heads' fit' ∙ ap head_words e)
