-- Laws of a release, one for each way out of the code, of freeing a cell, and of the loop over its elements.
use Rattle.prelude.specs.Kit.{ℕ, ◌≤◌, ◌+◌, ◌<◌, ◌-◌, suc, zero, ◌*◌, min, arith, ◌≡◌, refl, ◌∙◌, sym, ap, List, [], map}
use Rattle.prelude.specs.Kit.{ℤ, pos, length, get_or, set, take, length-map, get_or-map}
use Rattle.semantics.specs.Basics.{each}
use Rattle.semantics.specs.Store.{Cell, Store, cell, cell_of, clear, inner, with_cell, with_count}
use Rattle.semantics.specs.Store.{freed, released, cells_taken}
use Rattle.semantics.specs.Words.{cells_in, slots_at, store_of}
use Rattle.laws.specs.Releases.{released_none, released_one, released_last}
use Rattle.laws.specs.Levels.{freed_taken, counted_taken}
use Rattle.laws.specs.Cells.{inner_flat}
use Rattle.store_words.proofs.CellWords.{cell_out, count_is, depth_is}
use Rattle.store_words.proofs.Naming.{inner_are}
use Rattle.store_words.proofs.Each.{Doing, doing_none, doing_more, doing_all}
use Rattle.store_words.proofs.Puts.{count_store}
use Rattle.store_words.proofs.Counting.{taken_few}
use Rattle.store_words.proofs.Written.{Written, cleared_store}
use Rattle.store_release.specs.Releasing.{Releases}

-- ---- nothing to do

unchanged : {levels c : ℕ} {σ : Store} → σ ≡ released levels c σ → Releases levels c σ σ 0
unchanged e = record { store = e; freed = omega arith; few = omega arith }

pub no_levels : (levels c : ℕ) (σ : Store) → levels ≡ 0 → Releases levels c σ σ 0
unfolding released
no_levels zero c σ e = unchanged refl
no_levels (suc levels) c σ e = absurd (omega arith)

module _ (slots : List ℤ) (heads : List ℕ) (levels c : ℕ) where
  pub released_out : cells_in slots heads ≤ c → Releases levels c (store_of slots heads) (store_of slots heads) 0
  unfolding clear
  released_out h = unchanged (sym (released_none levels c (store_of slots heads)
      (ap (λ (x : Cell). x.count) (cell_out slots heads c h))))

  pub released_free : c < cells_in slots heads → get_or heads (1 + 4 * c) 0 ≡ 0 →
      Releases levels c (store_of slots heads) (store_of slots heads) 0
  released_free h e = unchanged (sym (released_none levels c (store_of slots heads) (count_is slots heads c h ∙ e)))

-- ---- one of several references

pub released_less : (slots : List ℤ) (heads : List ℕ) (levels c : ℕ) → 0 < levels → c < cells_in slots heads →
    1 < get_or heads (1 + 4 * c) 0 →
    Releases levels c (store_of slots heads)
    (store_of slots (set heads (1 + 4 * c) (get_or heads (1 + 4 * c) 0 - 1))) 0
released_less slots heads zero c p h b = absurd (omega arith)
released_less slots heads (suc levels) c p h b = record {
  store = written ∙ sym (released_one levels c (get_or heads (1 + 4 * c) 0 - 2) (store_of slots heads) count);
  freed = omega (
    arith,
    ap cells_taken written,
    counted_taken c _ (get_or heads (1 + 4 * c) 0 - 2) (store_of slots heads) count,
  );
  few = omega arith;
}
  where
    less : get_or heads (1 + 4 * c) 0 - 1 ≡ suc (get_or heads (1 + 4 * c) 0 - 2)
    less = omega arith

    more : get_or heads (1 + 4 * c) 0 ≡ suc (suc (get_or heads (1 + 4 * c) 0 - 2))
    more = omega arith

    count : (cell (store_of slots heads) c).count ≡ suc (suc (get_or heads (1 + 4 * c) 0 - 2))
    count = count_is slots heads c h ∙ more

    written : store_of slots (set heads (1 + 4 * c) (get_or heads (1 + 4 * c) 0 - 1))
        ≡ with_cell (store_of slots heads) c
        (with_count (cell (store_of slots heads) c) (suc (get_or heads (1 + 4 * c) 0 - 2)))
    written = count_store slots heads c (get_or heads (1 + 4 * c) 0 - 1) h
        ∙ ap (λ (n : ℕ). with_cell (store_of slots heads) c (with_count (cell (store_of slots heads) c) n)) less

-- ---- a cell freed

pub freed_store : {slots : List ℤ} {heads : List ℕ} {c : ℕ} {slots' : List ℤ} {heads' : List ℕ} →
    Written slots heads c c 0 0 0 (get_or heads 0 0) slots' heads' → c < cells_in slots heads →
    store_of slots' heads' ≡ freed c (store_of slots heads)
unfolding freed store_of
freed_store w h = cleared_store w h

-- ---- the elements of a freed cell, first to last

-- i of the words are released, and n cells are freed with the one that held them
pub record Releasing (levels : ℕ) (words : List ℤ) (σ₀ : Store) (n i : ℕ) (σ : Store) : Type 0 where
  pub doing : Doing (released levels) (map cell_of words) σ₀ i σ
  pub counted : n + cells_taken σ ≡ suc (cells_taken σ₀)
  pub taken : cells_taken σ₀ ≤ 256

pub releasing_none : (levels : ℕ) (words : List ℤ) (slots : List ℤ) (heads : List ℕ) →
    Releasing levels words (store_of slots heads) 1 0 (store_of slots heads)
releasing_none levels words slots heads = record {
  doing = doing_none (released levels) (map cell_of words) (store_of slots heads);
  counted = omega arith;
  taken = taken_few slots heads;
}

module _ {levels : ℕ} {words : List ℤ} {σ₀ : Store} {n i : ℕ} {σ : Store} (r : Releasing levels words σ₀ n i σ) where
  pub releasing_more : i < length words → (c : ℕ) → c ≡ cell_of (get_or words i (pos 0)) → (σ' : Store) (m : ℕ) →
      Releases levels c σ σ' m → Releasing levels words σ₀ (n + m) (i + 1) σ'
  releasing_more h c q σ' m s = record {
    doing = doing_more r.doing (omega (arith, length-map words cell_of)) (cell_of (pos 0)) c
        (get_or-map cell_of words i (pos 0) ∙ sym q) s.store;
    counted = omega (arith, r.counted, s.freed);
    taken = r.taken;
  }

  releasing_all : i ≡ length words → σ ≡ each (released levels) (map cell_of words) σ₀
  releasing_all h = doing_all r.doing (h ∙ sym (length-map words cell_of))

-- ---- the last reference

last_level : (levels c : ℕ) (σ : Store) → 0 < levels → (cell σ c).count ≡ 1 →
    each (released (levels - 1)) (inner (cell σ c)) (freed c σ) ≡ released levels c σ
last_level zero c σ p e = absurd (omega arith)
last_level (suc levels) c σ p e =
    let q : suc levels - 1 ≡ levels = omega arith in rw q (sym (released_last levels c σ e))

module _ (slots : List ℤ) (heads : List ℕ) (levels c : ℕ) (p : 0 < levels) (h : c < cells_in slots heads)
    (one : get_or heads (1 + 4 * c) 0 ≡ 1) where
  -- n cells are freed, the cell and what its elements name
  last_is : {σ : Store} {n : ℕ} (names : List ℕ) → inner (cell (store_of slots heads) c) ≡ names →
      σ ≡ each (released (levels - 1)) names (freed c (store_of slots heads)) →
      n + cells_taken σ ≡ suc (cells_taken (freed c (store_of slots heads))) →
      Releases levels c (store_of slots heads) σ n
  last_is names q e k = record {
    store = e
        ∙ ap (λ (l : List ℕ). each (released (levels - 1)) l (freed c (store_of slots heads))) (sym q)
        ∙ last_level levels c (store_of slots heads) p (count_is slots heads c h ∙ one);
    freed = omega (arith, k, fewer);
    few = omega (arith, k, fewer, taken_few slots heads);
  }
    where
      fewer : cells_taken (freed c (store_of slots heads)) + 1 ≡ cells_taken (store_of slots heads)
      fewer = freed_taken c 0 (store_of slots heads) (count_is slots heads c h ∙ one)

  pub released_flat : {σ : Store} → σ ≡ freed c (store_of slots heads) → get_or heads (3 + 4 * c) 0 ≡ 0 →
      Releases levels c (store_of slots heads) σ 1
  unfolding each
  released_flat e d =
      last_is [] (inner_flat (cell (store_of slots heads) c) (depth_is slots heads c h ∙ d)) e
      (omega (arith, ap cells_taken e))

  pub released_all : {words : List ℤ} {n i : ℕ} {σ₀ σ : Store} → (get_or heads (3 + 4 * c) 0 ≡ 0 → ⊥) →
      words ≡ take (min (get_or heads (2 + 4 * c) 0) 16) (slots_at slots c) → σ₀ ≡ freed c (store_of slots heads) →
      Releasing (levels - 1) words σ₀ n i σ → i ≡ length words → Releases levels c (store_of slots heads) σ n
  released_all d w f r e =
      last_is _ (inner_are slots heads c h d) (rw (w, f) at (releasing_all r e)) (rw f at r.counted)
