-- Counts: one more, and the cells in use.
use Rattle.prelude.specs.Kit.{min, dec_lt, ℕ, ◌≤◌, ◌+◌, ◌<◌, suc, zero, ◌*◌, arith, add-one, ◌≡◌, refl, ◌∙◌, sym, ap, List}
use Rattle.prelude.specs.Kit.{ℤ, get_or, drop, drop-cons, drop-length, lt-ltb, le-ltb}
use Rattle.semantics.specs.Store.{Cell, Store, cell, cell_count, clear, one_more, one_if_used}
use Rattle.semantics.specs.Store.{used_cells, cells_taken}
use Rattle.semantics.specs.Words.{cells_in, store_of}
use Rattle.laws.specs.Levels.{one_at_most, used_few}
use Rattle.store_words.proofs.CellWords.{store_size, count_is}

-- ---- one more

-- the greatest count
abbrev pub most : ℕ
most = 4294967295

pub more_small : (n : ℕ) → n < most → one_more n ≡ n + 1
unfolding one_more
more_small n h = rw (lt-ltb n most h)

pub more_full : (n : ℕ) → most ≤ n → one_more n ≡ n
unfolding one_more
more_full n h = rw (le-ltb n most h)

-- a full count stays
pub saturates : (n : ℕ) → n ≤ most → min (n + 1) most ≡ one_more n
saturates n b = elim (dec_lt n most) [
  | yes h ↦ rw (more_small n h) (omega (arith, h))
  | no h ↦ rw (more_full n (omega (arith, h))) (omega (arith, h))
]

-- ---- cells in use

pub used_none : (n : ℕ) → n ≡ 0 → one_if_used n ≡ 0
used_none zero e = refl
used_none (suc n) e = absurd (omega arith)

pub used_some : (n : ℕ) → (n ≡ 0 → ⊥) → one_if_used n ≡ 1
used_some zero f = absurd (f refl)
used_some (suc n) f = refl

-- no more cells are in use than there are, and there are at most 256
module _ (slots : List ℤ) (heads : List ℕ) where
  pub taken_within : cells_taken (store_of slots heads) ≤ cell_count (store_of slots heads)
  taken_within = used_few (store_of slots heads).cells

  pub taken_few : cells_taken (store_of slots heads) ≤ 256
  unfolding cells_in
  taken_few = omega (arith, taken_within, store_size slots heads)

-- of the first i cells k are in use
pub record Counting (σ : Store) (i k : ℕ) : Type 0 where
  pub same : used_cells σ.cells ≡ k + used_cells (drop i σ.cells)
  pub few : k ≤ i

pub counting_none : (σ : Store) → Counting σ 0 0
counting_none σ = record { same = omega arith; few = omega arith }

module _ (slots : List ℤ) (heads : List ℕ) {i k : ℕ} (t : Counting (store_of slots heads) i k) where
  abbrev all_cells : List Cell
  all_cells = (store_of slots heads).cells

  pub counting_more : i < cells_in slots heads → (k' : ℕ) → k' ≡ k + one_if_used (get_or heads (1 + 4 * i) 0) →
      Counting (store_of slots heads) (i + 1) k'
  unfolding used_cells cell
  counting_more h k' e = record {
    same = omega (arith, t.same, one, next, e, ap one_if_used (count_is slots heads i h));
    few = omega (arith, t.few, e, one_at_most (get_or heads (1 + 4 * i) 0));
  }
    where
      one : used_cells (drop i all_cells)
          ≡ one_if_used (cell (store_of slots heads) i).count + used_cells (drop (suc i) all_cells)
      one = ap used_cells (drop-cons all_cells i (clear 0) (omega (arith, store_size slots heads)))

      next : used_cells (drop (i + 1) all_cells) ≡ used_cells (drop (suc i) all_cells)
      next = ap (λ (n : ℕ). used_cells (drop n all_cells)) (add-one i)

  pub counting_all : i ≡ cells_in slots heads → k ≡ used_cells (store_of slots heads).cells
  unfolding used_cells
  counting_all e = omega (
    arith,
    t.same,
    ap used_cells
        (ap (λ (n : ℕ). drop n all_cells) (e ∙ sym (store_size slots heads)) ∙ drop-length all_cells),
  )
