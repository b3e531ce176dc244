-- Arrays of zeros hold a zeroed store, and opening goes on from there.
use Rattle.prelude.specs.Kit.{ℕ, ◌+◌, ◌-◌, suc, zero, ◌*◌, arith, ◌≡◌, refl, ◌∙◌, ap, ap₂, List, [], ◌∷◌, ℤ, pos}
use Rattle.prelude.specs.Kit.{length-replicate, length, get_or, replicate}
use Rattle.semantics.specs.Basics.{tabulate}
use Rattle.semantics.specs.Store.{Cell, Store, clear, padded, relinked, acquired, zeroed, opened}
use Rattle.semantics.specs.Words.{cells_in, slots_at, cell_at, store_of}
use Rattle.laws.specs.Cells.{same_cell, same_store}
use Rattle.store_words.proofs.Tables.{tabulate_same}
use Rattle.store_words.proofs.Puts.{cells_kept}

-- a list of zeros reads zero everywhere
zero_at : {A : Type 0} (z : A) (n i : ℕ) → get_or (replicate n z) i z ≡ z
zero_at z zero i = refl
zero_at z (suc n) zero = refl
zero_at z (suc n) (suc i) = zero_at z n i

tabulate_one : {A : Type 0} (x : A) (n i : ℕ) → tabulate i n (λ c. x) ≡ replicate n x
unfolding tabulate
tabulate_one x zero i = refl
tabulate_one x (suc n) i = ap (λ r. x ∷ r) (tabulate_one x n (suc i))

abbrev none : ℕ
none = 0

zero_cell : (a b c : ℕ) → cell_at (replicate a (pos 0)) (replicate b none) c ≡ clear 0
unfolding cell_at clear slots_at padded
zero_cell a b c = same_cell _ _ (zero_at none b (1 + 4 * c)) (zero_at none b (2 + 4 * c)) (zero_at none b (3 + 4 * c))
    (zero_at none b (4 + 4 * c)) (tabulate_same 16 _ _ (λ i l. zero_at (pos 0) a (1 + 16 * c + i)))

module _ (slots₀ : List ℤ) (heads₀ : List ℕ) where
  abbrev zero_slots : List ℤ
  zero_slots = replicate (length slots₀) (pos 0)

  abbrev zero_heads : List ℕ
  zero_heads = replicate (length heads₀) none

  same_cells : cells_in zero_slots zero_heads ≡ cells_in slots₀ heads₀
  same_cells = cells_kept {slots = slots₀} {heads = heads₀} {slots' = zero_slots} {heads' = zero_heads} (record {
    slots_long = length-replicate (length slots₀) (pos 0);
    heads_long = length-replicate (length heads₀) none;
  })

  pub zeros_hold : {slots : List ℤ} {heads : List ℕ} → slots ≡ replicate (length slots₀) (pos 0) →
      heads ≡ replicate (length heads₀) 0 → store_of slots heads ≡ zeroed (cells_in slots₀ heads₀)
  unfolding store_of zeroed
  zeros_hold p q = rw (p, q) (same_store _ _ (zero_at (pos 0) (length slots₀) 0) (zero_at none (length heads₀) 0)
      (ap₂ (λ (n : ℕ) (f : ℕ → Cell). tabulate 0 n f) same_cells (λ i c. zero_cell (length slots₀) (length heads₀) c i)
      ∙ tabulate_one (clear 0) (cells_in slots₀ heads₀) 0))

-- ---- the totals

pub open_flat : (n d : ℕ) {σ τ : Store} → d ≡ 0 → τ ≡ zeroed n → σ ≡ relinked τ → σ ≡ opened n d
unfolding opened
open_flat n zero e p q = q ∙ ap relinked p
open_flat n (suc d) e p q = absurd (omega arith)

pub open_deep : (n d : ℕ) {σ τ υ : Store} → (d ≡ 0 → ⊥) → τ ≡ zeroed n → υ ≡ relinked τ → σ ≡ acquired (d - 1) [] υ →
    σ ≡ opened n d
unfolding opened
open_deep n zero f p q r = absurd (f refl)
open_deep n (suc d) f p q r = r
    ∙ ap₂ (λ (k : ℕ) (υ : Store). acquired k [] υ) (let e : suc d - 1 ≡ d = omega arith in e) (q ∙ ap relinked p)
