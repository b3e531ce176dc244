-- Comparing a cell with what was gathered: a law for each way out of the code.
use Rattle.prelude.specs.Kit.{take, length, length-take-le, get_or-take, ℕ, ◌≤◌, ◌<◌, ◌-◌, suc, zero, arith, true, false, Bool, ◌&&◌, and-true, ◌≡◌}
use Rattle.prelude.specs.Kit.{refl, ◌∙◌, sym, ap, List, eqb, leb, ℤ, pos, get_or, lt-ltb, le-ltb, eqb-true}
use Rattle.prelude.specs.Kit.{leb-true}
use Rattle.semantics.specs.Basics.{all}
use Rattle.semantics.specs.Number.{is_zero}
use Rattle.semantics.specs.Store.{Store, cell, cell_count, cell_of}
use Rattle.semantics.specs.Words.{cells_in, slots_at, store_of}
use Rattle.semantics.specs.Sound.{zeros_from, names_used, all_used, elements_used}
use Rattle.laws.specs.Tests.{both_hold}
use Rattle.store_words.proofs.CellWords.{slots_are, slots_length}
use Rattle.store_check.specs.Fitting.{HeadOf, head_fits, cell_fits, fits}
use Rattle.store_check.specs.declared.Head.{Head}
use Rattle.store_check.proofs.Ranges.{all_same, from_zero}

-- ---- zeros

abbrev pub zero_at : List ℤ → ℕ → Bool
zero_at words i = is_zero (get_or words i (pos 0))

pub zeros_are : (words : List ℤ) (k : ℕ) {r : Bool} → r ≡ all (zero_at words) k (16 - k) → r ≡ zeros_from words k
unfolding zeros_from
zeros_are words k e = e

-- ---- a word that names a cell k

module _ (σ : Store) (d : ℕ) (w : ℤ) (k : ℕ) (q : k ≡ cell_of w) where
  pub names_out : cell_count σ ≤ k → false ≡ names_used σ d w
  unfolding names_used
  names_out h = rw (← q) (sym (rw (le-ltb k (cell_count σ) h) refl))

  module _ (h : k < cell_count σ) {x : Head} (is : HeadOf (cell σ k) x) where
    pub names_free : x.count ≡ 0 → false ≡ names_used σ d w
    unfolding names_used
    names_free e = rw (← q) (sym (rw (lt-ltb k (cell_count σ) h, ← is.count, e) refl))

    pub names_deep : (x.count ≡ 0 → ⊥) → eqb x.depth d ≡ names_used σ d w
    unfolding names_used
    names_deep f = rw (← q) (sym (rw (
      lt-ltb k (cell_count σ) h,
      ← is.count,
      lt-ltb 0 x.count (omega (arith, f)),
      ← is.depth,
    ) refl))

-- ---- words

abbrev pub names_at : Store → ℕ → List ℤ → ℕ → Bool
names_at σ d words i = names_used σ d (get_or words i (pos 0))

module _ (σ : Store) (words : List ℤ) (n : ℕ) where
  pub numbers : (d : ℕ) → d ≡ 0 → true ≡ elements_used σ d words n
  numbers zero e = refl
  numbers (suc d) e = absurd (omega arith)

  pub names : (d : ℕ) {r : Bool} → (d ≡ 0 → ⊥) → r ≡ all (names_at σ (d - 1) words) 0 (n - 0) →
      r ≡ elements_used σ d words n
  unfolding all_used
  names zero f e = absurd (f refl)
  names (suc d) f e = let q : suc d - 1 ≡ d = omega arith in
      rw q at (from_zero (names_at σ (suc d - 1) words) n n refl e)

-- the elements of a cell
elements_are : (σ : Store) (ws : List ℤ) (n d : ℕ) → n ≤ length ws →
    elements_used σ d (take n ws) (length (take n ws)) ≡ elements_used σ d ws n
unfolding all_used
elements_are σ ws n zero h = refl
elements_are σ ws n (suc d) h =
    let long = length-take-le n ws h in
    rw long (all_same _ _ 0 n (λ i l. ap (names_used σ d) (get_or-take n ws i (pos 0) (omega arith))))

-- ---- a head

-- a test that fails decides
pub no_second : (a b : Bool) → b ≡ false → a && b ≡ false
no_second true b e = e
no_second false b e = refl

-- ---- a cell

-- a head that fits has a length in range
pub head_small : (count size depth next met holders : ℕ) →
    head_fits count size depth next met holders ≡ true → size ≤ 16
unfolding head_fits
head_small zero size depth next met holders e =
    omega (arith, eqb-true size 0 (both_hold (eqb size 0) (eqb depth 0 && eqb met 1) e).0)
head_small (suc n) size depth next met holders e =
    leb-true size 16 (both_hold (leb size 16)
    (leb depth 3 && (eqb next 0 && (eqb met 0 && eqb (suc n) holders))) e).0

module _ (slots : List ℤ) (heads : List ℕ) (c met holders : ℕ) (h : c < cells_in slots heads) {x : Head}
    (q : HeadOf (cell (store_of slots heads) c) x) where
  fits_is : cell_fits (store_of slots heads) c met holders
      ≡ head_fits x.count x.size x.depth x.next met holders && (zeros_from (slots_at slots c) x.size
      && elements_used (store_of slots heads) x.depth (slots_at slots c) x.size)
  unfolding cell_fits
  fits_is = rw (← q.count, ← q.size, ← q.depth, ← q.next, slots_are slots heads c h) refl

  pub head_unfit : head_fits x.count x.size x.depth x.next met holders ≡ false →
      false ≡ cell_fits (store_of slots heads) c met holders
  head_unfit f = sym (fits_is ∙ rw f refl)

  module _ (t : head_fits x.count x.size x.depth x.next met holders ≡ true) where
    pub empty_cell : x.size ≡ 0 → {r : Bool} → r ≡ zeros_from (slots_at slots c) 0 →
        r ≡ cell_fits (store_of slots heads) c met holders
    unfolding all_used all
    empty_cell e {r} z = z
        ∙ sym (fits_is ∙ rw (t, e, no_elements x.depth) (and-true (zeros_from (slots_at slots c) 0)))
      where
        no_elements : (d : ℕ) → elements_used (store_of slots heads) d (slots_at slots c) 0 ≡ true
        no_elements zero = refl
        no_elements (suc d) = refl

    pub not_zero : zeros_from (slots_at slots c) x.size ≡ false →
        false ≡ cell_fits (store_of slots heads) c met holders
    not_zero f = sym (fits_is ∙ rw (t, f) refl)

    pub names_decide : zeros_from (slots_at slots c) x.size ≡ true → {r : Bool} {words : List ℤ} →
        words ≡ take x.size (slots_at slots c) →
        r ≡ elements_used (store_of slots heads) x.depth words (length words) →
        r ≡ cell_fits (store_of slots heads) c met holders
    names_decide z w e = rw w at e
        ∙ elements_are (store_of slots heads) (slots_at slots c) x.size x.depth
        (omega (arith, slots_length slots c, head_small x.count x.size x.depth x.next met holders t))
        ∙ sym (fits_is ∙ rw (t, z) refl)

-- by the counts of all cells
pub by_counts : (σ : Store) (met holders : List ℕ) (c : ℕ) {t : Bool} →
    cell_fits σ c (get_or met c 0) (get_or holders c 0) ≡ t → fits σ met holders c ≡ t
unfolding fits
by_counts σ met holders c e = e
