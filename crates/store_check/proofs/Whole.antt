-- The whole test: what is compared cell by cell is what a sound store asks for.
use Rattle.prelude.specs.Kit.{take, ℕ, ◌≤◌, ◌+◌, ◌<◌, suc, zero, arith, true, false, Bool, ◌&&◌, ◌||◌, and-true, and_comm}
use Rattle.prelude.specs.Kit.{◌≡◌, refl, ◌∙◌, sym, ap, ap₂, List, [], ◌∷◌, ◌++◌, eqb, leb, ℤ, pos, length, get_or}
use Rattle.prelude.specs.Kit.{replicate, ne_eqb, eq-eqb, eqb-true}
use Rattle.semantics.specs.Basics.{all, occurrences, tabulate}
use Rattle.semantics.specs.Store.{Cell, Store, cell, elements, inner, named_by}
use Rattle.semantics.specs.Words.{cells_in, cell_at, store_of, shaped}
use Rattle.semantics.specs.Sound.{zeros_from, elements_used, formed_as, formed, free_from, end_from, free_list, as_due}
use Rattle.semantics.specs.Sound.{due, list_sound, names_used, all_used, all_inner, places, counted, totals_used, sound}
use Rattle.semantics.specs.Sound.{sound_words}
use Rattle.laws.specs.Tests.{both_hold}
use Rattle.laws.specs.Levels.{free_from_length}
use Rattle.laws.specs.Cells.{named_by_none}
use Rattle.store_words.proofs.CellWords.{cell_is, store_size, few_cells}
use Rattle.store_words.proofs.Spelling.{shaped_means}
use Rattle.store_check.specs.Holders.{held_as, all_held, held_places, holders, Gathered, tally}
use Rattle.store_check.specs.Fitting.{head_fits, cell_fits, fits}
use Rattle.store_check.proofs.Ranges.{all_same, all_both}
use Rattle.store_check.proofs.Tallying.{tallied}
use Rattle.store_check.proofs.Gathering.{totals_word}
use Rattle.store_check.proofs.Comparing.{no_second}

-- ---- tests in another order

-- three tests and two more
used_swap : (a b c p q : Bool) → (a && (b && (c && p))) && q ≡ (a && (b && (c && q))) && p
used_swap true true true p q = and_comm p q
used_swap true true false p q = refl
used_swap true false c p q = refl
used_swap false b c p q = refl

-- the last test may be another one where f holds
in_turn : (e d f t c k : Bool) → (f ≡ true → c ≡ k) →
    e && (t && (f && (d && c))) ≡ (e && d) && (f && (t && k))
in_turn true true true true c k h = h refl
in_turn true true true false c k h = refl
in_turn true true false true c k h = refl
in_turn true true false false c k h = refl
in_turn true false true true c k h = refl
in_turn true false true false c k h = refl
in_turn true false false true c k h = refl
in_turn true false false false c k h = refl
in_turn false d f t c k h = refl

-- ---- a cell

-- what its count is compared with
abbrev counted_by : Store → (ℕ → ℕ) → ℕ → Bool
counted_by σ k c = eqb (cell σ c).count 0 || eqb (cell σ c).count (k c)

above_zero : (n : ℕ) → eqb (suc n) 0 ≡ false
above_zero n = ne_eqb (suc n) 0 (λ e. absurd (omega arith))

module _ (σ : Store) (free : List ℕ) (k : ℕ → ℕ) where
  parts : (x : Cell) (n m c : ℕ) →
      head_fits n x.size x.depth x.next m c
      && (zeros_from x.slots x.size && elements_used σ x.depth x.slots x.size)
      ≡ formed_as σ n x && (eqb m (due n) && (eqb n 0 || eqb n c))
  unfolding head_fits formed_as
  parts x zero m c = go x.size x.depth
    where
      go : (s d : ℕ) → (eqb s 0 && (eqb d 0 && eqb m 1)) && (zeros_from x.slots s
          && elements_used σ d x.slots s)
          ≡ (eqb s 0 && (eqb d 0 && zeros_from x.slots 0)) && (eqb m 1 && true)
      go zero zero = rw (and-true, and-true) (and_comm (eqb m 1) (zeros_from x.slots 0))
      go zero (suc d) = rw (above_zero d) refl
      go (suc s) d = rw (above_zero s) refl
  parts x (suc n) m c = rw (above_zero n) (used_swap (leb x.size 16) (leb x.depth 3) (eqb x.next 0)
      (eqb m 0 && eqb (suc n) c) (zeros_from x.slots x.size && elements_used σ x.depth x.slots x.size))

  fits_is : (met holders : List ℕ) (c : ℕ) → get_or met c 0 ≡ occurrences c free → get_or holders c 0 ≡ k c →
      fits σ met holders c ≡ formed σ c && (as_due σ free c && counted_by σ k c)
  unfolding fits cell_fits formed as_due
  fits_is met holders c p q = ap₂ (cell_fits σ c) p q
      ∙ parts (cell σ c) (cell σ c).count (occurrences c free) (k c)

-- ---- holders, where every cell is formed

-- a free cell then has no element
held_is : (σ : Store) (x : Cell) (n : ℕ) → formed_as σ n x ≡ true → held_as n x ≡ inner x
unfolding formed_as inner elements
held_is σ x zero e = sym (rw (eqb-true x.size 0 (both_hold (eqb x.size 0) _ e).0) (named_by_none x.depth))
held_is σ x (suc n) e = refl

module _ (slots : List ℤ) (heads : List ℕ) where
  abbrev σ : Store
  σ = store_of slots heads

  all_held_are : (n i : ℕ) → i + n ≤ cells_in slots heads → all (formed (store_of slots heads)) i n ≡ true →
      all_held (tabulate i n (cell_at slots heads)) ≡ all_inner (tabulate i n (cell_at slots heads))
  unfolding all tabulate formed
  all_held_are zero i h e = refl
  all_held_are (suc n) i h e =
      let both = both_hold (formed σ i) (all (formed σ) (suc i) n) e in
      ap₂ (λ (l m : List ℕ). l ++ m)
      (rw (cell_is slots heads i (omega arith)) at (held_is σ (cell σ i) (cell σ i).count both.0))
      (all_held_are n (suc i) (omega arith) both.1)

  counted_alike : (d : ℕ) → all (formed (store_of slots heads)) 0 (cells_in slots heads) ≡ true →
      all (counted_by (store_of slots heads) (holders d (store_of slots heads))) 0 (cells_in slots heads)
      ≡ all (counted d (store_of slots heads)) 0 (cells_in slots heads)
  unfolding counted holders held_places places store_of
  counted_alike d e = all_same _ _ 0 (cells_in slots heads)
      (λ c l. ap (λ (places : List ℕ). counted_by σ (λ b. occurrences b places) c) places_alike)
    where
      places_alike : held_places d (store_of slots heads) ≡ places d (store_of slots heads)
      places_alike = ap (λ (l : List ℕ). named_by d ((store_of slots heads).totals ∷ []) ++ l)
          (all_held_are (cells_in slots heads) 0 (omega arith) e)

  -- ---- the test in the order in which it is made

  pub unfit : (d : ℕ) → shaped slots heads ≡ false → false ≡ sound_words d slots heads
  unfolding sound_words
  unfit d f = sym (rw f refl)

  -- arrays that fit have a first word
  pub first_words : shaped slots heads ≡ true → (0 < length slots) × (0 < length heads)
  first_words fit =
      let s = shaped_means slots heads fit in (omega (arith, s.slots_long), omega (arith, s.heads_long))

  totals_alike : shaped slots heads ≡ true → (d : ℕ) →
      elements_used (store_of slots heads) d (take 1 slots) (length (take 1 slots)) ≡ totals_used d (store_of slots heads)
  unfolding all all_used store_of
  totals_alike fit zero = refl
  totals_alike fit (suc d) = rw (totals_word slots (first_words fit).0) (and-true (names_used σ d (get_or slots 0 (pos 0))))

  module _ (d : ℕ) (fit : shaped slots heads ≡ true) {end : ℕ} {met counts : List ℕ}
      (p : end ≡ end_from (store_of slots heads) (get_or heads 0 0) (cells_in slots heads))
      (m : met ≡ tally (free_from (store_of slots heads) (get_or heads 0 0) (cells_in slots heads)) (replicate 256 0))
      (g : Gathered d (store_of slots heads) counts) where
    abbrev free : List ℕ
    free = free_from (store_of slots heads) (get_or heads 0 0) (cells_in slots heads)

    abbrev last : ℕ
    last = end_from (store_of slots heads) (get_or heads 0 0) (cells_in slots heads)

    all_fit : all (fits (store_of slots heads) met counts) 0 (cells_in slots heads)
        ≡ all (formed (store_of slots heads)) 0 (cells_in slots heads)
        && (all (as_due (store_of slots heads) free) 0 (cells_in slots heads)
        && all (counted_by (store_of slots heads) (holders d (store_of slots heads))) 0 (cells_in slots heads))
    all_fit = all_same _ _ 0 (cells_in slots heads)
        (λ c l. fits_is σ free (holders d σ) met counts c (ap (λ (r : List ℕ). get_or r c 0) m
        ∙ tallied free c (omega (arith, few_cells slots heads))
        (omega (arith, few_cells slots heads, free_from_length σ (cells_in slots heads) (get_or heads 0 0))))
        (g.are c (omega (arith, store_size slots heads))))
        ∙ all_both (formed σ) (λ c. as_due σ free c && counted_by σ (holders d σ) c) 0 (cells_in slots heads)
        ∙ ap (λ b. all (formed σ) 0 (cells_in slots heads) && b)
        (all_both (as_due σ free) (counted_by σ (holders d σ)) 0 (cells_in slots heads))

    sound_is : sound_words d slots heads ≡ eqb end (cells_in slots heads)
        && (elements_used (store_of slots heads) d (take 1 slots) (length (take 1 slots))
        && all (fits (store_of slots heads) met counts) 0 (cells_in slots heads))
    unfolding sound_words sound list_sound free_list store_of
    sound_is = rw (fit, store_size slots heads, p)
        (sym (ap₂ (λ (t b : Bool). eqb last (cells_in slots heads) && (t && b)) (totals_alike fit d) all_fit
        ∙ in_turn (eqb last (cells_in slots heads)) (all (as_due σ free) 0 (cells_in slots heads))
        (all (formed σ) 0 (cells_in slots heads)) (totals_used d σ)
        (all (counted_by σ (holders d σ)) 0 (cells_in slots heads)) (all (counted d σ) 0 (cells_in slots heads))
        (counted_alike d)))

    pub list_open : (end ≡ cells_in slots heads → ⊥) → false ≡ sound_words d slots heads
    list_open f = sym (sound_is ∙ rw (ne_eqb end (cells_in slots heads) f) refl)

    pub totals_fail : elements_used (store_of slots heads) d (take 1 slots) (length (take 1 slots)) ≡ false → false ≡ sound_words d slots heads
    totals_fail f = sym (sound_is ∙ no_second (eqb end (cells_in slots heads)) _
        (ap (λ t. t && all (fits σ met counts) 0 (cells_in slots heads)) f))

    pub cells_decide : {r : Bool} → end ≡ cells_in slots heads → elements_used (store_of slots heads) d (take 1 slots) (length (take 1 slots)) ≡ true →
        r ≡ all (fits (store_of slots heads) met counts) 0 (cells_in slots heads) → r ≡ sound_words d slots heads
    cells_decide e t a = a ∙ sym (sound_is
        ∙ ap₂ (λ (b c : Bool). b && (c && all (fits σ met counts) 0 (cells_in slots heads)))
        (eq-eqb end (cells_in slots heads) e) t)
