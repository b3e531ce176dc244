-- The value of totals in two arrays: it has its depth, and numbers of 64 bits.
use Rattle.prelude.specs.Kit.{ℕ, ◌≤◌, ◌+◌, suc, zero, ◌*◌, arith, dec_lt, true, ◌≡◌, refl, sym, subst, List, [], ◌∷◌}
use Rattle.prelude.specs.Kit.{map, ℤ, pos, length, get_or, get_or-eq_default, take, length-take, length-map}
use Rattle.semantics.specs.Basics.{tabulate}
use Rattle.semantics.specs.Number.{fits}
use Rattle.semantics.specs.Value.{of_list}
use Rattle.semantics.specs.Store.{Store, Cell, cell, cell_of, clear, elements, padded}
use Rattle.semantics.specs.Words.{cells_in, slots_at, cell_at, store_of}
use Rattle.semantics.specs.Demands.{value_of}
use Rattle.semantics.specs.Swap.{Words64}
use Rattle.laws.specs.Lists.{tabulate_length, tabulate_at}
use Rattle.laws.specs.Values.{size_of_list}
use Rattle.discipline.proofs.store.Tabulate.{padded_length}
use Rattle.soundness.proofs.saved.Shape.{OfDepth, AllOfDepth, Fits, AllFits}

-- ---- the words of a cell

abbrev AllWords : List ℤ → Type 0
AllWords [] = Unit {0}
AllWords (w ∷ ws) = (fits w ≡ true) × AllWords ws

words_taken : (n : ℕ) (ws : List ℤ) → AllWords ws → AllWords (take n ws)
words_taken zero ws h = tt
words_taken (suc n) [] h = tt
words_taken (suc n) (w ∷ ws) h = (h.0, words_taken n ws h.1)

words_made : (n i : ℕ) (f : ℕ → ℤ) → ((j : ℕ) → fits (f j) ≡ true) → AllWords (tabulate i n f)
unfolding tabulate
words_made zero i f h = tt
words_made (suc n) i f h = (h i, words_made n (suc i) f h)

-- a cell of a store: 16 slots, and words of 64 bits
pub record Sized (x : Cell) : Type 0 where
  pub short : length (elements x) ≤ 16
  pub words : AllWords (elements x)

sized : (x : Cell) → length x.slots ≡ 16 → AllWords x.slots → Sized x
unfolding elements
sized x long h = record {
  short = omega (arith, length-take x.size x.slots, long);
  words = words_taken x.size x.slots h;
}

cell_sized : (slots : List ℤ) (heads : List ℕ) → Words64 slots → (c : ℕ) → Sized (cell_at slots heads c)
unfolding cell_at slots_at
cell_sized slots heads h c = sized (cell_at slots heads c)
    (tabulate_length 16 0 (λ i. get_or slots (1 + 16 * c + i) (pos 0)))
    (words_made 16 0 (λ i. get_or slots (1 + 16 * c + i) (pos 0)) (λ j. h (1 + 16 * c + j)))

clear_sized : (n : ℕ) → Sized (clear n)
unfolding clear padded
clear_sized n = sized (clear n) (padded_length []) (words_made 16 0 (λ i. get_or [] i (pos 0)) (λ j. refl))

store_sized : (slots : List ℤ) (heads : List ℕ) → Words64 slots → (c : ℕ) → Sized (cell (store_of slots heads) c)
unfolding cell store_of
store_sized slots heads h c = elim (dec_lt c (cells_in slots heads)) [
  | yes g ↦ subst Sized (sym (tabulate_at (cells_in slots heads) 0 (cell_at slots heads) c (clear 0) g))
      (cell_sized slots heads h (0 + c))
  | no g ↦ subst Sized (sym (get_or-eq_default (tabulate 0 (cells_in slots heads) (cell_at slots heads)) (clear 0)
      (omega (arith, g, tabulate_length (cells_in slots heads) 0 (cell_at slots heads))))) (clear_sized 0)
]

-- ---- the value of a word

module _ (σ : Store) (all_sized : (c : ℕ) → Sized (cell σ c)) where
  words_of_depth : (d : ℕ) → ((w : ℤ) → OfDepth (value_of σ d w) d) → (ws : List ℤ) →
      AllOfDepth (of_list (map (value_of σ d) ws)) d
  words_of_depth d f [] = tt
  words_of_depth d f (w ∷ ws) = (f w, words_of_depth d f ws)

  pub value_of_depth : (d : ℕ) (w : ℤ) → OfDepth (value_of σ d w) d
  unfolding value_of
  value_of_depth zero w = tt
  value_of_depth (suc d) w =
      let ws = elements (cell σ (cell_of w)) in (
        omega (arith, size_of_list (map (value_of σ d) ws), length-map ws (value_of σ d), (all_sized (cell_of w)).short),
        words_of_depth d (λ u. value_of_depth d u) ws,
      )

  words_fit : (d : ℕ) → ((w : ℤ) → fits w ≡ true → Fits (value_of σ d w)) → (ws : List ℤ) → AllWords ws →
      AllFits (of_list (map (value_of σ d) ws))
  words_fit d f [] h = tt
  words_fit d f (w ∷ ws) h = (f w h.0, words_fit d f ws h.1)

  pub value_fits : (d : ℕ) (w : ℤ) → fits w ≡ true → Fits (value_of σ d w)
  unfolding value_of
  value_fits zero w h = h
  value_fits (suc d) w h =
      words_fit d (λ u g. value_fits d u g) (elements (cell σ (cell_of w))) (all_sized (cell_of w)).words

-- the totals' value
module _ (slots : List ℤ) (heads : List ℕ) (h : Words64 slots) (d : ℕ) where
  abbrev σ : Store
  σ = store_of slots heads

  pub totals_of_depth : OfDepth (value_of σ d σ.totals) d
  totals_of_depth = value_of_depth σ (store_sized slots heads h) d σ.totals

  pub totals_fit : Fits (value_of σ d σ.totals)
  unfolding store_of
  totals_fit = value_fits σ (store_sized slots heads h) d σ.totals (h 0)
