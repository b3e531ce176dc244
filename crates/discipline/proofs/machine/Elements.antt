-- The elements of an array: their words in its cell and their values.
use Rattle.prelude.specs.Kit.{ℕ, ◌<◌, suc, zero, arith, true, ◌≡◌, refl, ◌∙◌, sym, ap, subst, List, [], ◌∷◌, map, ℤ}
use Rattle.prelude.specs.Kit.{pos, negsuc, nat_abs, length, get_or, length-take, length-map, ltb-true}
use Rattle.semantics.specs.Basics.{◌∈◌}
use Rattle.semantics.specs.Number.{inside}
use Rattle.semantics.specs.Value.{Value, items}
use Rattle.semantics.specs.Store.{Store, Cell, cell, cell_of, elements, inner, named_by}
use Rattle.semantics.specs.Sound.{all_inner}
use Rattle.semantics.specs.Demands.{value_of}
use Rattle.laws.specs.Values.{items_list}
use Rattle.discipline.proofs.store.Invariant.{Invariant, StandsFor, Tidy}
use Rattle.discipline.proofs.store.Counting.{named_at}
use Rattle.discipline.proofs.store.Cells.{inner_in_all}
use Rattle.discipline.proofs.store.Change.{inner_used}
use Rattle.discipline.proofs.machine.Standing.{none_in, named_one, names_one}

-- the words of the array that a word names
abbrev pub words_of : Store → ℤ → List ℤ
words_of σ w = elements (cell σ (cell_of w))

module _ {σ : Store} {d : ℕ} {w : ℤ} {v : Value} (s : StandsFor σ (suc d) w v) where
  pub array_items : items v ≡ map (value_of σ d) (words_of σ w)
  unfolding value_of
  array_items = ap items (sym s.means) ∙ items_list (map (value_of σ d) (words_of σ w))

  pub array_length : length (items v) ≡ length (words_of σ w)
  array_length = ap length array_items ∙ length-map (words_of σ w) (value_of σ d)

  pub array_used : 0 < (cell σ (cell_of w)).count
  array_used = (s.fits (cell_of w) (names_one (suc d) w (omega arith))).0

  pub array_depth : (cell σ (cell_of w)).depth ≡ d
  array_depth = omega (arith, (s.fits (cell_of w) (names_one (suc d) w (omega arith))).1)

pub getD_mapped : {A B : Type 0} (f : A → B) (l : List A) (i : ℕ) (a : A) (b : B) → i < length l →
    get_or (map f l) i b ≡ f (get_or l i a)
getD_mapped f [] i a b h = absurd (omega arith)
getD_mapped f (x ∷ l) zero a b h = refl
getD_mapped f (x ∷ l) (suc i) a b h = getD_mapped f l i a b (omega arith)

pub inside_below : (z : ℤ) (n : ℕ) → inside z n ≡ true → nat_abs z < n
inside_below (pos i) n h = ltb-true i n h
inside_below (negsuc i) n h = absurd (let z : ◌≡◌ {A = ℕ} 0 1 = cc in omega arith)

-- a cell in use has at most 16 elements
pub elements_length : (x : Cell) → Tidy x → length (elements x) ≡ x.size
unfolding elements
elements_length x t = omega (arith, length-take x.size x.slots, t.whole, t.size)

-- an element, as the word at i
module _ {σ : Store} {Z R : List ℕ} {d : ℕ} {w : ℤ} {v : Value} (inv : Invariant σ Z R) (s : StandsFor σ (suc d) w v)
    (i : ℕ) (within : i < length (words_of σ w)) where
  abbrev element : ℤ
  element = get_or (words_of σ w) i (pos 0)

  pub element_value : (b : Value) → value_of σ d element ≡ get_or (items v) i b
  element_value b = sym (ap (λ (l : List Value). get_or l i b) (array_items s) ∙ getD_mapped (value_of σ d)
      (words_of σ w) i (pos 0) b within)

  element_inner : (k : ℕ) → d ≡ suc k → cell_of element ∈ inner (cell σ (cell_of w))
  unfolding inner
  element_inner k e =
      subst (λ (j : ℕ). cell_of element ∈ named_by j (words_of σ w)) (sym (array_depth s ∙ e))
      (named_at (words_of σ w) i within)

  pub element_named : 0 < d → cell_of element ∈ all_inner σ.cells
  element_named h = go d refl h
    where
      go : (k : ℕ) → d ≡ k → 0 < k → cell_of element ∈ all_inner σ.cells
      go zero e g = absurd (omega arith)
      go (suc k) e g = omega (arith, element_inner k e, inner_in_all (cell_of element) σ (cell_of w))

  pub element_stands : (b : Value) → StandsFor σ d element (get_or (items v) i b)
  element_stands b = record { means = element_value b; fits = fits d refl }
    where
      fits : (k : ℕ) → d ≡ k → (r : ℕ) → r ∈ named_by k (element ∷ []) →
          (0 < (cell σ r).count) × (k ≡ suc (cell σ r).depth)
      fits zero e r h = absurd (none_in r h)
      fits (suc k) e r h =
          let q = subst (λ (c : ℕ). c ∈ inner (cell σ (cell_of w))) (sym (named_one (suc k) element r h))
          (element_inner k e) in
          (inner_used inv (cell_of w) r q, omega (arith, inv.typed (cell_of w) r q, array_depth s, e))
