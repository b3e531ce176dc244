-- The cells of an array in prefix order, and what leaves them alone.
use Rattle.prelude.specs.Kit.{ℕ, suc, zero, arith, ◌≡◌, refl, ◌∙◌, sym, ap, subst, ap₂, List, [], ◌∷◌, ◌++◌, map}
use Rattle.prelude.specs.Kit.{append_assoc, ℤ, length, length-append}
use Rattle.semantics.specs.Basics.{occurrences, ◌∈◌}
use Rattle.semantics.specs.Store.{Store, cell, cell_of, elements, inner, named_by}
use Rattle.semantics.specs.Value.{of_list}
use Rattle.semantics.specs.Demands.{value_of, Reached, root, slot}
use Rattle.laws.specs.Lists.{occurs_first}
use Rattle.discipline.proofs.store.Invariant.{Invariant, Alike}
use Rattle.discipline.proofs.store.Cells.{agree_elements}
use Rattle.discipline.proofs.store.Kept.{reached_within, only, alike_reached}
use Rattle.soundness.proofs.saved.Shape.{arrays_in, arrays_among}

-- f's lists for each word, one after another
unfoldable pub gather : (ℤ → List ℕ) → List ℤ → List ℕ
gather f [] = []
gather f (w ∷ ws) = f w ++ gather f ws

-- the cells that a word of depth d names, down, an array's before those of its elements
unfoldable pub array_cells : Store → ℕ → ℤ → List ℕ
array_cells σ zero w = []
array_cells σ (suc d) w = cell_of w ∷ gather (array_cells σ d) (elements (cell σ (cell_of w)))

pub gather_append : (f : ℤ → List ℕ) (ws vs : List ℤ) → gather f (ws ++ vs) ≡ gather f ws ++ gather f vs
unfolding gather
gather_append f [] vs = refl
gather_append f (w ∷ ws) vs =
    ap (λ (l : List ℕ). f w ++ l) (gather_append f ws vs) ∙ sym (append_assoc (f w) (gather f ws) (gather f vs))

-- ---- how many they are

module _ (σ : Store) where
  -- the cells of a word of depth d are as many as its value has arrays
  abbrev Counted : ℕ → ℤ → Type 0
  Counted d w = length (array_cells σ d w) ≡ arrays_in (value_of σ d w)

  all_counted : (d : ℕ) → ((w : ℤ) → Counted d w) → (ws : List ℤ) →
      length (gather (array_cells σ d) ws) ≡ arrays_among (of_list (map (value_of σ d) ws))
  unfolding gather
  all_counted d f [] = refl
  all_counted d f (w ∷ ws) =
      length-append (array_cells σ d w) (gather (array_cells σ d) ws) ∙ omega (arith, f w, all_counted d f ws)

  pub cells_counted : (d : ℕ) (w : ℤ) → Counted d w
  unfolding array_cells value_of
  cells_counted zero w = refl
  cells_counted (suc d) w = ap suc (all_counted d (λ u. cells_counted d u) (elements (cell σ (cell_of w))))

-- ---- cells that are alike in two stores

-- those that words of a depth name
abbrev pub Kept : Store → Store → ℕ → List ℤ → Type 0
Kept σ τ d ws = (r : ℕ) → r ∈ named_by d ws → Alike σ τ r × (d ≡ suc (cell σ r).depth)

module _ {σ τ : Store} {Z R : List ℕ} (v : Invariant σ Z R) where
  -- what an array names is alike where the array is
  inner_alike : (r c : ℕ) → Alike σ τ r → c ∈ inner (cell σ r) → Alike σ τ c
  inner_alike r c a h = alike_reached v (λ b q. a.cells b (under b q))
    where
      under : (b : ℕ) → Reached σ (c ∷ []) b → Reached σ (r ∷ []) b
      under = reached_within σ (Reached σ (r ∷ [])) (λ b n q g. slot b n q g) (c ∷ [])
          (only (Reached σ (r ∷ [])) c (slot r c (root r (occurs_first r [])) h))

  gather_alike : (d : ℕ) → ((w : ℤ) → Kept σ τ d (w ∷ []) → array_cells τ d w ≡ array_cells σ d w) → (ws : List ℤ) →
      Kept σ τ d ws → gather (array_cells τ d) ws ≡ gather (array_cells σ d) ws
  unfolding gather occurrences array_cells
  gather_alike zero f [] k = refl
  gather_alike zero f (w ∷ ws) k = gather_alike zero f ws k
  gather_alike (suc d) f [] k = refl
  gather_alike (suc d) f (w ∷ ws) k =
      ap₂ {C = List ℕ} ◌++◌ (f w (λ r h. k r (omega arith))) (gather_alike (suc d) f ws (λ r h. k r (omega arith)))

  pub cells_alike : (d : ℕ) (w : ℤ) → Kept σ τ d (w ∷ []) → array_cells τ d w ≡ array_cells σ d w
  unfolding array_cells inner
  cells_alike zero w k = refl
  cells_alike (suc d) w k =
      ap (λ (l : List ℕ). cell_of w ∷ l)
      (ap (gather (array_cells τ d))
      (agree_elements (cell τ c) (cell σ c) (here.0.cells c (root c (occurs_first c []))))
      ∙ gather_alike d (λ u. cells_alike d u) (elements (cell σ c)) below)
    where
      c : ℕ
      c = cell_of w

      here : Alike σ τ c × (suc d ≡ suc (cell σ c).depth)
      here = k c (occurs_first c [])

      depth : d ≡ (cell σ c).depth
      depth = omega (arith, here.1)

      below : Kept σ τ d (elements (cell σ c))
      below r h =
          let named : r ∈ inner (cell σ c) = subst (λ (n : ℕ). r ∈ named_by n (elements (cell σ c))) depth h in
          (inner_alike c r here.0 named, omega (arith, depth, v.typed c r named))

  -- a list of words
  pub all_cells_alike : (d : ℕ) (ws : List ℤ) → Kept σ τ d ws →
      gather (array_cells τ d) ws ≡ gather (array_cells σ d) ws
  all_cells_alike d ws k = gather_alike d (cells_alike d) ws k
