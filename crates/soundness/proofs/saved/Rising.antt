-- The free list of a store with no cell in use: all cells, upwards.
use Rattle.prelude.specs.Kit.{ℕ, ◌+◌, ◌<◌, suc, zero, arith, ◌≡◌, refl, ◌∙◌, sym, ap, subst, List, [], ◌∷◌, pos, length}
use Rattle.prelude.specs.Kit.{replicate}
use Rattle.semantics.specs.Basics.{tabulate}
use Rattle.semantics.specs.Store.{Cell, Store, Linked, cell, cell_count, clear, linked, relinked, zeroed}
use Rattle.semantics.specs.Sound.{free_list}
use Rattle.discipline.proofs.store.Invariant.{Invariant}
use Rattle.laws.specs.Lists.{tabulate_length, tabulate_at}
use Rattle.discipline.proofs.store.FreeList.{Links, listed}

-- the cells from c on, each before the next
linked_clear : (m c : ℕ) → linked c (replicate m (clear 0)) ≡
    record { head = c; cells = tabulate c m (λ i. clear (suc i)) }
unfolding linked tabulate clear
linked_clear zero c = refl
linked_clear (suc m) c =
    ap (λ (r : Linked). record { head = c; cells = clear r.head ∷ r.cells }) (linked_clear m (suc c))

links_unique : (σ : Store) (c : ℕ) (l m : List ℕ) → Links σ c l → Links σ c m → l ≡ m
links_unique σ c [] [] h k = refl
links_unique σ c [] (y ∷ m) h k = absurd (omega arith)
links_unique σ c (x ∷ l) [] h k = absurd (omega arith)
links_unique σ c (x ∷ l) (y ∷ m) h k =
    let same : x ≡ y = sym h.0 ∙ k.0 in
    ap (λ (z : ℕ). z ∷ l) same
    ∙ ap (λ (r : List ℕ). y ∷ r) (links_unique σ (cell σ y).next l m
    (subst (λ (z : ℕ). Links σ (cell σ z).next l) same h.2) k.2)

module _ (n : ℕ) where
  abbrev σ : Store
  σ = relinked (zeroed n)

  cells_are : σ.cells ≡ tabulate 0 n (λ i. clear (suc i))
  unfolding relinked zeroed
  cells_are = ap (λ (r : Linked). r.cells) (linked_clear n 0)

  first_is : σ.first ≡ 0
  unfolding relinked zeroed
  first_is = ap (λ (r : Linked). r.head) (linked_clear n 0)

  size_is : cell_count σ ≡ n
  size_is = ap (λ (l : List Cell). length l) cells_are ∙ tabulate_length n 0 (λ i. clear (suc i))

  next_is : (c : ℕ) → c < n → (cell σ c).next ≡ suc c
  unfolding cell clear
  next_is c h = ap (λ (x : Cell). x.next)
      (ap (λ (l : List Cell). cell (record { totals = pos 0; first = 0; cells = l }) c) cells_are
      ∙ tabulate_at n 0 (λ i. clear (suc i)) c (clear 0) h) ∙ omega arith

  links_up : (m c : ℕ) → c + m ≡ n → Links σ c (tabulate c m (λ i. i))
  unfolding tabulate
  links_up zero c e = omega (arith, e, size_is)
  links_up (suc m) c e = (
    refl,
    omega (arith, e, size_is),
    subst (λ (k : ℕ). Links σ k (tabulate (suc c) m (λ i. i))) (sym (next_is c (omega (arith, e))))
        (links_up m (suc c) (omega (arith, e))),
  )

  pub rising : {Z R : List ℕ} → Invariant σ Z R → free_list σ ≡ tabulate 0 n (λ i. i)
  rising v = links_unique σ σ.first (free_list σ) (tabulate 0 n (λ i. i)) (listed v).links
      (subst (λ (k : ℕ). Links σ k (tabulate 0 n (λ i. i))) (sym first_is) (links_up n 0 (omega arith)))
