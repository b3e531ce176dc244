-- Laws of tables: their length, their elements, and one element changed.
use Rattle.prelude.specs.Kit.{ℕ, ◌≤◌, ◌+◌, ◌<◌, suc, zero, arith, ℕ_discrete, ◌≡◌, refl, ◌∙◌, sym, ap, ap₂, ◌≢◌, List}
use Rattle.prelude.specs.Kit.{◌∷◌, get_or, set, length-set, get_or-set_other, get_or-set_same, ext_get_or}
use Rattle.laws.specs.Lists.{tabulate_length, tabulate_at}
use Rattle.semantics.specs.Basics.{tabulate}

module _ {A : Type 0} where
  pub table_at : (n : ℕ) (f : ℕ → A) (j : ℕ) (d : A) → j < n → get_or (tabulate 0 n f) j d ≡ f j
  table_at n f j d h = tabulate_at n 0 f j d h ∙ ap f (omega arith)

  -- functions that agree below n have the same table
  pub tabulate_same : (n : ℕ) (f g : ℕ → A) → ((j : ℕ) → j < n → f j ≡ g j) → tabulate 0 n f ≡ tabulate 0 n g
  unfolding tabulate
  tabulate_same n f g h = go n 0 (λ j a b. h j b) (omega arith)
    where
      go : (m i : ℕ) → ((j : ℕ) → i ≤ j → j < n → f j ≡ g j) → i + m ≤ n → tabulate i m f ≡ tabulate i m g
      go zero i k b = refl
      go (suc m) i k b = ap₂ {C = List A} ◌∷◌ (k i (omega arith) (omega arith))
          (go m (suc i) (λ j a c. k j (omega arith) c) (omega arith))

  -- functions that agree but at j
  pub set_tabulate : (n : ℕ) (f g : ℕ → A) (j : ℕ) (v : A) → j < n → g j ≡ v →
      ((i : ℕ) → i < n → i ≢ j → g i ≡ f i) → tabulate 0 n g ≡ set (tabulate 0 n f) j v
  set_tabulate n f g j v h e k = ext_get_or v (tabulate 0 n g) (set (tabulate 0 n f) j v)
      (tabulate_length n 0 g ∙ sym (length-set (tabulate 0 n f) j v ∙ tabulate_length n 0 f))
      (λ i l. go i (omega (arith, tabulate_length n 0 g)) (ℕ_discrete i j))
    where
      go : (i : ℕ) → i < n → Dec (i ≡ j) → get_or (tabulate 0 n g) i v ≡ get_or (set (tabulate 0 n f) j v) i v
      go i l (yes p) = table_at n g i v l ∙ ap g p ∙ e ∙ sym (ap (λ (x : ℕ). get_or (set (tabulate 0 n f) j v) x v) p
          ∙ get_or-set_same (tabulate 0 n f) j v v (omega (arith, tabulate_length n 0 f)))
      go i l (no p) = table_at n g i v l ∙ k i l p
          ∙ sym (get_or-set_other (tabulate 0 n f) j i v v p ∙ table_at n f i v l)
