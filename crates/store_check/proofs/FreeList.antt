-- The free list followed.
use Rattle.prelude.specs.Kit.{ℕ, ◌≤◌, ◌<◌, suc, zero, ◌≡◌, refl, ◌∙◌, sym, ap, ap₂, List, [], ◌∷◌, lt-ltb}
use Rattle.prelude.specs.Kit.{le-ltb}
use Rattle.semantics.specs.Basics.{each}
use Rattle.semantics.specs.Store.{Store, cell, cell_count}
use Rattle.semantics.specs.Sound.{free_from, end_from}
use Rattle.store_check.specs.Holders.{tally_one, tally}

-- ---- one step

end_out : (σ : Store) (c n : ℕ) → cell_count σ ≤ c → end_from σ c n ≡ c
unfolding end_from
end_out σ c zero h = refl
end_out σ c (suc n) h = rw (le-ltb c (cell_count σ) h, end_from)

free_out : (σ : Store) (c n : ℕ) → cell_count σ ≤ c → free_from σ c n ≡ []
unfolding free_from
free_out σ c zero h = refl
free_out σ c (suc n) h = rw (le-ltb c (cell_count σ) h, free_from)

end_in : (σ : Store) (c n : ℕ) → c < cell_count σ → end_from σ c (suc n) ≡ end_from σ (cell σ c).next n
unfolding end_from
end_in σ c n h = rw (lt-ltb c (cell_count σ) h, end_from)

free_in : (σ : Store) (c n : ℕ) → c < cell_count σ → free_from σ c (suc n) ≡ c ∷ free_from σ (cell σ c).next n
unfolding free_from
free_in σ c n h = rw (lt-ltb c (cell_count σ) h, free_from)

-- ---- the loop: what is left of the list gives what the whole gives

pub record Following (σ : Store) (c₀ n : ℕ) (met₀ : List ℕ) (c left : ℕ) (met : List ℕ) : Type 0 where
  pub ends : end_from σ c₀ n ≡ end_from σ c left
  pub meets : tally (free_from σ c₀ n) met₀ ≡ tally (free_from σ c left) met

module _ {σ : Store} {c₀ n : ℕ} {met₀ : List ℕ} {c left : ℕ} {met : List ℕ}
    (p : Following σ c₀ n met₀ c left met) where
  pub following_spent : left ≡ 0 → (c ≡ end_from σ c₀ n) × (met ≡ tally (free_from σ c₀ n) met₀)
  unfolding end_from free_from each
  following_spent e =
      (sym (p.ends ∙ ap (end_from σ c) e), sym (p.meets ∙ ap (λ (m : ℕ). tally (free_from σ c m) met) e))

  pub following_out : cell_count σ ≤ c → (c ≡ end_from σ c₀ n) × (met ≡ tally (free_from σ c₀ n) met₀)
  unfolding each
  following_out h = (
    sym (p.ends ∙ end_out σ c left h),
    sym (p.meets ∙ ap (λ (l : List ℕ). tally l met) (free_out σ c left h)),
  )

  pub following_more : c < cell_count σ → (less : ℕ) → left ≡ suc less → {met' : List ℕ} {next : ℕ} →
      met' ≡ tally_one c met → next ≡ (cell σ c).next → Following σ c₀ n met₀ next less met'
  unfolding each
  following_more h less f {met'} {next} e q = record {
    ends = p.ends ∙ ap (end_from σ c) f ∙ end_in σ c less h
        ∙ ap (λ (x : ℕ). end_from σ x less) (sym q);
    meets = p.meets ∙ ap (λ (m : ℕ). tally (free_from σ c m) met) f
        ∙ ap (λ (l : List ℕ). tally l met) (free_in σ c less h)
        ∙ ap₂ (λ (x : ℕ) (counts : List ℕ). tally (free_from σ x less) counts) (sym q) (sym e);
  }
