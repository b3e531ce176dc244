-- A loop that does f for each element of a list: what is left to do gives what the whole gives.
use Rattle.prelude.specs.Kit.{ℕ, ◌+◌, ◌<◌, suc, add-one, ◌≡◌, refl, ◌∙◌, sym, ap, List, ◌∷◌, length, get_or, drop}
use Rattle.prelude.specs.Kit.{drop-cons, drop-length}
use Rattle.semantics.specs.Basics.{each}

-- i elements are done, and s is reached
pub record Doing {A S : Type 0} (f : A → S → S) (l : List A) (s₀ : S) (i : ℕ) (s : S) : Type 0 where
  pub same : each f l s₀ ≡ each f (drop i l) s

pub doing_none : {A S : Type 0} (f : A → S → S) (l : List A) (s : S) → Doing f l s 0 s
doing_none f l s = record { same = refl }

module _ {A S : Type 0} {f : A → S → S} {l : List A} {s₀ : S} {i : ℕ} {s : S} (d : Doing f l s₀ i s) where
  pub doing_more : i < length l → (z a : A) → get_or l i z ≡ a → {s' : S} → s' ≡ f a s → Doing f l s₀ (i + 1) s'
  unfolding each
  doing_more h z a e {s'} q = record {
    same =
        d.same
        ∙ ap (λ (r : List A). each f r s) (drop-cons l i z h ∙ ap (λ (x : A). x ∷ drop (suc i) l) e)
        ∙ ap (each f (drop (suc i) l)) (sym q)
        ∙ ap (λ (j : ℕ). each f (drop j l) s') (sym (add-one i));
  }

  pub doing_all : i ≡ length l → s ≡ each f l s₀
  unfolding each
  doing_all h = sym (d.same ∙ ap (λ (r : List A). each f r s) (ap (λ (j : ℕ). drop j l) h ∙ drop-length l))
