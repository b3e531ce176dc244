-- What is put back after a stop is the saved store, linked anew.
use Rattle.prelude.specs.Kit.{ℕ, ◌≡◌, ◌∙◌, ap, ap₂, List, ℤ, pos, length}
use Rattle.semantics.specs.Store.{Store, relinked}
use Rattle.semantics.specs.Words.{store_of}
use Rattle.store_reset.specs.Resetting.{words_of}

-- `put_back` gives what a stop leaves, from what `save_slots` and `save_heads` kept
module _ (slots : List ℤ) (heads : List ℕ) (saved_slots : List ℤ) (saved_heads : List ℕ)
    (kept_slots : words_of (pos 0) (length slots) saved_slots ≡ slots)
    (kept_heads : words_of 0 (length heads) saved_heads ≡ heads) where
  pub put_back_is : {m n : ℕ} {σ : Store} → m ≡ length slots → n ≡ length heads →
      σ ≡ relinked (store_of (words_of (pos 0) m saved_slots) (words_of 0 n saved_heads)) →
      σ ≡ relinked (store_of slots heads)
  put_back_is p q e = e ∙ ap₂ (λ (s : List ℤ) (h : List ℕ). relinked (store_of s h))
      (ap (λ (k : ℕ). words_of (pos 0) k saved_slots) p ∙ kept_slots)
      (ap (λ (k : ℕ). words_of 0 k saved_heads) q ∙ kept_heads)
