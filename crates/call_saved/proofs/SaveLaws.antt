-- One law for each way out of the store's part of a save.
use Rattle.prelude.specs.Kit.{ℕ, true, false, Bool, ◌≡◌, ◌∙◌, sym, ap, List, ℤ, length, replicate}
use Rattle.semantics.specs.Store.{cells_taken}
use Rattle.semantics.specs.Words.{store_of}
use Rattle.semantics.specs.Sound.{sound_words}
use Rattle.answers.specs.declared.Refusal.TheVariants.{UnsoundStore, BadSaveFile}
use Rattle.call_store.specs.Left.{answered, refused}
use Rattle.saved_write.specs.Writing.{saving, totals_saved}
use Rattle.call_saved.specs.Left.{save_left, save_left_by, saved_left}

module _ (d : ℕ) (slots : List ℤ) (heads buffer : List ℕ) where
  pub unsound : sound_words d slots heads ≡ false → (r : List ℕ) → r ≡ replicate (length buffer) 0 →
      save_left (refused UnsoundStore) r ≡ saved_left d slots heads buffer
  unfolding saved_left
  unsound e r f = rw e (ap (save_left (refused UnsoundStore)) f)

  module _ (e : sound_words d slots heads ≡ true) (b : Bool) (r : List ℕ)
      (said : saving b r ≡ totals_saved d (store_of slots heads) buffer) where
    sound_left : saved_left d slots heads buffer ≡ save_left_by (cells_taken (store_of slots heads)) (saving b r)
    unfolding saved_left
    sound_left = rw e (ap (save_left_by (cells_taken (store_of slots heads))) (sym said))

    pub no_room : b ≡ false → save_left (refused BadSaveFile) r ≡ saved_left d slots heads buffer
    no_room f = sym (sound_left ∙ ap (λ (t : Bool). save_left_by (cells_taken (store_of slots heads)) (saving t r)) f)

    pub saves : b ≡ true → (n : ℕ) → n ≡ cells_taken (store_of slots heads) →
        save_left (answered 0 0 0 n) r ≡ saved_left d slots heads buffer
    saves f n counted =
        ap (λ (m : ℕ). save_left (answered 0 0 0 m) r) counted
        ∙ sym (sound_left ∙ ap (λ (t : Bool). save_left_by (cells_taken (store_of slots heads)) (saving t r)) f)
