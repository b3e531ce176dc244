-- Copying words into a list from the front.
use Rattle.prelude.specs.Kit.{ℕ, ◌≤◌, ◌+◌, ◌<◌, arith, ℕ_discrete, ◌≡◌, ◌∙◌, sym, List, length, get_or, set}
use Rattle.prelude.specs.Kit.{get_or-set_other, get_or-set_same, ext_get_or}
use Rattle.laws.specs.Lists.{tabulate_length}
use Rattle.store_words.proofs.Tables.{table_at}
use Rattle.store_reset.specs.Resetting.{words_of}

module _ {A : Type 0} (z : A) (n : ℕ) (l : List A) where
  pub words_length : length (words_of z n l) ≡ n
  unfolding words_of
  words_length = tabulate_length n 0 (λ i. get_or l i z)

  pub word_is : (i : ℕ) → i < n → get_or (words_of z n l) i z ≡ get_or l i z
  unfolding words_of
  word_is i h = table_at n (λ i. get_or l i z) i z h

-- the first i elements of `to` are copied
pub record Copying {A : Type 0} (z : A) (from to : List A) (i : ℕ) : Type 0 where
  pub copied : (k : ℕ) → k < i → get_or to k z ≡ get_or from k z

pub copying_none : {A : Type 0} (z : A) (from to : List A) → Copying z from to 0
copying_none z from to = record { copied = λ k b. absurd (omega arith) }

module _ {A : Type 0} {z : A} {from to : List A} {i : ℕ} (w : Copying z from to i) where
  pub copying_more : (v : A) → i < length to → v ≡ get_or from i z → Copying z from (set to i v) (i + 1)
  copying_more v h e = record { copied = λ k b. go k b (ℕ_discrete k i) }
    where
      go : (k : ℕ) → k < i + 1 → Dec (k ≡ i) → get_or (set to i v) k z ≡ get_or from k z
      go k b (yes q) = rw q (get_or-set_same to i v z h ∙ e)
      go k b (no q) = get_or-set_other to i k v z q ∙ w.copied k (omega (arith, q))

  pub copying_all : (n : ℕ) → length to ≡ n → n ≤ i → to ≡ words_of z n from
  copying_all n e h = ext_get_or z to (words_of z n from) (e ∙ sym (words_length z n from))
      (λ k b. w.copied k (omega arith) ∙ sym (word_is z n from k (omega (arith, e))))

  -- all words of a list that are copied to the front of another are its words there
  pub copied_front : length from ≤ i → words_of z (length from) to ≡ from
  copied_front h = ext_get_or z (words_of z (length from) to) from (words_length z (length from) to)
      (λ k b. let inside : k < length from = omega (arith, b, words_length z (length from) to) in
      word_is z (length from) to k inside ∙ w.copied k (omega arith))
