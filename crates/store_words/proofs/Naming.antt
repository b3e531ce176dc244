-- The cells that a cell names.
use Rattle.prelude.specs.Kit.{ℕ, ◌+◌, ◌<◌, suc, zero, ◌*◌, min, arith, ◌≡◌, refl, ◌∙◌, sym, ap}
use Rattle.prelude.specs.Kit.{List, [], ◌∷◌, map, ℤ, length, get_or, take}
pub use Rattle.laws.specs.Numbers.{not_negative}
use Rattle.semantics.specs.Store.{Cell, cell, cell_of, named_by, elements, inner}
use Rattle.semantics.specs.Words.{cells_in, slots_at, store_of}
use Rattle.store_words.proofs.CellWords.{depth_is, elements_are, slots_length}

-- ---- what a cell names

pub inner_deep : (x : Cell) → (x.depth ≡ 0 → ⊥) → inner x ≡ map cell_of (elements x)
unfolding inner
inner_deep x h = go x.depth h
  where
    go : (d : ℕ) → (d ≡ 0 → ⊥) → named_by d (elements x) ≡ map cell_of (elements x)
    go zero f = absurd (f refl)
    go (suc d) f = refl

pub take_min : {A : Type 0} (n m : ℕ) (l : List A) → length l ≡ m → take n l ≡ take (min n m) l
take_min zero m l e = let q : min 0 m ≡ 0 = omega arith in rw q
take_min (suc n) zero [] e = let q : min (suc n) 0 ≡ 0 = omega arith in rw q
take_min (suc n) (suc m) [] e = absurd (omega arith)
take_min (suc n) zero (x ∷ l) e = absurd (omega arith)
take_min (suc n) (suc m) (x ∷ l) e =
    let q : min (suc n) (suc m) ≡ suc (min n m) = omega arith in rw q (ap (λ r. x ∷ r) (take_min n m l (omega arith)))

-- what a cell of depth 1 or more names, by its words
pub inner_are : (slots : List ℤ) (heads : List ℕ) (c : ℕ) → c < cells_in slots heads →
    (get_or heads (3 + 4 * c) 0 ≡ 0 → ⊥) →
    inner (cell (store_of slots heads) c) ≡ map cell_of (take (min (get_or heads (2 + 4 * c) 0) 16) (slots_at slots c))
inner_are slots heads c h d = inner_deep (cell (store_of slots heads) c) (λ e. d (sym (depth_is slots heads c h) ∙ e))
    ∙ ap (map cell_of) (elements_are slots heads c h
    ∙ take_min (get_or heads (2 + 4 * c) 0) 16 (slots_at slots c) (slots_length slots c))
