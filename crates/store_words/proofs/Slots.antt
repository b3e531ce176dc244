-- The sixteen slots of a cell: cleared, and cut out of the array.
use Rattle.prelude.specs.Kit.{take_all, ◌≤◌, ℕ, ◌+◌, ◌<◌, ◌*◌, arith, ◌≡◌, ◌∙◌, sym, ◌≢◌, List, [], ℤ, pos}
use Rattle.prelude.specs.Kit.{ap, take, drop, length-take, length-drop, get_or-take, get_or-drop, length, get_or, ext_get_or}
use Rattle.semantics.specs.Store.{padded}
use Rattle.semantics.specs.Words.{slots_at}
use Rattle.store_words.specs.Parts.{Cleared}
use Rattle.store_words.proofs.Tables.{tabulate_same}
use Rattle.store_words.proofs.CellWords.{slots_length, slot_is}

-- what was cleared is zeros, and the other cells' slots are as they were
pub cleared_slots : {slots : List ℤ} {c : ℕ} {slots' : List ℤ} → Cleared slots c slots' →
    slots_at slots' c ≡ padded []
unfolding slots_at padded
cleared_slots p = tabulate_same 16 _ _ (λ k b. p.inside k b)

pub cleared_others : {slots : List ℤ} {c : ℕ} {slots' : List ℤ} → Cleared slots c slots' →
    (d : ℕ) → d ≢ c → slots_at slots' d ≡ slots_at slots d
unfolding slots_at
cleared_others p d f = tabulate_same 16 _ _ (λ k b. p.outside d k b f)

-- the first n words of a cell, cut out of the array
pub front_cut : (slots : List ℤ) (c n m i : ℕ) → m ≡ n → i ≡ 1 + 16 * c → n ≤ 16 → 16 * c + 16 < length slots →
    take m (drop i slots) ≡ take n (slots_at slots c)
front_cut slots c n m i e f few h = ext_get_or (pos 0) (take m (drop i slots)) (take n (slots_at slots c))
    (long ∙ sym short)
    (λ k b. at k (omega (arith, long, b)))
  where
    long : length (take m (drop i slots)) ≡ n
    long = omega (arith, length-take m (drop i slots), length-drop i slots)

    short : length (take n (slots_at slots c)) ≡ n
    short = omega (arith, length-take n (slots_at slots c), slots_length slots c)

    at : (k : ℕ) → k < n → get_or (take m (drop i slots)) k (pos 0) ≡ get_or (take n (slots_at slots c)) k (pos 0)
    at k b = get_or-take m (drop i slots) k (pos 0) (omega arith) ∙ get_or-drop i slots k (pos 0)
        ∙ ap (λ (j : ℕ). get_or slots (j + k) (pos 0)) f ∙ sym (slot_is slots c k (omega arith))
        ∙ sym (get_or-take n (slots_at slots c) k (pos 0) b)

-- all sixteen
pub slots_cut : (slots : List ℤ) (c n i : ℕ) → n ≡ 16 → i ≡ 1 + 16 * c → 16 * c + 16 < length slots →
    take n (drop i slots) ≡ slots_at slots c
slots_cut slots c n i e f h =
    front_cut slots c 16 n i e f (omega arith) h
    ∙ take_all 16 (slots_at slots c) (omega (arith, slots_length slots c))
