-- Laws of clearing an array from a place on.
use Rattle.prelude.specs.Kit.{ℕ, ◌≤◌, ◌+◌, ◌<◌, ◌-◌, suc, zero, arith, dec_lt, add-one, ◌≡◌, refl, ◌∙◌, sym, ap, List}
use Rattle.prelude.specs.Kit.{[], ◌∷◌, ◌++◌, append-nil, length, get_or, set, length-set, get_or-eq_default, replicate}
use Rattle.prelude.specs.Kit.{take, drop, length-append, length-take, length-replicate, drop-cons, length-take-le}
use Rattle.prelude.specs.Kit.{append_snoc, take_all, set_at, take-suc, drop-nil}

module _ {A : Type 0} where
  front_more : (p d : List A) (i : ℕ) (v : A) → length p ≡ i → i < length d →
      set (p ++ drop i d) i v ≡ (p ++ (v ∷ [])) ++ drop (i + 1) d
  front_more p d i v e h =
      ap (λ r. set (p ++ r) i v) (drop-cons d i v h) ∙ set_at p (get_or d i v) (drop (suc i) d) v i e
      ∙ sym (append_snoc p v (drop (suc i) d))
      ∙ ap (λ (k : ℕ). (p ++ (v ∷ [])) ++ drop k d) (sym (add-one i))

  -- the first i of t stand before the rest of d, and t's next is put there
  pub put_next : (d t : List A) (i : ℕ) (v z : A) → i < length d → i < length t → v ≡ get_or t i z →
      set (take i t ++ drop i d) i v ≡ take (i + 1) t ++ drop (i + 1) d
  put_next d t i v z h g e =
      front_more (take i t) d i v (length-take-le i t (omega arith)) h
      ∙ ap (λ r. r ++ drop (i + 1) d) (ap (λ (x : A). take i t ++ (x ∷ [])) e
      ∙ sym (ap (λ (k : ℕ). take k t) (add-one i) ∙ take-suc t i z g))

  drop_none : (d : List A) (i : ℕ) → length d ≤ i → drop i d ≡ []
  drop_none [] i h = drop-nil i
  drop_none (x ∷ d) zero h = absurd (let f : ⊥ = omega arith in f)
  drop_none (x ∷ d) (suc i) h = drop_none d i (omega arith)

  -- ---- s has zeros from `from` to before i

  abbrev pub cleared : List A → ℕ → A → List A
  cleared d from z = take from d ++ replicate (length d - from) z

  pub record Clearing (d : List A) (from : ℕ) (z : A) (i : ℕ) (s : List A) : Type 0 where
    pub is : s ≡ take i (cleared d from z) ++ drop i d
    pub long : length s ≡ length d
    pub past : from ≤ i

  pub take_front : (a b : List A) → take (length a) (a ++ b) ≡ a
  take_front [] b = refl
  take_front (x ∷ a) b = ap (λ (l : List A). x ∷ l) (take_front a b)

  take_drop : (d : List A) (i : ℕ) → take i d ++ drop i d ≡ d
  take_drop d zero = refl
  take_drop [] (suc i) = refl
  take_drop (x ∷ d) (suc i) = ap (λ (l : List A). x ∷ l) (take_drop d i)

  cleared_long : (d : List A) (from : ℕ) (z : A) → length (cleared d from z) ≡ length d
  cleared_long d from z =
      length-append (take from d) (replicate (length d - from) z)
      ∙ omega (arith, length-take from d, length-replicate (length d - from) z)

  -- what stands before a place stays
  front_kept : (d : List A) (from : ℕ) (z : A) → take from (cleared d from z) ≡ take from d
  front_kept d from z = elim (dec_lt (length d) from) [
    | yes h ↦ take_all from (cleared d from z) (omega (arith, cleared_long d from z))
        ∙ ap (λ (n : ℕ). take from d ++ replicate n z) (let e : length d - from ≡ 0 = omega (arith, h) in e)
        ∙ append-nil (take from d)
    | no h ↦ ap (λ (n : ℕ). take n (cleared d from z)) (sym (length-take-le from d (omega (arith, h))))
        ∙ take_front (take from d) (replicate (length d - from) z)
  ]

  pub clearing_none : (d : List A) (from : ℕ) (z : A) → Clearing d from z from d
  clearing_none d from z = record {
    is = sym (ap (λ r. r ++ drop from d) (front_kept d from z) ∙ take_drop d from);
    long = refl;
    past = omega arith;
  }

  pad_at : (l : List A) (n i : ℕ) (d : A) → get_or (l ++ replicate n d) i d ≡ get_or l i d
  pad_at [] zero i d = refl
  pad_at [] (suc n) zero d = refl
  pad_at [] (suc n) (suc i) d = pad_at [] n i d
  pad_at (x ∷ l) n zero d = refl
  pad_at (x ∷ l) n (suc i) d = pad_at l n i d

  pub clearing_more : {d s : List A} {from i : ℕ} {z : A} → Clearing d from z i s → i < length d →
      Clearing d from z (i + 1) (set s i z)
  clearing_more {d} {s} {from} {i} {z} c h =
      let p : from ≤ i = c.past in
      record {
        is = ap (λ r. set r i z) c.is
            ∙ put_next d (cleared d from z) i z z h (omega (arith, cleared_long d from z))
            (sym (pad_at (take from d) (length d - from) i z
            ∙ get_or-eq_default (take from d) z (omega (arith, length-take-le from d (omega arith)))));
        long = length-set s i z ∙ c.long;
        past = omega arith;
      }

  pub clearing_all : {d s : List A} {from i : ℕ} {z : A} → Clearing d from z i s → length d ≤ i →
      s ≡ cleared d from z
  clearing_all {d} {s} {from} {i} {z} c h =
      c.is ∙ ap (λ r. r ++ drop i d) (take_all i (cleared d from z) (omega (arith, cleared_long d from z)))
      ∙ ap (λ r. cleared d from z ++ r) (drop_none d i h) ∙ append-nil (cleared d from z)

  pub cleared_whole : (d : List A) (z : A) → cleared d 0 z ≡ replicate (length d) z
  cleared_whole d z = ap (λ (n : ℕ). replicate n z) (let e : length d - 0 ≡ length d = omega arith in e)
