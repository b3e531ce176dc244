-- Sets of names as arrays of bools.
use Rattle.prelude.specs.Kit.{ℕ, ◌≤◌, ◌+◌, ◌<◌, suc, zero, arith, dec_lt, ℕ_discrete, true, false, Bool, ◌&&◌, not, ◌||◌}
use Rattle.prelude.specs.Kit.{◌≡◌, refl, ◌∙◌, sym, fun_ext, inl, inr, ◌⊎◌, ⊎_elim, List, eqb, length, get_or}
use Rattle.prelude.specs.Kit.{set, length-set, get_or-eq_default, replicate, get_or-set_other, get_or-set_same, ne_eqb}
use Rattle.prelude.specs.Kit.{eq-eqb}
use Rattle.semantics.specs.Live.{Set, ◌∪◌, ◌∖◌, only, empty}
use Rattle.plain_rows.specs.Plain.{set_of}

none_at : (n x : ℕ) → get_or (replicate n false) x false ≡ false
none_at zero x = refl
none_at (suc n) zero = refl
none_at (suc n) (suc x) = none_at n x

pub none_in : set_of (replicate 256 false) ≡ empty
none_in = fun_ext (λ x. none_at 256 x)

module _ (s : List Bool) (n : ℕ) (h : n < length s) where
  pub with_in : set_of (set s n true) ≡ only n ∪ set_of s
  with_in = fun_ext (λ x. go x (ℕ_discrete n x))
    where
      go : (x : ℕ) → Dec (n ≡ x) → get_or (set s n true) x false ≡ eqb n x || get_or s x false
      go x (yes e) = rw (← e, eq-eqb n n refl) (get_or-set_same s n true false h)
      go x (no f) = rw (ne_eqb n x f) (get_or-set_other s n x true false (λ p. f (sym p)))

  pub without_in : set_of (set s n false) ≡ set_of s ∖ n
  without_in = fun_ext (λ x. go x (ℕ_discrete n x))
    where
      go : (x : ℕ) → Dec (n ≡ x) → get_or (set s n false) x false ≡ not (eqb n x) && get_or s x false
      go x (yes e) = rw (← e, eq-eqb n n refl) (get_or-set_same s n false false h)
      go x (no f) = rw (ne_eqb n x f) (get_or-set_other s n x false false (λ p. f (sym p)))

-- ---- a set that is made name by name

-- r is the set A below i, and a from i on
pub record Making (A : Set) (a r : List Bool) (i : ℕ) : Type 0 where
  pub long : length r ≡ length a
  pub below : (k : ℕ) → k < i → get_or r k false ≡ A k
  pub above : (k : ℕ) → i ≤ k → get_or r k false ≡ get_or a k false

pub making_none : (A : Set) (a : List Bool) → Making A a a 0
making_none A a =
    record { long = refl; below = λ k h. absurd (let f : ⊥ = omega arith in f); above = λ k h. refl }

module _ {A : Set} {a r : List Bool} {i : ℕ} (inv : Making A a r i) where
  at_or_below : (k : ℕ) → k < i + 1 → (k ≡ i) ⊎ (k < i)
  at_or_below k h = go (ℕ_discrete k i)
    where
      go : Dec (k ≡ i) → (k ≡ i) ⊎ (k < i)
      go (yes e) = inl e
      go (no f) = inr (omega (arith, f))

  -- the name is written
  pub making_set : (v : Bool) → i < length a → v ≡ A i → Making A a (set r i v) (i + 1)
  making_set v within e = record {
    long = length-set r i v ∙ inv.long;
    below = λ k h. ⊎_elim
        (λ q. rw q (get_or-set_same r i v false (omega (arith, inv.long)) ∙ e))
        (λ q. get_or-set_other r i k v false (λ p. omega arith) ∙ inv.below k q)
        (at_or_below k h);
    above = λ k h. get_or-set_other r i k v false (λ p. omega arith) ∙ inv.above k (omega arith);
  }

  pub making_all : length a ≤ i → ((k : ℕ) → i ≤ k → A k ≡ false) → set_of r ≡ A
  making_all h none = fun_ext (λ x. go x (dec_lt x i))
    where
      go : (x : ℕ) → Dec (x < i) → get_or r x false ≡ A x
      go x (yes p) = inv.below x p
      go x (no f) =
          inv.above x (omega (arith, f)) ∙ get_or-eq_default a false (omega (arith, f)) ∙ sym
          (none x (omega (arith, f)))

-- ---- two sets joined

none_past : (a : List Bool) (k : ℕ) → length a ≤ k → get_or a k false ≡ false
none_past a k h = get_or-eq_default a false h

-- r is a joined with b below i, and a from i on
pub record Joining (a b r : List Bool) (i : ℕ) : Type 0 where
  pub made : Making (set_of a ∪ set_of b) a r i

pub joining_none : (a b : List Bool) → Joining a b a 0
joining_none a b = record { made = making_none (set_of a ∪ set_of b) a }

module _ {a b r : List Bool} {i : ℕ} (v : Joining a b r i) where
  pub joining_set : (u : Bool) → i < length a → u ≡ get_or r i false || get_or b i false → Joining a b (set r i u) (i + 1)
  joining_set u h e = record { made = making_set v.made u h (e ∙ rw (v.made.above i (omega arith))) }

  pub joining_all : length a ≤ i → length b ≤ i → set_of r ≡ set_of a ∪ set_of b
  joining_all h g =
      making_all v.made h (λ k l. rw (none_past a k (omega arith), none_past b k (omega arith)))
