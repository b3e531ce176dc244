-- Counts as arrays, and tests of all names.
use Rattle.prelude.specs.Kit.{ℕ, ◌+◌, ◌<◌, suc, zero, pred, arith, ℕ_discrete, true, false, Bool, cond, ◌&&◌, ◌≡◌}
use lib.Pointwise.{pointwise}
use Rattle.prelude.specs.Kit.{refl, ◌∙◌, sym, ap, fun_ext, List, [], ◌∷◌, eqb, length, get_or, set, get_or-set_other}
use Rattle.prelude.specs.Kit.{get_or-set_same, ne_eqb, eq-eqb}
use Rattle.semantics.specs.Basics.{all, updated}
use Rattle.semantics_lent.specs.Hold.{plus, minus, same_holds, none_bound}
use Rattle.lent_counts.specs.Counted.{counted, set_of, kept_out}

module _ (h : List ℕ) (x : ℕ) (within : x < length h) where
  written : (v : ℕ) → counted (set h x v) ≡ updated (counted h) x v
  unfolding updated
  written v = fun_ext (λ n. go n (ℕ_discrete x n))
    where
      go : (n : ℕ) → Dec (x ≡ n) → get_or (set h x v) n 0 ≡ cond (eqb x n) v (get_or h n 0)
      go n (yes e) = rw (← e, eq-eqb x x refl) (get_or-set_same h x v 0 within)
      go n (no f) = rw (ne_eqb x n f) (get_or-set_other h x n v 0 (λ p. f (sym p)))

  pub plus_in : counted (set h x (get_or h x 0 + 1)) ≡ plus x (counted h)
  plus_in = written (get_or h x 0 + 1) ∙ ap (updated (counted h) x) (let z : get_or h x 0 + 1 ≡ suc (get_or h x 0) = omega
      arith in z)

  pub minus_in : (v : ℕ) → suc v ≡ get_or h x 0 → counted (set h x v) ≡ minus x (counted h)
  minus_in v e = written v ∙ ap (updated (counted h) x) (ap pred e)

-- ---- tests of all names

and_assoc : (a b c : Bool) → ((a && b) && c) ≡ (a && (b && c))
and_assoc true b c = refl
and_assoc false b c = refl

and_true : (a : Bool) → (a && true) ≡ a
and_true true = refl
and_true false = refl

-- one more number tested, at the end
all_last : (f : ℕ → Bool) (i n : ℕ) → all f i (suc n) ≡ (all f i n && f (i + n))
unfolding all
all_last f i zero = let e : i + 0 ≡ i = omega arith in rw e (and_true (f i))
all_last f i (suc n) =
    let e : i + suc n ≡ suc i + n = omega arith in
    rw (e, all_last f (suc i) n) (sym (and_assoc (f i) (all f (suc i) n) (f (suc i + n))))

pub all_none : (f : ℕ → Bool) → true ≡ all f 0 0
unfolding all
all_none f = refl

pub all_more : (f : ℕ → Bool) (n : ℕ) {found : Bool} → found ≡ all f 0 n → (found && f n) ≡ all f 0 (n + 1)
all_more f n e =
    let z : n + 1 ≡ suc n = omega arith in
    let y : 0 + n ≡ n = omega arith in
    rw (z, all_last f 0 n, y) (ap (λ b. b && f n) e)

-- ---- the two tests

-- the numbers from one on
all_next : (f : ℕ → Bool) (i n : ℕ) → all f (suc i) n ≡ all (λ k. f (suc k)) i n
unfolding all
all_next f i zero = refl
all_next f i (suc n) = ap (λ b. f (suc i) && b) (all_next f (suc i) n)

alike : (n : ℕ) (a b : List ℕ) → length a ≡ n → length b ≡ n →
    pointwise eqb a b ≡ all (λ k. eqb (get_or a k 0) (get_or b k 0)) 0 n
unfolding all
alike zero [] [] h k = refl
alike zero (x ∷ a) b h k = absurd (let z : ⊥ = omega (arith, h) in z)
alike zero [] (y ∷ b) h k = absurd (let z : ⊥ = omega (arith, k) in z)
alike (suc n) [] b h k = absurd (let z : ⊥ = omega (arith, h) in z)
alike (suc n) (x ∷ a) [] h k = absurd (let z : ⊥ = omega (arith, k) in z)
alike (suc n) (x ∷ a) (y ∷ b) h k =
    rw (all_next (λ j. eqb (get_or (x ∷ a) j 0) (get_or (y ∷ b) j 0)) 0 n)
    (ap (λ r. eqb x y && r) (alike n a b (omega (arith, h)) (omega (arith, k))))

pub same_so : (a b : List ℕ) {r : Bool} → length a ≡ 256 → length b ≡ 256 → r ≡ pointwise eqb a b →
    r ≡ same_holds (counted a) (counted b)
unfolding same_holds
same_so a b h k e = e ∙ alike 256 a b h k

pub bound_says : (lent : List Bool) (before after : List ℕ) →
    all (λ k. kept_out (get_or lent k false) (get_or before k 0) (get_or after k 0)) 0 256
    ≡ none_bound (set_of lent) (counted before) (counted after)
unfolding none_bound
bound_says lent before after = refl
