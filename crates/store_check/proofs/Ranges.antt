-- A loop that tests a range of numbers: the test of what is left gives the test of the whole.
use Rattle.prelude.specs.Kit.{ℕ, ◌≤◌, ◌+◌, ◌<◌, ◌-◌, suc, zero, arith, add-one, true, false, Bool, ◌&&◌, ◌≡◌, refl, ◌∙◌}
use Rattle.prelude.specs.Kit.{sym, ap₂}
use Rattle.semantics.specs.Basics.{all}

all_none : (f : ℕ → Bool) (i n : ℕ) → n ≡ 0 → all f i n ≡ true
unfolding all
all_none f i zero e = refl
all_none f i (suc n) e = absurd (omega arith)

all_goes : (f : ℕ → Bool) (i n m : ℕ) → n ≡ suc m → f i ≡ true → all f i n ≡ all f (i + 1) m
unfolding all
all_goes f i zero m e h = absurd (omega arith)
all_goes f i (suc n) m e h = let q : n ≡ m = omega arith in rw (h, q, add-one) refl

all_fails : (f : ℕ → Bool) (i n : ℕ) → 0 < n → f i ≡ false → all f i n ≡ false
unfolding all
all_fails f i zero l h = absurd (omega arith)
all_fails f i (suc n) l h = rw h

-- tests that agree below the end of the range
pub all_same : (f g : ℕ → Bool) (i n : ℕ) → ((c : ℕ) → c < i + n → f c ≡ g c) → all f i n ≡ all g i n
unfolding all
all_same f g i zero h = refl
all_same f g i (suc n) h = ap₂ ◌&&◌ (h i (omega arith)) (all_same f g (suc i) n (λ c l. h c (omega arith)))

-- the numbers from k up to i hold
pub record Testing (f : ℕ → Bool) (k end i : ℕ) : Type 0 where
  pub same : all f k (end - k) ≡ all f i (end - i)

pub testing_none : (f : ℕ → Bool) (k end : ℕ) → Testing f k end k
testing_none f k end = record { same = refl }

module _ {f : ℕ → Bool} {k end i : ℕ} (t : Testing f k end i) where
  pub testing_more : i < end → f i ≡ true → Testing f k end (i + 1)
  testing_more h q = record { same = t.same ∙ all_goes f i (end - i) (end - (i + 1)) (omega arith) q }

  pub testing_fails : i < end → f i ≡ false → false ≡ all f k (end - k)
  testing_fails h q = sym (t.same ∙ all_fails f i (end - i) (omega arith) q)

  pub testing_all : end ≤ i → true ≡ all f k (end - k)
  testing_all h = sym (t.same ∙ all_none f i (end - i) (omega arith))

-- a range from 0 on, whose end n is known as m too
pub from_zero : (f : ℕ → Bool) (n m : ℕ) {r : Bool} → n ≡ m → r ≡ all f 0 (n - 0) → r ≡ all f 0 m
from_zero f n m e h = let q : n - 0 ≡ m = omega arith in rw q at h

module _ {f : ℕ → Bool} {n m i : ℕ} (t : Testing f 0 n i) (e : n ≡ m) where
  pub one_fails : i < n → f i ≡ false → false ≡ all f 0 m
  one_fails h q = from_zero f n m e (testing_fails t h q)

  pub all_hold : n ≤ i → true ≡ all f 0 m
  all_hold h = from_zero f n m e (testing_all t h)

-- two tests of one range
pub all_both : (f g : ℕ → Bool) (i n : ℕ) → all (λ c. f c && g c) i n ≡ all f i n && all g i n
unfolding all
all_both f g i zero = refl
all_both f g i (suc n) = rw (all_both f g (suc i) n) (go (f i) (g i) (all f (suc i) n) (all g (suc i) n))
  where
    go : (a b p q : Bool) → (a && b) && (p && q) ≡ (a && p) && (b && q)
    go true true p q = refl
    go true false true q = refl
    go true false false q = refl
    go false b p q = refl
