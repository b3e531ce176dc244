-- A test of lent code that ends as is said, or stops at a line that is not past a bound.
use Rattle.std.specs.Prelude.{ℕ, ◌≤◌, true, false, Bool, ◌≡◌}
use Rattle.prelude.specs.Kit.{arith, subst}
use Rattle.semantics.specs.Outcome.{Outcome, done, stop, Run, onward, require}

-- P of the answer and the next line; or the line at fault is at most m
abbrev pub StopsBy : {A : Type 0} → ℕ → (A → ℕ → Type 0) → Outcome ℕ A → Type 0
StopsBy m P (done a q) = P a q
StopsBy m P (stop n s) = s ≤ m

-- nothing is said of an end
abbrev pub StopsAtMost : {A : Type 0} → ℕ → Outcome ℕ A → Type 0
StopsAtMost {A} m o = StopsBy m (λ (a : A) (q : ℕ). Unit {0}) o

pub stops_then : {A B : Type 0} (m : ℕ) (P : A → ℕ → Type 0) (Q : B → ℕ → Type 0) (f : A → Run ℕ B) (o : Outcome ℕ A) →
    StopsBy m P o → ((a : A) (q : ℕ) → P a q → StopsBy m Q (f a q)) → StopsBy m Q (onward f o)
unfolding onward
stops_then m P Q f (done a q) h g = g a q h
stops_then m P Q f (stop n s) h g = h

-- a test of the present line
pub stops_test : {A : Type 0} (m : ℕ) (Q : A → ℕ → Type 0) (b : Bool) (s : ℕ) (f : Unit {0} → Run ℕ A) → s ≤ m →
    StopsBy m Q (f tt s) → StopsBy m Q (onward f (require b 29 s))
unfolding onward require
stops_test m Q true s f h g = g
stops_test m Q false s f h g = h

-- a higher bound, and less of an end
pub stops_more : {A : Type 0} (k m : ℕ) (P Q : A → ℕ → Type 0) (o : Outcome ℕ A) → k ≤ m → StopsBy k P o →
    ((a : A) (q : ℕ) → P a q → Q a q) → StopsBy m Q o
stops_more k m P Q (done a q) l h g = g a q h
stops_more k m P Q (stop n s) l h g = omega (arith, l, h)

pub stop_line : {A : Type 0} (m : ℕ) (o : Outcome ℕ A) (n p : ℕ) → StopsAtMost m o → o ≡ stop n p → p ≤ m
stop_line m o n p h e = subst (StopsAtMost m) e h
