-- What the answers of a test have, where it does not stop, and what a stop says.
use Rattle.std.specs.Prelude.{ℕ, true, false, Bool, ◌≡◌, refl}
use Rattle.semantics.specs.Outcome.{Outcome, done, stop, ◌>>=◌, give, require, onward}
use Rattle.semantics_lent.specs.Form.{Test, must, skip}

-- an answer has P; a stop says K
abbrev pub Ends : {A : Type 0} → Type 0 → (A → Type 0) → Outcome ℕ A → Type 0
Ends K P (done a p) = P a
Ends K P (stop n p) = K

pub record Answers {A : Type 0} (K : Type 0) (P : A → Type 0) (m : Test A) : Type 0 where
  pub at : (p : ℕ) → Ends K P (m p)

pub answers_give : {A : Type 0} {K : Type 0} {P : A → Type 0} (a : A) → P a → Answers K P (give a)
answers_give a h = record { at = λ p. h }

pub answers_then : {A B : Type 0} {J K : Type 0} {P : A → Type 0} {Q : B → Type 0} {m : Test A} {f : A → Test B} →
    Answers J P m → (J → K) → ((a : A) → P a → Answers K Q (f a)) → Answers K Q (m >>= f)
unfolding onward
answers_then {A} {B} {J} {K} {P} {Q} {m} {f} h k g = record { at = λ p. go (m p) (h.at p) }
  where
    go : (o : Outcome ℕ A) → Ends J P o → Ends K Q (onward f o)
    go (done a p) q = (g a q).at p
    go (stop n p) q = k q

pub answers_must : {K : Type 0} (b : Bool) → (b ≡ false → K) → Answers K (λ _. b ≡ true) (must b)
unfolding require
answers_must true k = record { at = λ p. refl }
answers_must false k = record { at = λ p. k refl }

pub answers_skip : {K : Type 0} (n : ℕ) → Answers K (λ _. Unit {0}) (skip n)
answers_skip n = record { at = λ p. tt }

pub answers_map : {A : Type 0} {J K : Type 0} {P Q : A → Type 0} {m : Test A} → (J → K) → ((a : A) → P a → Q a) →
    Answers J P m → Answers K Q m
answers_map {A} {J} {K} {P} {Q} {m} k f h = record { at = λ p. go (m p) (h.at p) }
  where
    go : (o : Outcome ℕ A) → Ends J P o → Ends K Q o
    go (done a p) q = f a q
    go (stop n p) q = k q
