-- What is known of a run that ends.
use Rattle.std.specs.Prelude.{ℕ, true, false, Bool, ◌≡◌, refl}
use Rattle.prelude.specs.Kit.{subst}
use Rattle.semantics.specs.Outcome.{Outcome, done, stop, Run, onward, require}

-- of its answer and its state, if it ends
abbrev pub Ends : {S A : Type 0} → (A → S → Type 0) → Outcome S A → Type 0
Ends P (done a s) = P a s
Ends P (stop n s) = Unit {0}

pub ends_then : {S A B : Type 0} (P : A → S → Type 0) (Q : B → S → Type 0) (f : A → Run S B) (o : Outcome S A) →
    Ends P o → ((a : A) (s : S) → P a s → Ends Q (f a s)) → Ends Q (onward f o)
unfolding onward
ends_then P Q f (done a s) h g = g a s h
ends_then P Q f (stop n s) h g = tt

pub ends_more : {S A : Type 0} (P Q : A → S → Type 0) (o : Outcome S A) → Ends P o →
    ((a : A) (s : S) → P a s → Q a s) → Ends Q o
ends_more P Q (done a s) h g = g a s h
ends_more P Q (stop n s) h g = tt

-- what was required holds
pub ends_required : {S : Type 0} (b : Bool) (n : ℕ) (s : S) →
    Ends (λ (u : Unit {0}) (t : S). (b ≡ true) × (t ≡ s)) (require b n s)
unfolding require
ends_required true n s = (refl, refl)
ends_required false n s = tt

pub ended : {S A : Type 0} (P : A → S → Type 0) (o : Outcome S A) (a : A) (s : S) → Ends P o → o ≡ done a s → P a s
ended P o a s h e = subst (Ends P) e h
