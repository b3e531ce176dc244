-- The exact outcome of a number that is told where it is in 64 bits.
use Rattle.prelude.specs.Kit.{◌^◌, true, false, Bool, cond, ◌≡◌, refl, ltb, ℤ, pos, negsuc, mag, w64}
use Rattle.prelude.specs.Kit.{lt-ltb, ltb-true}
use Rattle.std.specs.Prelude.{SomeIff, FitsSigned, Option, Some, None}
use Rattle.semantics.specs.Outcome.{Outcome, done, stop}
use Rattle.semantics.specs.Number.{fits}
use Rattle.words.specs.Words.{exact_outcome, checked}

fits_test : (z : ℤ) → fits z ≡ ltb (mag z) (2 ^ 63)
fits_test (pos n) = refl
fits_test (negsuc n) = refl

pub exact_checked : (r : Option ℤ) (z : ℤ) → SomeIff r (FitsSigned w64 z) z → exact_outcome r ≡ checked z
unfolding checked
exact_checked (Some x) z h = rw (fits_test z, lt-ltb (mag z) (2 ^ 63) h.0.sfits, h.1) refl
exact_checked None z h = rw (fits_test z) (go (ltb (mag z) (2 ^ 63)) refl)
  where
    go : (t : Bool) → ltb (mag z) (2 ^ 63) ≡ t →
        ◌≡◌ {A = Outcome (Unit {0}) ℤ} (stop 24 tt) (cond t (done z tt) (stop 24 tt))
    go true e = absurd (h (record { sfits = ltb-true _ _ e }))
    go false e = refl
