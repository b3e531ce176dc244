-- Laws of the tests of a word: whether it is a number from 0 on that is below a bound, and whether it is 0.
use Rattle.prelude.specs.Kit.{ℕ, ◌<◌, suc, zero, ◌^◌, arith, true, false, ◌≡◌, refl, ℤ, pos}
use Rattle.prelude.specs.Kit.{negsuc, lt_z, mag, ltb-true, w64, of_z}
use Rattle.semantics.specs.Number.{is_zero, inside}

pub inside_negative : (w : ℤ) (n : ℕ) → lt_z w (pos 0) ≡ true → inside w n ≡ false
inside_negative (pos i) n e = let f = ltb-true i 0 e in absurd (omega arith)
inside_negative (negsuc i) n e = refl

pub guard_zero : (z : ℤ) → mag z < 2 ^ 63 → of_z w64 z ≡ 0 → is_zero z ≡ true
guard_zero (pos zero) h e = refl
guard_zero (pos (suc n)) h e = absurd (omega arith)
guard_zero (negsuc n) h e = absurd (let g : ⊥ = omega arith in g)

pub guard_not : (z : ℤ) → (of_z w64 z ≡ 0 → ⊥) → is_zero z ≡ false
guard_not (pos zero) f = absurd (f refl)
guard_not (pos (suc n)) f = refl
guard_not (negsuc n) f = refl
