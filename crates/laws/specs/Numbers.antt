-- Words as numbers: one that is not negative, and one whose bits are 0.
use Rattle.std.specs.Prelude.{◌<◌, suc, zero, ◌^◌, true, false, ◌≡◌, refl, T, ℤ, pos, negsuc, nat_abs}
use Rattle.prelude.specs.Kit.{arith, true≢false, lt_z, mag, non_neg, w64, of_z, Fits}
use Rattle.semantics.specs.Number.{is_zero}

pub not_negative : (z : ℤ) → mag z < 2 ^ 63 → lt_z z (pos 0) ≡ false → T (non_neg z) × Fits w64 (nat_abs z)
not_negative (pos n) h e = (tt, record { fits = omega arith })
not_negative (negsuc n) h e = absurd (true≢false e)

pub zero_is : (z : ℤ) → mag z < 2 ^ 63 → of_z w64 z ≡ 0 → is_zero z ≡ true
zero_is (pos zero) h e = refl
zero_is (pos (suc n)) h e = absurd (let g : ⊥ = omega arith in g)
zero_is (negsuc n) h e = absurd (let g : ⊥ = omega arith in g)

pub zero_not : (z : ℤ) → (of_z w64 z ≡ 0 → ⊥) → is_zero z ≡ false
zero_not (pos zero) f = absurd (f refl)
zero_not (pos (suc n)) f = refl
zero_not (negsuc n) f = refl
