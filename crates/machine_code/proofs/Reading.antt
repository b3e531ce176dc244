-- Laws of the readers, in the terms of the code.
use Rattle.prelude.specs.Kit.{ℕ, ◌+◌, ◌<◌, ◌-◌, suc, zero, arith, true, false, Bool, ◌≡◌, refl, List, ltb}
use Rattle.prelude.specs.Kit.{ℤ, length}
use Rattle.prelude.specs.Kit.{lt-ltb, le-ltb, ltb-true, ltb-false}
use Rattle.machine_code.specs.Reading.{two_rows}

pub no_bool : {A : Type 0} → true ≡ false → A
no_bool e = let z : ◌≡◌ {A = ℕ} 0 1 = cc in absurd (let f : ⊥ = omega arith in f)

-- two rows are within arrays of one length if a row is before the last
pub rows_within : (kinds : List ℕ) (operands : List ℤ) (at : ℕ) → length kinds ≡ length operands → 0 < length kinds →
    ltb at (length kinds - 1) ≡ two_rows kinds operands at
unfolding two_rows
rows_within kinds operands at same some = by (ltb at (length kinds - 1)) refl
  where
    by : (t : Bool) → ltb at (length kinds - 1) ≡ t → t ≡ two_rows kinds operands at
    by true e =
        let h = ltb-true at (length kinds - 1) e in
        let f : at + 1 < length kinds = omega (arith, h) in
        rw (lt-ltb (at + 1) (length kinds) f, lt-ltb (at + 1) (length operands) (omega arith)) refl
    by false e = rw (le-ltb (at + 1) (length kinds) (omega (arith, ltb-false at (length kinds - 1) e))) refl

pub less_one : (n : ℕ) → 0 < n → n ≡ suc (n - 1)
less_one zero h = absurd (omega arith)
less_one (suc n) h = omega arith
