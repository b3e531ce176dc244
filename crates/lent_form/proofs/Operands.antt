-- Operands: words as numbers, and their parts within limits.
use Rattle.prelude.specs.Kit.{ℕ, ◌<◌, ◌%◌, ◌/◌, arith, true, false, Bool, ◌&&◌, ◌≡◌, refl, none, ltb}
use Rattle.prelude.specs.Kit.{leb, ℤ, pos, negsuc, get_or, ltb-true, lt-leb}
use Rattle.semantics_lent.specs.Form.{first_limits, second_limits, third_limits, Parts, some_parts, parts_of}
use Rattle.lent_form.specs.Told.{limits_of, natural, within}
use Rattle.lent_form.proofs.Tables.{entry_passes}

-- ---- limits

-- each part of a limit fits a byte
pub first_small : (k : ℕ) → get_or first_limits k 0 < 256
first_small k = ltb-true _ 256 (entry_passes (λ i v. ltb v 256) 0 (λ i. refl) first_limits refl k)

pub second_small : (k : ℕ) → get_or second_limits k 0 < 256
second_small k = ltb-true _ 256 (entry_passes (λ i v. ltb v 256) 0 (λ i. refl) second_limits refl k)

pub third_small : (k : ℕ) → get_or third_limits k 0 < 256
third_small k = ltb-true _ 256 (entry_passes (λ i v. ltb v 256) 0 (λ i. refl) third_limits refl k)

abbrev pub parts : ℕ → Parts
parts n = record { first = n % 256; second = n / 256 % 256; third = n / 65536 }

-- the parts of a limit
module _ (k : ℕ) where
  low_limit : limits_of k % 256 ≡ get_or first_limits k 0
  unfolding limits_of
  low_limit = omega (arith, first_small k, second_small k)

  mid_limit : limits_of k / 256 % 256 ≡ get_or second_limits k 0
  unfolding limits_of
  mid_limit = omega (arith, first_small k, second_small k)

  high_limit : limits_of k / 65536 ≡ get_or third_limits k 0
  unfolding limits_of
  high_limit = omega (arith, first_small k, second_small k)

-- an operand is in range just where its number is within its kind's limits
pub parts_natural : (k : ℕ) (z : ℤ) → parts_of k z ≡ some_parts (within (natural z) (limits_of k)) (parts (natural z))
parts_natural k (pos n) = rw (low_limit k, mid_limit k, high_limit k)
parts_natural k (negsuc n) =
    rw (high_limit k, lt-leb 140737488355328 (get_or third_limits k 0) (omega (arith, third_small k)))
    (go (leb 0 (limits_of k % 256)) (leb 0 (limits_of k / 256 % 256)))
  where
    go : (a b : Bool) → none ≡ some_parts (a && (b && false)) (parts 9223372036854775808)
    go true true = refl
    go true false = refl
    go false b = refl
