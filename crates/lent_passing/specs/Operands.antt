-- The parts of an operand are those that it was packed from.
use Rattle.std.specs.Prelude.{ℕ, ◌≤◌, ◌+◌, ◌<◌, ◌*◌, ◌%◌, ◌/◌, ◌&&◌, ◌≡◌, refl, leb, pos, get_or}
use Rattle.prelude.specs.Kit.{arith, some, le-leb}
use Rattle.semantics_lent.specs.Form.{parts_of, first_limits, second_limits, third_limits, some_parts}

-- over an operand packed from three parts
module _ (n a b c : ℕ) (packed : n ≡ a + 256 * b + 65536 * c) where
  first_part : a < 256 → n % 256 ≡ a
  first_part h = omega arith

  second_part : a < 256 → b < 256 → n / 256 % 256 ≡ b
  second_part h g = omega arith

  third_part : a < 256 → b < 256 → n / 65536 ≡ c
  third_part h g = omega arith

parts_rest : (k a b c d e f : ℕ) → d ≡ a → e ≡ b → f ≡ c → a ≤ get_or first_limits k 0 → b ≤ get_or second_limits k 0 →
    c ≤ get_or third_limits k 0 →
    some_parts (leb d (get_or first_limits k 0) && (leb e (get_or second_limits k 0) && leb f (get_or third_limits k 0)))
    (record { first = d; second = e; third = f })
    ≡ some (record { first = a; second = b; third = c })
parts_rest k a b c d e f p q r g h i =
    rw (
      p,
      q,
      r,
      le-leb a (get_or first_limits k 0) g,
      le-leb b (get_or second_limits k 0) h,
      le-leb c (get_or third_limits k 0) i,
    ) refl

-- its parts, if they are in range for a kind
pub parts_read : (k n a b c : ℕ) → n ≡ a + 256 * b + 65536 * c → a < 256 → b < 256 → a ≤ get_or first_limits k 0 →
    b ≤ get_or second_limits k 0 → c ≤ get_or third_limits k 0 →
    parts_of k (pos n) ≡ some (record { first = a; second = b; third = c })
parts_read k n a b c e h g i j l =
    parts_rest k a b c _ _ _ (first_part n a b c e h) (second_part n a b c e h g) (third_part n a b c e h g) i j l
