-- Numbers in bytes, written and read back.
use Rattle.prelude.specs.Kit.{ℕ, ◌+◌, ◌<◌, ◌-◌, suc, zero, ◌%◌, ◌^◌, ◌/◌, arith, true, ◌≡◌, refl, ◌∙◌, ap, List, []}
use Rattle.prelude.specs.Kit.{◌∷◌, ◌++◌, append_assoc, ℤ, pos, negsuc, length, get_or, length-append, get_or_at, le-ltb}
use Rattle.prelude.specs.Kit.{ltb-true}
use Rattle.semantics.specs.Number.{fits, bytes_at, signed}
use Rattle.semantics.specs.Saved.{unsigned, low_bytes}

-- the bytes of a number, behind others, are read as the number
pub read_bytes : (k n i : ℕ) (before after : List ℕ) → n < 256 ^ k → length before ≡ i →
    bytes_at k (before ++ (low_bytes k n ++ after)) i ≡ n
unfolding low_bytes bytes_at
read_bytes zero n i before after small at = omega arith
read_bytes (suc k) n i before after small at =
    let first : get_or (before ++ (low_bytes (suc k) n ++ after)) i 0 ≡ n % 256 =
    get_or_at before (n % 256) (low_bytes k (n / 256) ++ after) 0 i at in
    let moved = append_assoc before ((n % 256) ∷ []) (low_bytes k (n / 256) ++ after) in
    let long : length (before ++ ((n % 256) ∷ [])) ≡ i + 1 =
    length-append before ((n % 256) ∷ []) ∙ omega (arith, at) in
    let rest = read_bytes k (n / 256) (i + 1) (before ++ ((n % 256) ∷ [])) after (omega arith) long in
    omega (arith, first, rest, ap (λ (l : List ℕ). bytes_at k l (i + 1)) moved)

-- a number of 64 bits, as an unsigned one and back
pub unsigned_small : (z : ℤ) → fits z ≡ true → unsigned z < 256 ^ 8
unsigned_small (pos n) h = omega (arith, ltb-true n (2 ^ 63) h)
unsigned_small (negsuc n) h = omega (arith, ltb-true n (2 ^ 63) h)

pub signed_back : (z : ℤ) → fits z ≡ true → signed (unsigned z) ≡ z
signed_back (pos n) h = rw h refl
signed_back (negsuc n) h =
    let b = ltb-true n (2 ^ 63) h in
    rw (le-ltb (2 ^ 64 - suc n) (2 ^ 63) (omega (arith, b)))
    (ap negsuc (omega (arith, b)))
