-- The parts of a packed answer, read back.
use Rattle.prelude.specs.Kit.{ℕ, ◌<◌, ◌^◌, arith, ◌≡◌, ◌≢◌, some, none, ne_eqb}
use Rattle.semantics.specs.Calls.{packed, number_of, lowest_of, steps_of}
use Rattle.semantics.specs.Ledger.{dry_steps}

pub number_packed : (n p k c : ℕ) → n < 256 → number_of (packed n p k c) ≡ n
unfolding packed
number_packed n p k c h = omega arith

pub lowest_packed : (n p k c : ℕ) → n < 256 → p < 2 ^ 16 → lowest_of (packed n p k c) ≡ p
unfolding packed
lowest_packed n p k c h m = omega arith

pub steps_packed : (n p k c : ℕ) → n < 256 → p < 2 ^ 16 → k < 2 ^ 24 → steps_of (packed n p k c) ≡ k
unfolding packed
steps_packed n p k c h m l = omega arith

-- of an answer other than 25 the ledger is fed nothing
pub not_dry : (n p k c : ℕ) → n < 256 → n ≢ 25 → dry_steps (packed n p k c) ≡ none
not_dry n p k c h f = rw (number_packed n p k c h, ne_eqb n 25 f)

pub dry_packed : (p k c : ℕ) → p < 2 ^ 16 → k < 2 ^ 24 → dry_steps (packed 25 p k c) ≡ some k
dry_packed p k c m h = rw (number_packed 25 p k c (omega arith), steps_packed 25 p k c (omega arith) m h)
