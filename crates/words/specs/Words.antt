-- What the answers of this crate's functions say, in the terms of the definitions.
use Rattle.std.specs.Prelude.{◌≡◌, cond, ℕ, ◌<◌, ◌^◌, ℤ, Option, Some, None}
use Rattle.semantics.specs.Outcome.{Outcome, done, stop}
use Rattle.semantics.specs.Number.{fits}
use Rattle.semantics.specs.Calls.{packed}
use Rattle.words.specs.declared.Answer.{Answer}

-- document 01's number and value for each case: a value, or 24
abbrev pub exact_outcome : Option ℤ → Outcome (Unit {0}) ℤ
exact_outcome (Some z) = done z tt
exact_outcome None = stop 24 tt

-- an exact result where it is in 64 bits, and else 24
unfoldable pub checked : ℤ → Outcome (Unit {0}) ℤ
checked z = cond (fits z) (done z tt) (stop 24 tt)

-- the one way to part an answer
pub record Unpacked (answer : ℕ) (r : Answer) : Type 0 where
  pub is : packed r.number r.node r.count r.cells ≡ answer
  pub number_fits : r.number < 2 ^ 8
  pub node_fits : r.node < 2 ^ 16
  pub count_fits : r.count < 2 ^ 24
