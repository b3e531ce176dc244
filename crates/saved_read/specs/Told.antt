-- What the test of a saved file answers, in the terms of the definitions.
use Rattle.std.specs.Prelude.{ℕ, Bool, true, false, List}
use Rattle.std.specs.Prelude.{Option as Maybe, Some, None}
use Rattle.std.proofs.Math.Option.{Option, none, some}
use Rattle.semantics.specs.Outcome.{Outcome, done, stop}
use Rattle.semantics.specs.Value.{Value}
use Rattle.semantics.specs.Saved.{read_saved}

-- document 01's number and value for each case: the next entry, or 27
abbrev pub read_outcome : Maybe ℕ → Outcome (Unit {0}) ℕ
read_outcome (Some p) = done p tt
read_outcome None = stop 27 tt

-- where the entries of what was read end, or the number of its stop
abbrev pub told : {A : Type 0} → Outcome ℕ A → Outcome (Unit {0}) ℕ
told (done a p) = done p tt
told (stop n p) = stop n tt

abbrev pub is_there : Option Value → Bool
is_there (some v) = true
is_there none = false

-- a file holds a value of depth d
unfoldable pub readable : ℕ → List ℕ → Bool
readable d file = is_there (read_saved d file)
