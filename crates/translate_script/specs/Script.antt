-- The code of an accepted script.
use Rattle.std.specs.Prelude.{List, ℕ, ◌+◌, ℤ, Option, Some, None}
use Rattle.semantics.specs.Outcome.{Outcome, done, stop}
use Rattle.semantics.specs.Syntax.{Script}
use Rattle.semantics.specs.Annotate.{code}
use Rattle.annotate_rows.specs.Wrote.{Wrote}

-- the place of the row at a position; the place 0 is before the arrays
abbrev pub place_at : Option ℕ → ℕ
place_at (Some p) = p + 1
place_at None = 0

-- the code of the script is written before place w of two arrays, from position r on, or does not fit there
abbrev pub Coded_by : Outcome ℕ Script → List ℕ → List ℤ → List ℕ → List ℤ → ℕ → Option ℕ → Type 0
Coded_by (done fs q) k o k' o' w r = Wrote k o k' o' w (place_at r) (code fs)
Coded_by (stop n p) k o k' o' w r = Unit {0}
