-- The table of borrowed parameters of the script that is read.
use Rattle.std.specs.Prelude.{◌≡◌, ℕ}
use Rattle.semantics.specs.Outcome.{Outcome, done, stop}
use Rattle.semantics.specs.Syntax.{Script}
use Rattle.semantics.specs.Borrow.{Table, borrowed}

abbrev pub Borrowed_by : Outcome ℕ Script → Table → Type 0
Borrowed_by (done fs q) T = T ≡ borrowed fs
Borrowed_by (stop n p) T = Unit {0}
