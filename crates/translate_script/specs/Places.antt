-- The places of the functions of a script, in the sense of `annotate_rows`: where the first row of each is written.
use Rattle.std.specs.Prelude.{◌≡◌, List, ℕ, ◌-◌, ◌<◌, ◌≤◌, length, get_or, drop}
use Rattle.semantics.specs.Outcome.{Outcome, done, stop}
use Rattle.semantics.specs.Syntax.{Script}
use Rattle.semantics.specs.Code.{Row}
use Rattle.semantics.specs.Borrow.{borrowed}
use Rattle.semantics.specs.Annotate.{functions_rows}

-- the rows of the functions from i on
abbrev pub rows_from : Script → ℕ → List Row
rows_from fs i = functions_rows fs (borrowed fs) i (drop i fs)

-- the functions from number n on have their places, where the code ends before place w; the other words stay
pub record PlacesFrom (n : ℕ) (fs : Script) (w : ℕ) (starts starts' : List ℕ) : Type 0 where
  pub long : length starts' ≡ length starts
  pub there : (g : ℕ) → n ≤ g → g < length fs → get_or starts' g 0 ≡ w - length (rows_from fs g)
  pub before : (i : ℕ) → i < n → get_or starts' i 0 ≡ get_or starts i 0
  pub after : (i : ℕ) → length fs ≤ i → get_or starts' i 0 ≡ get_or starts i 0

abbrev pub Places_by : Outcome ℕ Script → ℕ → List ℕ → List ℕ → Type 0
Places_by (done fs q) w starts starts' = PlacesFrom 0 fs w starts starts'
Places_by (stop n p) w starts starts' = Unit {0}
