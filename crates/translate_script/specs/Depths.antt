-- The table of the depths of names: for each function of a script 256 bytes, one for each name.
use Rattle.std.specs.Prelude.{◌≡◌, List, ℕ, ◌+◌, ◌*◌, ◌<◌, ◌≤◌, length, get_or}
use Rattle.semantics.specs.Outcome.{Outcome, done, stop}
use Rattle.semantics.specs.Syntax.{Script, function_at}
use Rattle.semantics.specs.Annotate.{depths_of}

-- the depths of the first n names of function f are noted, where the table has room for all functions, and nothing else
pub record NotedTo (n f : ℕ) (depths table table' : List ℕ) : Type 0 where
  pub long : length table' ≡ length table
  pub there : (x : ℕ) → x < n → 8192 ≤ length table → get_or table' (256 * f + x) 0 ≡ get_or depths x 0
  pub before : (i : ℕ) → i < 256 * f → get_or table' i 0 ≡ get_or table i 0
  pub after : (i : ℕ) → 256 * f + n ≤ i → get_or table' i 0 ≡ get_or table i 0

abbrev pub Noted : ℕ → List ℕ → List ℕ → List ℕ → Type 0
Noted = NotedTo 256

-- those of all functions of a script from number n on
pub record DepthsFrom (n : ℕ) (fs : Script) (table table' : List ℕ) : Type 0 where
  pub long : length table' ≡ length table
  pub there : (g x : ℕ) → n ≤ g → g < length fs → x < 256 → 8192 ≤ length table →
      get_or table' (256 * g + x) 0 ≡ depths_of fs (function_at fs g) x
  pub before : (i : ℕ) → i < 256 * n → get_or table' i 0 ≡ get_or table i 0
  pub after : (i : ℕ) → 256 * length fs ≤ i → get_or table' i 0 ≡ get_or table i 0

abbrev pub Depths_by : Outcome ℕ Script → List ℕ → List ℕ → Type 0
Depths_by (done fs q) table table' = DepthsFrom 0 fs table table'
Depths_by (stop n p) table table' = Unit {0}
