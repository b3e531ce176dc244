-- Where the functions of a script stand: a table of their nodes.
use Rattle.std.specs.Prelude.{◌≡◌, List, [], ◌∷◌, ℕ, zero, suc, ◌+◌, length, get_or}
use Rattle.semantics.specs.Outcome.{Outcome, done, stop}
use Rattle.semantics.specs.Syntax.{Script, function_size}

-- the node of function f, in a script whose first function is at p; 1,024 past the last
abbrev pub start_of : Script → ℕ → ℕ → ℕ
start_of [] p f = 1024
start_of (g ∷ gs) p zero = p
start_of (g ∷ gs) p (suc f) = start_of gs (p + function_size g) f

-- a table in which no function has a node
pub record Blank (starts : List ℕ) : Type 0 where
  pub long : length starts ≡ 32
  pub at : (f : ℕ) → get_or starts f 1024 ≡ 1024

-- the table has the node of each function of a script, and 1,024 in every further entry
pub record Started (fs : Script) (starts : List ℕ) : Type 0 where
  pub long : length starts ≡ 32
  pub at : (f : ℕ) → get_or starts f 1024 ≡ start_of fs 0 f

-- of a script that is read to its end
abbrev pub Started_by : Outcome ℕ Script → List ℕ → Type 0
Started_by (done fs q) starts = Started fs starts
Started_by (stop n p) starts = Unit {0}
