-- Where the functions of lent code stand: a table of their lines.
use Rattle.std.specs.Prelude.{◌≡◌, List, [], ◌∷◌, ℕ, zero, suc, ◌+◌, ◌<◌, length, get_or, Result, Ok, Err}
use Rattle.semantics.specs.Outcome.{Outcome, done, stop}
use Rattle.semantics.specs.Code.{rows}
use Rattle.semantics_lent.specs.Form.{Lent}
use Rattle.lent_form.specs.declared.Formed.{Formed}
use Rattle.lent_form.specs.declared.Fault.{Fault}

-- the lines of a function: its own, its parameters' and its tree's
unfoldable pub lent_size : Lent → ℕ
lent_size g = 1 + length g.parameters + length (rows g.tree)

-- the line of function f, where the first of them is at line p
abbrev pub start_of : List Lent → ℕ → ℕ → ℕ
start_of [] p f = p
start_of (g ∷ gs) p zero = p
start_of (g ∷ gs) p (suc f) = start_of gs (p + lent_size g) f

-- the table has the line of each function
pub record Started (gs : List Lent) (starts : List ℕ) : Type 0 where
  pub long : length starts ≡ 32
  pub at : (f : ℕ) → f < length gs → get_or starts f 0 ≡ start_of gs 0 f

-- of code that is accepted
abbrev pub Started_by : Outcome ℕ (List Lent) → List ℕ → Type 0
Started_by (done gs q) starts = Started gs starts
Started_by (stop n p) starts = Unit {0}

-- how many functions and lines there are
abbrev pub numbered : Outcome ℕ (List Lent) → Outcome ℕ ℕ
numbered (done gs p) = done (length gs) p
numbered (stop n p) = stop n p

abbrev pub answered : Result Formed Fault → Outcome ℕ ℕ
answered (Ok f) = done f.functions f.lines
answered (Err e) = stop 29 e.line

-- an answer with its table
pub record Answers (o : Outcome ℕ (List Lent)) (r : Result Formed Fault) (starts : List ℕ) : Type 0 where
  pub is : answered r ≡ numbered o
  pub started : Started_by o starts
