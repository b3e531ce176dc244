-- The second walk by positions: functions and the whole code, for rows of any content.
use Rattle.std.specs.Prelude.{◌≡◌, cond, List, [], ◌∷◌, ℕ, zero, suc, ◌+◌, ◌*◌, ◌<◌, ◌≤◌, ℤ, ltb, get_or, length}
use Rattle.semantics.specs.Outcome.{Outcome, done, stop, onward, ◌>>=◌, give}
use Rattle.semantics.specs.Annotate.{NameDepths}
use Rattle.semantics_lent.specs.Form.{Test}
use Rattle.semantics_lent.specs.Fit.{Bound, nothing_bound, with_name, Fitted, is_main}
use Rattle.machine_code.specs.Reading.{depth_in}
use Rattle.std.specs.Prelude.{Result, Ok, Err}
use Rattle.lent_form.specs.declared.Fault.{Fault}
use Rattle.lent_fit_lines.specs.declared.Fit.{Fit}
use Rattle.lent_fit_lines.specs.declared.Wants.TheVariants.{Exactly}
use Rattle.lent_fit_lines.specs.Walk.{depths_of, first_at, second_at, signature_at}
use Rattle.lent_fit_trees.specs.Trees.{tree_fits}

-- the n parameters from a position on
unfoldable pub parameters_fit : List ℤ → ℕ → Bound → Test Bound
parameters_fit operands zero N p = done N p
parameters_fit operands (suc n) N p =
    cond (N.names (first_at operands p)) (stop 29 p)
    (parameters_fit operands n (with_name (first_at operands p) (second_at operands p) N) (p + 1))

module _ (kinds : List ℕ) (operands : List ℤ) (starts : List ℕ) where
  -- a function's tree, in which its parameters may be used
  abbrev pub body_fits : ℕ → Bound → Test Fitted
  body_fits result N = tree_fits kinds operands starts 64 (Exactly result) N.names N

  unfoldable pub function_fits : Test NameDepths
  function_fits p =
      onward (λ N. body_fits (second_at operands p) N >>= λ A. give A.bound.depths)
      (parameters_fit operands (first_at operands p) nothing_bound (p + 1))

  -- so many functions
  unfoldable pub functions_fit : ℕ → Test (List NameDepths)
  functions_fit zero p = done [] p
  functions_fit (suc n) p =
      cond (ltb p (length kinds))
      (onward (λ Γ. functions_fit n >>= λ Γs. give (Γ ∷ Γs)) (function_fits p)) (stop 29 p)

  unfoldable pub code_fits : ℕ → ℕ → Outcome ℕ (List NameDepths)
  code_fits d n = cond (is_main d (signature_at operands 0)) (functions_fit n 0) (stop 29 0)

-- a function as the code tells it
abbrev pub told_function : Result Fit Fault → List ℕ → Outcome ℕ NameDepths
told_function (Ok f) g = done (depths_of g) f.next
told_function (Err e) g = stop 29 e.line

-- the table has the depths of the names of the functions
pub record Laid (table : List ℕ) (Γs : List NameDepths) : Type 0 where
  pub depths : (f x : ℕ) → f < length Γs → x < 256 → depth_in table f x ≡ get_or Γs f (λ _. 0) x

-- the places behind the depths are as they were
pub record Kept (table table' : List ℕ) : Type 0 where
  pub behind : (j : ℕ) → 8192 ≤ j → get_or table' j 0 ≡ get_or table j 0
  pub long : length table' ≡ length table

-- the depths of a function's names are laid at its places
pub record Lays (g : List ℕ) (f : ℕ) (table table' : List ℕ) : Type 0 where
  pub here : (x : ℕ) → x < 256 → get_or table' (256 * f + x) 0 ≡ get_or g x 0
  pub before : (j : ℕ) → j < 256 * f → get_or table' j 0 ≡ get_or table j 0
  pub behind : (j : ℕ) → 256 * f + 256 ≤ j → get_or table' j 0 ≡ get_or table j 0
  pub long : length table' ≡ length table

-- functions as the code tells them: where all fit, their depths stand in the table
pub data Says (table : List ℕ) : Result ℕ Fault → Outcome ℕ (List NameDepths) → Type 0 where
  all_fit : (Γs : List NameDepths) (q : ℕ) → Laid table Γs → Says table (Ok q) (done Γs q)
  at_fault : (e : Fault) → Says table (Err e) (stop 29 e.line)

pub record Told (o : Outcome ℕ (List NameDepths)) (r : Result ℕ Fault) (table table' : List ℕ) : Type 0 where
  pub says : Says table' r o
  pub kept : Kept table table'
