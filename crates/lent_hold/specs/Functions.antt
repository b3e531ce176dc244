-- The functions of lent code by positions, as the third walk goes over them.
use Rattle.std.specs.Prelude.{not, List, [], ◌∷◌, ℕ, zero, suc, ◌+◌, ℤ, Result, Ok, Err}
use Rattle.semantics.specs.Outcome.{Outcome, done, stop, ◌>>=◌}
use Rattle.semantics.specs.Kinds.{Borrowing, picked}
use Rattle.semantics.specs.Live.{empty}
use Rattle.semantics.specs.Annotate.{NameDepths}
use Rattle.semantics_lent.specs.Form.{Test}
use Rattle.semantics_lent.specs.Hold.{Holds, none_held, arrays_in, hold_all, same_holds}
use Rattle.machine_code.specs.Reading.{name_at}
use Rattle.lent_form.specs.declared.Fault.{Fault}
use Rattle.lent_hold_trees.specs.Walk.{tree_at}

-- what is told: the next line, or the line at fault
abbrev pub said : Result ℕ Fault → Outcome ℕ (Unit {0})
said (Ok line) = done tt line
said (Err fault) = stop 29 fault.line

-- the names of n parameters from a position on
unfoldable pub names_from : List ℤ → ℕ → ℕ → List ℕ
names_from operands zero p = []
names_from operands (suc n) p = name_at operands p ∷ names_from operands n (p + 1)

-- a run without its answer
unfoldable pub forgot : Outcome ℕ Holds → Outcome ℕ (Unit {0})
forgot (done I q) = done tt q
forgot (stop n q) = stop n q

module _ (kinds : List ℕ) (operands : List ℤ) (β : Borrowing) where
  -- function f, whose line is at a position
  unfoldable pub function_at : NameDepths → ℕ → Test (Unit {0})
  function_at Γ f p =
      forgot (tree_at kinds operands β Γ 64
      (arrays_in Γ (picked (β f) 0 (names_from operands (name_at operands p) (p + 1)))) empty
      (hold_all Γ (picked (λ i. not (β f i)) 0 (names_from operands (name_at operands p) (p + 1))) none_held)
      (same_holds none_held) (p + (1 + name_at operands p)))

  -- n functions from number f on
  unfoldable pub functions_at : (ℕ → NameDepths) → ℕ → ℕ → Test (Unit {0})
  functions_at Γs zero f = λ p. done tt p
  functions_at Γs (suc n) f = function_at (Γs f) f >>= λ _. functions_at Γs n (suc f)
