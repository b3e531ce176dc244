-- Refusals 6 and 7, found by going over the functions: the same walk as the code's.
use Rattle.std.specs.Prelude.{cond, List, ℕ, zero, suc, ◌+◌, eqb}
use Rattle.semantics.specs.Basics.{updated}
use Rattle.semantics.specs.Outcome.{done, stop}
use Rattle.semantics.specs.File as S
use Rattle.semantics.specs.File.{at_function, at_parameter, node_at}
use Rattle.semantics.specs.Types.{main_shape}
use Rattle.script_read.specs.Told.{Read, Next, Refused, repeated}
use Rattle.script_rules.specs.Rules.{signature_at}
use Rattle.script_depths.specs.Walk.{Walked, types, known_types}

-- the function at p by its body: the result's depth is asked for
abbrev pub ended : ℕ → ℕ → Walked → Read
ended p result (done d q) = cond (eqb d result) (Next q) (Refused 7 p)
ended p result (stop n i) = Refused n i

-- a parameter at p, and then m
abbrev pub typed_parameter : (ℕ → ℕ → Walked → Walked) → ((ℕ → ℕ) → ℕ → Walked) → (ℕ → ℕ) → ℕ → S.Node → Walked
typed_parameter bound m γ p (S.fits h) = bound (γ h.low) p (m (updated γ h.low h.high) (p + 1))
typed_parameter bound m γ p S.wrong_kind = stop 7 p
typed_parameter bound m γ p S.wrong_operand = stop 7 p

-- A walk by the entry of a name that is not bound, by what a parameter tells with the entry of its name, its node and
-- the rest of the walk, and by the walk over a body.
module _ (blank : ℕ) (bound : ℕ → ℕ → Walked → Walked) (body : (ℕ → ℕ) → ℕ → Walked) (kinds operands : List ℕ) where
  -- so many parameters, and then the body
  unfoldable pub walk_from : ℕ → (ℕ → ℕ) → ℕ → Walked
  walk_from zero γ p = body γ p
  walk_from (suc c) γ p = typed_parameter bound (walk_from c) γ p (node_at kinds operands at_parameter p)

  abbrev pub typed_head : ℕ → S.Node → Read
  typed_head p (S.fits h) = ended p h.high (walk_from h.low (λ _. blank) (p + 1))
  typed_head p S.wrong_kind = Refused 7 p
  typed_head p S.wrong_operand = Refused 7 p

  -- a function at p
  unfoldable pub walk_function : ℕ → Read
  walk_function p = typed_head p (node_at kinds operands at_function p)

-- a parameter whose name has an entry already is repeated
abbrev pub fresh_name : ℕ → ℕ → Walked → Walked
fresh_name d p r = cond (eqb d 255) r (stop 7 p)

-- The walk of the code: a node that breaks rule 6 is a fault of it too.
module _ (kinds operands starts : List ℕ) where
  unfoldable pub known_from : ℕ → (ℕ → ℕ) → ℕ → Walked
  unfolding walk_from
  known_from c γ p = walk_from 255 fresh_name (known_types kinds operands starts 64) kinds operands c γ p

  unfoldable pub known_function : ℕ → Read
  unfolding walk_function
  known_function p = walk_function 255 fresh_name (known_types kinds operands starts 64) kinds operands p

  -- main's shape, and then each function
  unfoldable pub known_script : ℕ → Read
  known_script functions =
      cond (main_shape (signature_at kinds operands 0)) (repeated functions known_function 0) (Refused 7 0)

-- The walk for depths alone: every name has one, and a parameter may be repeated.
abbrev pub any_name : ℕ → ℕ → Walked → Walked
any_name d p r = r

module _ (kinds operands starts : List ℕ) where
  unfoldable pub types_from : ℕ → (ℕ → ℕ) → ℕ → Walked
  unfolding walk_from
  types_from c γ p = walk_from 0 any_name (types kinds operands starts 64) kinds operands c γ p

  unfoldable pub types_function : ℕ → Read
  unfolding walk_function
  types_function p = walk_function 0 any_name (types kinds operands starts 64) kinds operands p

  unfoldable pub types_script : ℕ → Read
  types_script functions =
      cond (main_shape (signature_at kinds operands 0)) (repeated functions types_function 0) (Refused 7 0)
