-- Refusal 6, found by going over the nodes: the same walk as the code's, with the known names as a function.
use Rattle.std.specs.Prelude.{Bool, true, false, cond, ◌&&◌, ◌||◌, List, ℕ, zero, suc, ◌+◌, ◌-◌, leb, eqb}
use Rattle.semantics.specs.Basics.{updated}
use Rattle.semantics.specs.File as S
use Rattle.semantics.specs.File.{at_function, at_parameter, at_part, node_at, part_count}
use Rattle.semantics.specs.Names.{Scope}
use Rattle.std.specs.Prelude.{◌≡◌, Result, Ok, Err}
use Rattle.answers.specs.declared.Refusal.TheVariants.{UnknownName}
use Rattle.script_read.specs.declared.Node.{Node}
use Rattle.script_read.specs.declared.Misfit.{Misfit}
use Rattle.script_read.specs.declared.Fault.{Fault}
use Rattle.script_read.specs.Told.{node_outcome, parted}
use Rattle.script_read.specs.Told.{loops, second_name, and_next, repeated}
use Rattle.script_read.specs.Table.{table}
use Rattle.script_read.specs.Told.{Read, Next, Refused}

-- the fault of a node that names nothing known
abbrev pub unknown_at : ℕ → Fault
unknown_at p = record { refusal = UnknownName; node = p }

-- the node at a place; a fault where none fits
abbrev pub Fitting : List ℕ → List ℕ → S.Place → ℕ → Result Node Fault → Type 0
Fitting k w place p (Ok n) = node_outcome (Ok n) p ≡ parted (S.look k w place p)
Fitting k w place p (Err f) =
    (f ≡ unknown_at p) × ((m : Misfit) × (node_outcome (Err m) p ≡ parted (S.look k w place p)))

-- the names that a table says are known
abbrev pub scope : List Bool → Scope
scope t = table false t

-- lets and loops
abbrev pub binds : ℕ → Bool
binds kind = eqb kind 7 || loops kind

-- a call of a function that is not there
abbrev pub calls_none : ℕ → ℕ → ℕ → Bool
calls_none functions kind f = eqb kind 8 && leb functions f

-- the last part of a binding, under its two names, after the others
abbrev pub then_bound : (Scope → ℕ → Read) → Scope → ℕ → ℕ → Read → Read
then_bound m known x y r = and_next r (m (updated (updated known x true) y true))

-- node p by its kind and the parts of its operand; m walks over a part
abbrev pub named : ℕ → (Scope → ℕ → Read) → Scope → ℕ → ℕ → ℕ → ℕ → Read
named functions m known p kind low high =
    cond (eqb kind 3) (cond (known low) (Next (p + 1)) (Refused 6 p))
    (cond (binds kind)
    (then_bound m known low (second_name kind low high) (repeated (part_count kind low high - 1) (m known) (p + 1)))
    (cond (calls_none functions kind low) (Refused 6 p)
    (repeated (part_count kind low high) (m known) (p + 1))))

abbrev pub named_node : ℕ → (Scope → ℕ → Read) → Scope → ℕ → S.Node → Read
named_node functions m known p (S.fits h) = named functions m known p h.kind h.low h.high
named_node functions m known p S.wrong_kind = Refused 6 p
named_node functions m known p S.wrong_operand = Refused 6 p

-- a parameter at p, and then m
abbrev pub named_parameter : (Scope → ℕ → Read) → Scope → ℕ → S.Node → Read
named_parameter m known p (S.fits h) = cond (known h.low) (Refused 6 p) (m (updated known h.low true) (p + 1))
named_parameter m known p S.wrong_kind = Refused 6 p
named_parameter m known p S.wrong_operand = Refused 6 p

-- a function at p: as many parameters as it says, and then the body
abbrev pub named_head : (ℕ → Scope → ℕ → Read) → ℕ → S.Node → Read
named_head m p (S.fits h) = m h.low (λ _. false) (p + 1)
named_head m p S.wrong_kind = Refused 6 p
named_head m p S.wrong_operand = Refused 6 p

module _ (kinds operands : List ℕ) (functions : ℕ) where
  -- a part, with so many levels left
  unfoldable pub names : ℕ → Scope → ℕ → Read
  names zero known p = Refused 6 p
  names (suc d) known p = named_node functions (names d) known p (node_at kinds operands at_part p)

  -- so many parameters, each at its node, and then the body
  unfoldable pub names_from : ℕ → Scope → ℕ → Read
  names_from zero known p = names 64 known p
  names_from (suc c) known p = named_parameter (names_from c) known p (node_at kinds operands at_parameter p)

  unfoldable pub names_function : ℕ → Read
  names_function p = named_head names_from p (node_at kinds operands at_function p)
