-- Depths, found by going over the nodes: the same walk as the code's, with the names' depths as a function.
use Rattle.std.specs.Prelude as P
use Rattle.std.specs.Prelude.{cond, List, [], ◌∷◌, ◌≡◌, ℕ, zero, suc, ◌+◌, ◌<◌, eqb, length}
use Rattle.std.specs.Prelude.{Result, Ok, Err, Some, None}
use Rattle.std.proofs.Math.Option.{Option, none, some}
use Rattle.answers.specs.Numbers.{number_of}
use Rattle.answers.specs.declared.Refusal.TheVariants.{TypeMismatch}
use Rattle.semantics.specs.Basics.{updated}
use Rattle.semantics.specs.Outcome.{Outcome, done, stop}
use Rattle.semantics.specs.File as S
use Rattle.semantics.specs.File.{at_part, node_at, part_count}
use Rattle.semantics.specs.Types.{Rule, Signature}
use Rattle.script_read.specs.Told.{loops, second_name, node_outcome, parted}
use Rattle.script_read.specs.Table.{table}
use Rattle.script_read.specs.declared.Fault.{Fault}
use Rattle.script_read.specs.declared.Misfit.{Misfit}
use Rattle.script_read.specs.declared.Node.{Node}
use Rattle.script_rules.specs.Rules.{signature_of, known_signature, rule_of, loop_ruled}
use Rattle.script_depths.specs.declared.Typed.{Typed}

-- the depths of the names, as a table says; 255 of a name that is not known
abbrev pub depths : List ℕ → ℕ → ℕ
depths t = table 255 t

-- the depth that an entry of the table says; 255 says none
abbrev pub known_depth : ℕ → P.Option ℕ
known_depth d = cond (eqb d 255) None (Some d)

-- the fault of a node that breaks rule 7
abbrev pub mismatch_at : ℕ → Fault
mismatch_at p = record { refusal = TypeMismatch; node = p }

-- the node that stands at a place, or the fault where none fits, and how it does not
abbrev pub Fitting : List ℕ → List ℕ → S.Place → ℕ → Result Node Fault → Type 0
Fitting k w place p (Ok n) = node_outcome (Ok n) p ≡ parted (S.look k w place p)
Fitting k w place p (Err f) =
    (f ≡ mismatch_at p) × ((m : Misfit) × (node_outcome (Err m) p ≡ parted (S.look k w place p)))

-- document 01's number and values for each case: a depth and the next node, or a refusal's number and the node
abbrev pub typed_outcome : Result Typed Fault → Outcome ℕ ℕ
typed_outcome (Ok t) = done t.depth t.next
typed_outcome (Err f) = stop (number_of f.refusal) f.node

-- what a walk over a part gives, and over some parts in turn: the depth or the depths, and the next node
abbrev pub Walked : Type 0
Walked = Outcome ℕ ℕ

abbrev pub AllWalked : Type 0
AllWalked = Outcome ℕ (List ℕ)

abbrev pub more : ℕ → AllWalked → AllWalked
more d (done l q) = done (d ∷ l) q
more d (stop n p) = stop n p

abbrev pub and_parts : Walked → (ℕ → AllWalked) → AllWalked
and_parts (done d q) f = more d (f q)
and_parts (stop n p) f = stop n p

unfoldable pub collect : ℕ → (ℕ → Walked) → ℕ → AllWalked
collect zero f p = done [] p
collect (suc c) f p = and_parts (f p) (collect c f)

abbrev pub by_rule : ℕ → ℕ → Option ℕ → Walked
by_rule p q (some d) = done d q
by_rule p q none = stop 7 p

-- node p by its rule and its parts
abbrev pub ruled : ℕ → Rule → AllWalked → Walked
ruled p r (done l q) = by_rule p q (r l)
ruled p r (stop n i) = stop n i

-- the second part of a let, after the first; m walks over a part
abbrev pub let_typed : ((ℕ → ℕ) → ℕ → Walked) → (ℕ → ℕ) → ℕ → Walked → Walked
let_typed m γ x (done d q) = m (updated γ x d) q
let_typed m γ x (stop n i) = stop n i

-- a reduce's start at p, which f walks over; a map and a filter have none: it counts as a number, and the array is
-- there
abbrev pub start_typed : ℕ → (ℕ → Walked) → ℕ → Walked
start_typed kind f p = cond (eqb kind 20) (f p) (done 0 p)

-- a loop at p by the depths of its start and its array, and by its body
abbrev pub loop_ended : ℕ → ℕ → ℕ → ℕ → Walked → Walked
loop_ended p kind s d (done e q) = by_rule p q (loop_ruled kind s d e)
loop_ended p kind s d (stop n i) = stop n i

-- a loop at p; m walks over a part
module _ (m : (ℕ → ℕ) → ℕ → Walked) (γ : ℕ → ℕ) (p kind low high : ℕ) where
  -- by the depth of its start, and by its array: the names of a pass have the depths of the start and of an element
  abbrev pub array_typed : ℕ → Walked → Walked
  array_typed s (done zero q) = stop 7 p
  array_typed s (done (suc d) q) =
      loop_ended p kind s (suc d) (m (updated (updated γ low s) (second_name kind low high) d) q)
  array_typed s (stop n i) = stop n i

  -- by its start
  abbrev pub loop_typed : Walked → Walked
  loop_typed (done s q) = array_typed s (m γ q)
  loop_typed (stop n i) = stop n i

-- a walk by what a name's entry tells at its node, and by the signatures of the functions
module _ (named : ℕ → ℕ → Walked) (signatures : ℕ → Option Signature) (kinds operands : List ℕ) where
  -- a node that binds nothing; f walks over a part
  unfoldable pub plain_typed : (ℕ → Walked) → ℕ → ℕ → ℕ → ℕ → Walked
  plain_typed f p kind low high =
      ruled p (rule_of signatures kind low high) (collect (part_count kind low high) f (p + 1))

  abbrev pub typed : ((ℕ → ℕ) → ℕ → Walked) → (ℕ → ℕ) → ℕ → ℕ → ℕ → ℕ → Walked
  typed m γ p kind low high =
      cond (eqb kind 2) (done 0 (p + 1))
      (cond (eqb kind 3) (named (γ low) p)
      (cond (eqb kind 7) (let_typed m γ low (m γ (p + 1)))
      (cond (loops kind) (loop_typed m γ p kind low high (start_typed kind (m γ) (p + 1)))
      (plain_typed (m γ) p kind low high))))

  abbrev pub typed_node : ((ℕ → ℕ) → ℕ → Walked) → (ℕ → ℕ) → ℕ → S.Node → Walked
  typed_node m γ p (S.fits h) = typed m γ p h.kind h.low h.high
  typed_node m γ p S.wrong_kind = stop 7 p
  typed_node m γ p S.wrong_operand = stop 7 p

  -- a part, with so many levels left
  unfoldable pub walk : ℕ → (ℕ → ℕ) → ℕ → Walked
  walk zero γ p = stop 7 p
  walk (suc d) γ p = typed_node (walk d) γ p (node_at kinds operands at_part p)

-- a name whose entry is 255 is not known
abbrev pub known_name : ℕ → ℕ → Walked
known_name d p = cond (eqb d 255) (stop 7 p) (done d (p + 1))

-- The walk of the code, which asks names and functions to be known: a node that breaks rule 6 is a fault of it too.
module _ (kinds operands starts : List ℕ) where
  unfoldable pub known_types : ℕ → (ℕ → ℕ) → ℕ → Walked
  unfolding walk
  known_types d γ p = walk known_name (known_signature kinds operands starts) kinds operands d γ p

  unfoldable pub known_plain : (ℕ → Walked) → ℕ → ℕ → ℕ → ℕ → Walked
  unfolding plain_typed
  known_plain f p kind low high =
      plain_typed known_name (known_signature kinds operands starts) kinds operands f p kind low high

-- where there is a depth, an atom of it stands at node p, wherever the functions stand
abbrev pub AtomTyped : List ℕ → List ℕ → ℕ → (ℕ → ℕ) → ℕ → P.Option ℕ → Type 0
AtomTyped kinds operands d γ p None = Unit {0}
AtomTyped kinds operands d γ p (Some v) =
    (p < length kinds) × ((starts : List ℕ) → done v (p + 1) ≡ known_types kinds operands starts d γ p)

-- The walk for depths alone: every name counts as known and every function as there.
abbrev pub any_name : ℕ → ℕ → Walked
any_name d p = done d (p + 1)

module _ (kinds operands starts : List ℕ) where
  abbrev pub any_signature : ℕ → Option Signature
  any_signature f = some (signature_of kinds operands starts f)

  unfoldable pub types : ℕ → (ℕ → ℕ) → ℕ → Walked
  unfolding walk
  types d γ p = walk any_name any_signature kinds operands d γ p
