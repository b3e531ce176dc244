-- What the reader's answers say, in the terms of the definitions.
use Rattle.std.specs.Prelude.{◌≡◌, List, [], ◌∷◌, ℕ, zero, suc, ◌+◌, ◌*◌, ◌<◌, ◌≤◌, Bool, true, cond, ◌||◌, eqb, length}
use Rattle.std.specs.Prelude.{get_or, set, Result, Ok, Err, Option, Some, None}
use Rattle.answers.specs.Numbers.{number_of}
use Rattle.semantics.specs.Outcome.{Outcome, done, stop}
use Rattle.semantics.specs.File as S
use Rattle.script_read.specs.declared.Place.{Place}
use Rattle.script_read.specs.declared.Place.TheVariants.{Function, Parameter, Part}
use Rattle.script_read.specs.declared.Bounds.{Bounds}
use Rattle.script_read.specs.declared.Node.{Node}
use Rattle.script_read.specs.declared.Misfit.{Misfit}
use Rattle.script_read.specs.declared.Misfit.TheVariants.{WrongKind, WrongOperand}
use Rattle.script_read.specs.declared.Fault.{Fault}
use Rattle.script_read.specs.declared.Atomic.{Atomic}
use Rattle.script_read.specs.declared.Atomic.TheVariants.{Number, Name, Other}

-- the two parts of a file: at most 1,024 kinds, and 8 bytes for each
pub record Parts (kinds operands : List ℕ) : Type 0 where
  pub few : length kinds ≤ 1024
  pub whole : length operands ≡ 8 * length kinds

abbrev pub place_of : Place → S.Place
place_of Function = S.at_function
place_of Parameter = S.at_parameter
place_of Part = S.at_part

-- the greatest low part of an operand and 256 times its greatest high part; 65,536 for a kind that may not stand there
abbrev pub limits_at : S.Place → ℕ → ℕ
limits_at place kind =
    cond (S.allowed place kind) (get_or S.low_limits kind 0 + 256 * get_or S.high_limits kind 0) 65536

-- the two limits of an answer in one number; 65,536 where there are none
abbrev pub limits_told : Option Bounds → ℕ
limits_told (Some l) = l.low + 256 * l.high
limits_told None = 65536

-- the kind of a node and the two parts of its operand
pub record Parted : Type 0 where
  pub kind : ℕ
  pub low : ℕ
  pub high : ℕ

-- document 01's number and values for each case, at the node p: the kind and the parts, or 3, or 4
abbrev pub node_outcome : Result Node Misfit → ℕ → Outcome ℕ Parted
node_outcome (Ok n) p = done (record { kind = n.kind; low = n.low; high = n.high }) p
node_outcome (Err WrongKind) p = stop 3 p
node_outcome (Err WrongOperand) p = stop 4 p

-- the same where the answer names the fault
abbrev pub fitting_outcome : Result Node Fault → ℕ → Outcome ℕ Parted
fitting_outcome (Ok n) p = done (record { kind = n.kind; low = n.low; high = n.high }) p
fitting_outcome (Err f) p = stop (number_of f.refusal) f.node

-- what looking at a node gives, less the value of a number
abbrev pub parted : Outcome ℕ S.Head → Outcome ℕ Parted
parted (done h p) = done (record { kind = h.kind; low = h.low; high = h.high }) p
parted (stop n p) = stop n p

-- an atom is a number's or a name's node; nothing is said of other nodes
abbrev pub AtomSeen : List ℕ → List ℕ → ℕ → Atomic → Type 0
AtomSeen kinds operands p Number =
    done (record { kind = 2; low = 0; high = 0 }) p ≡ parted (S.look kinds operands S.at_part p)
AtomSeen kinds operands p (Name x) =
    done (record { kind = 3; low = x; high = 0 }) p ≡ parted (S.look kinds operands S.at_part p)
AtomSeen kinds operands p Other = Unit {0}

-- the two parts of a node's operand; 0 where no node fits
abbrev pub low_of : S.Node → ℕ
low_of (S.fits h) = h.low
low_of S.wrong_kind = 0
low_of S.wrong_operand = 0

abbrev pub high_of : S.Node → ℕ
high_of (S.fits h) = h.high
high_of S.wrong_kind = 0
high_of S.wrong_operand = 0

-- of node p at a place
unfoldable pub low_at : List ℕ → List ℕ → S.Place → ℕ → ℕ
low_at kinds operands place p = low_of (S.node_at kinds operands place p)

unfoldable pub high_at : List ℕ → List ℕ → S.Place → ℕ → ℕ
high_at kinds operands place p = high_of (S.node_at kinds operands place p)

-- map, filter and reduce
abbrev pub loops : ℕ → Bool
loops kind = eqb kind 13 || (eqb kind 19 || eqb kind 20)

-- the second name that a node binds; the first again where there is one
abbrev pub second_name : ℕ → ℕ → ℕ → ℕ
second_name kind low high = cond (eqb kind 20) high low

-- where a walk over nodes goes on, or a refusal's number and its node
pub data Read : Type 0 where
  Next : ℕ → Read
  Refused : ℕ → ℕ → Read

-- what an answer of the code says
abbrev pub read_of : Result ℕ Fault → Read
read_of (Ok q) = Next q
read_of (Err f) = Refused (number_of f.refusal) f.node

abbrev pub told : {A : Type 0} → Outcome ℕ A → Read
told (done a q) = Next q
told (stop n p) = Refused n p

-- go on at the next node, or keep the refusal
abbrev pub and_next : Read → (ℕ → Read) → Read
and_next (Next p) f = f p
and_next (Refused n p) f = Refused n p

-- so many steps, each from the node that the one before gives
unfoldable pub repeated : ℕ → (ℕ → Read) → ℕ → Read
repeated zero f p = Next p
repeated (suc c) f p = and_next (f p) (repeated c f)

-- where r says that an atom stands at node p, the reader goes on behind it
abbrev pub Passes : List ℕ → List ℕ → ℕ → ℕ → Bool → Type 0
Passes kinds operands levels p r =
    r ≡ true → (p < length kinds) × (Next (p + 1) ≡ told (S.part kinds operands levels p))

-- the first of the faulty nodes with a refusal's number, or on to the next node
abbrev pub found : ℕ → List ℕ → ℕ → Read
found number [] q = Next q
found number (n ∷ l) q = Refused number n

-- a table in which each step writes the node at which it begins, from entry i on
abbrev pub mark_next : Read → (ℕ → List ℕ) → List ℕ → List ℕ
mark_next (Next q) f t = f q
mark_next (Refused n q) f t = t

unfoldable pub marked : ℕ → (ℕ → Read) → ℕ → ℕ → List ℕ → List ℕ
marked zero f p i t = t
marked (suc c) f p i t = mark_next (f p) (λ q. marked c f q (i + 1) (set t i p)) (set t i p)
