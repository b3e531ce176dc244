-- The rules of depths by kind: a node's depth by those of its parts, and the signatures of the functions.
use Rattle.std.specs.Prelude.{cond, List, [], ◌∷◌, ℕ, zero, suc, ◌+◌, leb, ltb, eqb, length, get_or}
use Rattle.std.specs.Prelude as P
use Rattle.std.specs.Prelude.{Some, None}
use Rattle.std.proofs.Math.Option.{Option, none, some}
use Rattle.semantics.specs.Outcome.{Outcome, done, stop}
use Rattle.semantics.specs.File.{at_function, at_parameter}
use Rattle.semantics.specs.Types.{Rule, Signature, some_if, number_rule, literal_rule, call_rule, index_rule}
use Rattle.semantics.specs.Types.{length_rule, iota_rule, replicate_rule, if_rule}
use Rattle.script_read.specs.Told.{low_at, high_at}

module _ (kinds operands : List ℕ) where
  -- the depths of so many parameters
  unfoldable pub depths_from : ℕ → ℕ → List ℕ
  depths_from zero p = []
  depths_from (suc n) p = high_at kinds operands at_parameter p ∷ depths_from n (p + 1)

  -- the signature of the function at node p
  unfoldable pub signature_at : ℕ → Signature
  signature_at p = record {
    parameters = depths_from (low_at kinds operands at_function p) (p + 1);
    result = high_at kinds operands at_function p;
  }

  -- the functions' nodes stand in a table; 1,024 is past every file
  abbrev pub signature_of : List ℕ → ℕ → Signature
  signature_of starts f = signature_at (get_or starts f 1024)

  -- the signature of the function at node p, if there is a node
  abbrev pub there : ℕ → Option Signature
  there p = cond (ltb p (length kinds)) (some (signature_at p)) none

module _ (kinds operands starts : List ℕ) where
  abbrev pub known_signature : ℕ → Option Signature
  known_signature f = there kinds operands (get_or starts f 1024)

-- a call by the signature of the function, if it is there
abbrev pub called : Option Signature → Rule
called (some s) ds = call_rule s ds
called none ds = none

-- the rule of a node, by its kind and the parts of its operand
unfoldable pub rule_of : (ℕ → Option Signature) → ℕ → ℕ → ℕ → Rule
rule_of signatures kind low high =
    cond (eqb kind 8) (called (signatures low))
    (cond (eqb kind 9) (literal_rule high)
    (cond (eqb kind 10) index_rule
    (cond (eqb kind 11) length_rule
    (cond (eqb kind 12) if_rule
    (cond (eqb kind 17) iota_rule
    (cond (eqb kind 18) replicate_rule number_rule))))))

-- an array whose elements have the depth d
abbrev pub array_rule : ℕ → Option ℕ
array_rule d = some_if (leb (suc d) 4) (suc d)

-- the rule of a loop by its kind, and by the depths of its start, its array and its body; a filter's start is told as
-- a number, which its body has to be
abbrev pub loop_ruled : ℕ → ℕ → ℕ → ℕ → Option ℕ
loop_ruled kind s d e = cond (eqb kind 13) (array_rule e) (some_if (eqb e s) (cond (eqb kind 19) d s))

-- document 01's number and value for each case: a depth, or 7
abbrev pub judged_outcome : P.Option ℕ → Outcome (Unit {0}) ℕ
judged_outcome (Some d) = done d tt
judged_outcome None = stop 7 tt

-- the depth that a rule gives, and where it gives none 7
abbrev pub rule_outcome : Option ℕ → Outcome (Unit {0}) ℕ
rule_outcome (some d) = done d tt
rule_outcome none = stop 7 tt
