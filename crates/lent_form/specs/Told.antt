-- What the walk's answers say, in the terms of the definitions.
use Rattle.std.specs.Prelude.{◌≡◌, Bool, cond, ◌&&◌, List, [], ◌∷◌, ℕ, zero, suc, ◌+◌, ◌*◌, ◌/◌, ◌%◌, ◌<◌, ◌≤◌, ℤ}
use Rattle.std.specs.Prelude.{pos, negsuc, eqb, ltb, leb, length, get_or, drop}
use Rattle.std.specs.Prelude.{Option as Optional, Some, None, Result, Ok, Err}
use Rattle.std.proofs.Math.Option.{Option, none, some}
use Rattle.semantics.specs.Outcome.{Outcome, done, stop}
use Rattle.semantics.specs.Code.{Atom, Row, row}
use Rattle.semantics_lent.specs.Form.{first_limits, second_limits, third_limits, Parts, parts_of, atoms_before, paired}
use Rattle.semantics_lent.specs.Form.{Form, leaf_line, if_line, loop_line, retain_line, release_line, end_line, no_line}
use Rattle.semantics_lent.specs.Form.{form_of, arities_of, tree_form, parameter_form, function_form}
use Rattle.lent_form.specs.declared.Fault.{Fault}
use Rattle.lent_form.specs.declared.Wants.{Wants}
use Rattle.lent_form.specs.declared.Wants.TheVariants.{Exactly, Any, Wrong}
use Rattle.lent_form.specs.declared.Line.{Line}
use Rattle.lent_form.specs.declared.Head.{Head}

-- ---- operands

-- the greatest parts of a line's operand, in one number
unfoldable pub limits_of : ℕ → ℕ
limits_of k = get_or first_limits k 0 + 256 * get_or second_limits k 0 + 65536 * get_or third_limits k 0

-- a word as a number; a negative one is past every limit
abbrev pub natural : ℤ → ℕ
natural (pos n) = n
natural (negsuc n) = 9223372036854775808

abbrev pub within : ℕ → ℕ → Bool
within n most =
    leb (n % 256) (most % 256)
    && (leb (n / 256 % 256) (most / 256 % 256) && leb (n / 65536) (most / 65536))

-- ---- atoms

abbrev pub run_told : ℕ → Option (List Atom) → Optional ℕ
run_told p (some us) = Some (p + length us)
run_told p none = None

-- where the atoms from line p on end
unfoldable pub run_from : List Row → ℕ → Optional ℕ
run_from rows p = run_told p (atoms_before (drop p rows))

-- line p is at fault
abbrev pub faulty : {A : Type 0} → ℕ → Result A Fault
faulty p = Err (record { line = p })

-- which line is at fault where the atoms of line p end at q
abbrev pub fault_at : ℕ → Bool → ℕ → Bool → ℕ → ℕ
fault_at lines over p few q = cond (few && (over && eqb q lines)) lines p

-- what a line that wants so many atoms makes of those that stand behind it
abbrev pub counted : ℕ → Bool → ℕ → Optional ℕ → Wants → Result ℕ Fault
counted lines over p None w = faulty p
counted lines over p (Some q) (Exactly n) =
    cond (eqb q (p + 1 + n)) (Ok q) (faulty (fault_at lines over p (ltb q (p + 1 + n)) q))
counted lines over p (Some q) Any = Ok q
counted lines over p (Some q) Wrong = faulty p

unfoldable pub atoms_read : List Row → Bool → ℕ → Wants → Result ℕ Fault
atoms_read rows over p w = counted (length rows) over p (run_from rows (p + 1)) w

-- ---- lines

-- by the table of what calls of the functions want
unfoldable pub arity_in : List Wants → ℕ → Wants
arity_in table f = cond (ltb f 32) (get_or table f Wrong) Wrong

-- by kind: what a call wants, and a literal's length
abbrev pub wants_list : Wants → ℕ → List Wants
wants_list w n =
    Wrong ∷ Wrong ∷ Wrong ∷ Wrong ∷ Exactly 2 ∷ Exactly 2 ∷ Exactly 2 ∷ Wrong ∷ w ∷ Exactly n ∷ Exactly 2 ∷ Exactly 1 ∷
    Exactly 1 ∷ Exactly 1 ∷ Exactly 0 ∷ Exactly 0 ∷ Exactly 1 ∷ Exactly 1 ∷ Exactly 2 ∷ Exactly 1 ∷ Exactly 2 ∷
    Exactly 1 ∷ []

unfoldable pub wanted : ℕ → ℕ → List Wants → Wants
wanted k n table = get_or (wants_list (arity_in table (n / 256 % 256)) (n / 256 % 256)) k Wrong

-- how many trees follow a line of a kind; none where its tree ends
abbrev pub trees_list : List (Optional ℕ)
trees_list =
    Some 0 ∷ Some 0 ∷ Some 0 ∷ Some 0 ∷ Some 0 ∷ Some 0 ∷ Some 0 ∷ Some 0 ∷ Some 0 ∷ Some 0 ∷ Some 0 ∷ Some 0 ∷
    Some 2 ∷ Some 1 ∷ Some 0 ∷ Some 0 ∷ None ∷ Some 0 ∷ Some 0 ∷ Some 1 ∷ Some 1 ∷ Some 1 ∷ []

unfoldable pub trees_behind : ℕ → Optional ℕ
trees_behind k = get_or trees_list k (Some 0)

-- the same by what a line is
abbrev pub wants_of : Option ℕ → Wants
wants_of (some n) = Exactly n
wants_of none = Any

abbrev pub wants_in : Form → Wants
wants_in (leaf_line l n) = wants_of n
wants_in if_line = Exactly 1
wants_in (loop_line k ps n) = Exactly n
wants_in retain_line = Exactly 0
wants_in release_line = Exactly 0
wants_in end_line = Exactly 1
wants_in no_line = Wrong

abbrev pub trees_in : Form → Optional ℕ
trees_in (leaf_line l n) = Some 0
trees_in if_line = Some 2
trees_in (loop_line k ps n) = Some 1
trees_in retain_line = Some 0
trees_in release_line = Some 0
trees_in end_line = None
trees_in no_line = Some 0

abbrev pub then_trees : Optional ℕ → Result ℕ Fault → Result Line Fault
then_trees t (Ok q) = Ok (record { next = q; trees = t })
then_trees t (Err e) = Err e

-- over the rows, the functions' numbers of parameters and whether the code goes on
abbrev pub form_told : List Row → Bool → ℕ → Form → Result Line Fault
form_told rows over p F = then_trees (trees_in F) (atoms_read rows over p (wants_in F))

abbrev pub parts_told : List Row → List (Option ℕ) → Bool → ℕ → ℕ → Option Parts → Result Line Fault
parts_told rows arities over p k (some q) = form_told rows over p (form_of arities k q)
parts_told rows arities over p k none = faulty p

unfoldable pub line_told : List Row → List (Option ℕ) → Bool → ℕ → Result Line Fault
line_told rows arities over p =
    let r = get_or rows p (row 0 0) in
    parts_told rows arities over p r.kind (parts_of r.kind r.operand)

-- a line of a function or of a parameter
abbrev pub then_fits : ℕ → Result ℕ Fault → Result Head Fault
then_fits n (Ok q) = Ok (record { first = n; next = q })
then_fits n (Err e) = Err e

abbrev pub head_parts : List Row → Bool → ℕ → Option Parts → Result Head Fault
head_parts rows over p (some q) = then_fits q.first (atoms_read rows over p (Exactly 0))
head_parts rows over p none = faulty p

unfoldable pub head_told : List Row → Bool → ℕ → ℕ → Result Head Fault
head_told rows over k p =
    let r = get_or rows p (row 0 0) in
    cond (ltb p (length rows)) (cond (eqb r.kind k) (head_parts rows over p (parts_of k r.operand)) (faulty p))
    (faulty p)

-- ---- trees and functions

-- a test that has been made, without what it found
abbrev pub Passing : Type 0
Passing = Outcome ℕ (Unit {0})

abbrev pub forgot : {A : Type 0} → Outcome ℕ A → Passing
forgot (done a p) = done tt p
forgot (stop n p) = stop n p

abbrev pub said : Result ℕ Fault → Passing
said (Ok q) = done tt q
said (Err e) = stop 29 e.line

abbrev pub and_then : Passing → (ℕ → Passing) → Passing
and_then (done u p) f = f p
and_then (stop n p) f = stop n p

-- so many, one after the other
unfoldable pub repeated : ℕ → (ℕ → Passing) → ℕ → Passing
repeated zero f p = done tt p
repeated (suc n) f p = and_then (f p) (repeated n f)

-- behind a line: its trees, and the tree that goes on; or the end of the tree
abbrev pub behind : Optional ℕ → (ℕ → Passing) → (ℕ → Passing) → ℕ → Passing
behind None below next q = done tt q
behind (Some t) below next q = and_then (repeated t below q) next

abbrev pub stepped : Result Line Fault → (ℕ → Passing) → (ℕ → Passing) → Passing
stepped (Ok l) below next = behind l.trees below next l.next
stepped (Err e) below next = stop 29 e.line

-- behind the line of a function or of a parameter
abbrev pub by_head : Result Head Fault → (ℕ → ℕ → Passing) → Passing
by_head (Ok h) f = f h.first h.next
by_head (Err e) f = stop 29 e.line

-- what the walk goes over: as many operands as kinds, at most 4,096, and the table of what calls want
pub record Lined (kinds : List ℕ) (operands : List ℤ) : Type 0 where
  pub even : length kinds ≡ length operands
  pub few : length kinds ≤ 4096

abbrev pub call_wants : List (Option ℕ) → ℕ → Wants
call_wants arities f = cond (ltb f (length arities)) (wants_of (get_or arities f none)) Wrong

pub record Known (table : List Wants) (arities : List (Option ℕ)) : Type 0 where
  pub at : (f : ℕ) → f < 32 → arity_in table f ≡ call_wants arities f

pub record Ready (kinds : List ℕ) (operands : List ℤ) (table : List Wants) : Type 0 where
  pub lined : Lined kinds operands
  pub known : Known table (arities_of (paired kinds operands))

-- where a tree's next line is
abbrev pub Rises : ℕ → Result ℕ Fault → Type 0
Rises p (Ok q) = p < q
Rises p (Err e) = Unit {0}

module _ (kinds : List ℕ) (operands : List ℤ) (over : Bool) where
  -- a tree, by at most n lines
  unfoldable pub tree_passed : ℕ → ℕ → ℕ → Passing
  tree_passed n levels p =
      forgot (tree_form (paired kinds operands) (arities_of (paired kinds operands)) over n levels p)

  unfoldable pub parameter_passed : ℕ → Passing
  parameter_passed p = forgot (parameter_form (paired kinds operands) (arities_of (paired kinds operands)) over p)

  unfoldable pub function_passed : ℕ → Passing
  function_passed p = forgot (function_form (paired kinds operands) (arities_of (paired kinds operands)) over p)

-- a walk from line p on: its answer is the definition's, where that may take n lines and no more than n are left
pub record Walked (lines : ℕ) (passed : ℕ → ℕ → Passing) (p : ℕ) (r : Result ℕ Fault) : Type 0 where
  pub is : (n : ℕ) → lines ≤ p + n → said r ≡ passed n p
  pub rises : Rises p r
