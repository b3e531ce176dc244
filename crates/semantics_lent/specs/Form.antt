-- Document 02, order 10: the form of lent code, the first of the checker's three tests. The two arrays are read as
-- functions with their trees; else the first line that breaks kind, operand, number of atoms or nesting is at fault.
-- The state is the number of the next line; at a stop it is the line at fault.
use Rattle.std.specs.Prelude.{ℕ, zero, suc, ◌+◌, ◌/◌, ◌%◌, min, max, Bool, true, false, cond, ◌&&◌, ◌||◌, List, [], ◌∷◌, ℤ, pos, negsuc, length, get_or, take, drop, eqb, ltb, leb}
use Rattle.std.proofs.Math.Option.{Option, none, some}
use Rattle.semantics.specs.Basics.{with_if}
use Rattle.semantics.specs.Outcome.{Outcome, done, stop, Run, ◌>>=◌, ◌>>◌, give, halt, require, times}
use Rattle.semantics.specs.Number.{sum, difference, less, is_zero}
use Rattle.semantics.specs.Kinds.{Leaf, operation, call, literal, index, length_of, iota, replicate, Loop}
use Rattle.semantics.specs.Kinds.{mapping, filtering, reducing, rewriting}
use Rattle.semantics.specs.Syntax.{Parameter}
use Rattle.semantics.specs.Code.{Atom, number, name, leaf, if_else, loop, retain, release, Tree, end, line, Row}
use Rattle.semantics.specs.Code.{row}
use Rattle.semantics.specs.Calls.{room}

-- a test of lent code
abbrev pub Test : Type 0 → Type 0
Test A = Run ℕ A

-- a fault at the present line
abbrev pub fault : {A : Type 0} → Test A
fault = halt 29

-- the present line is at fault unless the test holds
abbrev pub must : Bool → Test (Unit {0})
must b = require b 29

-- so many lines further
abbrev pub skip : ℕ → Test (Unit {0})
skip n p = done tt (p + n)

-- ---- the lines of lent code

-- how many places an array has up to its last word that is not zero
abbrev pub and_before : Bool → ℕ → ℕ
and_before zeroed zero = cond zeroed 0 1
and_before zeroed (suc n) = suc (suc n)

unfoldable pub used : {A : Type 0} → (A → Bool) → List A → ℕ
used zeroed [] = 0
used zeroed (a ∷ l) = and_before (zeroed a) (used zeroed l)

-- how many lines lent code has: all before both arrays' closing zeros
unfoldable pub code_length : List ℕ → List ℤ → ℕ
code_length kinds operands = max (used (λ k. eqb k 0) kinds) (used is_zero operands)

-- two arrays as rows, as far as both go
unfoldable pub paired : List ℕ → List ℤ → List Row
paired [] os = []
paired (k ∷ ks) [] = []
paired (k ∷ ks) (o ∷ os) = record { kind = k; operand = o } ∷ paired ks os

-- the lines that are looked at: those that two arrays have room for
unfoldable pub lent_rows : List ℕ → List ℤ → List Row
lent_rows kinds operands = take (min 4096 (code_length kinds operands)) (paired kinds operands)

-- whether the code goes on past them
unfoldable pub goes_on : List ℕ → List ℤ → Bool
goes_on kinds operands = ltb (room kinds operands) (code_length kinds operands)

-- ---- operands

-- an operand, first + 256 × second + 65,536 × third
pub record Parts : Type 0 where
  pub first : ℕ
  pub second : ℕ
  pub third : ℕ

-- the greatest parts of a line's operand, by kind
abbrev pub first_limits : List ℕ
first_limits =
    8 ∷ 255 ∷ 0 ∷ 255 ∷ 255 ∷ 255 ∷ 255 ∷ 0 ∷ 255 ∷ 255 ∷ 255 ∷ 255 ∷ 255 ∷ 255 ∷ 255 ∷ 255 ∷ 0 ∷ 255 ∷ 255 ∷
    255 ∷ 255 ∷ 255 ∷ []

abbrev pub second_limits : List ℕ
second_limits =
    4 ∷ 4 ∷ 0 ∷ 0 ∷ 0 ∷ 0 ∷ 0 ∷ 0 ∷ 31 ∷ 16 ∷ 0 ∷ 0 ∷ 0 ∷ 255 ∷ 0 ∷ 0 ∷ 0 ∷ 0 ∷ 0 ∷ 255 ∷ 255 ∷ 255 ∷ []

abbrev pub third_limits : List ℕ
third_limits = 0 ∷ 0 ∷ 0 ∷ 0 ∷ 0 ∷ 0 ∷ 0 ∷ 0 ∷ 0 ∷ 3 ∷ 0 ∷ 0 ∷ 0 ∷ 0 ∷ 0 ∷ 0 ∷ 0 ∷ 0 ∷ 0 ∷ 0 ∷ 255 ∷ 0 ∷ []

abbrev pub some_parts : Bool → Parts → Option Parts
some_parts true q = some q
some_parts false q = none

-- the parts of an operand in range
abbrev pub parts_of : ℕ → ℤ → Option Parts
parts_of k (pos n) =
    some_parts
    (leb (n % 256) (get_or first_limits k 0)
    && (leb (n / 256 % 256) (get_or second_limits k 0) && leb (n / 65536) (get_or third_limits k 0)))
    (record { first = n % 256; second = n / 256 % 256; third = n / 65536 })
parts_of k (negsuc n) = none

-- ---- atoms

-- a row as an atom
pub data Seen : Type 0 where
  as_atom : Atom → Seen
  out_of_range no_atom : Seen

abbrev pub named : Option Parts → Seen
named (some q) = as_atom (name q.first)
named none = out_of_range

abbrev pub seen_as : Row → Seen
seen_as r =
    cond (eqb r.kind 2) (as_atom (number r.operand))
    (cond (eqb r.kind 3) (named (parts_of 3 r.operand)) no_atom)

abbrev pub and_atom : Atom → Option (List Atom) → Option (List Atom)
and_atom a (some us) = some (a ∷ us)
and_atom a none = none

-- the atoms that stand before some rows' first line that is none, if all are in range
unfoldable pub atoms_before : List Row → Option (List Atom)
atoms_before [] = some []
atoms_before (r ∷ rs) = elim (seen_as r) [
  | as_atom a ↦ and_atom a (atoms_before rs)
  | out_of_range ↦ none
  | no_atom ↦ some []
]

-- the number of atoms of a line, where it is tested
abbrev pub has_all : Option ℕ → ℕ → Bool
has_all (some n) m = eqb m n
has_all none m = true

abbrev pub has_too_few : Option ℕ → ℕ → Bool
has_too_few (some n) m = ltb m n
has_too_few none m = false

-- ---- lines

-- what a line is by its kind, but for the name that it binds
pub data Form : Type 0 where
  leaf_line : Leaf → Option ℕ → Form
  if_line : Form
  loop_line : Loop → List ℕ → ℕ → Form
  retain_line release_line end_line : Form
  no_line : Form

abbrev pub call_form : List (Option ℕ) → ℕ → Form
call_form arities f = cond (ltb f (length arities)) (leaf_line (call f) (get_or arities f none)) no_line

-- by the numbers of parameters that the functions' lines say, each where it is in range
abbrev pub forms : List (Option ℕ) → Parts → List Form
forms arities q =
    no_line ∷ no_line ∷ no_line ∷ no_line ∷
    leaf_line (operation sum) (some 2) ∷ leaf_line (operation difference) (some 2) ∷
    leaf_line (operation less) (some 2) ∷ no_line ∷ call_form arities q.second ∷
    leaf_line (literal q.third) (some q.second) ∷ leaf_line index (some 2) ∷ leaf_line length_of (some 1) ∷
    if_line ∷ loop_line mapping (q.second ∷ []) 1 ∷ retain_line ∷ release_line ∷ end_line ∷
    leaf_line iota (some 1) ∷ leaf_line replicate (some 2) ∷ loop_line filtering (q.second ∷ []) 1 ∷
    loop_line reducing (q.second ∷ q.third ∷ []) 2 ∷ loop_line rewriting (q.second ∷ []) 1 ∷ []

abbrev pub form_of : List (Option ℕ) → ℕ → Parts → Form
form_of arities k q = get_or (forms arities q) k no_line

-- how many parameters a function's line says
abbrev pub arity_of : Option Parts → Option ℕ
arity_of (some q) = some q.first
arity_of none = none

-- function i has the i-th line of kind 0
unfoldable pub arities_of : List Row → List (Option ℕ)
arities_of [] = []
arities_of (r ∷ rs) = with_if (eqb r.kind 0) (arity_of (parts_of 0 r.operand)) (arities_of rs)

-- a function of lent code
pub record Lent : Type 0 where
  pub parameters : List Parameter
  pub result : ℕ
  pub tree : Tree

abbrev pub first_atom : List Atom → Atom
first_atom us = get_or us 0 (number (pos 0))

-- over the rows, the numbers of parameters that their functions have, and whether the code goes on past the rows
module _ (rows : List Row) (arities : List (Option ℕ)) (over : Bool) where
  -- the row of the present line; past the last there is none
  unfoldable pub row_here : Test Row
  row_here p = cond (ltb p (length rows)) (done (get_or rows p (row 0 0)) p) (stop 29 p)

  abbrev pub in_range : Option Parts → Test Parts
  in_range (some q) = give q
  in_range none = fault

  -- Atoms of the present line, as many as it wants, which are passed with it. Where there are too few, the line itself
  -- is at fault, but for the last one of code that goes on: there it is the first line past the limit.
  abbrev pub atoms_found : Option ℕ → Option (List Atom) → Test (List Atom)
  atoms_found n (some us) p =
      cond (has_all n (length us)) (done us (p + suc (length us)))
      (stop 29 (cond (has_too_few n (length us) && (over && eqb (p + suc (length us)) (length rows))) (length rows) p))
  atoms_found n none p = stop 29 p

  unfoldable pub atoms : Option ℕ → Test (List Atom)
  atoms n p = atoms_found n (atoms_before (drop (suc p) rows)) p

  -- the operand of the present line, if it is of a kind that has no atoms
  unfoldable pub line_of : ℕ → Test Parts
  line_of k = do
    r ← row_here
    must (eqb r.kind k)
    q ← in_range (parts_of k r.operand)
    us ← atoms (some 0)
    give q

  -- the tree of a line that binds x, by the trees of the line and the tree that follows it
  abbrev pub formed : Test Tree → Test Tree → ℕ → Form → Test Tree
  formed below next x (leaf_line l n) = do us ← atoms n; t ← next; give (line (leaf x l us) t)
  formed below next x if_line = do
    us ← atoms (some 1)
    a ← below
    b ← below
    t ← next
    give (line (if_else x (first_atom us) a b) t)
  formed below next x (loop_line k ps n) = do us ← atoms (some n); a ← below; t ← next; give (line (loop x k ps us a) t)
  formed below next x retain_line = do us ← atoms (some 0); t ← next; give (line (retain x) t)
  formed below next x release_line = do us ← atoms (some 0); t ← next; give (line (release x) t)
  formed below next x end_line = do us ← atoms (some 1); give (end (first_atom us))
  formed below next x no_line = fault

  -- a tree of at most n lines, with some levels of trees left
  unfoldable pub tree_form : ℕ → ℕ → Test Tree
  tree_form zero levels = fault
  tree_form (suc n) zero = fault
  tree_form (suc n) (suc levels) = do
    r ← row_here
    q ← in_range (parts_of r.kind r.operand)
    formed (tree_form n levels) (tree_form n (suc levels)) q.first (form_of arities r.kind q)

  unfoldable pub parameter_form : Test Parameter
  parameter_form = do
    q ← line_of 1
    give (record { id = q.first; depth = q.second })

  unfoldable pub function_form : Test Lent
  function_form = do
    q ← line_of 0
    xs ← times q.first parameter_form
    t ← tree_form 4096 64
    give (record { parameters = xs; result = q.second; tree = t })

  -- nothing more where the code has ended
  abbrev pub unless_ended : Test (List Lent) → Test (List Lent)
  unless_ended m p = elim (ltb p (length rows) || over) [ true ↦ m p | false ↦ done [] p ]

  -- at most n functions, up to the end of the code
  unfoldable pub functions_form : ℕ → Test (List Lent)
  functions_form zero = unless_ended fault
  functions_form (suc n) = unless_ended (do g ← function_form; gs ← functions_form n; give (g ∷ gs))

  -- at least one, main
  unfoldable pub code_form : Test (List Lent)
  code_form = do g ← function_form; gs ← functions_form 31; give (g ∷ gs)

-- the functions of lent code, and how many lines it has; or the line at fault
unfoldable pub form : List ℕ → List ℤ → Outcome ℕ (List Lent)
form kinds operands =
    let rows = lent_rows kinds operands in
    code_form rows (arities_of rows) (goes_on kinds operands) 0
