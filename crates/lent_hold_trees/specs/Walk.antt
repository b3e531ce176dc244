-- The third walk over lent code by positions, for rows of any content. Where the rows of a tree stand from a position
-- on it is `hold_tree`.
use Rattle.std.specs.Prelude.{◌≡◌, Bool, true, false, cond, ◌||◌, eqb, ltb, List, [], ◌∷◌, ℕ, zero, suc, ◌+◌, ◌≤◌, ℤ}
use Rattle.std.specs.Prelude.{length}
use Rattle.std.proofs.Math.Option.{Option, none, some}
use Rattle.std.specs.Prelude as R
use Rattle.semantics.specs.Outcome.{stop, ◌>>=◌, ◌>>◌, give}
use Rattle.semantics.specs.Kinds.{Borrowing, mapping, filtering, reducing, rewriting, loop_hands, loop_reads}
use Rattle.semantics.specs.Kinds.{element_name, carried_name}
use Rattle.semantics.specs.Kinds as K
use Rattle.semantics.specs.Code as C
use Rattle.semantics.specs.Live.{Set, empty}
use Rattle.semantics.specs.Annotate.{NameDepths, is_array}
use Rattle.semantics_lent.specs.Form.{Test, must, skip, fault}
use Rattle.semantics_lent.specs.Hold.{Holds, After, minus, spend, readable, set_aside, lending, hold_also, hold_all}
use Rattle.semantics_lent.specs.Hold.{arrays_in, same_holds, none_bound}
use Rattle.kinds.specs.declared.Atom.{Atom}
use Rattle.machine_code.specs.Reading.{Cut, two_rows, line_at}
use Rattle.machine_code.specs.declared.Loop.{Loop}
use Rattle.machine_code.specs.declared.Loop.TheVariants as P
use Rattle.machine_code.specs.declared.Line.{Line}
use Rattle.machine_code.specs.declared.Line.TheVariants as L
use Rattle.lent_atoms.specs.Told.{meant}
use Rattle.lent_hold_lines.specs.declared.Function.{Function}
use Rattle.lent_hold_lines.specs.Lines.{leaf_at, end_at}

-- ---- a loop's parts

abbrev pub kind_of : Loop → K.Loop
kind_of (P.Map p a) = mapping
kind_of (P.Filter p a) = filtering
kind_of (P.Reduce p q s a) = reducing
kind_of (P.Rewrite p a) = rewriting

abbrev pub names_of : Loop → List ℕ
names_of (P.Map p a) = p ∷ []
names_of (P.Filter p a) = p ∷ []
names_of (P.Reduce p q s a) = p ∷ (q ∷ [])
names_of (P.Rewrite p a) = p ∷ []

abbrev pub atoms_of : Loop → List C.Atom
atoms_of (P.Map p a) = meant a ∷ []
atoms_of (P.Filter p a) = meant a ∷ []
atoms_of (P.Reduce p q s a) = meant s ∷ (meant a ∷ [])
atoms_of (P.Rewrite p a) = meant a ∷ []

module _ (Γ : NameDepths) where
  -- an atom's name, if it is an array
  abbrev pub name_of : C.Atom → R.Option ℕ
  name_of (C.number z) = R.None
  name_of (C.name x) = cond (is_array Γ x) (R.Some x) R.None

  -- the array that a loop reads, if it reads one
  abbrev pub array_of : Loop → R.Option ℕ
  array_of (P.Map p a) = name_of (meant a)
  array_of (P.Filter p a) = name_of (meant a)
  array_of (P.Reduce p q s a) = name_of (meant a)
  array_of (P.Rewrite p a) = R.None

-- whether it may be read, the names that are lent with it, and the holds without the one of its that is set aside
abbrev pub may_read : R.Option ℕ → Set → Holds → Bool
may_read R.None B H = true
may_read (R.Some x) B H = B x || ltb 0 (H x)

abbrev pub lent_with : R.Option ℕ → Set → Set
lent_with R.None B = B
lent_with (R.Some x) B = λ n. B n || eqb x n

abbrev pub aside_of : R.Option ℕ → Set → Holds → Holds
aside_of R.None B H = H
aside_of (R.Some x) B H = cond (B x) H (minus x H)

-- ---- lines and trees

-- the atom of an end line
abbrev pub end_of : Line → Option Atom
end_of (L.Operation k x a b) = none
end_of (L.Call x g) = none
end_of (L.Literal x d) = none
end_of (L.Index x a b) = none
end_of (L.Length x a) = none
end_of (L.Iota x a) = none
end_of (L.Replicate x a b) = none
end_of (L.If x g) = none
end_of (L.Loop x k) = none
end_of (L.Retain x) = none
end_of (L.Release x) = none
end_of (L.End a) = some a

-- the walk of a tree, with the names that are lent and pending, the holds, and what is asked of those at its end
abbrev pub Walk : Type 0
Walk = Set → Set → Holds → (Holds → Bool) → Test Holds

-- over the walk W of the trees below
module _ (Γ : NameDepths) (W : Walk) where
  unfoldable pub if_at : ℕ → Set → Holds → Test After
  if_at x B H = do
    skip 2
    I ← W B empty H (none_bound B H)
    J ← W B empty H (same_holds I)
    give (record { holds = hold_also Γ x I; pending = empty })

  -- as `hold_line` has it
  unfoldable pub loop_by : ℕ → K.Loop → List ℕ → List C.Atom → Set → Holds → Test After
  loop_by x k ps us B H = do
    I ← spend Γ (loop_hands k us) H
    let reads = loop_reads k us
    must (readable Γ B I reads)
    skip (1 + length us)
    let O = set_aside Γ B reads I
    J ← W (lending Γ reads B) (arrays_in Γ (element_name k ps)) (hold_all Γ (carried_name k ps) O) (same_holds O)
    give (record { holds = hold_also Γ x I; pending = empty })

  unfoldable pub loop_at : ℕ → Loop → Set → Holds → Test After
  loop_at x l B H = loop_by x (kind_of l) (names_of l) (atoms_of l) B H

module _ (kinds : List ℕ) (operands : List ℤ) (β : Borrowing) (Γ : NameDepths) where
  -- a line that is no end
  unfoldable pub line_at_by : Walk → Line → Set → Set → Holds → Test After
  line_at_by W (L.Operation k x a b) = leaf_at kinds operands β Γ (L.Operation k x a b)
  line_at_by W (L.Call x g) = leaf_at kinds operands β Γ (L.Call x g)
  line_at_by W (L.Literal x d) = leaf_at kinds operands β Γ (L.Literal x d)
  line_at_by W (L.Index x a b) = leaf_at kinds operands β Γ (L.Index x a b)
  line_at_by W (L.Length x a) = leaf_at kinds operands β Γ (L.Length x a)
  line_at_by W (L.Iota x a) = leaf_at kinds operands β Γ (L.Iota x a)
  line_at_by W (L.Replicate x a b) = leaf_at kinds operands β Γ (L.Replicate x a b)
  line_at_by W (L.If x g) = λ B P H. if_at Γ W x B H
  line_at_by W (L.Loop x k) = λ B P H. loop_at Γ W x k B H
  line_at_by W (L.Retain x) = leaf_at kinds operands β Γ (L.Retain x)
  line_at_by W (L.Release x) = leaf_at kinds operands β Γ (L.Release x)
  line_at_by W (L.End a) = leaf_at kinds operands β Γ (L.End a)

  -- an end line; or a line, and then the walk of those that follow it
  unfoldable pub step_at : Walk → Walk → Line → Walk
  step_at W next l B P H ends = elim (end_of l) [
    | some a ↦ end_at Γ (meant a) H ends
    | none ↦ line_at_by W l B P H >>= λ A. next B A.pending A.holds ends
  ]

  -- at most n lines
  unfoldable pub lines_at : Walk → ℕ → Walk
  lines_at W zero B P H ends = fault
  lines_at W (suc n) B P H ends = λ p. elim (two_rows kinds operands p) [
    | true ↦ step_at W (lines_at W n) (line_at kinds operands p) B P H ends p
    | false ↦ stop 29 p
  ]

  -- a tree, with so many levels of trees left
  unfoldable pub tree_at : ℕ → Walk
  tree_at zero B P H ends = fault
  tree_at (suc n) B P H ends = lines_at (tree_at n) 4096 B P H ends

-- code arrays cut to at most 4,096 lines
pub record Ready (of : Function) : Type 0 where
  pub cut : Cut of.kinds.now of.operands.now
  pub few : length of.kinds.now ≤ 4096
