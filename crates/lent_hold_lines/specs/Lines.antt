-- The lines of lent code that have no tree, as they are read at a position: what each does to the holds. Where the rows
-- of a line stand there, this is `hold_line`'s word for it.
use Rattle.std.specs.Prelude.{◌≡◌, Bool, true, false, not, ◌||◌, List, [], ◌∷◌, ℕ, zero, suc, ◌+◌, ◌≤◌, ℤ, eqb, ltb}
use Rattle.std.specs.Prelude.{length, get_or, Option, Some, None, Result, Ok, Err}
use Rattle.semantics.specs.Outcome.{Outcome, done, stop, ◌>>=◌, ◌>>◌, give}
use Rattle.semantics.specs.Kinds.{Borrowing, picked}
use Rattle.semantics.specs.Code as C
use Rattle.semantics.specs.Borrow.{borrows}
use Rattle.semantics.specs.Live.{Set, empty}
use Rattle.semantics.specs.Annotate.{NameDepths}
use Rattle.semantics_lent.specs.Form.{Test, must, skip, fault}
use Rattle.semantics_lent.specs.Hold.{Holds, After, plus, minus, spend, readable, arrays_in, hold_also, same_holds}
use Rattle.semantics_lent.specs.Hold.{none_bound}
use Rattle.machine_code.specs.Reading.{atom_at, is_atom}
use Rattle.machine_code.specs.declared.Line.{Line}
use Rattle.machine_code.specs.declared.Line.TheVariants as L
use Rattle.lent_form.specs.declared.Fault.{Fault}
use Rattle.lent_hold_lines.specs.declared.Function.{Function}
use Rattle.lent_hold_lines.specs.declared.Next.{Next}
use Rattle.lent_hold_lines.specs.declared.Asked.{Asked}
use Rattle.lent_hold_lines.specs.declared.Asked.TheVariants.{NoneBound, Same}
use Rattle.lent_counts.specs.Counted.{counted}
use Rattle.lent_atoms.specs.Told.{meant, depths}

-- the depths of a function's names, and what parameters are borrowed
abbrev pub depths_of : Function → NameDepths
depths_of of = depths of.depths.now of.number

abbrev pub borrowed_of : Function → Borrowing
borrowed_of of = borrows of.borrowed.now

-- the pending names: one, or none
abbrev pub waiting : Option ℕ → Set
waiting None = empty
waiting (Some x) = λ n. eqb x n

-- counts of 256 names, none above m
pub record Below (m : ℕ) (l : List ℕ) : Type 0 where
  pub long : length l ≡ 256
  pub below : (n : ℕ) → get_or l n 0 ≤ m

-- what is told of a line: the line after it, with the counts and the pending name there; or the line at fault
abbrev pub lined : Result Next Fault → List ℕ → Outcome ℕ After
lined (Ok next) l = done (record { holds = counted l; pending = waiting next.pending }) next.line
lined (Err fault) l = stop 29 fault.line

-- what is told of a tree
abbrev pub ended : Result ℕ Fault → List ℕ → Outcome ℕ Holds
ended (Ok line) l = done (counted l) line
ended (Err fault) l = stop 29 fault.line

-- a line's outcome as the code answers it, and a tree's
pub record Passed (o : Outcome ℕ After) (r : Result Next Fault) (l : List ℕ) : Type 0 where
  pub is : o ≡ lined r l
  pub long : length l ≡ 256

pub record Ended (o : Outcome ℕ Holds) (r : Result ℕ Fault) (l : List ℕ) : Type 0 where
  pub is : o ≡ ended r l
  pub long : length l ≡ 256

-- what is asked of the holds at a tree's end line
abbrev pub asked : Asked → Set → Holds → Bool
asked (NoneBound before) B = none_bound B (counted before.now)
asked (Same wanted) B = same_holds (counted wanted.now)

-- a call reads the atoms at borrowed places, and a literal none
abbrev pub is_read : Borrowing → Option ℕ → ℕ → Bool
is_read β (Some g) i = β g i
is_read β None i = false

module _ (kinds : List ℕ) (operands : List ℤ) where
  -- the atoms that stand from a position on, at most n
  unfoldable pub atoms_from : ℕ → ℕ → List C.Atom
  atoms_from zero p = []
  atoms_from (suc n) p = elim (is_atom (get_or kinds p 0)) [
    | true ↦ meant (atom_at kinds operands p) ∷ atoms_from n (p + 1)
    | false ↦ []
  ]

module _ (Γ : NameDepths) where
  -- a line of n atoms that are read
  unfoldable pub read_at : ℕ → ℕ → Bool → Holds → Test After
  read_at x n fine H = do
    must fine
    skip (1 + n)
    give (record { holds = hold_also Γ x H; pending = empty })

  unfoldable pub index_at : ℕ → Bool → Holds → Test After
  index_at x fine H = do
    must fine
    skip 3
    give (record { holds = H; pending = arrays_in Γ (x ∷ []) })

  -- an end line
  unfoldable pub end_at : C.Atom → Holds → (Holds → Bool) → Test Holds
  end_at a H ends = do
    I ← spend Γ (a ∷ []) H
    must (ends I)
    skip 2
    give I

abbrev pub may_retain : Set → Set → Holds → ℕ → Bool
may_retain P B H x = P x || (B x || ltb 0 (H x))

unfoldable pub retain_at : ℕ → Set → Set → Holds → Test After
retain_at x B P H = do
  must (may_retain P B H x)
  skip 1
  give (record { holds = plus x H; pending = empty })

unfoldable pub release_at : ℕ → Holds → Test After
release_at x H = do
  must (ltb 0 (H x))
  skip 1
  give (record { holds = minus x H; pending = empty })

module _ (kinds : List ℕ) (operands : List ℤ) (β : Borrowing) (Γ : NameDepths) where
  -- a call, or a literal
  unfoldable pub hand_at : ℕ → Option ℕ → Set → Holds → Test After
  hand_at x callee B H = λ p. (do
    I ← spend Γ (picked (λ i. not (is_read β callee i)) 0 (atoms_from kinds operands 16 (p + 1))) H
    must (readable Γ B I (picked (is_read β callee) 0 (atoms_from kinds operands 16 (p + 1))))
    skip (1 + length (atoms_from kinds operands 16 (p + 1)))
    give (record { holds = hold_also Γ x I; pending = empty })) p

  -- a line that has no tree
  unfoldable pub leaf_at : Line → Set → Set → Holds → Test After
  leaf_at (L.Operation k x a b) B P H = read_at Γ x 2 (readable Γ B H (meant a ∷ (meant b ∷ []))) H
  leaf_at (L.Call x g) B P H = hand_at x (Some g) B H
  leaf_at (L.Literal x d) B P H = hand_at x None B H
  leaf_at (L.Index x a b) B P H = index_at Γ x (readable Γ B H (meant a ∷ (meant b ∷ []))) H
  leaf_at (L.Length x a) B P H = read_at Γ x 1 (readable Γ B H (meant a ∷ [])) H
  leaf_at (L.Iota x a) B P H = read_at Γ x 1 (readable Γ B H (meant a ∷ [])) H
  leaf_at (L.Replicate x a b) B P H = read_at Γ x 2 (readable Γ B H (meant a ∷ (meant b ∷ []))) H
  leaf_at (L.If x g) B P H = fault
  leaf_at (L.Loop x k) B P H = fault
  leaf_at (L.Retain x) B P H = retain_at x B P H
  leaf_at (L.Release x) B P H = release_at x H
  leaf_at (L.End a) B P H = fault
