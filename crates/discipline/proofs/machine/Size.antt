-- How many references a tree may add: at most 17 for each row of its code.
use Rattle.prelude.specs.Kit.{ℕ, ◌≤◌, ◌+◌, ◌<◌, suc, zero, ◌*◌, arith, dec_lt, ◌≡◌, refl, ap, subst, List, [], ◌∷◌, map}
use Rattle.prelude.specs.Kit.{length, get_or, get_or-eq_default, length-append}
use Rattle.semantics.specs.Syntax.{Function, Script, function_at, no_function}
use Rattle.semantics.specs.Code.{atom_row, Line, leaf, if_else, loop, retain, release, Tree, end, line, rows, line_rows}
use Rattle.semantics.specs.Borrow.{Table, borrowed}
use Rattle.semantics.specs.Annotate.{annotated_body, parameter_rows, function_rows, functions_rows, code}
use Rattle.semantics.specs.Computing.{computing}

-- the most that a leaf adds: one for its result, and no more than one for each element of an array
abbrev pub leaf_adds : ℕ
leaf_adds = 17

-- The references that a tree may add at most, counted by its lines and those of the trees in it.
unfoldable mutual
  pub tree_adds : Tree → ℕ
  tree_adds (end a) = 0
  tree_adds (line l t) = line_adds l + tree_adds t

  pub line_adds : Line → ℕ
  line_adds (leaf x l us) = leaf_adds
  line_adds (if_else x g t e) = 1 + tree_adds t + tree_adds e
  line_adds (loop x k ps us t) = 2 + tree_adds t
  line_adds (retain x) = 1
  line_adds (release x) = 0

-- a tree that adds no more references than that
abbrev pub AddsWithin : ℕ → Tree → Type 0
AddsWithin most t = tree_adds t ≤ most

mutual
  unfolding tree_adds rows

  -- each line has a row of its own
  pub tree_rows : (t : Tree) → tree_adds t ≤ leaf_adds * length (rows t)
  tree_rows (end a) = omega arith
  tree_rows (line l t) = omega (arith, line_has_rows l, tree_rows t, length-append (line_rows l) (rows t))

  pub line_has_rows : (l : Line) → line_adds l ≤ leaf_adds * length (line_rows l)
  line_has_rows (leaf x l us) = omega arith
  line_has_rows (if_else x g t e) = omega (arith, tree_rows t, tree_rows e, length-append (rows t) (rows e))
  line_has_rows (loop x k ps us t) = omega (arith, tree_rows t, length-append (map atom_row us) (rows t))
  line_has_rows (retain x) = omega arith
  line_has_rows (release x) = omega arith

-- the rows of a function are among those of the code
pub function_within : (fs : Script) (T : Table) (k : ℕ) (gs : List Function) (f : ℕ) → f < length gs →
    length (rows (annotated_body fs T (k + f) (get_or gs f no_function))) ≤ length (functions_rows fs T k gs)
unfolding functions_rows function_rows
function_within fs T k [] f h = absurd (omega arith)
function_within fs T k (g ∷ gs) zero h = let e : k + 0 ≡ k = omega arith in rw e (omega (
  arith,
  length-append (function_rows fs T k g) (functions_rows fs T (suc k) gs),
  length-append (parameter_rows g.parameters 0) (rows (annotated_body fs T k g)),
))
function_within fs T k (g ∷ gs) (suc f) h = let e : k + suc f ≡ suc k + f = omega arith in rw e (omega (
  arith,
  length-append (function_rows fs T k g) (functions_rows fs T (suc k) gs),
  function_within fs T (suc k) gs f (omega arith),
))

no_lines : (fs : Script) (T : Table) (f : ℕ) → tree_adds (annotated_body fs T f no_function) ≡ 0
unfolding computing tree_adds
no_lines fs T f = refl

-- no function adds more than the rows of the code allow
pub function_adds : (fs : Script) (f : ℕ) →
    tree_adds (annotated_body fs (borrowed fs) f (function_at fs f)) ≤ leaf_adds * length (code fs)
unfolding code
function_adds fs f = let T = borrowed fs in elim (dec_lt f (length fs)) [
  | yes h ↦ omega (
    arith,
    tree_rows (annotated_body fs T f (function_at fs f)),
    subst (λ (k : ℕ). length (rows (annotated_body fs T k (function_at fs f))) ≤ length (functions_rows fs T 0 fs))
        {y = f} (omega arith) (function_within fs T 0 fs f h),
  )
  | no h ↦
      let e = get_or-eq_default fs no_function {n = f} (omega (arith, h)) in
      omega (arith, ap (λ (g : Function). tree_adds (annotated_body fs T f g)) e, no_lines fs T f)
]
