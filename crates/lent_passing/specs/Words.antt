-- The two arrays of lent code: its rows, and zeros past them.
use Rattle.std.specs.Prelude.{ℕ, ◌≤◌, ◌+◌, ◌<◌, suc, zero, ◌*◌, min, true, false, Bool, ◌≡◌, refl, List, [], ◌∷◌}
use Rattle.std.specs.Prelude.{◌++◌, map, eqb, ℤ, pos, length, replicate, take}
use Rattle.prelude.specs.Kit.{arith, true≢false, ◌∙◌, sym, ap, subst, ap₂, append_assoc, append-nil, map-append}
use Rattle.prelude.specs.Kit.{length-append, length-map, length-replicate, le-ltb}
use Rattle.semantics.specs.Outcome.{done}
use Rattle.semantics.specs.Number.{is_zero}
use Rattle.semantics.specs.Code as C
use Rattle.semantics.specs.Code.{Row, row, atom_row, Tree, end, line, Atom, number, name}
use Rattle.semantics.specs.Calls.{room}
use Rattle.semantics_lent.specs.Form.{Lent, used, and_before, code_length, paired, lent_rows, goes_on, arities_of, form}
use Rattle.semantics_lent.specs.Form.{code_form}
use Rattle.lent_passing.specs.Functions.{parameter_row, lent_function, lent_code, FunctionsFormed, code_reads}

-- ---- the lines in use

module _ {A : Type 0} (zeroed : A → Bool) where
  -- zeros are not in use
  unused : (a : A) (n : ℕ) → zeroed a ≡ true → used zeroed (replicate n a) ≡ 0
  unfolding used
  unused a zero h = refl
  unused a (suc n) h = rw (unused a n h, h) refl

  before_more : (b : Bool) (n m : ℕ) → n ≤ m → and_before b n ≤ suc m
  before_more true zero m h = omega arith
  before_more false zero m h = omega arith
  before_more b (suc n) m h = omega arith

  -- no more than what stands before the zeros
  used_most : (l : List A) (a : A) (n : ℕ) → zeroed a ≡ true → used zeroed (l ++ replicate n a) ≤ length l
  unfolding used
  used_most [] a n h = omega (arith, unused a n h)
  used_most (b ∷ l) a n h = before_more (zeroed b) _ (length l) (used_most l a n h)

  before_all : (b : Bool) (n : ℕ) → 0 < n → and_before b n ≡ suc n
  before_all b zero h = absurd (omega arith)
  before_all b (suc n) h = refl

  before_last : (b : Bool) → b ≡ false → and_before b 0 ≡ 1
  before_last true e = absurd (true≢false e)
  before_last false e = refl

  -- just that, where the last of it is not zero
  used_all : (l : List A) (b a : A) (n : ℕ) → zeroed b ≡ false → zeroed a ≡ true →
      used zeroed ((l ++ (b ∷ [])) ++ replicate n a) ≡ suc (length l)
  unfolding used
  used_all [] b a n g h = ap (and_before (zeroed b)) (unused a n h) ∙ before_last (zeroed b) g
  used_all (c ∷ l) b a n g h =
      ap (and_before (zeroed c)) (used_all l b a n g h) ∙ before_all (zeroed c) (suc (length l)) (omega arith)

-- ---- the last row is an atom

-- some rows and a last one whose kind is not 0
pub record Closed (rs : List Row) : Type 0 where
  pub before : List Row
  pub last : Row
  pub whole : rs ≡ before ++ (last ∷ [])
  pub kind : eqb last.kind 0 ≡ false

closed_after : (xs rs : List Row) → Closed rs → Closed (xs ++ rs)
closed_after xs rs c = record {
  before = xs ++ c.before;
  last = c.last;
  whole = ap (λ (l : List Row). xs ++ l) c.whole ∙ sym (append_assoc xs c.before (c.last ∷ []));
  kind = c.kind;
}

atom_closed : (a : Atom) → eqb (atom_row a).kind 0 ≡ false
atom_closed (number z) = refl
atom_closed (name x) = refl

tree_closed : (t : Tree) → Closed (C.rows t)
unfolding C.rows
tree_closed (end a) =
    record { before = row 16 0 ∷ []; last = atom_row a; whole = refl; kind = atom_closed a }
tree_closed (line l t) = closed_after (C.line_rows l) (C.rows t) (tree_closed t)

function_closed : (g : Lent) → Closed (lent_function g)
function_closed g =
    closed_after (row 0 (length g.parameters + 256 * g.result) ∷ map parameter_row g.parameters)
    (C.rows g.tree)
    (tree_closed g.tree)

code_closed : (g : Lent) (gs : List Lent) → Closed (lent_code (g ∷ gs))
unfolding lent_code
code_closed g [] = subst Closed (sym (append-nil (lent_function g))) (function_closed g)
code_closed g (h ∷ gs) = closed_after (lent_function g) (lent_code (h ∷ gs)) (code_closed h gs)

-- ---- the arrays of some rows

abbrev pub kinds_of : List Row → List ℕ
kinds_of rs = map (λ r. r.kind) rs

abbrev pub operands_of : List Row → List ℤ
operands_of rs = map (λ r. r.operand) rs

abbrev is_nought : ℕ → Bool
is_nought k = eqb k 0

-- zeros past the rows, so many in each
module _ (rs : List Row) (m n : ℕ) where
  abbrev pub kinds_array : List ℕ
  kinds_array = kinds_of rs ++ replicate m 0

  abbrev pub operands_array : List ℤ
  operands_array = operands_of rs ++ replicate n (pos 0)

  kinds_length : length kinds_array ≡ length rs + m
  kinds_length = length-append (kinds_of rs) (replicate m 0)
      ∙ ap₂ (λ (a b : ℕ). a + b) (length-map rs (λ r. r.kind)) (length-replicate m 0)

  operands_length : length operands_array ≡ length rs + n
  operands_length = length-append (operands_of rs) (replicate n (pos 0))
      ∙ ap₂ (λ (a b : ℕ). a + b) (length-map rs (λ r. r.operand)) (length-replicate n (pos 0))

  kinds_used : Closed rs → used is_nought kinds_array ≡ length rs
  kinds_used c =
      ap (λ (l : List ℕ). used is_nought (l ++ replicate m 0))
      (ap kinds_of c.whole ∙ map-append (λ (r : Row). r.kind) c.before (c.last ∷ []))
      ∙ used_all is_nought (kinds_of c.before) c.last.kind 0 m c.kind refl
      ∙ ap suc (length-map c.before (λ r. r.kind))
      ∙ sym (ap length c.whole ∙ length-append c.before (c.last ∷ [])
      ∙ (let z : length c.before + 1 ≡ suc (length c.before) = omega arith in z))

  operands_used : used is_zero operands_array ≤ length rs
  operands_used =
      omega (arith, used_most is_zero (operands_of rs) (pos 0) n refl, length-map rs (λ (r : Row). r.operand))

  -- all rows are lines of the code, and no others
  code_whole : Closed rs → code_length kinds_array operands_array ≡ length rs
  unfolding code_length
  code_whole c = omega (arith, kinds_used c, operands_used)

  not_over : Closed rs → length rs ≤ 4096 → goes_on kinds_array operands_array ≡ false
  unfolding goes_on
  not_over c few =
      le-ltb (room kinds_array operands_array) (code_length kinds_array operands_array)
      (omega (arith, code_whole c, few, kinds_length, operands_length))

pairs_back : (rs : List Row) (m n : ℕ) → take (length rs) (paired (kinds_array rs m n) (operands_array rs m n)) ≡ rs
unfolding paired
pairs_back [] m n = refl
pairs_back (r ∷ rs) m n = ap (λ (l : List Row). r ∷ l) (pairs_back rs m n)

rows_back : (rs : List Row) (m n : ℕ) → Closed rs → length rs ≤ 4096 →
    lent_rows (kinds_array rs m n) (operands_array rs m n) ≡ rs
unfolding lent_rows
rows_back rs m n c few =
    ap (λ (k : ℕ). take k (paired (kinds_array rs m n) (operands_array rs m n)))
    (let z : min 4096 (code_length (kinds_array rs m n) (operands_array rs m n)) ≡ length rs =
    omega (arith, code_whole rs m n c, few) in z)
    ∙ pairs_back rs m n

-- ---- the form of the code of some functions

pub form_reads : (g : Lent) (gs : List Lent) (m n : ℕ) →
    FunctionsFormed (arities_of (lent_code (g ∷ gs))) (g ∷ gs) → length gs ≤ 31 → length (lent_code (g ∷ gs)) ≤ 4096 →
    form (kinds_array (lent_code (g ∷ gs)) m n) (operands_array (lent_code (g ∷ gs)) m n)
    ≡ done (g ∷ gs) (length (lent_code (g ∷ gs)))
unfolding form
form_reads g gs m n F few short =
    let rs = lent_code (g ∷ gs) in
    ap₂ (λ (l : List Row) (over : Bool). code_form l (arities_of l) over 0)
    (rows_back rs m n (code_closed g gs) short) (not_over rs m n (code_closed g gs) short)
    ∙ code_reads g gs (arities_of rs) F few
