-- The functions of lent code are read back from their rows.
use Rattle.std.specs.Prelude.{ℕ, ◌≤◌, ◌+◌, ◌<◌, suc, zero, ◌*◌, false, Bool, ◌≡◌, refl, List, [], ◌∷◌, ◌++◌, map, eqb}
use Rattle.std.specs.Prelude.{pos, length, get_or, drop}
use Rattle.prelude.specs.Kit.{arith, ◌∙◌, sym, ap, some, Option, append_assoc, length-append, length-map, lt-ltb}
use Rattle.prelude.specs.Kit.{eq-eqb, le-ltb}
use Rattle.semantics.specs.Outcome.{done, ◌>>=◌, ◌>>◌, give, require, times}
use Rattle.semantics.specs.Syntax.{Parameter}
use Rattle.semantics.specs.Code as C
use Rattle.semantics.specs.Code.{Tree, Row, row}
use Rattle.semantics_lent.specs.Form.{Test, Parts, parts_of, in_range, Lent, must, fault, first_limits, second_limits}
use Rattle.semantics_lent.specs.Form.{row_here, atoms, line_of, tree_form, parameter_form, function_form}
use Rattle.semantics_lent.specs.Form.{functions_form, unless_ended, code_form}
use Rattle.lent_passing.specs.Operands.{parts_read}
use Rattle.lent_passing.specs.Reading.{and_then, NoAtom, drop_within, drop_more, Formed, LeafFormed, tree_no_atom}
use Rattle.lent_passing.specs.Trees.{here, atoms_here, tree_reads}

-- ---- the rows of functions

abbrev pub parameter_row : Parameter → Row
parameter_row x = row 1 (x.id + 256 * x.depth)

abbrev pub lent_function : Lent → List Row
lent_function g =
    row 0 (length g.parameters + 256 * g.result) ∷ (map parameter_row g.parameters ++ C.rows g.tree)

unfoldable pub lent_code : List Lent → List Row
lent_code [] = []
lent_code (g ∷ gs) = lent_function g ++ lent_code gs

abbrev pub ParametersFormed : List Parameter → Type 0
ParametersFormed [] = Unit {0}
ParametersFormed (x ∷ xs) = ((x.id < 256) × (x.depth ≤ 4)) × ParametersFormed xs

-- a function in form, by the numbers of the functions' parameters
pub record FunctionFormed (arities : List (Option ℕ)) (g : Lent) : Type 0 where
  pub few : length g.parameters ≤ 8
  pub result : g.result ≤ 4
  pub parameters : ParametersFormed g.parameters
  pub tree : Formed (LeafFormed arities) 64 g.tree
  pub short : length (C.rows g.tree) ≤ 4096

abbrev pub FunctionsFormed : List (Option ℕ) → List Lent → Type 0
FunctionsFormed arities [] = Unit {0}
FunctionsFormed arities (g ∷ gs) = FunctionFormed arities g × FunctionsFormed arities gs

parameters_no_atom : (xs : List Parameter) (t : Tree) (rest : List Row) →
    NoAtom ((map parameter_row xs ++ C.rows t) ++ rest)
parameters_no_atom [] t rest = tree_no_atom t rest
parameters_no_atom (x ∷ xs) t rest = refl

code_no_atom : (gs : List Lent) → NoAtom (lent_code gs)
unfolding lent_code
code_no_atom [] = tt
code_no_atom (g ∷ gs) = refl

module _ (rows : List Row) (arities : List (Option ℕ)) (over : Bool) where
  -- a line without atoms
  line_reads : (k z p : ℕ) (q : Parts) (rest : List Row) → drop p rows ≡ row k z ∷ rest → parts_of k (pos z) ≡ some q →
      NoAtom rest → line_of rows arities over k p ≡ done q (p + 1)
  unfolding line_of require
  line_reads k z p q rest e f na =
      and_then (row_here rows arities over) _ p (row k z) p _ (here rows arities over p (row k z) rest e)
      (and_then (must (eqb k k)) _ p tt p _ (ap (λ (b : Bool). must b p) (eq-eqb k k refl))
      (and_then (in_range rows arities over (parts_of k (pos z))) _ p q p _
      (ap (λ (x : Option Parts). in_range rows arities over x p) f)
      (and_then (atoms rows arities over (some 0)) _ p [] (p + 1) _
      (atoms_here rows arities over p (row k z) [] rest e tt na) refl)))

  pair_read : (k a b : ℕ) → a < 256 → b < 256 → a ≤ get_or first_limits k 0 → b ≤ get_or second_limits k 0 →
      parts_of k (pos (a + 256 * b)) ≡ some (record { first = a; second = b; third = 0 })
  pair_read k a b h g i j = parts_read k (a + 256 * b) a b 0 (omega arith) h g i j (omega arith)

  parameter_reads : (x : Parameter) (p : ℕ) (rest : List Row) → (x.id < 256) × (x.depth ≤ 4) →
      drop p rows ≡ parameter_row x ∷ rest → NoAtom rest → parameter_form rows arities over p ≡ done x (p + 1)
  unfolding parameter_form
  parameter_reads x p rest h e na =
      and_then (line_of rows arities over 1) _ p (record { first = x.id; second = x.depth; third = 0 }) (p + 1) _
      (line_reads 1 (x.id + 256 * x.depth) p _ rest e
      (pair_read 1 x.id x.depth h.0 (omega (arith, h.1)) (omega (arith, h.0)) (omega (arith, h.1))) na)
      refl

  parameters_read : (xs : List Parameter) (t : Tree) (p : ℕ) (rest : List Row) → ParametersFormed xs →
      drop p rows ≡ (map parameter_row xs ++ C.rows t) ++ rest →
      times (length xs) (parameter_form rows arities over) p ≡ done xs (p + length xs)
  unfolding times
  parameters_read [] t p rest h e = ap (done []) (let z : p ≡ p + 0 = omega arith in z)
  parameters_read (x ∷ xs) t p rest h e =
      and_then (parameter_form rows arities over) _ p x (p + 1) _
      (parameter_reads x p ((map parameter_row xs ++ C.rows t) ++ rest) h.0 e (parameters_no_atom xs t rest))
      (and_then (times (length xs) (parameter_form rows arities over)) _ (p + 1) xs (p + 1 + length xs) _
      (parameters_read xs t (p + 1) rest h.1 (drop_more rows p (parameter_row x ∷ []) _ e))
      (ap (done (x ∷ xs)) (let z : p + 1 + length xs ≡ p + suc (length xs) = omega arith in z)))

  pub function_reads : (g : Lent) (p : ℕ) (rest : List Row) → FunctionFormed arities g →
      drop p rows ≡ lent_function g ++ rest → NoAtom rest →
      function_form rows arities over p ≡ done g (p + length (lent_function g))
  unfolding function_form
  function_reads g p rest F e na =
      let xs = g.parameters in
      let t = g.tree in
      let q = p + 1 in
      let s = q + length xs in
      let d : drop q rows ≡ (map parameter_row xs ++ C.rows t) ++ rest = drop_more rows p (row 0 _ ∷ []) _ e in
      let f : drop s rows ≡ C.rows t ++ rest =
      ap (λ (k : ℕ). drop (q + k) rows) (sym (length-map xs parameter_row))
      ∙ drop_more rows q (map parameter_row xs) (C.rows t ++ rest)
      (d ∙ append_assoc (map parameter_row xs) (C.rows t) rest) in
      let z : length (lent_function g) ≡ suc (length xs + length (C.rows t)) =
      ap suc (length-append (map parameter_row xs) (C.rows t)
      ∙ ap (λ (k : ℕ). k + length (C.rows t)) (length-map xs parameter_row)) in
      and_then (line_of rows arities over 0) _ p (record { first = length xs; second = g.result; third = 0 }) q _
      (line_reads 0 (length xs + 256 * g.result) p _ _ e
      (pair_read 0 (length xs) g.result (omega (arith, F.few)) (omega (arith, F.result)) F.few F.result)
      (parameters_no_atom xs t rest))
      (and_then (times (length xs) (parameter_form rows arities over)) _ q xs s _
      (parameters_read xs t q rest F.parameters d)
      (and_then (tree_form rows arities over 4096 64) _ s t (s + length (C.rows t)) _
      (tree_reads rows arities over t 4096 63 s rest F.tree F.short f na)
      (ap (done g) (omega (arith, z)))))

  -- where the code ends, and before
  ends_here : (m : Test (List Lent)) (p : ℕ) → length rows ≤ p → over ≡ false →
      unless_ended rows arities over m p ≡ done [] p
  ends_here m p h cut = rw (le-ltb p (length rows) h, cut, unless_ended) refl

  goes_on_here : (m : Test (List Lent)) (p : ℕ) → p < length rows → unless_ended rows arities over m p ≡ m p
  goes_on_here m p h = rw (lt-ltb p (length rows) h, unless_ended) refl

  abbrev one_and_more : ℕ → Test (List Lent)
  one_and_more n =
      function_form rows arities over >>= λ g. functions_form rows arities over n >>= λ gs. give (g ∷ gs)

  -- all functions up to the end of the rows
  functions_read : (gs : List Lent) (n p : ℕ) → FunctionsFormed arities gs → length gs ≤ n →
      drop p rows ≡ lent_code gs → over ≡ false → p + length (lent_code gs) ≡ length rows →
      functions_form rows arities over n p ≡ done gs (p + length (lent_code gs))
  unfolding functions_form lent_code
  functions_read [] zero p F few e cut whole =
      ends_here fault p (omega (arith, whole)) cut ∙ ap (done []) (let z : p ≡ p + 0 = omega arith in z)
  functions_read [] (suc n) p F few e cut whole =
      ends_here (one_and_more n) p (omega (arith, whole)) cut ∙ ap (done []) (let z : p ≡ p + 0 = omega arith in z)
  functions_read (g ∷ gs) zero p F few e cut whole = absurd (omega (arith, few))
  functions_read (g ∷ gs) (suc n) p F few e cut whole =
      let q = p + length (lent_function g) in
      let z : length (lent_function g ++ lent_code gs) ≡ length (lent_function g) + length (lent_code gs) =
      length-append (lent_function g) (lent_code gs) in
      goes_on_here (one_and_more n) p (drop_within rows p _ _ e)
      ∙ and_then (function_form rows arities over) _ p g q _
      (function_reads g p (lent_code gs) F.0 e (code_no_atom gs))
      (and_then (functions_form rows arities over n) _ q gs (q + length (lent_code gs)) _
      (functions_read gs n q F.1 (omega (arith, few)) (drop_more rows p (lent_function g) (lent_code gs) e) cut
      (omega (arith, z, whole)))
      (ap (done (g ∷ gs)) (let y : q + length (lent_code gs) ≡ p + length (lent_function g ++ lent_code gs) =
      omega (arith, z) in y)))

-- the whole code of at most 32 functions, by itself
pub code_reads : (g : Lent) (gs : List Lent) (arities : List (Option ℕ)) → FunctionsFormed arities (g ∷ gs) →
    length gs ≤ 31 →
    code_form (lent_code (g ∷ gs)) arities false 0 ≡ done (g ∷ gs) (length (lent_code (g ∷ gs)))
unfolding code_form lent_code
code_reads g gs arities F few =
    let rows = lent_function g ++ lent_code gs in
    let q = length (lent_function g) in
    let z : length rows ≡ q + length (lent_code gs) = length-append (lent_function g) (lent_code gs) in
    and_then (function_form rows arities false) _ 0 g q _
    (function_reads rows arities false g 0 (lent_code gs) F.0 refl (code_no_atom gs)
    ∙ ap (done g) (let y : 0 + q ≡ q = omega arith in y))
    (and_then (functions_form rows arities false 31) _ q gs (q + length (lent_code gs)) _
    (functions_read rows arities false gs 31 q F.1 few
    (ap (λ (k : ℕ). drop k rows) (let y : q ≡ 0 + q = omega arith in y)
    ∙ drop_more rows 0 (lent_function g) (lent_code gs) refl) refl (sym z))
    (ap (done (g ∷ gs)) (sym z)))
