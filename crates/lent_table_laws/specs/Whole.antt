-- The table by positions is `lent_table` where the rows of the functions stand: the statement that the engine's table
-- is held to.
use Rattle.std.specs.Prelude.{ℕ, ◌≤◌, ◌+◌, ◌<◌, ◌-◌, suc, zero, ◌*◌, ◌%◌, Bool, cond, ◌&&◌, not, ◌≡◌, refl, List, []}
use Rattle.std.specs.Prelude.{◌∷◌, ◌++◌, map, eqb, ltb, ℤ, length, get_or, take}
use Rattle.prelude.specs.Kit.{arith, dec_lt, and-false, ◌∙◌, sym, ap, subst, Option, get_or-eq_default, length-append}
use Rattle.prelude.specs.Kit.{length-map, take_all, lt-ltb, le-ltb}
use Rattle.semantics.specs.Basics.{tabulate}
use Rattle.semantics.specs.Syntax.{Parameter}
use Rattle.semantics.specs.Code.{rows}
use Rattle.semantics.specs.Live.{Set, empty}
use Rattle.semantics.specs.Borrow.{spent, Table, borrows, all_borrowed, same_table}
use Rattle.semantics_lent.specs.Form.{Lent}
use Rattle.semantics_lent.specs.Fit.{no_lent}
use Rattle.semantics_lent.specs.Hold.{names_of, name_in, reworked_lent, worked_lent, lent_table}
use Rattle.machine_code.specs.Reading.{low_bits, name_at}
use Rattle.machine_code.specs.Rows.{At, at_first, at_second}
use Rattle.lent_table.specs.Rounds.{worked, start_at, end_at, parameter_in, spent_by, stays, reworked_at, table_at}
use Rattle.lent_passing.specs.Functions.{parameter_row, lent_function, lent_code, ParametersFormed, FunctionFormed}
use Rattle.lent_passing.specs.Functions.{FunctionsFormed}
use Rattle.lent_table_laws.specs.Trees.{rows_spend}

-- the lines of the functions, by a table of them
abbrev pub Placed : List ℕ → List Lent → Type 0
Placed starts gs = (f : ℕ) → f < length gs → get_or starts f 4096 ≡ length (lent_code (take f gs))

-- ---- a function among others

formed_at : (arities : List (Option ℕ)) (gs : List Lent) (f : ℕ) → FunctionsFormed arities gs → f < length gs →
    FunctionFormed arities (get_or gs f no_lent)
formed_at arities [] f h q = absurd (let z : ⊥ = omega (arith, q) in z)
formed_at arities (g ∷ gs) zero h q = h.0
formed_at arities (g ∷ gs) (suc f) h q = formed_at arities gs f h.1 (omega (arith, q))

code_next : (gs : List Lent) (f : ℕ) → f < length gs →
    length (lent_code (take (suc f) gs)) ≡ length (lent_code (take f gs)) + length (lent_function (get_or gs f no_lent))
unfolding lent_code
code_next [] f h = absurd (let z : ⊥ = omega (arith, h) in z)
code_next (g ∷ gs) zero h = omega (arith, length-append (lent_function g) [])
code_next (g ∷ gs) (suc f) h =
    omega (
      arith,
      code_next gs f (omega (arith, h)),
      length-append (lent_function g) (lent_code (take (suc f) gs)),
      length-append (lent_function g) (lent_code (take f gs)),
    )

stands_at : (kinds : List ℕ) (operands : List ℤ) (gs : List Lent) (p f : ℕ) → At kinds operands p (lent_code gs) →
    f < length gs → At kinds operands (p + length (lent_code (take f gs))) (lent_function (get_or gs f no_lent))
unfolding lent_code
stands_at kinds operands [] p f s h = absurd (let z : ⊥ = omega (arith, h) in z)
stands_at kinds operands (g ∷ gs) p zero s h =
    subst (λ (q : ℕ). At kinds operands q (lent_function g)) (let z : p ≡ p + 0 = omega arith in z)
    (at_first kinds operands p (lent_function g) (lent_code gs) s)
stands_at kinds operands (g ∷ gs) p (suc f) s h =
    subst (λ (q : ℕ). At kinds operands q (lent_function (get_or gs f no_lent)))
    (let z : p + length (lent_function g) + length (lent_code (take f gs))
    ≡ p + length (lent_function g ++ lent_code (take f gs)) =
    omega (arith, length-append (lent_function g) (lent_code (take f gs))) in z)
    (stands_at kinds operands gs (p + length (lent_function g)) f
    (at_second kinds operands p (lent_function g) (lent_code gs) s) (omega (arith, h)))

-- ---- its parameters

module _ (kinds : List ℕ) (operands : List ℤ) (arities : List (Option ℕ)) where
  below_next : (i n : ℕ) → ltb (suc i) (suc n) ≡ ltb i n
  below_next i n = go (dec_lt i n)
    where
      go : Dec (i < n) → ltb (suc i) (suc n) ≡ ltb i n
      go (yes q) = lt-ltb (suc i) (suc n) (omega (arith, q)) ∙ sym (lt-ltb i n q)
      go (no q) = le-ltb (suc i) (suc n) (omega (arith, q)) ∙ sym (le-ltb i n (omega (arith, q)))

  names_read : (S : Set) (xs : List Parameter) (p i : ℕ) → ParametersFormed xs →
      At kinds operands p (map parameter_row xs) →
      (ltb i (length xs) && S (name_at operands (p + i))) ≡ name_in S (map (λ x. x.id) xs) i
  names_read S [] p i h s = ap (λ (b : Bool). b && S (name_at operands (p + i))) (le-ltb i 0 (omega arith))
  names_read S (x ∷ xs) p zero h s =
      ap (λ (b : Bool). b && S (name_at operands (p + 0))) (lt-ltb 0 (suc (length xs)) (omega arith))
      ∙ ap (λ (q : ℕ). S (name_at operands q)) (let z : p + 0 ≡ p = omega arith in z)
      ∙ ap (λ (w : ℤ). S (low_bits w % 256)) s.0.operand
      ∙ ap S (let z : (x.id + 256 * x.depth) % 16777216 % 256 ≡ x.id = omega (arith, h.0) in z)
  names_read S (x ∷ xs) p (suc i) h s =
      ap (λ (b : Bool). b && S (name_at operands (p + suc i))) (below_next i (length xs))
      ∙ ap (λ (q : ℕ). ltb i (length xs) && S (name_at operands q)) (let z : p + suc i ≡ p + 1 + i = omega arith in z)
      ∙ names_read S xs (p + 1) i h.1 s.1

  count_read : (g : Lent) (p : ℕ) → FunctionFormed arities g → At kinds operands p (lent_function g) →
      name_at operands p ≡ length g.parameters
  count_read g p h s =
      ap (λ (z : ℤ). low_bits z % 256) s.0.operand
      ∙ (let z : (length g.parameters + 256 * g.result) % 16777216 % 256 ≡ length g.parameters =
      omega (arith, h.few, h.result) in z)

  parameter_read : (S : Set) (g : Lent) (p i : ℕ) → FunctionFormed arities g → At kinds operands p (lent_function g) →
      parameter_in operands S p i ≡ name_in S (names_of g) i
  parameter_read S g p i h s =
      ap (λ (n : ℕ). ltb i n && S (name_at operands (p + 1 + i))) (count_read g p h s)
      ∙ names_read S g.parameters (p + 1) i h.parameters
      (at_first kinds operands (p + 1) (map parameter_row g.parameters) (rows g.tree) s.1)

-- ---- the table

module _ (kinds : List ℕ) (operands : List ℤ) (starts : List ℕ) (gs : List Lent)
    (arities : List (Option ℕ)) (formed : FunctionsFormed arities gs) (stand : At kinds operands 0 (lent_code gs))
    (places : Placed starts gs) (whole : length kinds ≡ length (lent_code gs)) (few : length kinds ≤ 4096) where
  abbrev function_of : ℕ → Lent
  function_of f = get_or gs f no_lent

  abbrev line_of : ℕ → ℕ
  line_of f = length (lent_code (take f gs))

  here : (f : ℕ) → f < length gs → At kinds operands (line_of f) (lent_function (function_of f))
  here f h =
      subst (λ (p : ℕ). At kinds operands p (lent_function (function_of f)))
      (let z : 0 + line_of f ≡ line_of f = omega arith in z) (stands_at kinds operands gs 0 f stand h)

  start_read : (f : ℕ) → f < length gs → start_at starts f ≡ line_of f
  start_read f h = omega (arith, places f h, (here f h).0.within, few)

  end_read : (f : ℕ) → f < length gs →
      end_at starts (length gs) (length kinds) f ≡ line_of f + length (lent_function (function_of f))
  end_read f h = go (dec_lt (f + 1) (length gs))
    where
      go : Dec (f + 1 < length gs) →
          end_at starts (length gs) (length kinds) f ≡ line_of f + length (lent_function (function_of f))
      go (yes q) =
          ap (λ (b : Bool). cond b (start_at starts (f + 1)) (length kinds)) (lt-ltb (f + 1) (length gs) q)
          ∙ start_read (f + 1) q
          ∙ ap line_of (let z : f + 1 ≡ suc f = omega arith in z) ∙ code_next gs f h
      go (no q) =
          ap (λ (b : Bool). cond b (start_at starts (f + 1)) (length kinds))
          (le-ltb (f + 1) (length gs) (omega (arith, q)))
          ∙ whole ∙ ap (λ (l : List Lent). length (lent_code l)) (sym (take_all (suc f) gs (omega (arith, h, q))))
          ∙ code_next gs f h

  -- the names that a function's rows spend
  spent_read : (T : Table) (f : ℕ) → f < length gs →
      spent_by kinds operands starts (length gs) T f ≡ spent (borrows T) (function_of f).tree
  unfolding spent_by
  spent_read T f h =
      let g = function_of f in
      let at = line_of f in
      let count = count_read kinds operands arities g at (formed_at arities gs f formed h) (here f h) in
      let body = at_second kinds operands (at + 1) (map parameter_row g.parameters) (rows g.tree) (here f h).1 in
      let y = length-map g.parameters parameter_row in
      let z = length-append (map parameter_row g.parameters) (rows g.tree) in
      let from : at + 1 + length g.parameters ≡ at + 1 + length (map parameter_row g.parameters) = omega
      (arith, y) in
      let n : at + length (lent_function g) - (at + 1 + length (map parameter_row g.parameters)) ≡ length
      (rows g.tree) =
      omega (arith, z) in
      rw (lt-ltb f (length gs) h, end_read f h, start_read f h, count, from, n)
      (rows_spend kinds operands arities (borrows T) g.tree 64 (formed_at arities gs f formed h).tree
      (at + 1 + length (map parameter_row g.parameters)) body)

  -- past the last function
  none_spent : (T : Table) (f : ℕ) → length gs ≤ f → spent_by kinds operands starts (length gs) T f ≡ empty
  unfolding spent_by
  none_spent T f h = rw (le-ltb f (length gs) h) refl

  no_function : (f : ℕ) → length gs ≤ f → get_or gs f no_lent ≡ no_lent
  no_function f h = get_or-eq_default gs no_lent h

  stays_read : (T : Table) (f i : ℕ) → stays kinds operands starts (length gs) T f i
      ≡ (borrows T f i && (not (eqb f 0)
      && not (name_in (spent (borrows T) (function_of f).tree) (names_of (function_of f)) i)))
  stays_read T f i =
      ap (λ (b : Bool). borrows T f i && (not (eqb f 0) && not b)) (go (dec_lt f (length gs)))
    where
      go : Dec (f < length gs) →
          parameter_in operands (spent_by kinds operands starts (length gs) T f) (start_at starts f) i
          ≡ name_in (spent (borrows T) (function_of f).tree) (names_of (function_of f)) i
      go (yes h) =
          ap (λ (p : ℕ). parameter_in operands (spent_by kinds operands starts (length gs) T f) p i) (start_read f h)
          ∙ ap (λ (S : Set). parameter_in operands S (line_of f) i) (spent_read T f h)
          ∙ parameter_read kinds operands arities (spent (borrows T) (function_of f).tree) (function_of f)
          (line_of f) i
          (formed_at arities gs f formed h) (here f h)
      go (no q) =
          ap (λ (S : Set). parameter_in operands S (start_at starts f) i) (none_spent T f (omega (arith, q)))
          ∙ and-false (ltb i (name_at operands (start_at starts f)))
          ∙ ap (λ (g : Lent). name_in (spent (borrows T) g.tree) (names_of g) i)
          (sym (no_function f (omega (arith, q))))

  -- a round
  round_same : (T : Table) → reworked_at kinds operands starts (length gs) T ≡ reworked_lent gs T
  unfolding reworked_at reworked_lent
  round_same T = λ j. tabulate 0 32 (λ f. tabulate 0 8 (λ i. stays_read T f i j))

  worked_same : (n : ℕ) (T : Table) →
      worked (reworked_at kinds operands starts (length gs)) n T ≡ worked_lent n gs T
  unfolding worked worked_lent
  worked_same zero T = refl
  worked_same (suc n) T =
      ap (λ (U : Table). cond (same_table T U) T (worked (reworked_at kinds operands starts (length gs)) n U))
      (round_same T)
      ∙ ap (λ (U : Table). cond (same_table T (reworked_lent gs T)) T U) (worked_same n (reworked_lent gs T))

  -- the whole table
  pub table_same : table_at kinds operands starts (length gs) ≡ lent_table gs
  unfolding table_at lent_table
  table_same = worked_same 257 all_borrowed
