-- The first test, of form: it stops at one of the rows or at the line after them, and where it ends, the functions that
-- it gives have no more lines than there are rows.
use Rattle.std.specs.Prelude.{ℕ, ◌≤◌, ◌+◌, ◌<◌, suc, zero, min, true, false, Bool, cond, ◌&&◌, ◌||◌, ◌≡◌, refl, List}
use Rattle.std.specs.Prelude.{[], ◌∷◌, eqb, ltb, ℤ, length, get_or, drop}
use Rattle.prelude.specs.Kit.{arith, some, none, Option, length-take, length-drop, eqb-true, ltb-true}
use Rattle.semantics.specs.Outcome.{done, stop, onward, ◌>>=◌, give, times}
use Rattle.semantics.specs.Code.{Atom, Line, leaf, if_else, loop, retain, release, Tree, line, Row, row}
use Rattle.semantics_lent.specs.Form.{Test, fault, code_length, paired, lent_rows, goes_on, Parts, parts_of, Seen}
use Rattle.semantics_lent.specs.Form.{as_atom, out_of_range, no_atom, seen_as, and_atom, atoms_before, has_all}
use Rattle.semantics_lent.specs.Form.{has_too_few, Form, leaf_line, if_line, loop_line, retain_line, release_line}
use Rattle.semantics_lent.specs.Form.{end_line, no_line, form_of, arities_of, Lent, first_atom, row_here, in_range}
use Rattle.semantics_lent.specs.Form.{atoms_found, atoms, line_of, formed, tree_form, parameter_form, function_form}
use Rattle.semantics_lent.specs.Form.{unless_ended, functions_form, code_form, form}
use Rattle.lent_stops.specs.Stops.{StopsBy, stops_then, stops_test, stops_more}
use Rattle.lent_stops.specs.Sizes.{tree_size, line_size, function_size, code_size}

-- ---- atoms

-- no more atoms than there are rows
abbrev Few : ℕ → Option (List Atom) → Type 0
Few n (some us) = length us ≤ n
Few n none = Unit {0}

few_atoms : (rs : List Row) → Few (length rs) (atoms_before rs)
unfolding atoms_before
few_atoms [] = omega arith
few_atoms (r ∷ rs) = go (seen_as r) (atoms_before rs) (few_atoms rs)
  where
    go : (s : Seen) (o : Option (List Atom)) → Few (length rs) o →
        Few (suc (length rs)) (elim s [ as_atom a ↦ and_atom a o | out_of_range ↦ none | no_atom ↦ some [] ])
    go (as_atom a) (some us) h = omega (arith, h)
    go (as_atom a) none h = tt
    go out_of_range o h = tt
    go no_atom o h = omega arith

-- how many atoms are wanted at least
abbrev wanted : Option ℕ → ℕ
wanted (some n) = n
wanted none = 0

has_wanted : (w : Option ℕ) (n : ℕ) → has_all w n ≡ true → wanted w ≤ n
has_wanted (some k) n e = omega (arith, eqb-true n k e)
has_wanted none n e = omega arith

module _ (rows : List Row) (arities : List (Option ℕ)) (over : Bool) where
  -- ---- lines

  -- the present line is one of the rows
  abbrev At : {A : Type 0} → ℕ → A → ℕ → Type 0
  At s a q = (s ≤ q) × (q < length rows)

  row_stops : (s : ℕ) → s ≤ length rows → StopsBy (length rows) (At s) (row_here rows arities over s)
  unfolding row_here
  row_stops s h = go (ltb s (length rows)) refl
    where
      go : (b : Bool) → ltb s (length rows) ≡ b →
          StopsBy (length rows) (At {A = Row} s) (cond b (done (get_or rows s (row 0 0)) s) (stop 29 s))
      go true e = (omega arith, ltb-true s (length rows) e)
      go false e = h

  range_stops : (o : Option Parts) (s : ℕ) → s < length rows →
      StopsBy (length rows) (At s) (in_range rows arities over o s)
  range_stops (some q) s h = (omega arith, h)
  range_stops none s h = omega (arith, h)

  -- a line and its atoms
  record AtomsRead (w : Option ℕ) (s : ℕ) (us : List Atom) (q : ℕ) : Type 0 where
    pub many : wanted w ≤ length us
    pub past : s + suc (length us) ≤ q
    pub within : q ≤ length rows

  atoms_stop : (w : Option ℕ) (s : ℕ) → s < length rows →
      StopsBy (length rows) (AtomsRead w s) (atoms rows arities over w s)
  unfolding atoms
  atoms_stop w s h = go (atoms_before (drop (suc s) rows)) (few_atoms (drop (suc s) rows))
    where
      either_within : (b : Bool) → cond b (length rows) s ≤ length rows
      either_within true = omega arith
      either_within false = omega (arith, h)

      found : (us : List Atom) → length us ≤ length (drop (suc s) rows) → (b : Bool) → has_all w (length us) ≡ b →
          (c : Bool) → StopsBy (length rows) (AtomsRead w s)
          (cond b (done us (s + suc (length us))) (stop 29 (cond c (length rows) s)))
      found us f true e c = record {
        many = has_wanted w (length us) e;
        past = omega arith;
        within = omega (arith, h, f, length-drop (suc s) rows);
      }
      found us f false e c = either_within c

      go : (o : Option (List Atom)) → Few (length (drop (suc s) rows)) o →
          StopsBy (length rows) (AtomsRead w s) (atoms_found rows arities over w o s)
      go (some us) f =
          found us f (has_all w (length us)) refl
          (has_too_few w (length us) && (over && eqb (s + suc (length us)) (length rows)))
      go none f = omega (arith, h)

  -- the present line is passed
  abbrev Further : {A : Type 0} → ℕ → A → ℕ → Type 0
  Further s a q = (s < q) × (q ≤ length rows)

  -- a line without atoms
  line_stops : (k s : ℕ) → s ≤ length rows → StopsBy (length rows) (Further s) (line_of rows arities over k s)
  unfolding line_of
  line_stops k s h =
      stops_then (length rows) (At s) (Further s) _ (row_here rows arities over s) (row_stops s h) (λ r t a.
      stops_test (length rows) (Further s) (eqb r.kind k) t _ (omega (arith, a.1))
      (stops_then (length rows) (At t) (Further s) _ (in_range rows arities over (parts_of k r.operand) t)
      (range_stops (parts_of k r.operand) t a.1) (λ q u b.
      stops_then (length rows) (AtomsRead (some 0) u) (Further s) _ (atoms rows arities over (some 0) u)
      (atoms_stop (some 0) u b.1) (λ us p c. (omega (arith, a.0, b.0, c.past), c.within)))))

  -- ---- trees

  -- what was read from line s on has so many lines, and ends with the rows or before
  abbrev Past : {A : Type 0} → ℕ → (A → ℕ) → A → ℕ → Type 0
  Past s size a q = (s + size a ≤ q) × (q ≤ length rows)

  abbrev Reads : Test Tree → Type 0
  Reads run = (s : ℕ) → s ≤ length rows → StopsBy (length rows) (Past s tree_size) (run s)

  -- over the trees of a line that was begun at line `from`, and the tree that follows it
  module _ (below next : Test Tree) (belows : Reads below) (nexts : Reads next) (x from : ℕ) where
    followed : (l : Line) (s : ℕ) → from + line_size l ≤ s → s ≤ length rows →
        StopsBy (length rows) (Past from tree_size) (onward (λ (t : Tree). give (line l t)) (next s))
    unfolding tree_size
    followed l s h k =
        stops_then (length rows) (Past s tree_size) (Past from tree_size) _ (next s) (nexts s k)
        (λ t q a. (omega (arith, h, a.0), a.1))

    formed_stops : (F : Form) (s : ℕ) → from ≤ s → s < length rows →
        StopsBy (length rows) (Past from tree_size) (formed rows arities over below next x F s)
    unfolding tree_size line_size
    formed_stops (leaf_line l w) s h k =
        stops_then (length rows) (AtomsRead w s) (Past from tree_size) _ (atoms rows arities over w s)
        (atoms_stop w s k) (λ us q a. followed (leaf x l us) q (omega (arith, h, a.past)) a.within)
    formed_stops if_line s h k =
        stops_then (length rows) (AtomsRead (some 1) s) (Past from tree_size) _ (atoms rows arities over (some 1) s)
        (atoms_stop (some 1) s k) (λ us q a.
        stops_then (length rows) (Past q tree_size) (Past from tree_size) _ (below q) (belows q a.within) (λ t u b.
        stops_then (length rows) (Past u tree_size) (Past from tree_size) _ (below u) (belows u b.1) (λ e v c.
        followed (if_else x (first_atom us) t e) v (omega (arith, h, a.many, a.past, b.0, c.0)) c.1)))
    formed_stops (loop_line j ps n) s h k =
        stops_then (length rows) (AtomsRead (some n) s) (Past from tree_size) _ (atoms rows arities over (some n) s)
        (atoms_stop (some n) s k) (λ us q a.
        stops_then (length rows) (Past q tree_size) (Past from tree_size) _ (below q) (belows q a.within) (λ t u b.
        followed (loop x j ps us t) u (omega (arith, h, a.past, b.0)) b.1))
    formed_stops retain_line s h k =
        stops_then (length rows) (AtomsRead (some 0) s) (Past from tree_size) _ (atoms rows arities over (some 0) s)
        (atoms_stop (some 0) s k) (λ us q a. followed (retain x) q (omega (arith, h, a.past)) a.within)
    formed_stops release_line s h k =
        stops_then (length rows) (AtomsRead (some 0) s) (Past from tree_size) _ (atoms rows arities over (some 0) s)
        (atoms_stop (some 0) s k) (λ us q a. followed (release x) q (omega (arith, h, a.past)) a.within)
    formed_stops end_line s h k =
        stops_then (length rows) (AtomsRead (some 1) s) (Past from tree_size) _ (atoms rows arities over (some 1) s)
        (atoms_stop (some 1) s k) (λ us q a. (omega (arith, h, a.many, a.past), a.within))
    formed_stops no_line s h k = omega (arith, k)

  tree_stops : (n levels : ℕ) → Reads (tree_form rows arities over n levels)
  unfolding tree_form
  tree_stops zero levels s h = h
  tree_stops (suc n) zero s h = h
  tree_stops (suc n) (suc levels) s h =
      stops_then (length rows) (At s) (Past s tree_size) _ (row_here rows arities over s) (row_stops s h) (λ r t a.
      stops_then (length rows) (At t) (Past s tree_size) _
      (in_range rows arities over (parts_of r.kind r.operand) t)
      (range_stops (parts_of r.kind r.operand) t a.1) (λ q u b.
      formed_stops (tree_form rows arities over n levels) (tree_form rows arities over n (suc levels))
      (tree_stops n levels) (tree_stops n (suc levels)) q.first s (form_of arities r.kind q) u
      (omega (arith, a.0, b.0)) b.1))

  -- ---- functions

  parameter_stops : (s : ℕ) → s ≤ length rows →
      StopsBy (length rows) (Further s) (parameter_form rows arities over s)
  unfolding parameter_form
  parameter_stops s h =
      stops_then (length rows) (Further s) (Further s) _ (line_of rows arities over 1 s) (line_stops 1 s h)
      (λ q t a. a)

  parameters_stop : (n s : ℕ) → s ≤ length rows →
      StopsBy (length rows) (Past s length) (times n (parameter_form rows arities over) s)
  unfolding times
  parameters_stop zero s h = (omega arith, h)
  parameters_stop (suc n) s h =
      stops_then (length rows) (Further s) (Past s length) _ (parameter_form rows arities over s)
      (parameter_stops s h) (λ x t a.
      stops_then (length rows) (Past t length) (Past s length) _ (times n (parameter_form rows arities over) t)
      (parameters_stop n t a.1) (λ xs q b. (omega (arith, a.0, b.0), b.1)))

  function_stops : (s : ℕ) → s ≤ length rows →
      StopsBy (length rows) (Past s function_size) (function_form rows arities over s)
  unfolding function_form
  function_stops s h =
      stops_then (length rows) (Further s) (Past s function_size) _ (line_of rows arities over 0 s)
      (line_stops 0 s h) (λ q t a.
      stops_then (length rows) (Past t length) (Past s function_size) _
      (times q.first (parameter_form rows arities over) t) (parameters_stop q.first t a.1) (λ xs u b.
      stops_then (length rows) (Past u tree_size) (Past s function_size) _ (tree_form rows arities over 4096 64 u)
      (tree_stops 4096 64 u b.1) (λ k p c. (omega (arith, a.0, b.0, c.0), c.1))))

  unless_stops : (run : Test (List Lent)) (s : ℕ) → s ≤ length rows →
      StopsBy (length rows) (Past s code_size) (run s) →
      StopsBy (length rows) (Past s code_size) (unless_ended rows arities over run s)
  unfolding code_size
  unless_stops run s h k = go (ltb s (length rows) || over)
    where
      go : (b : Bool) → StopsBy (length rows) (Past s code_size) (elim b [ true ↦ run s | false ↦ done [] s ])
      go true = k
      go false = (omega arith, h)

  -- a function and those after it
  with_first : (more : Test (List Lent)) →
      ((t : ℕ) → t ≤ length rows → StopsBy (length rows) (Past t code_size) (more t)) → (s : ℕ) → s ≤ length rows →
      StopsBy (length rows) (Past s code_size)
      (onward (λ (g : Lent). more >>= λ gs. give (g ∷ gs)) (function_form rows arities over s))
  unfolding code_size
  with_first more mores s h =
      stops_then (length rows) (Past s function_size) (Past s code_size) _ (function_form rows arities over s)
      (function_stops s h) (λ g t a.
      stops_then (length rows) (Past t code_size) (Past s code_size) _ (more t) (mores t a.1)
      (λ gs q b. (omega (arith, a.0, b.0), b.1)))

  functions_stop : (n s : ℕ) → s ≤ length rows →
      StopsBy (length rows) (Past s code_size) (functions_form rows arities over n s)
  unfolding functions_form
  functions_stop zero s h = unless_stops fault s h h
  functions_stop (suc n) s h =
      unless_stops
      (function_form rows arities over >>= λ g. functions_form rows arities over n >>= λ gs. give (g ∷ gs)) s h
      (with_first (functions_form rows arities over n) (λ t k. functions_stop n t k) s h)

  code_stops : StopsBy (length rows) (Past 0 code_size) (code_form rows arities over 0)
  unfolding code_form
  code_stops =
      with_first (functions_form rows arities over 31) (λ t k. functions_stop 31 t k) 0 (omega arith)

-- at most 4,096 rows are looked at
pub form_stops : (kinds : List ℕ) (operands : List ℤ) →
    StopsBy 4096 (λ (gs : List Lent) (q : ℕ). code_size gs ≤ 4096) (form kinds operands)
unfolding form lent_rows
form_stops kinds operands =
    let rows = lent_rows kinds operands in
    let few : length rows ≤ 4096 =
    omega (arith, length-take (min 4096 (code_length kinds operands)) (paired kinds operands)) in
    stops_more (length rows) 4096 (Past rows (arities_of rows) (goes_on kinds operands) 0 code_size) _
    (code_form rows (arities_of rows) (goes_on kinds operands) 0) few
    (code_stops rows (arities_of rows) (goes_on kinds operands)) (λ gs q h. omega (arith, few, h.0, h.1))
