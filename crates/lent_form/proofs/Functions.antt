-- Functions: their lines, parameters and trees.
use Rattle.prelude.specs.Kit.{ℕ, ◌≤◌, ◌+◌, ◌<◌, ◌-◌, suc, zero, arith, true, false, Bool, cond, ◌≡◌, refl, ◌∙◌, ap}
use Rattle.prelude.specs.Kit.{some, none, Option, List, eqb, ltb, ℤ, length, get_or}
use Rattle.semantics.specs.Outcome.{Outcome, done, stop, onward, give, require, times}
use Rattle.semantics.specs.Code.{Atom, Row, row}
use Rattle.semantics_lent.specs.Form.{Parts, parts_of, in_range, row_here, atoms, line_of, paired, arities_of}
use Rattle.semantics_lent.specs.Form.{tree_form, parameter_form, function_form}
use Rattle.lent_form.specs.Told.{faulty, atoms_read, head_parts, head_told, then_fits, Passing, forgot, said, and_then}
use Rattle.lent_form.specs.Told.{repeated, by_head, tree_passed, parameter_passed, function_passed}
use Rattle.std.specs.Prelude.{Result, Ok, Err}
use Rattle.lent_form.specs.declared.Fault.{Fault}
use Rattle.lent_form.specs.declared.Wants.TheVariants.{Exactly}
use Rattle.lent_form.specs.declared.Head.{Head}
use Rattle.lent_form.proofs.Trees.{forgot_onward, forgot_given, atoms_agree}

-- ---- the line of a function or of a parameter

module _ (rows : List Row) (arities : List (Option ℕ)) (over : Bool) (k p : ℕ) {B : Type 0}
    (f : Parts → ℕ → Outcome ℕ B) (g : ℕ → ℕ → Passing)
    (h : (q : Parts) (s : ℕ) → forgot (f q s) ≡ g q.first s) where
  after_atoms : (q : Parts) (o : Outcome ℕ (List Atom)) →
      forgot (onward f (onward (λ (us : List Atom). give q) o)) ≡ and_then (forgot o) (g q.first)
  unfolding onward
  after_atoms q (done us s) = h q s
  after_atoms q (stop n s) = refl

  head_read : (n : ℕ) (r : Result ℕ Fault) → and_then (said r) (g n) ≡ by_head (then_fits n r) g
  head_read n (Ok q) = refl
  head_read n (Err e) = refl

  pub head_agrees : forgot (onward f (line_of rows arities over k p)) ≡ by_head (head_told rows over k p) g
  unfolding line_of onward row_here require head_told
  head_agrees = by_place (ltb p (length rows))
    where
      r : Row
      r = get_or rows p (row 0 0)

      with_parts : Parts → ℕ → Outcome ℕ Parts
      with_parts q = λ s. onward (λ (us : List Atom). give q) (atoms rows arities over (some 0) s)

      by_parts : (o : Option Parts) →
          forgot (onward f (onward with_parts (in_range rows arities over o p))) ≡ by_head (head_parts rows over p o) g
      by_parts (some q) =
          after_atoms q (atoms rows arities over (some 0) p)
          ∙ ap (λ (o : Passing). and_then o (g q.first)) (atoms_agree rows arities over (some 0) p)
          ∙ head_read q.first (atoms_read rows over p (Exactly 0))
      by_parts none = refl

      by_kind : (b : Bool) →
          forgot (onward f (onward
          (λ (u : Unit {0}) (s : ℕ). onward with_parts (in_range rows arities over (parts_of k r.operand) s))
          (require b 29 p)))
          ≡ by_head (cond b (head_parts rows over p (parts_of k r.operand)) (faulty p)) g
      by_kind true = by_parts (parts_of k r.operand)
      by_kind false = refl

      by_place : (b : Bool) →
          forgot (onward f (onward (λ (r : Row) (s : ℕ).
          onward (λ (u : Unit {0}) (s : ℕ). onward with_parts (in_range rows arities over (parts_of k r.operand) s))
          (require (eqb r.kind k) 29 s)) (cond b (done r p) (stop 29 p))))
          ≡ by_head (cond b (cond (eqb r.kind k) (head_parts rows over p (parts_of k r.operand)) (faulty p))
          (faulty p)) g
      by_place true = by_kind (eqb r.kind k)
      by_place false = refl

-- so many of the same
pub times_repeated : {A : Type 0} (n : ℕ) (m : ℕ → Outcome ℕ A) (p : ℕ) →
    forgot (times n m p) ≡ repeated n (λ s. forgot (m s)) p
unfolding times repeated onward
times_repeated zero m p = refl
times_repeated (suc n) m p =
    forgot_onward (m p) _ (repeated n (λ s. forgot (m s)))
    (λ a s. forgot_given (times n m s) _ ∙ times_repeated n m s)

-- ---- loops over tests

repeated_step : (f : ℕ → Passing) (c p : ℕ) → 0 < c → repeated c f p ≡ and_then (f p) (repeated (c - 1) f)
unfolding repeated
repeated_step f zero p h = absurd (omega arith)
repeated_step f (suc c) p h = ap (λ (n : ℕ). and_then (f p) (repeated n f)) (omega arith)

-- where i of c tests have been passed
module _ (f : ℕ → Passing) (c p₀ i p : ℕ) (inv : repeated c f p₀ ≡ repeated (c - i) f p) where
  pub repeated_goes : i < c → (q : ℕ) → f p ≡ done tt q → repeated c f p₀ ≡ repeated (c - (i + 1)) f q
  repeated_goes h q e =
      let n : c - i - 1 ≡ c - (i + 1) = omega arith in
      inv ∙ repeated_step f (c - i) p (omega arith) ∙ rw (e, n)

  pub repeated_stops : i < c → (q : ℕ) → f p ≡ stop 29 q → repeated c f p₀ ≡ stop 29 q
  repeated_stops h q e = inv ∙ repeated_step f (c - i) p (omega arith) ∙ rw e

  pub repeated_ends : c ≤ i → repeated c f p₀ ≡ done tt p
  unfolding repeated
  repeated_ends h = let n : c - i ≡ 0 = omega arith in inv ∙ rw n

-- ---- parameters and functions

module _ (ks : List ℕ) (os : List ℤ) (over : Bool) (p : ℕ) (l : Result Head Fault) where
  pub parameter_by : l ≡ head_told (paired ks os) over 1 p →
      parameter_passed ks os over p ≡ by_head l (λ n q. done tt q)
  unfolding parameter_passed parameter_form
  parameter_by told =
      head_agrees (paired ks os) (arities_of (paired ks os)) over 1 p _ (λ n q. done tt q) (λ q s. refl) ∙ rw (← told)

  pub function_by : l ≡ head_told (paired ks os) over 0 p →
      function_passed ks os over p
      ≡ by_head l (λ n q. and_then (repeated n (parameter_passed ks os over) q) (tree_passed ks os over 4096 64))
  unfolding function_passed function_form parameter_passed tree_passed
  function_by told =
      head_agrees rows arities over 0 p _
      (λ n q. and_then (repeated n (λ s. forgot (parameter_form rows arities over s)) q)
      (λ s. forgot (tree_form rows arities over 4096 64 s)))
      (λ q s.
      forgot_onward (times q.first (parameter_form rows arities over) s) _
      (λ s. forgot (tree_form rows arities over 4096 64 s))
      (λ xs s. forgot_given (tree_form rows arities over 4096 64 s) _)
      ∙ ap (λ (o : Passing). and_then o (λ s. forgot (tree_form rows arities over 4096 64 s)))
      (times_repeated q.first (parameter_form rows arities over) s))
      ∙ rw (← told)
    where
      rows : List Row
      rows = paired ks os

      arities : List (Option ℕ)
      arities = arities_of (paired ks os)
