-- Where functions begin: how many lines a test passes, and the loop over the functions.
use Rattle.prelude.specs.Kit.{ℕ, ◌+◌, suc, zero, arith, true, false, Bool, cond, ◌≡◌, refl, some, none, Option, List}
use Rattle.prelude.specs.Kit.{eqb, ltb, length, get_or, length-append, length-map, eqb-true}
use Rattle.semantics.specs.Outcome.{Outcome, done, stop, onward, give, require, times}
use Rattle.semantics.specs.Syntax.{Parameter}
use Rattle.semantics.specs.Code.{Atom, Row, row, Tree, rows}
use Rattle.semantics_lent.specs.Form.{Parts, parts_of, in_range, atoms_before, atoms_found, atoms, row_here, line_of}
use Rattle.semantics_lent.specs.Form.{Form, leaf_line, if_line, loop_line, retain_line, release_line, end_line, no_line}
use Rattle.semantics_lent.specs.Form.{form_of, formed, tree_form, parameter_form, function_form, Lent}
use Rattle.lent_form.specs.Starts.{lent_size}

-- ---- what holds of a test that is passed

abbrev pub Ends : {A : Type 0} → (A → ℕ → Type 0) → Outcome ℕ A → Type 0
Ends P (done a q) = P a q
Ends P (stop n q) = Unit {0}

pub ends_then : {A B : Type 0} (P : A → ℕ → Type 0) (Q : B → ℕ → Type 0) (f : A → ℕ → Outcome ℕ B) (o : Outcome ℕ A) →
    Ends P o → ((a : A) (s : ℕ) → P a s → Ends Q (f a s)) → Ends Q (onward f o)
unfolding onward
ends_then P Q f (done a s) h g = g a s h
ends_then P Q f (stop n s) h g = tt

-- ---- how many lines are passed

abbrev Length : Option ℕ → ℕ → Type 0
Length (some k) m = m ≡ k
Length none m = Unit {0}

pub record AtomsPassed (n : Option ℕ) (p : ℕ) (us : List Atom) (q : ℕ) : Type 0 where
  pub next : q ≡ p + 1 + length us
  pub many : Length n (length us)

module _ (rs : List Row) (arities : List (Option ℕ)) (over : Bool) where
  atoms_passed : (n : Option ℕ) (p : ℕ) → Ends (AtomsPassed n p) (atoms rs arities over n p)
  unfolding atoms
  atoms_passed n p = go n (atoms_before _)
    where
      by : (k : ℕ) (us : List Atom) (x : ℕ) (b : Bool) → eqb (length us) k ≡ b →
          Ends (AtomsPassed (some k) p) (cond b (done us (p + suc (length us))) (stop 29 x))
      by k us x true e = record { next = omega arith; many = eqb-true (length us) k e }
      by k us x false e = tt

      go : (n : Option ℕ) (o : Option (List Atom)) → Ends (AtomsPassed n p) (atoms_found rs arities over n o p)
      go n none = tt
      go none (some us) = record { next = omega arith; many = tt }
      go (some k) (some us) = by k us _ (eqb (length us) k) refl

  -- a line of a function or of a parameter is one line
  line_passed : (k p : ℕ) → Ends (λ (q : Parts) (s : ℕ). s ≡ p + 1) (line_of rs arities over k p)
  unfolding line_of onward row_here require
  line_passed k p = by_place (ltb p (length rs))
    where
      r : Row
      r = get_or rs p (row 0 0)

      with_parts : Parts → ℕ → Outcome ℕ Parts
      with_parts q = λ s. onward (λ (us : List Atom). give q) (atoms rs arities over (some 0) s)

      by_parts : (o : Option Parts) →
          Ends (λ (q : Parts) (s : ℕ). s ≡ p + 1) (onward with_parts (in_range rs arities over o p))
      by_parts (some q) =
          ends_then (AtomsPassed (some 0) p) _ _ (atoms rs arities over (some 0) p) (atoms_passed (some 0) p)
          (λ us s h. omega (arith, h.next, h.many))
      by_parts none = tt

      by_kind : (b : Bool) → Ends (λ (q : Parts) (s : ℕ). s ≡ p + 1)
          (onward (λ (u : Unit {0}) (s : ℕ). onward with_parts (in_range rs arities over (parts_of k r.operand) s))
          (require b 29 p))
      by_kind true = by_parts (parts_of k r.operand)
      by_kind false = tt

      by_place : (b : Bool) → Ends (λ (q : Parts) (s : ℕ). s ≡ p + 1)
          (onward (λ (r : Row) (s : ℕ).
          onward (λ (u : Unit {0}) (s : ℕ). onward with_parts (in_range rs arities over (parts_of k r.operand) s))
          (require (eqb r.kind k) 29 s)) (cond b (done r p) (stop 29 p)))
      by_place true = by_kind (eqb r.kind k)
      by_place false = tt

  abbrev Grown : ℕ → Tree → ℕ → Type 0
  Grown p t q = q ≡ p + length (rows t)

  module _ (below next : ℕ → Outcome ℕ Tree) (b : (p : ℕ) → Ends (Grown p) (below p)) (n : (p : ℕ) →
      Ends (Grown p) (next p))
      (p x : ℕ) where
    formed_passed : (F : Form) → Ends (Grown p) (formed rs arities over below next x F p)
    unfolding rows
    formed_passed (leaf_line l m) =
        ends_then (AtomsPassed m p) _ _ (atoms rs arities over m p) (atoms_passed m p) (λ us s h.
        ends_then (Grown s) _ _ (next s) (n s) (λ t q g.
        simp (length-append, length-map) (omega (arith, h.next, g))))
    formed_passed if_line =
        ends_then (AtomsPassed (some 1) p) _ _ (atoms rs arities over (some 1) p) (atoms_passed (some 1) p) (λ us s h.
        ends_then (Grown s) _ _ (below s) (b s) (λ t q g.
        ends_then (Grown q) _ _ (below q) (b q) (λ e q₁ g₁.
        ends_then (Grown q₁) _ _ (next q₁) (n q₁) (λ k q₂ g₂.
        simp length-append (omega (arith, h.next, h.many, g, g₁, g₂))))))
    formed_passed (loop_line l ps m) =
        ends_then (AtomsPassed (some m) p) _ _ (atoms rs arities over (some m) p) (atoms_passed (some m) p) (λ us s h.
        ends_then (Grown s) _ _ (below s) (b s) (λ t q g.
        ends_then (Grown q) _ _ (next q) (n q) (λ k q₁ g₁.
        simp (length-append, length-map) (omega (arith, h.next, g, g₁)))))
    formed_passed retain_line =
        ends_then (AtomsPassed (some 0) p) _ _ (atoms rs arities over (some 0) p) (atoms_passed (some 0) p) (λ us s h.
        ends_then (Grown s) _ _ (next s) (n s) (λ t q g. simp length-append (omega (arith, h.next, h.many, g))))
    formed_passed release_line =
        ends_then (AtomsPassed (some 0) p) _ _ (atoms rs arities over (some 0) p) (atoms_passed (some 0) p) (λ us s h.
        ends_then (Grown s) _ _ (next s) (n s) (λ t q g. simp length-append (omega (arith, h.next, h.many, g))))
    formed_passed end_line =
        ends_then (AtomsPassed (some 1) p) _ _ (atoms rs arities over (some 1) p) (atoms_passed (some 1) p)
        (λ us s h. omega (arith, h.next, h.many))
    formed_passed no_line = tt

  tree_grown : (n levels p : ℕ) → Ends (Grown p) (tree_form rs arities over n levels p)
  unfolding tree_form onward row_here
  tree_grown zero levels p = tt
  tree_grown (suc n) zero p = tt
  tree_grown (suc n) (suc levels) p =
      by_place (λ q. tree_grown n levels q) (λ q. tree_grown n (suc levels) q) (ltb p (length rs))
    where
      r : Row
      r = get_or rs p (row 0 0)

      B : ℕ → Outcome ℕ Tree
      B = tree_form rs arities over n levels

      N : ℕ → Outcome ℕ Tree
      N = tree_form rs arities over n (suc levels)

      by_parts : ((q : ℕ) → Ends (Grown q) (B q)) → ((q : ℕ) → Ends (Grown q) (N q)) → (o : Option Parts) →
          Ends (Grown p) (onward (λ (q : Parts). formed rs arities over B N q.first (form_of arities r.kind q))
          (in_range rs arities over o p))
      by_parts b m (some q) = formed_passed B N b m p q.first (form_of arities r.kind q)
      by_parts b m none = tt

      by_place : ((q : ℕ) → Ends (Grown q) (B q)) → ((q : ℕ) → Ends (Grown q) (N q)) → (c : Bool) →
          Ends (Grown p) (onward (λ (r : Row) (s : ℕ).
          onward (λ (q : Parts). formed rs arities over B N q.first (form_of arities r.kind q))
          (in_range rs arities over (parts_of r.kind r.operand) s)) (cond c (done r p) (stop 29 p)))
      by_place b m true = by_parts b m (parts_of r.kind r.operand)
      by_place b m false = tt

  parameters_grown : (n p : ℕ) →
      Ends (λ (xs : List Parameter) (q : ℕ). q ≡ p + length xs) (times n (parameter_form rs arities over) p)
  unfolding times parameter_form
  parameters_grown zero p = omega arith
  parameters_grown (suc n) p =
      ends_then (λ (x : Parameter) (s : ℕ). s ≡ p + 1) _ _ (parameter_form rs arities over p)
      (ends_then (λ (q : Parts) (s : ℕ). s ≡ p + 1) _ _ (line_of rs arities over 1 p) (line_passed 1 p) (λ q s h. h))
      (λ x s h.
      ends_then (λ (xs : List Parameter) (q : ℕ). q ≡ s + length xs) _ _ (times n (parameter_form rs arities over) s)
      (parameters_grown n s) (λ xs q g. omega (arith, h, g)))

  pub function_grown : (p : ℕ) → Ends (λ (g : Lent) (q : ℕ). q ≡ p + lent_size g) (function_form rs arities over p)
  unfolding function_form lent_size
  function_grown p =
      ends_then (λ (q : Parts) (s : ℕ). s ≡ p + 1) _ _ (line_of rs arities over 0 p) (line_passed 0 p) (λ q s h.
      ends_then (λ (xs : List Parameter) (t : ℕ). t ≡ s + length xs) _ _
      (times q.first (parameter_form rs arities over) s)
      (parameters_grown q.first s) (λ xs t g.
      ends_then (Grown t) _ _ (tree_form rs arities over 4096 64 t) (tree_grown 4096 64 t)
      (λ k u f. omega (arith, h, g, f))))
