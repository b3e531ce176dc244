-- Trees: what the definition says of a tree, line by line.
use Rattle.prelude.specs.Kit.{ℕ, ◌≤◌, ◌+◌, ◌<◌, suc, zero, arith, add-one, true, false, Bool, cond, ◌&&◌, ◌≡◌, refl}
use Rattle.prelude.specs.Kit.{◌∙◌, sym, ap, some, none, Option, List, eqb, ltb, length, get_or, drop, ne_eqb, lt-ltb}
use Rattle.prelude.specs.Kit.{eq-eqb, le-ltb, eqb-true, ltb-true, ltb-false, eqb-false}
use Rattle.semantics.specs.Outcome.{Outcome, done, stop, onward, give}
use Rattle.semantics.specs.Code.{Atom, Row, row, Tree}
use Rattle.semantics_lent.specs.Form.{Parts, parts_of, atoms_before, atoms_found, atoms, row_here, Form, leaf_line}
use Rattle.semantics_lent.specs.Form.{if_line, loop_line, retain_line, release_line, end_line, no_line, form_of, formed}
use Rattle.semantics_lent.specs.Form.{in_range, tree_form}
use Rattle.lent_form.specs.Told.{run_told, run_from, faulty, counted, atoms_read, wants_of, then_trees, form_told}
use Rattle.lent_form.specs.Told.{parts_told, line_told, Passing, forgot, said, and_then, repeated, stepped}
use Rattle.std.specs.Prelude.{Option as Optional, Some, None, Result, Ok, Err}
use Rattle.lent_form.specs.declared.Fault.{Fault}
use Rattle.lent_form.specs.declared.Wants.TheVariants.{Exactly, Wrong}

-- ---- tests one after the other, without what they found

pub forgot_onward : {A B : Type 0} (m : Outcome ℕ A) (f : A → ℕ → Outcome ℕ B) (g : ℕ → Passing) →
    ((a : A) (s : ℕ) → forgot (f a s) ≡ g s) → forgot (onward f m) ≡ and_then (forgot m) g
unfolding onward
forgot_onward (done a s) f g h = h a s
forgot_onward (stop n s) f g h = refl

pub forgot_given : {A B : Type 0} (m : Outcome ℕ A) (f : A → B) → forgot (onward (λ a. give (f a)) m) ≡ forgot m
unfolding onward
forgot_given (done a s) f = refl
forgot_given (stop n s) f = refl

pub then_assoc : (o : Passing) (f g : ℕ → Passing) → and_then (and_then o f) g ≡ and_then o (λ p. and_then (f p) g)
then_assoc (done u p) f g = refl
then_assoc (stop n p) f g = refl

-- ---- atoms

shift_eqb : (p m k : ℕ) → eqb (p + 1 + m) (p + 1 + k) ≡ eqb m k
shift_eqb p m k = go (eqb m k) refl
  where
    go : (b : Bool) → eqb m k ≡ b → eqb (p + 1 + m) (p + 1 + k) ≡ b
    go true e = eq-eqb (p + 1 + m) (p + 1 + k) (omega (arith, eqb-true m k e))
    go false e = ne_eqb (p + 1 + m) (p + 1 + k) (λ f. eqb-false m k e (omega arith))

shift_ltb : (p m k : ℕ) → ltb (p + 1 + m) (p + 1 + k) ≡ ltb m k
shift_ltb p m k = go (ltb m k) refl
  where
    go : (b : Bool) → ltb m k ≡ b → ltb (p + 1 + m) (p + 1 + k) ≡ b
    go true e = lt-ltb (p + 1 + m) (p + 1 + k) (omega (arith, ltb-true m k e))
    go false e = le-ltb (p + 1 + m) (p + 1 + k) (omega (arith, ltb-false m k e))

module _ (rows : List Row) (arities : List (Option ℕ)) (over : Bool) where
  found_read : (n : Option ℕ) (o : Option (List Atom)) (p : ℕ) →
      forgot (atoms_found rows arities over n o p) ≡ said
      (counted (length rows) over p (run_told (p + 1) o) (wants_of n))
  found_read (some k) none p = refl
  found_read none none p = refl
  found_read none (some us) p = ap (λ (q : ℕ). done tt q) (omega arith)
  found_read (some k) (some us) p =
      let e : p + suc (length us) ≡ p + 1 + length us = omega arith in
      rw (e, shift_eqb p (length us) k, shift_ltb p (length us) k) (go (eqb (length us) k))
    where
      x : ℕ
      x =
          cond (ltb (length us) k && (over && eqb (p + 1 + length us) (length rows))) (length rows) p

      go : (b : Bool) → forgot (cond b (done us (p + 1 + length us)) (stop 29 x))
          ≡ said (cond b (Ok (p + 1 + length us)) (faulty x))
      go true = refl
      go false = refl

  pub atoms_agree : (n : Option ℕ) (p : ℕ) →
      forgot (atoms rows arities over n p) ≡ said (atoms_read rows over p (wants_of n))
  unfolding atoms atoms_read run_from
  atoms_agree n p =
      found_read n (atoms_before (drop (suc p) rows)) p
      ∙ rw (add-one p)

  wrong_read : (p : ℕ) → atoms_read rows over p Wrong ≡ faulty p
  unfolding atoms_read
  wrong_read p = go (run_from rows (p + 1))
    where
      go : (r : Optional ℕ) → counted (length rows) over p r Wrong ≡ faulty p
      go (Some q) = refl
      go None = refl

  -- ---- a line

  module _ (below next : ℕ → Outcome ℕ Tree) (p : ℕ) where
    abbrev B : ℕ → Passing
    B = λ s. forgot (below s)

    abbrev N : ℕ → Passing
    N = λ s. forgot (next s)

    -- behind its atoms
    with_trees : (r : Result ℕ Fault) (t : ℕ) →
        and_then (said r) (λ s. and_then (repeated t B s) N) ≡ stepped (then_trees (Some t) r) B N
    with_trees (Ok q) t = refl
    with_trees (Err e) t = refl

    then_atoms : (n : Option ℕ) (t : ℕ) (f : List Atom → ℕ → Outcome ℕ Tree) →
        ((us : List Atom) (s : ℕ) → forgot (f us s) ≡ and_then (repeated t B s) N) →
        forgot (onward f (atoms rows arities over n p)) ≡ stepped
        (then_trees (Some t) (atoms_read rows over p (wants_of n))) B N
    then_atoms n t f h =
        forgot_onward (atoms rows arities over n p) f (λ s. and_then (repeated t B s) N) h
        ∙ ap (λ (o : Passing). and_then o (λ s. and_then (repeated t B s) N)) (atoms_agree n p)
        ∙ with_trees (atoms_read rows over p (wants_of n)) t

    at_end : (r : Result ℕ Fault) → said r ≡ stepped (then_trees None r) B N
    at_end (Ok q) = refl
    at_end (Err e) = refl

    pub formed_step : (x : ℕ) (F : Form) →
        forgot (formed rows arities over below next x F p) ≡ stepped (form_told rows over p F) B N
    unfolding repeated
    formed_step x (leaf_line l n) = then_atoms n 0 _ (λ us s. forgot_given (next s) _)
    formed_step x if_line = then_atoms (some 1) 2 _ (λ us s.
        forgot_onward (below s) _ (λ q. and_then (B q) N) (λ a q.
        forgot_onward (below q) _ N (λ b r. forgot_given (next r) _))
        ∙ sym (then_assoc (B s) _ N ∙ ap (and_then (B s)) (λ i q. then_assoc (B q) (λ r. done tt r) N i)))
    formed_step x (loop_line k ps n) = then_atoms (some n) 1 _ (λ us s.
        forgot_onward (below s) _ N (λ a q. forgot_given (next q) _)
        ∙ sym (then_assoc (B s) (λ r. done tt r) N))
    formed_step x retain_line = then_atoms (some 0) 0 _ (λ us s. forgot_given (next s) _)
    formed_step x release_line = then_atoms (some 0) 0 _ (λ us s. forgot_given (next s) _)
    formed_step x end_line =
        forgot_given (atoms rows arities over (some 1) p) _ ∙ atoms_agree (some 1) p
        ∙ at_end (atoms_read rows over p (Exactly 1))
    formed_step x no_line = rw (wrong_read p)

  -- ---- trees

  pub no_level : (n p : ℕ) → forgot (tree_form rows arities over n zero p) ≡ stop 29 p
  unfolding tree_form
  no_level zero p = refl
  no_level (suc n) p = refl

  pub tree_past : (n levels p : ℕ) → length rows ≤ p → forgot (tree_form rows arities over n levels p) ≡ stop 29 p
  unfolding tree_form onward row_here
  tree_past zero levels p h = refl
  tree_past (suc n) zero p h = refl
  tree_past (suc n) (suc levels) p h = rw (le-ltb p (length rows) h)

  pub tree_step : (n levels p : ℕ) → p < length rows →
      forgot (tree_form rows arities over (suc n) (suc levels) p)
      ≡ stepped (line_told rows arities over p) (λ q. forgot (tree_form rows arities over n levels q))
      (λ q. forgot (tree_form rows arities over n (suc levels) q))
  unfolding tree_form onward row_here line_told
  tree_step n levels p h = rw (lt-ltb p (length rows) h) (go (parts_of r.kind r.operand))
    where
      r : Row
      r = get_or rows p (row 0 0)

      go : (o : Option Parts) →
          forgot (onward (λ (q : Parts). formed rows arities over (tree_form rows arities over n levels)
          (tree_form rows arities over n (suc levels)) q.first
          (form_of arities r.kind q)) (in_range rows arities over o p))
          ≡ stepped (parts_told rows arities over p r.kind o) (λ q. forgot (tree_form rows arities over n levels q))
          (λ q. forgot (tree_form rows arities over n (suc levels) q))
      go (some q) =
          formed_step (tree_form rows arities over n levels) (tree_form rows arities over n (suc levels)) p q.first
          (form_of arities r.kind q)
      go none = refl
