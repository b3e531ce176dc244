-- The walk over a tree's lines: what is left of the definition at each line.
use Rattle.prelude.specs.Kit.{ℕ, ◌≤◌, ◌+◌, ◌<◌, ◌-◌, suc, zero, arith, true, false, Bool, cond, ◌≡◌, refl, ◌∙◌, sym, ap}
use Rattle.prelude.specs.Kit.{some, none, Option, List, eqb, ltb, ℤ, length, get_or, drop}
use Rattle.semantics.specs.Outcome.{done, stop}
use Rattle.semantics.specs.Code.{Atom, Row, row}
use Rattle.semantics_lent.specs.Form.{Parts, parts_of, paired, arities_of, atoms_before, form_of}
use Rattle.lent_form.specs.Told.{run_told, run_from, faulty, counted, fault_at, atoms_read, then_trees, parts_told}
use Rattle.lent_form.specs.Told.{wants_in, line_told, Passing, and_then, repeated, stepped}
use Rattle.lent_form.specs.Told.{Walked, tree_passed}
use Rattle.std.specs.Prelude.{Option as Optional, Some, None, Result, Ok, Err}
use Rattle.lent_form.specs.declared.Fault.{Fault}
use Rattle.lent_form.specs.declared.Wants.{Wants}
use Rattle.lent_form.specs.declared.Wants.TheVariants.{Exactly, Any, Wrong}
use Rattle.lent_form.specs.declared.Line.{Line}
use Rattle.lent_form.proofs.Rows.{paired_length}
use Rattle.lent_form.proofs.Functions.{repeated_goes, repeated_stops, repeated_ends}
use Rattle.lent_form.proofs.Trees.{no_level, tree_past, tree_step}

-- ---- a line is passed to a later one

abbrev pub Later : ℕ → Result Line Fault → Type 0
Later p (Ok l) = p < l.next
Later p (Err e) = Unit {0}

module _ (rows : List Row) (arities : List (Option ℕ)) (over : Bool) (p : ℕ) where
  read_later : (w : Wants) (t : Optional ℕ) → Later p (then_trees t (atoms_read rows over p w))
  unfolding atoms_read run_from
  read_later w t = go w (atoms_before (drop (p + 1) rows))
    where
      by : (q : ℕ) (b : Bool) (x : ℕ) → p < q → Later p (then_trees t (cond b (Ok q) (faulty x)))
      by q true x g = g
      by q false x g = tt

      go : (v : Wants) (o : Option (List Atom)) →
          Later p (then_trees t (counted (length rows) over p (run_told (p + 1) o) v))
      go v none = tt
      go (Exactly n) (some us) = by (p + 1 + length us) (eqb (p + 1 + length us) (p + 1 + n))
          (fault_at (length rows) over p (ltb (p + 1 + length us) (p + 1 + n)) (p + 1 + length us)) (omega arith)
      go Any (some us) = omega arith
      go Wrong (some us) = tt

  pub line_later : Later p (line_told rows arities over p)
  unfolding line_told
  line_later = go (parts_of r.kind r.operand)
    where
      r : Row
      r = get_or rows p (row 0 0)

      go : (o : Option Parts) → Later p (parts_told rows arities over p r.kind o)
      go (some q) = read_later (wants_in (form_of arities r.kind q)) _
      go none = tt

-- ---- what is left

pub record Rest (lines : ℕ) (passed : ℕ → ℕ → Passing) (at p n : ℕ) : Type 0 where
  pub fuel : ℕ
  pub enough : lines ≤ p + fuel
  pub same : passed n at ≡ passed fuel p

-- the walk that began at a line is at line p
pub record Going (lines : ℕ) (passed : ℕ → ℕ → Passing) (at p : ℕ) : Type 0 where
  pub behind : at ≤ p
  pub left : (n : ℕ) → lines ≤ at + n → Rest lines passed at p n

pub going_starts : (lines : ℕ) (passed : ℕ → ℕ → Passing) (at : ℕ) → Going lines passed at at
going_starts lines passed at = record {
  behind = omega arith;
  left = λ n h. record { fuel = n; enough = h; same = refl };
}

-- ---- the trees of a line

-- i of t trees have been passed, of which the first begins at p₀ and the next at p
pub record Among (lines : ℕ) (passed : ℕ → ℕ → Passing) (t p₀ i p : ℕ) : Type 0 where
  pub behind : p₀ ≤ p
  pub left : (n : ℕ) → lines ≤ p₀ + n → repeated t (passed n) p₀ ≡ repeated (t - i) (passed n) p

module _ (lines : ℕ) (passed : ℕ → ℕ → Passing) (t p₀ i p : ℕ) (among : Among lines passed t p₀ i p) (h : i < t) where
  pub among_more : (q : ℕ) → Walked lines passed p (Ok q) → Among lines passed t p₀ (i + 1) q
  among_more q walked = record {
    behind = omega (arith, among.behind, walked.rises);
    left = λ n g.
        repeated_goes (passed n) t p₀ i p (among.left n g) h q (sym (walked.is n (omega (arith, among.behind))));
  }

  among_stops : (e : Fault) → Walked lines passed p (Err e) → (n : ℕ) → lines ≤ p₀ + n →
      repeated t (passed n) p₀ ≡ stop 29 e.line
  among_stops e walked n g =
      repeated_stops (passed n) t p₀ i p (among.left n g) h e.line (sym (walked.is n (omega (arith, among.behind))))

among_ends : (lines : ℕ) (passed : ℕ → ℕ → Passing) (t p₀ i q : ℕ) → Among lines passed t p₀ i q → t ≤ i → (n : ℕ) →
    lines ≤ p₀ + n → repeated t (passed n) p₀ ≡ done tt q
among_ends lines passed t p₀ i q among h n g = repeated_ends (passed n) t p₀ i q (among.left n g) h

module _ (ks : List ℕ) (os : List ℤ) (even : length ks ≡ length os) (over : Bool) (levels : ℕ) where
  abbrev tree : ℕ → ℕ → Passing
  tree = λ n. tree_passed ks os over n levels

  abbrev inner : ℕ → ℕ → Passing
  inner = λ n. tree_passed ks os over n (levels - 1)

  abbrev line_at : ℕ → Result Line Fault
  line_at p = line_told (paired ks os) (arities_of (paired ks os)) over p

  pub none_left : (at : ℕ) → levels ≡ 0 → Walked (length ks) tree at (faulty at)
  unfolding tree_passed
  none_left at e = record {
    is = λ n h. rw e (sym (no_level (paired ks os) (arities_of (paired ks os)) over n at));
    rises = tt;
  }

  module _ (at p : ℕ) (going : Going (length ks) tree at p) where
    -- past the last line
    pub walk_past : length ks ≤ p → Walked (length ks) tree at (faulty p)
    unfolding tree_passed
    walk_past h = record {
      is = λ n g.
          let rest = going.left n g in
          sym (rest.same ∙ tree_past (paired ks os) (arities_of (paired ks os)) over rest.fuel levels p
          (omega (arith, paired_length ks os even)));
      rises = tt;
    }

    module _ (some : levels ≡ 0 → ⊥) (h : p < length ks) where
      step : (n : ℕ) → tree (suc n) p ≡ stepped (line_at p) (inner n) (tree n)
      unfolding tree_passed
      step n = go levels some
        where
          go : (m : ℕ) → (m ≡ 0 → ⊥) →
              tree_passed ks os over (suc n) m p
              ≡ stepped (line_at p) (tree_passed ks os over n (m - 1)) (tree_passed ks os over n m)
          go zero f = absurd (f refl)
          go (suc m) f =
              let e : suc m - 1 ≡ m = omega arith in
              rw e (tree_step (paired ks os) (arities_of (paired ks os)) over n m p
              (omega (arith, paired_length ks os even)))

      -- by the line that stands there
      onward_by : (n : ℕ) → length ks ≤ at + n →
          (m : ℕ) × (length ks ≤ p + suc m) × (tree n at ≡ stepped (line_at p) (inner m) (tree m))
      onward_by n g = go rest.fuel rest.enough rest.same
        where
          rest : Rest (length ks) tree at p n
          rest = going.left n g

          go : (f : ℕ) → length ks ≤ p + f → tree n at ≡ tree f p →
              (m : ℕ) × (length ks ≤ p + suc m) × (tree n at ≡ stepped (line_at p) (inner m) (tree m))
          go zero e s = absurd (omega arith)
          go (suc m) e s = (m, e, s ∙ step m)

      pub walk_fails : (e : Fault) → Err e ≡ line_at p → Walked (length ks) tree at (Err e)
      walk_fails e told = record {
        is = λ n g. let o = onward_by n g in sym (o.2 ∙ rw (← told));
        rises = tt;
      }

      module _ (l : Line) (told : Ok l ≡ line_at p) where
        pub is_later : p < l.next
        is_later = rw (← told) at (line_later (paired ks os) (arities_of (paired ks os)) over p)

        pub walk_ends : l.trees ≡ None → Walked (length ks) tree at (Ok l.next)
        walk_ends f = record {
          is = λ n g. let o = onward_by n g in sym (o.2 ∙ rw (← told, f));
          rises = omega (arith, going.behind, is_later);
        }

        -- among the trees of the line
        module _ (t : ℕ) (f : l.trees ≡ Some t) where
          pub walk_on : (i q : ℕ) → Among (length ks) inner t l.next i q → t ≤ i → Going (length ks) tree at q
          walk_on i q among h = record {
            behind = omega (arith, going.behind, is_later, among.behind);
            left = λ n g. let o = onward_by n g in record {
              fuel = o.0;
              enough = omega (arith, o.1, is_later, among.behind);
              same =
                  o.2 ∙ rw (← told, f)
                  (ap (λ (x : Passing). and_then x (tree o.0))
                  (among_ends (length ks) inner t l.next i q among h o.0 (omega (arith, o.1, is_later))));
            };
          }

          pub walk_stops : (i q : ℕ) → Among (length ks) inner t l.next i q → i < t → (e : Fault) →
              Walked (length ks) inner q (Err e) → Walked (length ks) tree at (Err e)
          walk_stops i q among h e walked = record {
            is = λ n g. let o = onward_by n g in
                sym (o.2 ∙ rw (← told, f)
                (ap (λ (x : Passing). and_then x (tree o.0))
                (among_stops (length ks) inner t l.next i q among h e walked o.0 (omega (arith, o.1, is_later)))));
            rises = tt;
          }
