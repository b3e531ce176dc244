-- Lines with their atoms.
use Rattle.prelude.specs.Kit.{ℕ, ◌≤◌, ◌+◌, ◌<◌, suc, zero, ◌%◌, ◌/◌, arith, true, false, Bool, cond, ◌&&◌, false≢true}
use Rattle.prelude.specs.Kit.{◌≡◌, refl, ◌∙◌, sym, ap, none, Option, List, [], ◌∷◌, map, eqb, ltb, leb, ℤ, pos, length}
use Rattle.prelude.specs.Kit.{get_or, get_or-map, ne_eqb, lt-ltb, eq-eqb, le-ltb, eqb-true, leb-true, eqb-false}
use Rattle.prelude.specs.Kit.{to_z-of_z}
use Rattle.semantics.specs.Kinds.{call}
use Rattle.semantics_lent.specs.Form.{paired, Parts, some_parts, no_line, forms, form_of, call_form, leaf_line}
use Rattle.lent_form.specs.Told.{limits_of, natural, within, run_from, faulty, counted, atoms_read, arity_in}
use Rattle.lent_form.specs.Told.{wants_list, wanted, trees_behind, wants_in, wants_of, trees_in, then_trees, then_fits}
use Rattle.lent_form.specs.Told.{parts_told, line_told, head_parts, head_told, call_wants, Known}
use Rattle.std.specs.Prelude.{Option as Optional, Some, None}
use Rattle.lent_form.specs.declared.Wants.{Wants}
use Rattle.lent_form.specs.declared.Wants.TheVariants.{Exactly, Wrong}
use Rattle.lent_form.proofs.Tables.{both_hold}
use Rattle.lent_form.proofs.Operands.{parts, parts_natural}
use Rattle.lent_form.proofs.Rows.{paired_length, paired_at}

-- ---- a line passed with its atoms

pub read_so : (ks : List ℕ) (os : List ℤ) → length ks ≡ length os → (over : Bool) (p : ℕ) (w : Wants) →
    atoms_read (paired ks os) over p w ≡ counted (length ks) over p (run_from (paired ks os) (p + 1)) w
unfolding atoms_read
read_so ks os even over p w = rw (paired_length ks os even)

-- ---- lines by kind

-- the trees of a line, but for a call's
abbrev trees_with : Optional ℕ → List (Optional ℕ)
trees_with t =
    Some 0 ∷ Some 0 ∷ Some 0 ∷ Some 0 ∷ Some 0 ∷ Some 0 ∷ Some 0 ∷ Some 0 ∷ t ∷ Some 0 ∷ Some 0 ∷ Some 0 ∷
    Some 2 ∷ Some 1 ∷ Some 0 ∷ Some 0 ∷ None ∷ Some 0 ∷ Some 0 ∷ Some 1 ∷ Some 1 ∷ Some 1 ∷ []

module _ (arities : List (Option ℕ)) where
  call_trees : (f : ℕ) → trees_in (call_form arities f) ≡ Some 0
  call_trees f = go (ltb f (length arities))
    where
      go : (b : Bool) → trees_in (cond b (leaf_line (call f) (get_or arities f none)) no_line) ≡ Some 0
      go true = refl
      go false = refl

  call_wanted : (f : ℕ) → wants_in (call_form arities f) ≡ call_wants arities f
  call_wanted f = go (ltb f (length arities))
    where
      go : (b : Bool) → wants_in (cond b (leaf_line (call f) (get_or arities f none)) no_line)
          ≡ cond b (wants_of (get_or arities f none)) Wrong
      go true = refl
      go false = refl

  pub trees_by_kind : (k : ℕ) (q : Parts) → trees_in (form_of arities k q) ≡ trees_behind k
  unfolding trees_behind
  trees_by_kind k q =
      sym (get_or-map trees_in (forms arities q) k no_line)
      ∙ ap (λ (t : Optional ℕ). get_or (trees_with t) k (Some 0)) (call_trees q.second)

  wants_by_kind : (k : ℕ) (q : Parts) →
      wants_in (form_of arities k q) ≡ get_or (wants_list (call_wants arities q.second) q.second) k Wrong
  wants_by_kind k q =
      sym (get_or-map wants_in (forms arities q) k no_line)
      ∙ ap (λ (w : Wants). get_or (wants_list w q.second) k Wrong) (call_wanted q.second)

-- a line that is no call
wants_any : (w v : Wants) (s k : ℕ) → (k ≡ 8 → ⊥) → get_or (wants_list w s) k Wrong ≡ get_or (wants_list v s) k Wrong
wants_any w v s zero h = refl
wants_any w v s (suc zero) h = refl
wants_any w v s (suc (suc zero)) h = refl
wants_any w v s (suc (suc (suc zero))) h = refl
wants_any w v s (suc (suc (suc (suc zero)))) h = refl
wants_any w v s (suc (suc (suc (suc (suc zero))))) h = refl
wants_any w v s (suc (suc (suc (suc (suc (suc zero)))))) h = refl
wants_any w v s (suc (suc (suc (suc (suc (suc (suc zero))))))) h = refl
wants_any w v s (suc (suc (suc (suc (suc (suc (suc (suc zero)))))))) h = absurd (h refl)
wants_any w v s (suc (suc (suc (suc (suc (suc (suc (suc (suc k))))))))) h = refl

-- a call's function in range
called_small : (n : ℕ) → within n (limits_of 8) ≡ true → n / 256 % 256 < 32
unfolding limits_of
called_small n e =
    let h = (both_hold (leb (n % 256) 255) _ e).1 in
    omega (arith, leb-true (n / 256 % 256) 31 (both_hold (leb (n / 256 % 256) 31) (leb (n / 65536) 0) h).0)

pub wants_found : (arities : List (Option ℕ)) (table : List Wants) → Known table arities → (k n : ℕ) →
    within n (limits_of k) ≡ true → wanted k n table ≡ wants_in (form_of arities k (parts n))
unfolding wanted
wants_found arities table known k n e = sym (wants_by_kind arities k (parts n) ∙ go (eqb k 8) refl)
  where
    s : ℕ
    s = n / 256 % 256

    go : (b : Bool) → eqb k 8 ≡ b →
        get_or (wants_list (call_wants arities s) s) k Wrong ≡ get_or (wants_list (arity_in table s) s) k Wrong
    go true f =
        let g = eqb-true k 8 f in
        ap (λ (w : Wants). get_or (wants_list w s) k Wrong) (sym (known.at s (called_small n (rw g at e))))
    go false f = wants_any _ _ s k (eqb-false k 8 f)

module _ (ks : List ℕ) (os : List ℤ) (even : length ks ≡ length os) (arities : List (Option ℕ)) (over : Bool)
    (p : ℕ) where
  -- the kind and the operand of line p
  abbrev k : ℕ
  k = get_or ks p 0

  abbrev n : ℕ
  n = natural (get_or os p (pos 0))

  by_parts : line_told (paired ks os) arities over p
      ≡ parts_told (paired ks os) arities over p k (some_parts (within n (limits_of k)) (parts n))
  unfolding line_told
  by_parts = rw (paired_at ks os p even, parts_natural k (get_or os p (pos 0)))

  pub line_fails : within n (limits_of k) ≡ false → line_told (paired ks os) arities over p ≡ faulty p
  line_fails e = by_parts ∙ rw e

  pub line_read : (table : List Wants) → Known table arities → within n (limits_of k) ≡ true →
      line_told (paired ks os) arities over p
      ≡ then_trees (trees_behind k) (atoms_read (paired ks os) over p (wanted k n table))
  line_read table known e =
      by_parts ∙ rw (e, trees_by_kind arities k (parts n), ← wants_found arities table known k n e)

-- ---- lines of functions and of parameters

module _ (ks : List ℕ) (os : List ℤ) (even : length ks ≡ length os) (over : Bool) (k p : ℕ) where
  pub head_past : length ks ≤ p → head_told (paired ks os) over k p ≡ faulty p
  unfolding head_told
  head_past h = rw (paired_length ks os even, le-ltb p (length ks) h)

  module _ (h : p < length ks) where
    pub head_other : (get_or ks p 0 ≡ k → ⊥) → head_told (paired ks os) over k p ≡ faulty p
    unfolding head_told
    head_other f =
        rw (paired_length ks os even, lt-ltb p (length ks) h, paired_at ks os p even, ne_eqb (get_or ks p 0) k f)

    module _ (same : get_or ks p 0 ≡ k) where
      abbrev operand : ℕ
      operand = natural (get_or os p (pos 0))

      head_by : head_told (paired ks os) over k p
          ≡ head_parts (paired ks os) over p (some_parts (within operand (limits_of k)) (parts operand))
      unfolding head_told
      head_by =
          rw (
            paired_length ks os even,
            lt-ltb p (length ks) h,
            paired_at ks os p even,
            eq-eqb (get_or ks p 0) k same,
            parts_natural k (get_or os p (pos 0)),
          )

      pub head_fails : within operand (limits_of k) ≡ false → head_told (paired ks os) over k p ≡ faulty p
      head_fails e = head_by ∙ rw e

      pub head_read : within operand (limits_of k) ≡ true →
          head_told (paired ks os) over k p
          ≡ then_fits (operand % 256) (atoms_read (paired ks os) over p (Exactly 0))
      head_read e = head_by ∙ rw e

pub ruleset line_laws = (line_fails, to_z-of_z)

pub ruleset head_laws = (head_past, head_other, head_fails, head_read, to_z-of_z)
