-- The parts of a loop.
use Rattle.prelude.specs.Kit.{ℕ, ◌<◌, ◌-◌, pred, arith, ℕ_discrete, true, false, Bool, cond, not, ◌&&◌, ◌||◌, ◌≡◌, refl, sym, ap, ◌∙◌}
use Rattle.prelude.specs.Kit.{fun_ext, List, [], ◌∷◌, eqb, ltb, length, get_or, set, get_or-set_other, get_or-set_same, ne_eqb}
use Rattle.prelude.specs.Kit.{eq-eqb, length-set, tag_of, OneOf, miss}
use Rattle.std.specs.Prelude as R
use Rattle.semantics.specs.Basics.{updated}
use Rattle.semantics.specs.Kinds.{loop_reads}
use Rattle.semantics.specs.Code as C
use Rattle.semantics.specs.Live.{Set, among}
use Rattle.semantics.specs.Annotate.{NameDepths, is_array}
use Rattle.semantics_lent.specs.Hold.{Holds, minus, spend, readable, set_aside, lending}
use Rattle.machine_code.specs.declared.Loop.{Loop}
use Rattle.machine_code.specs.declared.Loop.TheVariants as P
use Rattle.lent_counts.specs.Counted.{counted, set_of}
use Rattle.lent_counts.proofs.Laws.{minus_in}
use Rattle.lent_atoms.specs.Told.{meant, told}
use Rattle.lent_hold_trees.specs.Walk.{kind_of, atoms_of, name_of, array_of, may_read}
use Rattle.lent_hold_trees.specs.Walk.{lent_with, aside_of}

pub hands_none : (Γ : NameDepths) (l : List ℕ) → spend Γ [] (counted l) ≡ told true l
unfolding spend
hands_none Γ l = refl

-- ---- lent

or_false : (b : Bool) → b ≡ (b || false)
or_false true = refl
or_false false = refl

or_true : (b : Bool) → true ≡ (b || true)
or_true true = refl
or_true false = refl

pub lends : (l : List Bool) (x : ℕ) → x < length l → set_of (set l x true) ≡ lent_with (R.Some x) (set_of l)
lends l x h = fun_ext (λ n. go n (ℕ_discrete x n))
  where
    go : (n : ℕ) → Dec (x ≡ n) → get_or (set l x true) n false ≡ (get_or l n false || eqb x n)
    go n (yes p) = rw (← p, eq-eqb x x refl, get_or-set_same l x true false h) (or_true (get_or l x false))
    go n (no f) = rw (ne_eqb x n f, get_or-set_other l x n true false (λ p. f (sym p))) (or_false (get_or l n false))

-- the laws of a name that is lent
pub ruleset lends_laws = (lends, length-set)

-- ---- held

module _ (l : List ℕ) (x : ℕ) where
  pub none_less : get_or l x 0 ≡ 0 → minus x (counted l) ≡ counted l
  unfolding updated
  none_less z = fun_ext (λ n. go n (ℕ_discrete x n))
    where
      go : (n : ℕ) → Dec (x ≡ n) → cond (eqb x n) (pred (get_or l x 0)) (get_or l n 0) ≡ get_or l n 0
      go n (yes p) = rw (← p, eq-eqb x x refl, z) refl
      go n (no f) = rw (ne_eqb x n f) refl

  pub one_less : 0 < get_or l x 0 → x < length l → minus x (counted l) ≡ counted (set l x (get_or l x 0 - 1))
  one_less z h = sym (minus_in l x h (get_or l x 0 - 1) (omega (arith, z)))

-- the laws of a hold that is set aside
pub ruleset aside_laws = (none_less, one_less, length-set)

-- ---- by the loop

module _ (Γ : NameDepths) (B : Set) where
  and_true : (b : Bool) → (b && true) ≡ b
  and_true true = refl
  and_true false = refl

  name_read : (a : C.Atom) (H : Holds) → readable Γ B H (a ∷ []) ≡ may_read (name_of Γ a) B H
  name_read (C.number z) H = refl
  name_read (C.name x) H = go (is_array Γ x)
    where
      go : (b : Bool) → ((not b || (B x || ltb 0 (H x))) && true) ≡ may_read (cond b (R.Some x) R.None) B H
      go true = and_true (B x || ltb 0 (H x))
      go false = refl

  name_aside : (a : C.Atom) (H : Holds) → set_aside Γ B (a ∷ []) H ≡ aside_of (name_of Γ a) B H
  name_aside (C.number z) H = refl
  name_aside (C.name x) H = go (is_array Γ x)
    where
      at : (c : Bool) → cond (not c) (minus x H) H ≡ cond c H (minus x H)
      at true = refl
      at false = refl

      go : (b : Bool) → cond (b && not (B x)) (minus x H) H ≡ aside_of (cond b (R.Some x) R.None) B H
      go true = at (B x)
      go false = refl

  name_lent : (a : C.Atom) → lending Γ (a ∷ []) B ≡ lent_with (name_of Γ a) B
  unfolding among
  name_lent (C.number z) = fun_ext (λ n. sym (or_false (B n)))
  name_lent (C.name x) = fun_ext (λ n. go n (ℕ_discrete x n) (is_array Γ x) refl)
    where
      go : (n : ℕ) → Dec (x ≡ n) → (b : Bool) → is_array Γ x ≡ b →
          (B n || ((eqb x n || false) && is_array Γ n)) ≡ lent_with (cond b (R.Some x) R.None) B n
      go n (yes p) true e = rw (eq-eqb x n p) (ap (λ (b : Bool). B n || b) (ap (is_array Γ) (sym p) ∙ e))
      go n (yes p) false e =
          rw (eq-eqb x n p) (ap (λ (b : Bool). B n || b) (ap (is_array Γ) (sym p) ∙ e) ∙ sym (or_false (B n)))
      go n (no f) true e = rw (ne_eqb x n f) refl
      go n (no f) false e = rw (ne_eqb x n f) (sym (or_false (B n)))

  pub read_same : (l : Loop) (H : Holds) →
      readable Γ B H (loop_reads (kind_of l) (atoms_of l)) ≡ may_read (array_of Γ l) B H
  read_same (P.Map p a) H = name_read (meant a) H
  read_same (P.Filter p a) H = name_read (meant a) H
  read_same (P.Reduce p q s a) H = name_read (meant a) H
  read_same (P.Rewrite p a) H = refl

  pub aside_same : (l : Loop) (H : Holds) →
      set_aside Γ B (loop_reads (kind_of l) (atoms_of l)) H ≡ aside_of (array_of Γ l) B H
  aside_same (P.Map p a) H = name_aside (meant a) H
  aside_same (P.Filter p a) H = name_aside (meant a) H
  aside_same (P.Reduce p q s a) H = name_aside (meant a) H
  aside_same (P.Rewrite p a) H = refl

  pub lent_same : (l : Loop) → lending Γ (loop_reads (kind_of l) (atoms_of l)) B ≡ lent_with (array_of Γ l) B
  unfolding among
  lent_same (P.Map p a) = name_lent (meant a)
  lent_same (P.Filter p a) = name_lent (meant a)
  lent_same (P.Reduce p q s a) = name_lent (meant a)
  lent_same (P.Rewrite p a) = fun_ext (λ n. sym (or_false (B n)))
