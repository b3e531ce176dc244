-- What the checks establish of a function: its tree is well formed; with the array parameters lent that it borrows, it
-- is given one hold for each other.
use Rattle.prelude.specs.Kit.{ℕ, ◌≤◌, ◌+◌, ◌<◌, suc, zero, min, arith, dec_lt, true, false, Bool, cond, ◌&&◌, not}
use Rattle.prelude.specs.Kit.{false≢true, and-false, ◌≡◌, refl, ◌∙◌, sym, ap, inl, inr, List, [], map, ltb}
use Rattle.prelude.specs.Kit.{length, get_or, get_or-eq_default, length-map, lt-ltb, ltb-true}
use Rattle.semantics.specs.Basics.{occurrences, ◌∈◌}
use Rattle.semantics.specs.Syntax.{Function, Script}
use Rattle.semantics.specs.Kinds.{Borrowing, picked}
use Rattle.semantics.specs.Code.{Atom, number, name, Tree, end}
use Rattle.semantics.specs.Normal.{Meanings, fresh, atom, normal, normal_body, parameter_names}
use Rattle.semantics.specs.Live.{Set, empty, just, uses}
use Rattle.semantics.specs.Borrow.{spent, Table, borrows, borrowed}
use Rattle.semantics.specs.Annotate.{NameDepths, atom_depth, dying, Style, annotate, tree_depths}
use Rattle.semantics.specs.Annotate.{parameter_depths_from, result_of, depths_of, owned_depths, annotated_in}
use Rattle.semantics.specs.Machine.{program_in, program}
use Rattle.laws.specs.Tests.{both_hold, say_and}
use Rattle.discipline.proofs.machine.Discipline as D
use Rattle.discipline.proofs.machine.Discipline.{Known}
use Rattle.discipline.proofs.normal.Agree.{AtomBelow, below_more}
use Rattle.discipline.proofs.normal.Parameters.{parameters_below}
use Rattle.soundness.proofs.annotation.Typed.{Functions, Typed}
use Rattle.soundness.proofs.annotation.Held.{Few, free, free_or, held, held_le, held_empty}
use Rattle.soundness.proofs.annotation.Formed.{Shallower, Within, Formed, live_seen}
use Rattle.soundness.proofs.annotation.LoopsFit.{functions_of}
use Rattle.soundness.proofs.annotation.Sparing.{Spares, formed_spares, spares_releases}
use Rattle.soundness.proofs.annotation.Spared.{annotated_spares}
use Rattle.soundness.proofs.annotation.Lending.{Without, Lends}
use Rattle.soundness.proofs.annotation.Tables.{Off, table, lines_table, table_off}
use Rattle.soundness.proofs.annotation.Fitted.{MeaningsFit, Fitted, atom_fitted, typed_fitted}
use Rattle.soundness.proofs.annotation.NormalFormed.{InScope, lines_formed}
use Rattle.soundness.proofs.annotation.Parameters.{written, Distinct, written_depth, parameter_depth}
use Rattle.soundness.proofs.annotation.Parameters.{arrays_at, arrays_at_once, DepthsFrom}
use Rattle.soundness.proofs.annotation.Parameters.{same_arrays, first_known, names_from}

below_known : (u : Atom) (n : ℕ) → AtomBelow u n → Known u (λ y. ltb y n)
below_known (number z) n h = tt
below_known (name x) n h = lt-ltb x n h

held_array : (Γ : NameDepths) (A : Set) (n : ℕ) → A n ≡ true → held Γ A n ≡ min 1 (Γ n)
unfolding held
held_array Γ A n e = rw e (by (Γ n))
  where
    by : (d : ℕ) → cond (ltb 0 d) 1 0 ≡ min 1 d
    by zero = refl
    by (suc d) = rw (lt-ltb 0 (suc d) (omega arith)) (omega arith)

pub none_lent : (n : ℕ) → free [] n ≡ 1
unfolding occurrences
none_lent n = omega (arith, free_or [] n)

-- the functions of a script
abbrev pub functions_in : Script → Functions
functions_in fs = functions_of (program fs)

-- what the checks establish of a function
pub record Accepted (fs : Script) (g : Function) : Type 0 where
  pub typed : Typed (functions_in fs) g.body (written g.parameters (λ _. 0)) g.result
  pub distinct : Distinct g.parameters (λ _. false)
  pub few : length g.parameters + fresh g.body ≤ 256

module _ (fs : Script) (g : Function) (ok : Accepted fs g) where
  abbrev F : Functions
  F = functions_in fs

  abbrev Γ : NameDepths
  Γ = depths_of fs g

  abbrev arity : ℕ
  arity = length g.parameters

  abbrev depths : List ℕ
  depths = map (λ x. x.depth) g.parameters

  -- the parameters' names: their atoms and their depths
  abbrev μ : Meanings
  μ = parameter_names g.parameters 0

  abbrev δ : ℕ → ℕ
  δ = written g.parameters (λ _. 0)

  -- the table of the parameters alone
  abbrev Γ₀ : NameDepths
  Γ₀ = parameter_depths_from g.parameters 0

  -- ---- the depths of the new names

  -- they are those after the body's lines
  depths_table : Γ ≡ table (result_of fs) g.body μ arity Γ₀
  unfolding depths_of normal_body normal tree_depths
  depths_table = lines_table (result_of fs) g.body μ arity (end (atom g.body μ arity)) Γ₀

  -- a name that the body does not bind
  depth_off : (y : ℕ) → Off y arity (fresh g.body) → Γ y ≡ get_or depths y 0
  depth_off y h =
      (λ i. depths_table i y) ∙ table_off (result_of fs) g.body μ arity Γ₀ y h
      ∙ parameter_depth g.parameters 0 y y (omega arith)

  none_past : (y : ℕ) → arity ≤ y → get_or depths y 0 ≡ 0
  none_past y h = get_or-eq_default depths 0 {n = y} (omega (arith, length-map g.parameters (λ x. x.depth)))

  pub few_names : Few Γ
  few_names y h = depth_off y (λ p q. omega (arith, ok.few)) ∙ none_past y (omega (arith, ok.few))

  pub parameters_fit : (i : ℕ) → i < arity → Γ i ≡ get_or depths i 0
  parameters_fit i h = depth_off i (λ p q. omega arith)

  -- ---- the tree is well formed

  -- the parameters' new names
  abbrev given : Set
  given = λ y. ltb y arity

  pub given_within : Within given arity
  given_within = record { below = λ y e. ltb-true y arity e }

  meanings_first : MeaningsFit μ δ arity Γ₀
  meanings_first = record {
    below = λ y. below_more (μ y) (omega arith) (parameters_below g.parameters 0 y);
    depth = λ y. written_depth g.parameters (λ _. false) (λ _. 0) 0 y ok.distinct refl refl;
  }

  atom_parameter : (u : Atom) → AtomBelow u arity → atom_depth Γ u ≡ atom_depth Γ₀ u
  atom_parameter (number z) h = refl
  atom_parameter (name x) h = parameters_fit x h ∙ sym (parameter_depth g.parameters 0 x x (omega arith))

  in_scope : InScope F Γ μ δ arity given
  in_scope = record {
    meanings = record {
      below = meanings_first.below;
      depth = λ y. atom_parameter (μ y) (meanings_first.below y) ∙ meanings_first.depth y;
    };
    known = λ y. below_known (μ y) arity (meanings_first.below y);
    within = given_within;
  }

  fitted : Fitted F Γ g.body δ g.result arity
  unfolding program_in
  fitted =
      typed_fitted F g.body μ δ g.result arity Γ₀ Γ ok.typed meanings_first
      (record { same = λ y p q i. depths_table i y })

  pub formed : Formed F Γ (normal_body g) given arity g.result
  unfolding normal_body normal
  formed =
      let last = atom_fitted F Γ g.body μ δ g.result arity fitted in_scope.meanings in
      lines_formed F Γ g.body μ δ g.result arity given (end (atom g.body μ arity))
      g.result ok.few fitted in_scope
      (λ R more within seen. (seen, last))

  -- what the body uses is given
  pub uses_given : (n : ℕ) → uses (normal_body g) n ≡ true → given n ≡ true
  uses_given n e = elim ((live_seen F Γ (normal_body g) given empty arity g.result formed).either n e) [
    | inl q ↦ q
    | inr q ↦ absurd (false≢true q)
  ]

  -- they are the names 0, 1, ..
  pub given_same : given ≡ just (names_from 0 arity)
  given_same = sym (first_known arity)

  pub depths_given : DepthsFrom Γ depths 0
  depths_given = record {
    at = λ i h. ap Γ (let z : 0 + i ≡ i = omega arith in z)
        ∙ parameters_fit i (omega (arith, h, length-map g.parameters (λ x. x.depth)));
  }

  pub many : length depths ≡ arity
  many = length-map g.parameters (λ x. x.depth)

  pub arrays_given : (at : ℕ → Bool) → arrays_at at depths 0 ≡ D.holds_of Γ (picked at 0 (names_from 0 arity))
  arrays_given at = sym (ap (λ (k : ℕ). D.holds_of Γ (picked at 0 (names_from 0 k))) (sym many)
      ∙ same_arrays Γ at depths 0 depths_given)

  -- ---- the annotated tree: g has number f and spends none of the parameters that it borrows

  module _ (style : Style) (f : ℕ)
      (kept : (i : ℕ) → borrows (borrowed fs) f i ≡ true →
      spent (borrows (borrowed fs)) (normal_body g) i ≡ false) where
    abbrev T : Table
    T = borrowed fs

    abbrev β : Borrowing
    β = borrows T

    -- its borrowed parameters are lent, and annotated like numbers
    abbrev lent : Set
    lent = λ y. given y && β f y

    abbrev Γ' : NameDepths
    Γ' = owned_depths fs T f g

    abbrev body : Tree
    body = annotated_in style fs T f g

    -- the parameters that it borrows, and the others
    abbrev lent_arrays : List ℕ
    lent_arrays = arrays_at (β f) depths 0

    abbrev given_owned : List ℕ
    given_owned = D.holds_of Γ (picked (λ i. not (β f i)) 0 (names_from 0 arity))

    abbrev owned_arrays : List ℕ
    owned_arrays = arrays_at (λ i. not (β f i)) depths 0

    lent_within : Within lent arity
    lent_within = record { below = λ y e. ltb-true y arity (both_hold (given y) (β f y) e).0 }

    pub owned : Without lent Γ Γ'
    unfolding owned_depths
    owned = record {
      numbers = λ y e. ap (λ (b : Bool). cond b 0 (Γ y)) e;
      others = λ y e. ap (λ (b : Bool). cond b 0 (Γ y)) e;
    }

    pub under : Shallower Γ' Γ
    under = record { most = λ y. by y (lent y) refl; same = λ y h. alike y h (lent y) refl }
      where
        by : (y : ℕ) (b : Bool) → lent y ≡ b → Γ' y ≤ Γ y
        by y true e = omega (arith, owned.numbers y e)
        by y false e = omega (arith, owned.others y e)

        alike : (y : ℕ) → 0 < Γ' y → (b : Bool) → lent y ≡ b → Γ y ≡ Γ' y
        alike y h true e = absurd (omega (arith, h, owned.numbers y e))
        alike y h false e = sym (owned.others y e)

    pub few_owned : Few Γ'
    few_owned y h = omega (arith, under.most y, few_names y h)

    pub spares : Spares β lent body
    unfolding annotated_in
    spares =
        let t = normal_body g in
        spares_releases β lent (dying Γ' given (uses t)) (annotate style β Γ' t empty)
        (annotated_spares β lent style Γ' owned.numbers t empty
        (formed_spares β lent F Γ t given arity g.result formed lent_within (λ y e. by y (lent y) refl e)))
      where
        by : (y : ℕ) (b : Bool) → lent y ≡ b → spent β (normal_body g) y ≡ true → b ≡ false
        by y true q e = absurd (false≢true (sym (kept y (both_hold (given y) (β f y) q).1) ∙ e))
        by y false q e = refl

    -- the arrays among the borrowed parameters are lent
    pub lends : Lends lent Γ [] lent_arrays
    unfolding occurrences
    lends = record {
      more = λ y h. absurd (omega (arith, h));
      arrays = λ y e d.
          let both = both_hold (given y) (β f y) e in
          omega (arith, d, once y true both.1, parameters_fit y (ltb-true y arity both.0));
      others = λ y e h. absurd (by y (β f y) refl e h);
    }
      where
        once : (y : ℕ) (b : Bool) → β f y ≡ b →
            occurrences y lent_arrays ≡ cond b (min 1 (get_or depths y 0)) 0
        once y b e =
            arrays_at_once (β f) depths 0 y y (omega arith)
            ∙ ap (λ (c : Bool). cond c (min 1 (get_or depths y 0)) 0) e

        by : (y : ℕ) (b : Bool) → β f y ≡ b → lent y ≡ false → y ∈ lent_arrays → ⊥
        by y false q e h = omega (arith, h, once y false q)
        by y true q e h = elim (dec_lt y arity) [
          | yes d ↦ false≢true (sym e ∙ say_and (given y) (β f y) (lt-ltb y arity d) q)
          | no d ↦ omega (arith, h, once y true q, none_past y (omega arith))
        ]

    -- an array parameter that is not borrowed holds one reference
    pub given_held : (y : ℕ) → occurrences y owned_arrays ≡ held Γ' given y
    given_held y =
        arrays_at_once (λ i. not (β f i)) depths 0 y y (omega arith) ∙ elim (dec_lt y arity) [
          | yes h ↦ here h (β f y) refl ∙ sym (held_array Γ' given y (lt-ltb y arity h))
          | no h ↦
              omega (
                arith,
                past (not (β f y)) (none_past y (omega arith)),
                held_empty Γ' y,
                held_le Γ' given empty y (λ e. absurd (omega (arith, ltb-true y arity e))),
              )
        ]
      where
        here : y < arity → (b : Bool) → β f y ≡ b → cond (not b) (min 1 (get_or depths y 0)) 0 ≡ min 1 (Γ' y)
        here h true e =
            omega (arith, owned.numbers y (say_and (given y) (β f y) (lt-ltb y arity h) e))
        here h false e =
            omega (arith, owned.others y (ap (◌&&◌ (given y)) e ∙ and-false (given y)), parameters_fit y h)

        past : (b : Bool) → get_or depths y 0 ≡ 0 → cond b (min 1 (get_or depths y 0)) 0 ≡ 0
        past true e = omega (arith, e)
        past false e = refl
