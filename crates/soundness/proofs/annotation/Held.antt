-- What a set of names holds: one reference for each array in it, and none by a name that is lent. The laws of the set
-- operations are sums that `omega` reads.
use Rattle.prelude.specs.Kit.{ℕ, ◌≤◌, ◌+◌, ◌<◌, ◌-◌, suc, min, max, arith, dec_lt, ℕ_discrete, true, false, Bool, cond}
use Rattle.prelude.specs.Kit.{◌&&◌, not, ◌||◌, and-false, ◌≡◌, refl, ◌∙◌, sym, inl, inr, ◌≢◌, ◌⊎◌, List, [], ◌∷◌, ◌++◌}
use Rattle.prelude.specs.Kit.{eqb, ne_eqb, lt-ltb, eq-eqb, le-ltb}
use Rattle.semantics.specs.Basics.{occurrences, ◌∈◌}
use Rattle.semantics.specs.Code.{Atom, number, name}
use Rattle.semantics.specs.Live.{Set, empty, ◌∪◌, ◌∖◌, ◌∖∖◌, only, just, is, among, members}
use Rattle.semantics.specs.Annotate.{NameDepths, is_array, dying, handed_again}
use Rattle.laws.specs.Lists.{hits, occurrences_append}
use Rattle.discipline.proofs.machine.Discipline.{hold_of, holds_of, handed, Covered}
use Rattle.soundness.proofs.annotation.Members.{with_if_same, with_if_other, members_in, members_out}
use Rattle.soundness.proofs.annotation.Formed.{Rising}

-- only the first 256 names are arrays
abbrev pub Few : NameDepths → Type 0
Few Γ = (n : ℕ) → 256 ≤ n → Γ n ≡ 0

-- 1 where two names are one, else 0
abbrev pub hit : ℕ → ℕ → ℕ
hit n x = cond (eqb n x) 1 0

one_or : (a b r : Bool) → ◌≡◌ {A = ℕ} (cond ((a || b) && r) 1 0) (max (cond (a && r) 1 0) (cond (b && r) 1 0))
one_or true true true = refl
one_or true true false = refl
one_or true false true = refl
one_or true false false = refl
one_or false true true = refl
one_or false true false = refl
one_or false false true = refl
one_or false false false = refl

one_and_not : (a b r : Bool) → ◌≡◌ {A = ℕ} (cond (a && (r && not b)) 1 0) (cond (a && r) 1 0 - cond (b && r) 1 0)
one_and_not true true true = refl
one_and_not true true false = refl
one_and_not true false true = refl
one_and_not true false false = refl
one_and_not false true true = refl
one_and_not false true false = refl
one_and_not false false true = refl
one_and_not false false false = refl

one_most : (b : Bool) → ◌≤◌ (cond b 1 0) 1
one_most true = omega arith
one_most false = omega arith

-- a name that is not lent
abbrev pub is_free : List ℕ → ℕ → Bool
is_free B n = eqb (occurrences n B) 0

-- 1 for it, 0 for one that is lent
unfoldable pub free : List ℕ → ℕ → ℕ
free B n = cond (is_free B n) 1 0

one_free : (a b : Bool) → ◌≡◌ {A = ℕ} (cond (a && b) 1 0) (min (cond b 1 0) (cond a 1 0))
one_free true true = refl
one_free true false = refl
one_free false true = refl
one_free false false = refl

pub free_or : (B : List ℕ) (n : ℕ) → min 1 (occurrences n B) + free B n ≡ 1
unfolding free
free_or B n = elim (hits (occurrences n B) 0) [ inl h ↦ omega (arith, h.0, h.1) | inr h ↦ omega (arith, h.0, h.1) ]

module _ (Γ : NameDepths) where
  -- the references that the name n holds where the set A is live
  unfoldable pub held : Set → ℕ → ℕ
  held A n = cond (A n && is_array Γ n) 1 0

  abbrev pub hold : ℕ → List ℕ
  hold x = hold_of Γ x

  -- the arrays of a set that are not lent
  unfoldable pub names : List ℕ → Set → List ℕ
  names B A = members (λ x. (A x && is_array Γ x) && is_free B x)

  pub held_most : (A : Set) (n : ℕ) → held A n ≤ 1
  unfolding held
  held_most A n = one_most (A n && is_array Γ n)

  pub held_or : (A B : Set) (n : ℕ) → held (A ∪ B) n ≡ max (held A n) (held B n)
  unfolding held
  held_or A B n = one_or (A n) (B n) (is_array Γ n)

  pub held_less : (A : Set) (x n : ℕ) → held (A ∖ x) n ≡ held A n - hit n x
  unfolding held
  held_less A x n = elim (hits n x) [
    | inl h ↦ rw (eq-eqb x n (sym h.0)) (omega (arith, held_most A n))
    | inr h ↦ rw (ne_eqb x n (λ e. h.0 (sym e))) (omega arith)
  ]

  pub held_number : (A : Set) (n : ℕ) → Γ n ≡ 0 → held A n ≡ 0
  unfolding held
  held_number A n e = rw (le-ltb 0 (Γ n) (omega arith), and-false (A n))

  pub held_empty : (n : ℕ) → held empty n ≡ 0
  unfolding held
  held_empty n = refl

  -- a set that is part of two others
  pub held_either : (A B C : Set) (n : ℕ) → (A n ≡ true → (B n ≡ true) ⊎ (C n ≡ true)) → held A n ≤ held B n + held C n
  unfolding held
  held_either A B C n h = go (A n) refl
    where
      go : (b : Bool) → A n ≡ b →
          cond (b && is_array Γ n) 1 0 ≤ cond (B n && is_array Γ n) 1 0 + cond (C n && is_array Γ n) 1 0
      go true e = elim (h e) [
        | inl g ↦ rw g (omega arith)
        | inr g ↦ rw g (omega arith)
      ]
      go false e = omega arith

  pub held_le : (A B : Set) (n : ℕ) → (A n ≡ true → B n ≡ true) → held A n ≤ held B n
  held_le A B n h = omega (arith, held_either A B empty n (λ e. inl (h e)), held_empty n)

  -- what is held is a live array
  pub held_live : (A : Set) (n : ℕ) → 0 < held A n → (A n ≡ true) × (is_array Γ n ≡ true)
  unfolding held
  held_live A n = go (A n) (is_array Γ n)
    where
      go : (a r : Bool) → 0 < cond (a && r) 1 0 → (a ≡ true) × (r ≡ true)
      go true true h = (refl, refl)
      go true false h = absurd (omega arith)
      go false r h = absurd (omega arith)

  array_held : (A : Set) (n : ℕ) → cond (is_array Γ n && A n) 1 0 ≡ held A n
  unfolding held
  array_held A n = go (is_array Γ n) (A n)
    where
      go : (r a : Bool) → ◌≡◌ {A = ℕ} (cond (r && a) 1 0) (cond (a && r) 1 0)
      go true true = refl
      go true false = refl
      go false true = refl
      go false false = refl

  pub hold_held : (x n : ℕ) → occurrences n (hold x) ≡ held (only x) n
  unfolding held occurrences
  hold_held x n = elim (hits n x) [
    | inl h ↦ rw (h.0, eq-eqb x x refl) (with_if_same (is_array Γ x) x [] ∙ omega arith)
    | inr h ↦ rw (ne_eqb x n (λ e. h.0 (sym e))) (with_if_other (is_array Γ x) n x [] h.0)
  ]

  -- a name that is bound holds one reference, if it is an array
  pub hold_same : (x : ℕ) → 0 < Γ x → occurrences x (hold x) ≡ 1
  unfolding occurrences
  hold_same x h = rw (lt-ltb 0 (Γ x) h) (with_if_same true x [])

  pub hold_other : (x n : ℕ) → n ≢ x → occurrences n (hold x) ≡ 0
  unfolding occurrences
  hold_other x n f = with_if_other (is_array Γ x) n x [] f

  pub only_other : (x n : ℕ) → n ≢ x → held (only x) n ≡ 0
  only_other x n f = omega (arith, hold_held x n, hold_other x n f)

  pub handed_first : (u : Atom) (us : List Atom) (n : ℕ) → occurrences n (handed Γ (u ∷ us))
      ≡ occurrences n (handed Γ (u ∷ [])) + occurrences n (handed Γ us)
  unfolding occurrences
  handed_first (number z) us n = omega arith
  handed_first (name x) us n =
      omega (arith, occurrences_append n (hold x) (handed Γ us), occurrences_append n (hold x) [])

  pub held_is : (a : Atom) (n : ℕ) → held (is a) n ≡ occurrences n (handed Γ (a ∷ []))
  unfolding occurrences
  held_is (number z) n = held_empty n
  held_is (name x) n = omega (arith, hold_held x n, occurrences_append n (hold x) [])

  pub held_among : (us : List Atom) (A : Set) (n : ℕ) →
      held (among us A) n ≡ max (min 1 (occurrences n (handed Γ us))) (held A n)
  unfolding among occurrences
  held_among [] A n = omega arith
  held_among (number z ∷ us) A n =
      held_or empty (among us A) n ∙ omega (arith, held_empty n, held_among us A n)
  held_among (name x ∷ us) A n =
      held_or (only x) (among us A) n
      ∙ omega (
        arith,
        held_among us A n,
        hold_held x n,
        held_most (only x) n,
        occurrences_append n (hold x) (handed Γ us),
      )

  pub handed_number : (us : List Atom) (n : ℕ) → Γ n ≡ 0 → occurrences n (handed Γ us) ≡ 0
  handed_number us n e = omega (arith, held_among us empty n, held_number (among us empty) n e)

  again_same : (us : List Atom) (A : Set) (n again : ℕ) →
      again + max (min 1 (occurrences n (handed Γ us))) (held A n)
      ≡ occurrences n (handed Γ us) + held A n →
      cond (is_array Γ n && among us A n) 1 0 + again
      + max (min 1 (occurrences n (hold n) + occurrences n (handed Γ us))) (held A n)
      ≡ occurrences n (hold n) + occurrences n (handed Γ us) + held A n
  again_same us A n again h = elim (dec_lt 0 (Γ n)) [
    | yes g ↦ omega (arith, array_held (among us A) n, held_among us A n, hold_same n g, held_most A n)
    | no g ↦
        let e : Γ n ≡ 0 = omega arith in
        omega (
          arith,
          array_held (among us A) n,
          held_among us A n,
          hold_held n n,
          held_number (only n) n e,
          handed_number us n e,
          held_number A n e,
        )
  ]

  -- what is retained before a line hands some atoms over, while A stays live
  pub again_held : (us : List Atom) (A : Set) (n : ℕ) →
      occurrences n (handed_again Γ us A) + max (min 1 (occurrences n (handed Γ us))) (held A n)
      ≡ occurrences n (handed Γ us) + held A n
  unfolding handed_again occurrences
  again_held [] A n = omega arith
  again_held (number z ∷ us) A n = again_held us A n
  again_held (name x ∷ us) A n =
      rw (occurrences_append n (hold x) (handed Γ us)) (elim (ℕ_discrete n x) [
        | yes e ↦
            rw (← e, with_if_same (is_array Γ n && among us A n) n (handed_again Γ us A))
            (again_same us A n (occurrences n (handed_again Γ us A)) (again_held us A n))
        | no f ↦
            omega (
              arith,
              again_held us A n,
              hold_other x n f,
              with_if_other (is_array Γ x && among us A x) n x (handed_again Γ us A) f,
            )
      ])

  -- ---- the names of a pass

  pub held_pass : (ps : List ℕ) (A : Set) (n : ℕ) → held (A ∖∖ ps) n ≡ held A n - occurrences n ps
  unfolding occurrences
  held_pass [] A n = omega arith
  held_pass (p ∷ ps) A n = omega (arith, held_less (A ∖∖ ps) p n, held_pass ps A n)

  pub just_none : (ps : List ℕ) (n : ℕ) → occurrences n ps ≡ 0 → held (just ps) n ≡ 0
  unfolding occurrences
  just_none [] n e = held_empty n
  just_none (p ∷ ps) n e = elim (hits n p) [
    | inl h ↦ absurd (omega arith)
    | inr h ↦ omega (arith, held_or (only p) (just ps) n, only_other p n h.0, just_none ps n (omega arith))
  ]

  pub just_most : (ps : List ℕ) (A : Set) (n : ℕ) → n ∈ ps → held A n ≤ held (just ps) n
  unfolding occurrences
  just_most [] A n e = absurd (omega arith)
  just_most (p ∷ ps) A n e = elim (hits n p) [
    | inl h ↦ omega (arith, held_or (only p) (just ps) n, held_le A (only p) n (λ q. eq-eqb p n (sym h.0)))
    | inr h ↦ omega (arith, held_or (only p) (just ps) n, just_most ps A n (omega arith))
  ]

  pub rising_off : (ps : List ℕ) (c e n : ℕ) → Rising c ps e → n < c → occurrences n ps ≡ 0
  unfolding occurrences
  rising_off [] c e n r h = refl
  rising_off (p ∷ ps) c e n r h = elim (hits n p) [
    | inl q ↦ absurd (omega (arith, r.0))
    | inr q ↦ omega (arith, rising_off ps (suc p) e n r.1 (omega (arith, r.0)))
  ]

  -- names that differ hold once each
  pub holds_just : (ps : List ℕ) (c e n : ℕ) → Rising c ps e → occurrences n (holds_of Γ ps) ≡ held (just ps) n
  unfolding occurrences
  holds_just [] c e n r = omega (arith, held_empty n)
  holds_just (p ∷ ps) c e n r =
      let first = hold_held p n in
      let rest = holds_just ps (suc p) e n r.1 in
      let both = occurrences_append n (hold p) (holds_of Γ ps) in
      let joined = held_or (only p) (just ps) n in
      elim (hits n p) [
        | inl h ↦ omega (arith, just_none ps n (rising_off ps (suc p) e n r.1 (omega (arith, h.0))))
        | inr h ↦ omega (arith, only_other p n h.0)
      ]

  -- ---- among the first 256 names

  module _ (few : Few Γ) where
    pub names_held : (B : List ℕ) (A : Set) (n : ℕ) → occurrences n (names B A) ≡ min (free B n) (held A n)
    unfolding names held free
    names_held B A n = elim (dec_lt n 256) [
      | yes h ↦
          members_in n (λ x. (A x && is_array Γ x) && is_free B x) h ∙ one_free (A n && is_array Γ n) (is_free B n)
      | no h ↦
          omega (
            arith,
            members_out n (λ x. (A x && is_array Γ x) && is_free B x) (omega arith),
            held_number A n (few n (omega arith)),
          )
    ]

    pub append_held : (l B : List ℕ) (A : Set) (n : ℕ) →
        occurrences n (l ++ names B A) ≡ occurrences n l + min (free B n) (held A n)
    append_held l B A n = omega (arith, occurrences_append n l (names B A), names_held B A n)

    pub dying_held : (used A : Set) (n : ℕ) → occurrences n (dying Γ used A) ≡ held used n - held A n
    unfolding dying held
    dying_held used A n = elim (dec_lt n 256) [
      | yes h ↦
          members_in n (λ x. used x && (is_array Γ x && not (A x))) h ∙ one_and_not (used n) (A n) (is_array Γ n)
      | no h ↦
          omega (
            arith,
            members_out n (λ x. used x && (is_array Γ x && not (A x))) (omega arith),
            held_number used n (few n (omega arith)),
          )
    ]

    pub covered_by : (H : List ℕ) (A : Set) → ((n : ℕ) → n ∈ H → 0 < held A n) →
        Covered Γ H A
    covered_by H A h = record {
      live = λ n g. (held_live A n (h n g)).0;
      below = λ n g. elim (dec_lt n 256) [
        | yes b ↦ b
        | no b ↦ absurd (omega (arith, h n g, held_number A n (few n (omega arith))))
      ];
      array = λ n g. (held_live A n (h n g)).1;
    }
