-- The walk's counts and sets beside the lists of the discipline: a name is held as often as it stands in the list, and
-- lent or pending if it stands there. Only arrays do.
use Rattle.std.specs.Prelude.{ℕ, ◌≤◌, ◌+◌, ◌<◌, ◌-◌, suc, zero, pred, true, false, Bool, cond, ◌&&◌, not, ◌||◌, ◌≡◌}
use Rattle.std.specs.Prelude.{refl, ◌⊎◌, List, [], ◌∷◌, ◌++◌, eqb, ltb}
use Rattle.prelude.specs.Kit.{arith, dec_lt, ℕ_discrete, false≢true, ◌∙◌, sym, ap, subst, inl, inr, ne_eqb, lt-ltb}
use Rattle.prelude.specs.Kit.{eq-eqb, le-ltb, eqb-true, ltb-true, ltb-false}
use Rattle.semantics.specs.Basics.{all, occurrences, ◌∈◌, with_if}
use Rattle.semantics.specs.Outcome.{give, ◌>>=◌, ◌>>◌}
use Rattle.semantics.specs.Code.{Atom, number, name}
use Rattle.semantics.specs.Live.{Set, empty, just, among}
use Rattle.semantics.specs.Annotate.{NameDepths, is_array}
use Rattle.semantics_lent.specs.Form.{must}
use Rattle.semantics_lent.specs.Hold.{Holds, none_held, plus, minus, same_holds, none_bound, arrays_in, hold_also}
use Rattle.semantics_lent.specs.Hold.{hold_all, spend_name, spend, readable, set_aside, lending}
use Rattle.laws.specs.Lists.{◌≈◌, ◌⊆◌, hits, occurrences_append, occurs_first}
use Rattle.laws.specs.Tests.{both_hold, say_and, or_cases, or_left, or_right}
use Rattle.laws.specs.Updates.{updated_same, updated_there}
use Rattle.discipline.proofs.machine.Discipline.{◌⊑◌, less, unlent, hold_of, holds_of, handed}
use Rattle.discipline.proofs.machine.Spending.{less_counts, less_in, spend_one}
use Rattle.discipline.proofs.machine.Parameters.{just_in, holds_in, holds_arrays}
use Rattle.discipline.proofs.store.Counting.{append_cases}
use Rattle.soundness.proofs.annotation.Held.{held, held_among, held_empty, held_live}
use Rattle.lent_soundness.specs.Answers.{Answers, answers_give, answers_then, answers_must, answers_map}

-- ---- tests of all names

pub all_says : (f : ℕ → Bool) (n i : ℕ) → all f i n ≡ true → (k : ℕ) → i ≤ k → k < i + n → f k ≡ true
unfolding all
all_says f zero i e k h g = absurd (omega (arith, h, g))
all_says f (suc n) i e k h g = elim (ℕ_discrete i k) [
  | yes q ↦ ap f (sym q) ∙ (both_hold (f i) (all f (suc i) n) e).0
  | no q ↦ all_says f n (suc i) (both_hold (f i) (all f (suc i) n) e).1 k (omega (arith, h, q)) (omega (arith, g))
]

pub all_if : (f : ℕ → Bool) (n i : ℕ) → ((k : ℕ) → f k ≡ true) → all f i n ≡ true
unfolding all
all_if f zero i h = refl
all_if f (suc n) i h = say_and (f i) (all f (suc i) n) (h i) (all_if f n (suc i) h)

pub bool_same : (a b : Bool) → (a ≡ true → b ≡ true) → (b ≡ true → a ≡ true) → a ≡ b
bool_same true b f g = sym (f refl)
bool_same false true f g = g refl
bool_same false false f g = refl

-- a number is 0 or not
zero_or : (a : ℕ) → (a ≡ 0) ⊎ (0 < a)
zero_or zero = inl refl
zero_or (suc a) = inr (omega arith)

module _ (Γ : NameDepths) where
  -- the holds H are the list l
  pub record Counts (H : Holds) (l : List ℕ) : Type 0 where
    pub at : (n : ℕ) → H n ≡ occurrences n l
    pub deep : (n : ℕ) → n ∈ l → 0 < Γ n

  -- the names S are those of the list l
  pub record Members (S : Set) (l : List ℕ) : Type 0 where
    pub at : (n : ℕ) → S n ≡ ltb 0 (occurrences n l)
    pub deep : (n : ℕ) → n ∈ l → 0 < Γ n

  pub member_in : {S : Set} {l : List ℕ} → Members S l → (n : ℕ) → S n ≡ true → n ∈ l
  member_in {l = l} m n e = ltb-true 0 (occurrences n l) (sym (m.at n) ∙ e)

  pub in_member : {S : Set} {l : List ℕ} → Members S l → (n : ℕ) → n ∈ l → S n ≡ true
  in_member {l = l} m n h = m.at n ∙ lt-ltb 0 (occurrences n l) h

  pub held_in : {H : Holds} {l : List ℕ} → Counts H l → (n : ℕ) → ltb 0 (H n) ≡ true → n ∈ l
  held_in {H} c n e = omega (arith, c.at n, ltb-true 0 (H n) e)

  pub in_held : {H : Holds} {l : List ℕ} → Counts H l → (n : ℕ) → n ∈ l → ltb 0 (H n) ≡ true
  in_held {H} c n h = lt-ltb 0 (H n) (omega (arith, c.at n, h))

  pub none_counted : Counts none_held []
  unfolding occurrences
  none_counted = record { at = λ n. refl; deep = λ n h. absurd (omega (arith, h)) }

  pub none_members : Members empty []
  unfolding occurrences
  none_members = record { at = λ n. refl; deep = λ n h. absurd (omega (arith, h)) }

  -- ---- one more and one less

  pub counts_plus : {H : Holds} {l : List ℕ} (x : ℕ) → 0 < Γ x → Counts H l → Counts (plus x H) (x ∷ l)
  unfolding occurrences
  counts_plus {H} {l} x d c = record {
    at = λ n. elim (hits n x) [
      | inl h ↦ ap (plus x H) h.0 ∙ updated_same H x (suc (H x))
          ∙ omega (arith, h.1, c.at x, ap (λ (k : ℕ). occurrences k l) h.0)
      | inr h ↦ updated_there H x (suc (H x)) n h.0 ∙ omega (arith, h.1, c.at n)
    ];
    deep = λ n q. elim (hits n x) [
      | inl h ↦ omega (arith, d, ap Γ h.0)
      | inr h ↦ c.deep n (omega (arith, h.1, q))
    ];
  }

  pub counts_minus : {H : Holds} {l : List ℕ} (x : ℕ) → Counts H l → Counts (minus x H) (less (x ∷ []) l)
  unfolding occurrences
  counts_minus {H} {l} x c = record {
    at = λ n. elim (hits n x) [
      | inl h ↦ ap (minus x H) h.0 ∙ updated_same H x (pred (H x))
          ∙ omega (arith, h.1, c.at x, ap (λ (k : ℕ). occurrences k l) h.0, less_counts (x ∷ []) l n)
      | inr h ↦ updated_there H x (pred (H x)) n h.0
          ∙ omega (arith, h.1, c.at n, less_counts (x ∷ []) l n)
    ];
    deep = λ n q. c.deep n (less_in (x ∷ []) l n q);
  }

  pub counts_also : {H : Holds} {l : List ℕ} (x : ℕ) → Counts H l → Counts (hold_also Γ x H) (hold_of Γ x ++ l)
  counts_also {H} {l} x c = go (is_array Γ x) refl
    where
      go : (b : Bool) → is_array Γ x ≡ b → Counts (cond b (plus x H) H) (with_if b x [] ++ l)
      go true e = counts_plus x (ltb-true 0 (Γ x) e) c
      go false e = c

  -- the list as a multiset
  pub counts_same : {H : Holds} {l : List ℕ} (m : List ℕ) → l ≈ m → Counts H l → Counts H m
  counts_same m e c = record {
    at = λ n. c.at n ∙ e n;
    deep = λ n h. c.deep n (omega (arith, h, e n));
  }

  pub counts_all : {H : Holds} {l : List ℕ} (xs : List ℕ) → Counts H l → Counts (hold_all Γ xs H) (holds_of Γ xs ++ l)
  counts_all [] c = c
  counts_all {H} {l} (x ∷ xs) c = counts_same ((hold_of Γ x ++ holds_of Γ xs) ++ l)
      (λ n. omega (
        arith,
        occurrences_append n (hold_of Γ x) (holds_of Γ xs ++ l),
        occurrences_append n (holds_of Γ xs) l,
        occurrences_append n (hold_of Γ x ++ holds_of Γ xs) l,
        occurrences_append n (hold_of Γ x) (holds_of Γ xs),
      ))
      (counts_also x (counts_all xs c))

  -- ---- sets of names

  just_out : (xs : List ℕ) (n : ℕ) → just xs n ≡ true → n ∈ xs
  unfolding occurrences
  just_out [] n e = absurd (false≢true e)
  just_out (x ∷ xs) n e = elim (or_cases (eqb x n) (just xs n) e) [
    | inl q ↦ omega (arith, hit n x (sym (eqb-true x n q)))
    | inr q ↦ omega (arith, just_out xs n q)
  ]
    where
      hit : (n x : ℕ) → n ≡ x → ◌≡◌ {A = ℕ} (cond (eqb n x) 1 0) 1
      hit n x e = rw (eq-eqb n x e) refl

  in_holds : (xs : List ℕ) (n : ℕ) → n ∈ xs → 0 < Γ n → n ∈ holds_of Γ xs
  unfolding occurrences
  in_holds [] n h d = h
  in_holds (x ∷ xs) n h d = elim (hits n x) [
    | inl q ↦ subst (λ (b : Bool). n ∈ (with_if b x [] ++ holds_of Γ xs))
        (sym (ap (λ (k : ℕ). is_array Γ k) (sym q.0) ∙ lt-ltb 0 (Γ n) d)) (omega (arith, q.1))
    | inr q ↦ omega (
      arith,
      in_holds xs n (omega (arith, h, q.1)) d,
      occurrences_append n (hold_of Γ x) (holds_of Γ xs),
    )
  ]

  pub members_all : (xs : List ℕ) → Members (arrays_in Γ xs) (holds_of Γ xs)
  members_all xs = record {
    at = λ n. bool_same (just xs n && is_array Γ n) (ltb 0 (occurrences n (holds_of Γ xs)))
        (λ e. let both = both_hold (just xs n) (is_array Γ n) e in
        lt-ltb 0 (occurrences n (holds_of Γ xs))
        (in_holds xs n (just_out xs n both.0) (ltb-true 0 (Γ n) both.1)))
        (λ e. let h = ltb-true 0 (occurrences n (holds_of Γ xs)) e in
        say_and (just xs n) (is_array Γ n) (just_in xs n (holds_in Γ xs n h)) (lt-ltb 0 (Γ n) (holds_arrays Γ xs n h)));
    deep = holds_arrays Γ xs;
  }

  pub members_one : (x : ℕ) → Members (arrays_in Γ (x ∷ [])) (hold_of Γ x)
  unfolding occurrences
  members_one x =
      let m = members_all (x ∷ []) in
      let same : (n : ℕ) → occurrences n (hold_of Γ x ++ []) ≡ occurrences n (hold_of Γ x) =
      λ n. omega (arith, occurrences_append n (hold_of Γ x) []) in
      record {
        at = λ n. m.at n ∙ ap (ltb 0) (same n);
        deep = λ n h. m.deep n (omega (arith, h, same n));
      }

  -- ---- the arrays among some atoms

  handed_out : (us : List Atom) (n : ℕ) → n ∈ handed Γ us → (among us empty n ≡ true) × (is_array Γ n ≡ true)
  handed_out us n h = held_live Γ (among us empty) n (omega (arith, h, held_among Γ us empty n))

  held_one : (A : Set) (n : ℕ) → A n ≡ true → is_array Γ n ≡ true → held Γ A n ≡ 1
  unfolding held
  held_one A n e d = rw (e, d) refl

  in_handed : (us : List Atom) (n : ℕ) → among us empty n ≡ true → is_array Γ n ≡ true → n ∈ handed Γ us
  in_handed us n e d = omega (arith, held_among Γ us empty n, held_empty Γ n, held_one (among us empty) n e d)

  pub handed_deep : (us : List Atom) (n : ℕ) → n ∈ handed Γ us → 0 < Γ n
  handed_deep us n h = ltb-true 0 (Γ n) (handed_out us n h).1

  pub members_lent : {B : Set} {l : List ℕ} (us : List Atom) → Members B l →
      Members (lending Γ us B) (handed Γ us ++ l)
  members_lent {B} {l} us m = record {
    at = λ n. bool_same (lending Γ us B n) (ltb 0 (occurrences n (handed Γ us ++ l)))
        (λ e. lt-ltb 0 (occurrences n (handed Γ us ++ l)) (elim (or_cases (B n) (among us empty n && is_array Γ n) e) [
          | inl q ↦ omega (arith, member_in m n q, occurrences_append n (handed Γ us) l)
          | inr q ↦
              let both = both_hold (among us empty n) (is_array Γ n) q in
              omega (arith, in_handed us n both.0 both.1, occurrences_append n (handed Γ us) l)
        ]))
        (λ e. elim (append_cases n (handed Γ us) l (ltb-true 0 (occurrences n (handed Γ us ++ l)) e)) [
          | inl q ↦
              let both = handed_out us n q in
              or_right (B n) (among us empty n && is_array Γ n)
              (say_and (among us empty n) (is_array Γ n) both.0 both.1)
          | inr q ↦ or_left (B n) (among us empty n && is_array Γ n) (in_member m n q)
        ]);
    deep = λ n h. elim (append_cases n (handed Γ us) l h) [
      | inl q ↦ handed_deep us n q
      | inr q ↦ m.deep n q
    ];
  }

  -- what may be read
  module _ {B : Set} {H : Holds} {k l : List ℕ} (m : Members B k) (c : Counts H l) where
    pub readable_says : (us : List Atom) → readable Γ B H us ≡ true → handed Γ us ⊆ (k ++ l)
    unfolding occurrences
    readable_says [] e n h = absurd (omega (arith, h))
    readable_says (number z ∷ us) e n h = readable_says us e n h
    readable_says (name x ∷ us) e n h =
        let both = both_hold (not (is_array Γ x) || (B x || ltb 0 (H x))) (readable Γ B H us) e in
        elim (append_cases n (hold_of Γ x) (handed Γ us) h) [
          | inl q ↦ go (is_array Γ x) refl both.0 q
          | inr q ↦ readable_says us both.1 n q
        ]
      where
        go : (b : Bool) → is_array Γ x ≡ b → (not b || (B x || ltb 0 (H x))) ≡ true → n ∈ with_if b x [] → n ∈ (k ++ l)
        go true d q h = elim (hits n x) [
          | inl g ↦ subst (λ (y : ℕ). y ∈ (k ++ l)) (sym g.0) (elim (or_cases (B x) (ltb 0 (H x)) q) [
            | inl r ↦ omega (arith, member_in m x r, occurrences_append x k l)
            | inr r ↦ omega (arith, held_in c x r, occurrences_append x k l)
          ])
          | inr g ↦ absurd (omega (arith, h, g.1))
        ]
        go false d q h = absurd (omega (arith, h))

    pub readable_if : (us : List Atom) → handed Γ us ⊆ (k ++ l) → readable Γ B H us ≡ true
    readable_if [] h = refl
    readable_if (number z ∷ us) h = readable_if us h
    readable_if (name x ∷ us) h =
        say_and (not (is_array Γ x) || (B x || ltb 0 (H x))) (readable Γ B H us)
        (go (is_array Γ x) refl)
        (readable_if us (λ n q. h n (omega (arith, q, occurrences_append n (hold_of Γ x) (handed Γ us)))))
      where
        go : (b : Bool) → is_array Γ x ≡ b → (not b || (B x || ltb 0 (H x))) ≡ true
        go true d =
            let here : x ∈ (hold_of Γ x ++ handed Γ us) =
            subst (λ (b : Bool). x ∈ (with_if b x [] ++ handed Γ us)) (sym d) (occurs_first x (handed Γ us)) in
            elim (append_cases x k l (h x here)) [
              | inl q ↦ or_left (B x) (ltb 0 (H x)) (in_member m x q)
              | inr q ↦ or_right (B x) (ltb 0 (H x)) (in_held c x q)
            ]
        go false d = refl

  -- ---- what is set aside

  not_lent : {B : Set} {k : List ℕ} → Members B k → (x : ℕ) → not (B x) ≡ eqb (occurrences x k) 0
  not_lent {B} {k} m x = ap not (m.at x) ∙ elim (zero_or (occurrences x k)) [
    | inl e ↦ rw (le-ltb 0 (occurrences x k) (omega (arith, e)), eq-eqb (occurrences x k) 0 e) refl
    | inr h ↦ rw (lt-ltb 0 (occurrences x k) h, ne_eqb (occurrences x k) 0 (λ e. omega (arith, h, e))) refl
  ]

  unlent_hold : (k : List ℕ) (b : Bool) (x : ℕ) (l : List ℕ) →
      unlent k (with_if b x [] ++ l) ≡ with_if (b && eqb (occurrences x k) 0) x (unlent k l)
  unfolding unlent
  unlent_hold k true x l = refl
  unlent_hold k false x l = refl

  pub counts_aside : {B : Set} {H : Holds} {k l : List ℕ} → Members B k → (us : List Atom) → Counts H l →
      Counts (set_aside Γ B us H) (less (unlent k (handed Γ us)) l)
  unfolding less unlent
  counts_aside m [] c = c
  counts_aside m (number z ∷ us) c = counts_aside m us c
  counts_aside {B} {H} {k} {l} m (name x ∷ us) c =
      subst (λ (q : List ℕ). Counts (set_aside Γ B (name x ∷ us) H) (less q l))
      (sym (unlent_hold k (is_array Γ x) x (handed Γ us)))
      (subst (λ (b : Bool). Counts (set_aside Γ B us (cond (is_array Γ x && not (B x)) (minus x H) H))
      (less (with_if (is_array Γ x && b) x (unlent k (handed Γ us))) l)) (not_lent m x)
      (go (is_array Γ x && not (B x)) (counts_aside {H = minus x H} {l = less (x ∷ []) l} m us (counts_minus x c)) (counts_aside m us c)))
    where
      go : (b : Bool) → Counts (set_aside Γ B us (minus x H)) (less (unlent k (handed Γ us)) (less (x ∷ []) l)) →
          Counts (set_aside Γ B us H) (less (unlent k (handed Γ us)) l) →
          Counts (set_aside Γ B us (cond b (minus x H) H)) (less (with_if b x (unlent k (handed Γ us))) l)
      go true p q = p
      go false p q = q

  -- ---- what is spent

  pub counts_name : {H : Holds} {l : List ℕ} (x : ℕ) → Counts H l →
      Answers (hold_of Γ x ⊑ l → ⊥) (λ I. Counts I (less (hold_of Γ x) l) × (hold_of Γ x ⊑ l)) (spend_name Γ x H)
  unfolding less occurrences
  counts_name {H} {l} x c = go (is_array Γ x)
    where
      go : (b : Bool) → Answers (with_if b x [] ⊑ l → ⊥)
          (λ I. Counts I (less (with_if b x []) l) × (with_if b x [] ⊑ l))
          (cond b (do must (ltb 0 (H x)); give (minus x H)) (give H))
      go true = answers_then (answers_must (ltb 0 (H x)) (λ e h. omega (
        arith,
        h x,
        occurs_first x [],
        c.at x,
        ltb-false 0 (H x) e,
      ))) (λ q. q) (λ u e. answers_give (minus x H) (counts_minus x c, spend_one x l (held_in c x e)))
      go false = answers_give H (c, λ n. omega arith)

  less_append : (b : Bool) (x : ℕ) (m l : List ℕ) → less (with_if b x [] ++ m) l ≡ less m (less (with_if b x []) l)
  unfolding less
  less_append true x m l = refl
  less_append false x m l = refl

  pub counts_spent : {H : Holds} {l : List ℕ} (us : List Atom) → Counts H l →
      Answers (handed Γ us ⊑ l → ⊥) (λ I. Counts I (less (handed Γ us) l) × (handed Γ us ⊑ l)) (spend Γ us H)
  unfolding spend less occurrences
  counts_spent {H} [] c = answers_give H (c, λ n. omega arith)
  counts_spent (number z ∷ us) c = counts_spent us c
  counts_spent {H} {l} (name x ∷ us) c =
      let first = hold_of Γ x in
      let rest = handed Γ us in
      let parts : (n : ℕ) → occurrences n (first ++ rest) ≡ occurrences n first + occurrences n rest =
      λ n. occurrences_append n first rest in
      answers_then (counts_name x c) (λ f h. f (λ n. omega (arith, h n, parts n)))
      (λ I q. answers_map
      (λ f h. f (λ n. omega (arith, h n, parts n, less_counts first l n)))
      (λ J r. (
        subst (Counts J) (sym (less_append (is_array Γ x) x rest l)) r.0,
        λ n. omega (arith, parts n, q.1 n, r.1 n, less_counts first l n),
      )) (counts_spent {H = I} us q.0))

  -- ---- at the end of a tree, where only the first 256 names are arrays

  module _ (few : (n : ℕ) → 256 ≤ n → Γ n ≡ 0) where
    past_none : {H : Holds} {l : List ℕ} → Counts H l → (n : ℕ) → 256 ≤ n → occurrences n l ≡ 0
    past_none {l = l} c n h = elim (zero_or (occurrences n l)) [
      | inl e ↦ e
      | inr q ↦ absurd (omega (arith, c.deep n q, few n h))
    ]

    pub same_says : {O I : Holds} {m l : List ℕ} → Counts O m → Counts I l → same_holds O I ≡ true → l ≈ m
    unfolding same_holds
    same_says {O} {I} c d e n = elim (dec_lt n 256) [
      | yes h ↦ omega (
        arith,
        c.at n,
        d.at n,
        eqb-true (O n) (I n) (all_says (λ k. eqb (O k) (I k)) 256 0 e n (omega arith) (omega (arith, h))),
      )
      | no h ↦ past_none d n (omega (arith, h)) ∙ sym (past_none c n (omega (arith, h)))
    ]

    pub bound_says : {B : Set} {H I : Holds} {k h l : List ℕ} → Members B k → Counts H h → Counts I l →
        none_bound B H I ≡ true → l ⊆ (k ++ h)
    unfolding none_bound
    bound_says {B} {H} {I} {k} {h} {l} m c d e n q = elim (dec_lt n 256) [
      | yes s ↦
          elim (or_cases (eqb (I n) 0) (B n || ltb 0 (H n))
          (all_says (λ j. eqb (I j) 0 || (B j || ltb 0 (H j))) 256 0 e n (omega arith) (omega (arith, s)))) [
            | inl r ↦ absurd (omega (arith, q, d.at n, eqb-true (I n) 0 r))
            | inr r ↦ elim (or_cases (B n) (ltb 0 (H n)) r) [
              | inl b ↦ omega (arith, member_in m n b, occurrences_append n k h)
              | inr b ↦ omega (arith, held_in c n b, occurrences_append n k h)
            ]
          ]
      | no s ↦ absurd (omega (arith, q, past_none d n (omega (arith, s))))
    ]

  pub same_if : {O I : Holds} {m l : List ℕ} → Counts O m → Counts I l → l ≈ m → same_holds O I ≡ true
  unfolding same_holds
  same_if {O} {I} c d e =
      all_if (λ k. eqb (O k) (I k)) 256 0 (λ k. eq-eqb (O k) (I k) (c.at k ∙ sym (e k) ∙ sym (d.at k)))

  pub bound_if : {B : Set} {H I : Holds} {k h l : List ℕ} → Members B k → Counts H h → Counts I l →
      l ⊆ (k ++ h) → none_bound B H I ≡ true
  unfolding none_bound
  bound_if {B} {H} {I} {k} {h} {l} m c d e = all_if (λ j. eqb (I j) 0 || (B j || ltb 0 (H j))) 256 0
      (λ j. elim (zero_or (occurrences j l)) [
        | inl z ↦ or_left (eqb (I j) 0) (B j || ltb 0 (H j)) (eq-eqb (I j) 0 (d.at j ∙ z))
        | inr q ↦ or_right (eqb (I j) 0) (B j || ltb 0 (H j)) (elim (append_cases j k h (e j q)) [
          | inl b ↦ or_left (B j) (ltb 0 (H j)) (in_member m j b)
          | inr b ↦ or_right (B j) (ltb 0 (H j)) (in_held c j b)
        ])
      ])
