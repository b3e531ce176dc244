-- `holding_lent`, `frugal_lent`: a tree that keeps the discipline by depths in which some names are numbers, and spares
-- these names, keeps it by their true depths too, with the arrays among them lent.
use Rattle.prelude.specs.Kit.{ℕ, ◌<◌, min, arith, dec_lt, true, false, Bool, cond, ◌&&◌, and-false, ◌≡◌, refl, ◌∙◌, sym}
use Rattle.prelude.specs.Kit.{ap, subst, inl, inr, List, [], ◌∷◌, ◌++◌, eqb, ltb, ne_eqb, eq-eqb, le-ltb, ltb-true}
use Rattle.semantics.specs.Basics.{with_if, occurrences, ◌∈◌}
use Rattle.semantics.specs.Kinds.{Borrowing, Loop, mapping, filtering, reducing, rewriting, leaf_hands}
use Rattle.semantics.specs.Kinds.{leaf_reads, loop_hands}
use Rattle.semantics.specs.Kinds.{loop_reads, element_name, is_pending}
use Rattle.semantics.specs.Code.{Atom, number, name, Line, leaf, if_else, loop, retain, release, Tree, end, line}
use Rattle.semantics.specs.Live.{Set, empty, ◌∖◌, among, live, after_branch, after_pass}
use Rattle.semantics.specs.Annotate.{NameDepths, is_array}
use Rattle.laws.specs.Lists.{◌≈◌, ◌⊆◌, hits, occurrences_append}
use Rattle.discipline.proofs.machine.Discipline.{hold_of, holds_of, handed, less, unlent, ◌⊑◌, left_by, holds_after}
use Rattle.discipline.proofs.machine.Discipline.{waits_after, outer_holds, pass_lent, pass_holds}
use Rattle.semantics.specs.Kinds.{carried_name}
use Rattle.discipline.proofs.machine.Discipline.{Covered, Holding, LineHolding, Frugal, LineFrugal}
use Rattle.soundness.proofs.annotation.Held.{held, held_among, held_empty, handed_number}
use Rattle.soundness.proofs.annotation.Sparing.{AllOwned, NoneLent, Spares, LineSpares}

-- in Γ the lent names are numbers, and the others have the depths of Θ
pub record Without (lent : Set) (Θ Γ : NameDepths) : Type 0 where
  pub numbers : (n : ℕ) → lent n ≡ true → Γ n ≡ 0
  pub others : (n : ℕ) → lent n ≡ false → Γ n ≡ Θ n

-- C lends what B lends, and the arrays among the lent names
pub record Lends (lent : Set) (Θ : NameDepths) (B C : List ℕ) : Type 0 where
  pub more : (n : ℕ) → n ∈ B → n ∈ C
  pub arrays : (n : ℕ) → lent n ≡ true → 0 < Θ n → n ∈ C
  pub others : (n : ℕ) → lent n ≡ false → n ∈ C → n ∈ B

-- ---- numbers and lists

same_zero : (a b : ℕ) → (0 < a → 0 < b) → (0 < b → 0 < a) → eqb a 0 ≡ eqb b 0
same_zero a b f g = elim (hits a 0) [
  | inl h ↦
      elim (hits b 0) [
        | inl k ↦ eq-eqb a 0 h.0 ∙ sym (eq-eqb b 0 k.0)
        | inr k ↦ absurd (omega (arith, h.0, g (omega (arith, k.0))))
      ]
  | inr h ↦
      elim (hits b 0) [
        | inl k ↦ absurd (omega (arith, k.0, f (omega (arith, h.0))))
        | inr k ↦ ne_eqb a 0 h.0 ∙ sym (ne_eqb b 0 k.0)
      ]
]

unlent_hold : (B : List ℕ) (b : Bool) (x : ℕ) (l : List ℕ) →
    unlent B (with_if b x [] ++ l) ≡ with_if (b && eqb (occurrences x B) 0) x (unlent B l)
unfolding unlent
unlent_hold B true x l = refl
unlent_hold B false x l = refl

module _ (β : Borrowing) (lent : Set) (Θ Γ : NameDepths) (without : Without lent Θ Γ) where
  -- ---- the same lists

  hold_same : (x : ℕ) → lent x ≡ false → hold_of Γ x ≡ hold_of Θ x
  hold_same x e = ap (λ (d : ℕ). with_if (ltb 0 d) x []) (without.others x e)

  handed_same : (us : List Atom) → AllOwned lent us → handed Γ us ≡ handed Θ us
  handed_same [] h = refl
  handed_same (number z ∷ us) h = handed_same us h.1
  handed_same (name x ∷ us) h = λ i. hold_same x h.0 i ++ handed_same us h.1 i

  holds_same : (ps : List ℕ) → NoneLent lent ps → holds_of Γ ps ≡ holds_of Θ ps
  holds_same [] h = refl
  holds_same (p ∷ ps) h = λ i. hold_same p h.0 i ++ holds_same ps h.1 i

  element_same : (k : Loop) (ps : List ℕ) → NoneLent lent ps →
      holds_of Γ (element_name k ps) ≡ holds_of Θ (element_name k ps)
  element_same mapping ps h = holds_same ps h
  element_same filtering ps h = holds_same ps h
  element_same reducing [] h = refl
  element_same reducing (p ∷ ps) h = holds_same ps h.1
  element_same rewriting ps h = holds_same ps h

  carried_same : (k : Loop) (ps : List ℕ) → NoneLent lent ps →
      holds_of Γ (carried_name k ps) ≡ holds_of Θ (carried_name k ps)
  carried_same mapping ps h = refl
  carried_same filtering ps h = refl
  carried_same reducing [] h = refl
  carried_same reducing (p ∷ ps) h = holds_same (p ∷ []) (h.0, tt)
  carried_same rewriting ps h = refl

  mutual
    unfolding left_by

    left_same : (t : Tree) (H : List ℕ) → Spares β lent t → left_by β Γ t H ≡ left_by β Θ t H
    left_same (end a) H s = λ i. less (handed_same (a ∷ []) (s, tt) i) H
    left_same (line l t) H s =
        ap (left_by β Γ t) (after_same l H s.0) ∙ left_same t (holds_after β Θ l H) s.1

    after_same : (l : Line) (H : List ℕ) → LineSpares β lent l → holds_after β Γ l H ≡ holds_after β Θ l H
    after_same (leaf x l us) H s =
        λ i. cond (is_pending l) [] (hold_same x s.0 i) ++ less (handed_same (leaf_hands β l us) s.1 i) H
    after_same (if_else x g t e) H s = λ i. hold_same x s.0 i ++ left_same t H s.1 i
    after_same (loop x k ps us t) H s =
        λ i. hold_same x s.0 i ++ less (handed_same (loop_hands k us) s.1 i) H
    after_same (retain x) H s = refl
    after_same (release x) H s = refl

  waits_same : (l : Line) → LineSpares β lent l → waits_after Γ l ≡ waits_after Θ l
  waits_same (leaf x l us) s = λ i. cond (is_pending l) (hold_same x s.0 i) []
  waits_same (if_else x g t e) s = refl
  waits_same (loop x k ps us t) s = refl
  waits_same (retain x) s = refl
  waits_same (release x) s = refl

  -- ---- what is read

  -- a name that is not lent is among both or among none
  handed_both : (us : List Atom) (n : ℕ) → lent n ≡ false →
      min 1 (occurrences n (handed Γ us)) ≡ min 1 (occurrences n (handed Θ us))
  unfolding held
  handed_both us n e =
      let same : held Γ (among us empty) n ≡ held Θ (among us empty) n =
      ap (λ (d : ℕ). cond (among us empty n && ltb 0 d) 1 0) (without.others n e) in
      omega (arith, held_among Γ us empty n, held_among Θ us empty n, held_empty Γ n, held_empty Θ n)

  module _ (B C : List ℕ) (lends : Lends lent Θ B C) where
    reads_lent : (us : List Atom) (l : List ℕ) → handed Γ us ⊆ (B ++ l) → handed Θ us ⊆ (C ++ l)
    reads_lent us l h n g = go (lent n) refl
      where
        go : (b : Bool) → lent n ≡ b → n ∈ (C ++ l)
        go true e = elim (dec_lt 0 (Θ n)) [
          | yes d ↦ omega (arith, lends.arrays n e d, occurrences_append n C l)
          | no d ↦ absurd (omega (arith, g, handed_number Θ us n (omega arith)))
        ]
        go false e =
            let there : n ∈ (B ++ l) = h n (omega (arith, g, handed_both us n e)) in
            elim (dec_lt 0 (occurrences n B)) [
              | yes d ↦ omega (arith, lends.more n d, occurrences_append n C l)
              | no d ↦ omega (arith, there, occurrences_append n B l, occurrences_append n C l)
            ]

    -- what is read, if it is not lent, and what B lends
    pass_lent_more : (us : List Atom) (n : ℕ) → n ∈ (handed Γ us ++ B) → n ∈ (handed Θ us ++ C)
    pass_lent_more us n h = elim (dec_lt 0 (occurrences n B)) [
      | yes d ↦ omega (arith, lends.more n d, occurrences_append n (handed Θ us) C)
      | no d ↦
          let read : n ∈ handed Γ us = omega (arith, h, occurrences_append n (handed Γ us) B) in
          go (lent n) refl read
    ]
      where
        go : (b : Bool) → lent n ≡ b → n ∈ handed Γ us → n ∈ (handed Θ us ++ C)
        go true e g = absurd (omega (arith, g, handed_number Γ us n (without.numbers n e)))
        go false e g = omega (arith, g, handed_both us n e, occurrences_append n (handed Θ us) C)

    pass_lends : (k : Loop) (us : List Atom) → Lends lent Θ (pass_lent Γ B k us) (pass_lent Θ C k us)
    pass_lends k us =
        let reads = loop_reads k us in
        record {
          more = λ n h. pass_lent_more reads n h;
          arrays = λ n e d. omega (arith, lends.arrays n e d, occurrences_append n (handed Θ reads) C);
          others = λ n e h. elim (dec_lt 0 (occurrences n C)) [
            | yes d ↦ omega (arith, lends.others n e d, occurrences_append n (handed Γ reads) B)
            | no d ↦
                omega (
                  arith,
                  h,
                  occurrences_append n (handed Θ reads) C,
                  handed_both reads n e,
                  occurrences_append n (handed Γ reads) B,
                )
          ];
        }

    -- ---- what is set aside for a loop's passes

    aside_test : (x : ℕ) → (is_array Γ x && eqb (occurrences x B) 0) ≡ (is_array Θ x && eqb (occurrences x C) 0)
    aside_test x = go (lent x) refl
      where
        go : (b : Bool) → lent x ≡ b →
            (is_array Γ x && eqb (occurrences x B) 0) ≡ (is_array Θ x && eqb (occurrences x C) 0)
        go true e = elim (dec_lt 0 (Θ x)) [
          | yes d ↦
              rw (
                le-ltb 0 (Γ x) (omega (arith, without.numbers x e)),
                ne_eqb (occurrences x C) 0 (λ q. omega (arith, q, lends.arrays x e d)),
                and-false (is_array Θ x),
              )
          | no d ↦ rw (le-ltb 0 (Γ x) (omega (arith, without.numbers x e)), le-ltb 0 (Θ x) (omega arith))
        ]
        go false e =
            let lent_same = same_zero (occurrences x B) (occurrences x C) (lends.more x) (lends.others x e) in
            λ i. ltb 0 (without.others x e i) && lent_same i

    aside_same : (us : List Atom) → unlent B (handed Γ us) ≡ unlent C (handed Θ us)
    unfolding unlent
    aside_same [] = refl
    aside_same (number z ∷ us) = aside_same us
    aside_same (name x ∷ us) =
        unlent_hold B (is_array Γ x) x (handed Γ us) ∙ (λ i. with_if (aside_test x i) x (aside_same us i))
        ∙ sym (unlent_hold C (is_array Θ x) x (handed Θ us))

    outer_same : (k : Loop) (us : List Atom) (H : List ℕ) → AllOwned lent (loop_hands k us) →
        outer_holds Γ B k us H ≡ outer_holds Θ C k us H
    outer_same k us H h = λ i. less (aside_same (loop_reads k us) i) (less (handed_same (loop_hands k us) h i) H)

    pass_same : (k : Loop) (ps : List ℕ) (us : List Atom) (H : List ℕ) → AllOwned lent (loop_hands k us) →
        NoneLent lent ps → pass_holds Γ B k ps us H ≡ pass_holds Θ C k ps us H
    pass_same k ps us H h g = λ i. carried_same k ps g i ++ outer_same k us H h i

  -- ---- the discipline

  mutual
    pub holding_lent : (t : Tree) (B C H P Δ : List ℕ) → Lends lent Θ B C → Spares β lent t →
        Holding β Γ B t H P Δ → Holding β Θ C t H P Δ
    holding_lent (end a) B C H P Δ lends s h =
        subst (λ (l : List ℕ). H ≈ l ++ Δ) (handed_same (a ∷ []) (s, tt)) h
    holding_lent (line l t) B C H P Δ lends s h = (
      line_holding_lent l B C H P lends s.0 h.0,
      subst (λ (I : List ℕ). Holding β Θ C t I (waits_after Θ l) Δ) (after_same l H s.0)
          (subst (λ (W : List ℕ). Holding β Θ C t (holds_after β Γ l H) W Δ) (waits_same l s.0)
          (holding_lent t B C (holds_after β Γ l H) (waits_after Γ l) Δ lends s.1 h.1)),
    )

    line_holding_lent : (l : Line) (B C H P : List ℕ) → Lends lent Θ B C → LineSpares β lent l →
        LineHolding β Γ B l H P → LineHolding β Θ C l H P
    line_holding_lent (leaf x l us) B C H P lends s h =
        let reads = leaf_reads β l us in
        let same = handed_same (leaf_hands β l us) s.1 in (
          subst (λ (m : List ℕ). m ⊑ H) same h.0,
          subst (λ (m : List ℕ). handed Θ reads ⊆ (C ++ less m H)) same
              (reads_lent B C lends reads (less (handed Γ (leaf_hands β l us)) H) h.1),
        )
    line_holding_lent (if_else x g t e) B C H P lends s h =
        let same = left_same t H s.1 in (
          subst (λ (m : List ℕ). m ⊆ (C ++ H)) same (λ n k. lent_more n (h.0 n k)),
          subst (Holding β Θ C t H []) same (holding_lent t B C H [] (left_by β Γ t H) lends s.1 h.1),
          subst (Holding β Θ C e H []) same (holding_lent e B C H [] (left_by β Γ t H) lends s.2 h.2),
        )
      where
        lent_more : (n : ℕ) → n ∈ (B ++ H) → n ∈ (C ++ H)
        lent_more n k = elim (dec_lt 0 (occurrences n B)) [
          | yes d ↦ omega (arith, lends.more n d, occurrences_append n C H)
          | no d ↦ omega (arith, k, occurrences_append n B H, occurrences_append n C H)
        ]
    line_holding_lent (loop x k ps us t) B C H P lends s h =
        let reads = loop_reads k us in
        let same = handed_same (loop_hands k us) s.1 in
        let inner = pass_lent Θ C k us in
        let E = element_name k ps in (
          subst (λ (m : List ℕ). m ⊑ H) same h.0,
          subst (λ (m : List ℕ). handed Θ reads ⊆ (C ++ less m H)) same
              (reads_lent B C lends reads (less (handed Γ (loop_hands k us)) H) h.1),
          subst (Holding β Θ inner t (pass_holds Θ C k ps us H) (holds_of Θ E)) (outer_same B C lends k us H s.1)
              (subst (λ (I : List ℕ). Holding β Θ inner t I (holds_of Θ E) (outer_holds Γ B k us H))
              (pass_same B C lends k ps us H s.1 s.2)
              (subst (λ (W : List ℕ). Holding β Θ inner t (pass_holds Γ B k ps us H) W (outer_holds Γ B k us H))
              (element_same k ps s.2)
              (holding_lent t (pass_lent Γ B k us) inner (pass_holds Γ B k ps us H) (holds_of Γ E)
              (outer_holds Γ B k us H) (pass_lends B C lends k us) s.3 h.2))),
        )
    line_holding_lent (retain x) B C H P lends s h = elim (dec_lt 0 (occurrences x B)) [
      | yes d ↦
          omega (arith, lends.more x d, occurrences_append x P (C ++ H), occurrences_append x C H)
      | no d ↦
          omega (
            arith,
            h,
            occurrences_append x P (B ++ H),
            occurrences_append x B H,
            occurrences_append x P (C ++ H),
            occurrences_append x C H,
          )
    ]
    line_holding_lent (release x) B C H P lends s h = h

  covered_lent : (H : List ℕ) (A : Set) → Covered Γ H A → Covered Θ H A
  covered_lent H A c = record {
    live = c.live;
    below = c.below;
    array = λ n h. go n (lent n) refl (c.array n h);
  }
    where
      go : (n : ℕ) (b : Bool) → lent n ≡ b → is_array Γ n ≡ true → is_array Θ n ≡ true
      go n true e q = absurd (omega (arith, ltb-true 0 (Γ n) q, without.numbers n e))
      go n false e q = ap (ltb 0) (sym (without.others n e)) ∙ q

  mutual
    pub frugal_lent : (t : Tree) (B C H : List ℕ) (L : Set) → Lends lent Θ B C → Spares β lent t →
        Frugal β Γ B t H L → Frugal β Θ C t H L
    frugal_lent (end a) B C H L lends s h = tt
    frugal_lent (line l t) B C H L lends s h = (
      line_frugal_lent l B C H (live t L) lends s.0 h.0,
      subst (λ (I : List ℕ). Frugal β Θ C t I L) (after_same l H s.0)
          (frugal_lent t B C (holds_after β Γ l H) L lends s.1 h.1),
    )

    line_frugal_lent : (l : Line) (B C H : List ℕ) (A : Set) → Lends lent Θ B C → LineSpares β lent l →
        LineFrugal β Γ B l H A → LineFrugal β Θ C l H A
    line_frugal_lent (leaf x l us) B C H A lends s h =
        let reads = among (leaf_reads β l us) (A ∖ x) in (
          covered_lent H (among us (A ∖ x)) h.0,
          subst (λ (m : List ℕ). Covered Θ (less m H) reads) (handed_same (leaf_hands β l us) s.1)
              (covered_lent (less (handed Γ (leaf_hands β l us)) H) reads h.1),
        )
    line_frugal_lent (if_else x g t e) B C H A lends s h = (
      frugal_lent t B C H (after_branch x A) lends s.1 h.0,
      frugal_lent e B C H (after_branch x A) lends s.2 h.1,
    )
    line_frugal_lent (loop x k ps us t) B C H A lends s h =
        let after = after_pass x ps t A in
        let inner = pass_lent Θ C k us in (
          covered_lent H (among us after) h.0,
          subst (λ (I : List ℕ). Frugal β Θ inner t I after) (pass_same B C lends k ps us H s.1 s.2)
              (frugal_lent t (pass_lent Γ B k us) inner (pass_holds Γ B k ps us H) after (pass_lends B C lends k us)
              s.3 h.1),
        )
    line_frugal_lent (retain x) B C H A lends s h = tt
    line_frugal_lent (release x) B C H A lends s h = tt
