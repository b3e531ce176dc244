-- Holds as multisets: what is left when some are spent; and the rules of the discipline, which look at a list of holds
-- only as a multiset.
use Rattle.prelude.specs.Kit.{ℕ, ◌≤◌, ◌+◌, ◌-◌, arith, true, false, Bool, cond, ◌≡◌, ◌∙◌, sym, ap, inl, inr, ◌⊎◌, List}
use Rattle.prelude.specs.Kit.{[], ◌∷◌, ◌++◌, eqb, ne_eqb, eq-eqb}
use Rattle.semantics.specs.Basics.{occurrences, ◌∈◌, with_if}
use Rattle.semantics.specs.Kinds.{Borrowing, leaf_hands, leaf_reads, loop_hands, loop_reads, element_name, carried_name}
use Rattle.semantics.specs.Code.{Line, leaf, if_else, loop, retain, release, Tree, end, line}
use Rattle.semantics.specs.Live.{Set, live}
use Rattle.semantics.specs.Annotate.{NameDepths}
use Rattle.laws.specs.Lists.{◌≈◌, ◌⊆◌, hits, occurrences_append}
use Rattle.discipline.proofs.machine.Discipline.{without, less, unlent, ◌⊑◌, handed, hold_of, holds_of, left_by}
use Rattle.discipline.proofs.machine.Discipline.{holds_after, waits_after, loop_holds, outer_holds, pass_holds}
use Rattle.discipline.proofs.machine.Discipline.{aside, leaf_holds, pass_lent, Holding, LineHolding, Covered}
use Rattle.discipline.proofs.machine.Discipline.{Frugal, LineFrugal}

-- ---- what is left

-- how often x counts as n
abbrev hit : ℕ → ℕ → ℕ
hit n x = cond (eqb n x) 1 0

without_counts : (x n : ℕ) (H : List ℕ) → occurrences n (without x H) ≡ occurrences n H - hit n x
unfolding occurrences without
without_counts x n [] = omega arith
without_counts x n (y ∷ H) = elim (hits x y) [
  | inl g ↦ rw (eq-eqb x y g.0) (omega (arith, ap (hit n) g.0))
  | inr g ↦ rw (ne_eqb x y g.0) (elim (hits n x) [
    | inl q ↦ elim (hits n y) [
      | inl r ↦ absurd (g.0 (sym q.0 ∙ r.0))
      | inr r ↦ omega (arith, q.1, r.1, without_counts x n H)
    ]
    | inr q ↦ omega (arith, q.1, without_counts x n H)
  ])
]

-- this holds whether or not H has all of them
pub less_counts : (l H : List ℕ) (n : ℕ) → occurrences n (less l H) ≡ occurrences n H - occurrences n l
unfolding occurrences less
less_counts [] H n = omega arith
less_counts (x ∷ l) H n = omega (arith, less_counts l (without x H) n, without_counts x n H)

-- what is spent and what is left
pub spend_split : (l H : List ℕ) → l ⊑ H → H ≈ l ++ less l H
spend_split l H h n = omega (arith, h n, less_counts l H n, occurrences_append n l (less l H))

-- what is left is known from what there was
pub less_is : (l H H' : List ℕ) → H ≈ l ++ H' → less l H ≈ H'
less_is l H H' h n = omega (arith, h n, less_counts l H n, occurrences_append n l H')

pub less_spends : (l H H' : List ℕ) → H ≈ l ++ H' → l ⊑ H
less_spends l H H' h n = omega (arith, h n, occurrences_append n l H')

pub less_in : (l H : List ℕ) → less l H ⊆ H
less_in l H n h = omega (arith, h, less_counts l H n)

pub less_same : (l H I : List ℕ) → H ≈ I → less l H ≈ less l I
less_same l H I h n = omega (arith, h n, less_counts l H n, less_counts l I n)

-- one hold spent, which there was
pub spend_one : (x : ℕ) (H : List ℕ) → x ∈ H → (x ∷ []) ⊑ H
unfolding occurrences
spend_one x H h n = elim (hits n x) [
  | inl g ↦ omega (arith, g.1, h, ap (λ (k : ℕ). occurrences k H) g.0)
  | inr g ↦ omega (arith, g.1)
]

-- what is not lent already
pub unlent_few : (B l : List ℕ) → unlent B l ⊑ l
unfolding occurrences unlent
unlent_few B [] n = omega arith
unlent_few B (x ∷ l) n = go (eqb (occurrences x B) 0) (unlent_few B l n)
  where
    go : (b : Bool) → occurrences n (unlent B l) ≤ occurrences n l →
        occurrences n (with_if b x (unlent B l)) ≤ hit n x + occurrences n l
    go true h = omega (arith, h)
    go false h = omega (arith, h)

pub lent_or_not : (B l : List ℕ) (n : ℕ) → n ∈ l → (n ∈ B) ⊎ (n ∈ unlent B l)
unfolding occurrences unlent
lent_or_not B [] n h = absurd (omega arith)
lent_or_not B (x ∷ l) n h = elim (hits (occurrences x B) 0) [
  | inl g ↦ rw (eq-eqb (occurrences x B) 0 g.0) (elim (hits n x) [
    | inl q ↦ inr (omega (arith, q.1))
    | inr q ↦ elim (lent_or_not B l n (omega (arith, q.1))) [ inl r ↦ inl r | inr r ↦ inr (omega (arith, r)) ]
  ])
  | inr g ↦ rw (ne_eqb (occurrences x B) 0 g.0) (elim (hits n x) [
    | inl q ↦ inl (omega (arith, g.0, ap (λ (k : ℕ). occurrences k B) q.0))
    | inr q ↦ lent_or_not B l n (omega (arith, q.1))
  ])
]

pub unlent_not_lent : (B l : List ℕ) (n : ℕ) → n ∈ unlent B l → occurrences n B ≡ 0
unfolding occurrences unlent
unlent_not_lent B [] n h = absurd (omega arith)
unlent_not_lent B (x ∷ l) n h = elim (hits (occurrences x B) 0) [
  | inl g ↦ elim (hits n x) [
    | inl q ↦ ap (λ (k : ℕ). occurrences k B) q.0 ∙ g.0
    | inr q ↦ unlent_not_lent B l n (omega (arith, q.1, counted true (eq-eqb (occurrences x B) 0 g.0)))
  ]
  | inr g ↦ unlent_not_lent B l n (omega (arith, counted false (ne_eqb (occurrences x B) 0 g.0)))
]
  where
    counted : (b : Bool) → eqb (occurrences x B) 0 ≡ b →
        occurrences n (unlent B (x ∷ l)) ≡ occurrences n (with_if b x (unlent B l))
    counted b e = ap (λ (c : Bool). occurrences n (with_if c x (unlent B l))) e

-- ---- equal holds

pub same_append : (l H I : List ℕ) → H ≈ I → (l ++ H) ≈ (l ++ I)
same_append l H I h n = omega (arith, h n, occurrences_append n l H, occurrences_append n l I)

-- what is read is lent, or held once some are spent
reads_same : (B l r H I : List ℕ) → H ≈ I → r ⊆ (B ++ less l H) → r ⊆ (B ++ less l I)
reads_same B l r H I h g n q =
    omega (arith, same_append B (less l H) (less l I) (less_same l H I h) n, g n q)

pub covers_same : {Γ : NameDepths} {A : Set} (H I : List ℕ) → H ≈ I → Covered Γ H A → Covered Γ I A
covers_same H I h c = record {
  live = λ n g. c.live n (omega (arith, g, h n));
  below = λ n g. c.below n (omega (arith, g, h n));
  array = λ n g. c.array n (omega (arith, g, h n));
}

module _ (β : Borrowing) (Γ : NameDepths) where
  mutual
    unfolding left_by

    pub left_by_same : (t : Tree) (H I : List ℕ) → H ≈ I → left_by β Γ t H ≈ left_by β Γ t I
    left_by_same (end a) H I h = less_same (handed Γ (a ∷ [])) H I h
    left_by_same (line l t) H I h =
        left_by_same t (holds_after β Γ l H) (holds_after β Γ l I) (holds_after_same l H I h)

    pub holds_after_same : (l : Line) (H I : List ℕ) → H ≈ I → holds_after β Γ l H ≈ holds_after β Γ l I
    holds_after_same (leaf x l us) H I h =
        same_append (leaf_holds Γ x l) (less (handed Γ (leaf_hands β l us)) H) (less (handed Γ (leaf_hands β l us)) I)
        (less_same (handed Γ (leaf_hands β l us)) H I h)
    holds_after_same (if_else x g t e) H I h =
        same_append (hold_of Γ x) (left_by β Γ t H) (left_by β Γ t I) (left_by_same t H I h)
    holds_after_same (loop x k ps us t) H I h =
        same_append (hold_of Γ x) (loop_holds Γ k us H) (loop_holds Γ k us I)
        (less_same (handed Γ (loop_hands k us)) H I h)
    holds_after_same (retain x) H I h = same_append (x ∷ []) H I h
    holds_after_same (release x) H I h = less_same (x ∷ []) H I h

  outer_same : (l m H I : List ℕ) → H ≈ I → less l (less m H) ≈ less l (less m I)
  outer_same l m H I h = less_same l (less m H) (less m I) (less_same m H I h)

  -- a tree leaves the holds that it is said to leave
  pub holding_left : (B : List ℕ) (t : Tree) (H P Δ : List ℕ) → Holding β Γ B t H P Δ → left_by β Γ t H ≈ Δ
  unfolding left_by
  holding_left B (end a) H P Δ h = less_is (handed Γ (a ∷ [])) H Δ h
  holding_left B (line l t) H P Δ h = holding_left B t (holds_after β Γ l H) (waits_after Γ l) Δ h.1

  mutual
    pub holding_same : (B : List ℕ) (t : Tree) (H I P Δ E : List ℕ) → H ≈ I → Δ ≈ E → Holding β Γ B t H P Δ →
        Holding β Γ B t I P E
    holding_same B (end a) H I P Δ E h d q =
        λ n. sym (h n) ∙ q n ∙ same_append (handed Γ (a ∷ [])) Δ E d n
    holding_same B (line l t) H I P Δ E h d q = (
      line_holding_same B l H I P h q.0,
      holding_same B t (holds_after β Γ l H) (holds_after β Γ l I) (waits_after Γ l) Δ E (holds_after_same l H I h) d
          q.1,
    )

    pub line_holding_same : (B : List ℕ) (l : Line) (H I P : List ℕ) → H ≈ I → LineHolding β Γ B l H P →
        LineHolding β Γ B l I P
    line_holding_same B (leaf x l us) H I P h q = (
      λ n. omega (arith, h n, q.0 n),
      reads_same B (handed Γ (leaf_hands β l us)) (handed Γ (leaf_reads β l us)) H I h q.1,
    )
    line_holding_same B (if_else x g t e) H I P h q =
        let left = left_by_same t H I h in (
          λ n k. omega (
            arith,
            h n,
            left n,
            occurrences_append n B H,
            occurrences_append n B I,
            q.0 n (omega (arith, left n, k)),
          ),
          holding_same B t H I [] (left_by β Γ t H) (left_by β Γ t I) h left q.1,
          holding_same B e H I [] (left_by β Γ t H) (left_by β Γ t I) h left q.2,
        )
    line_holding_same B (loop x k ps us t) H I P h q =
        let outer = outer_same (aside Γ B k us) (handed Γ (loop_hands k us)) H I h in (
          λ n. omega (arith, h n, q.0 n),
          reads_same B (handed Γ (loop_hands k us)) (handed Γ (loop_reads k us)) H I h q.1,
          holding_same (pass_lent Γ B k us) t (pass_holds Γ B k ps us H) (pass_holds Γ B k ps us I)
              (holds_of Γ (element_name k ps)) (outer_holds Γ B k us H) (outer_holds Γ B k us I)
              (same_append (holds_of Γ (carried_name k ps)) (outer_holds Γ B k us H) (outer_holds Γ B k us I) outer)
              outer q.2,
        )
    line_holding_same B (retain x) H I P h q =
        omega (arith, same_append P (B ++ H) (B ++ I) (same_append B H I h) x, q)
    line_holding_same B (release x) H I P h q = omega (arith, h x, q)

  mutual
    pub frugal_same : (B : List ℕ) (t : Tree) (H I : List ℕ) (L : Set) → H ≈ I → Frugal β Γ B t H L → Frugal β Γ B t I L
    frugal_same B (end a) H I L h q = tt
    frugal_same B (line l t) H I L h q = (
      line_frugal_same B l H I (live t L) h q.0,
      frugal_same B t (holds_after β Γ l H) (holds_after β Γ l I) L (holds_after_same l H I h) q.1,
    )

    pub line_frugal_same : (B : List ℕ) (l : Line) (H I : List ℕ) (A : Set) → H ≈ I → LineFrugal β Γ B l H A →
        LineFrugal β Γ B l I A
    line_frugal_same B (leaf x l us) H I A h q = (
      covers_same H I h q.0,
      covers_same (less (handed Γ (leaf_hands β l us)) H) (less (handed Γ (leaf_hands β l us)) I)
          (less_same (handed Γ (leaf_hands β l us)) H I h) q.1,
    )
    line_frugal_same B (if_else x g t e) H I A h q = (
      frugal_same B t H I _ h q.0,
      frugal_same B e H I _ h q.1,
    )
    line_frugal_same B (loop x k ps us t) H I A h q = (
      covers_same H I h q.0,
      frugal_same (pass_lent Γ B k us) t (pass_holds Γ B k ps us H) (pass_holds Γ B k ps us I) _
          (same_append (holds_of Γ (carried_name k ps)) (outer_holds Γ B k us H) (outer_holds Γ B k us I)
          (outer_same (aside Γ B k us) (handed Γ (loop_hands k us)) H I h)) q.1,
    )
    line_frugal_same B (retain x) H I A h q = tt
    line_frugal_same B (release x) H I A h q = tt
