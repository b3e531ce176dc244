-- `none_bound_says`: what the walk asks at the end of an if's first tree, that it leaves holds on no name but those
-- that were held or lent before, is document 02's "no tree ends with a hold on a name bound in it".
use Rattle.std.specs.Prelude.{ℕ, true, false, Bool, cond, ◌||◌, ◌≡◌, refl, ◌⊎◌, List, [], ◌∷◌, ◌++◌, eqb}
use Rattle.prelude.specs.Kit.{arith, false≢true, ◌∙◌, sym, subst, inl, inr, eq-eqb, eqb-true}
use Rattle.semantics.specs.Basics.{occurrences, ◌∈◌, with_if}
use Rattle.semantics.specs.Kinds.{Borrowing, leaf_hands, loop_hands, is_pending}
use Rattle.semantics.specs.Code.{Line, leaf, if_else, loop, retain, release, Tree, end, line}
use Rattle.semantics.specs.Live.{Set, empty, ◌∪◌, only}
use Rattle.semantics.specs.Annotate.{NameDepths, is_array}
use Rattle.laws.specs.Lists.{◌⊆◌, hits, occurrences_append}
use Rattle.laws.specs.Tests.{or_cases, or_left, or_right}
use Rattle.discipline.proofs.store.Counting.{append_cases}
use Rattle.discipline.proofs.machine.Images.{first_or_later}
use Rattle.discipline.proofs.machine.Discipline.{less, handed, hold_of, waits_after, left_by, holds_after, Holding}
use Rattle.discipline.proofs.machine.Discipline.{LineHolding, Scoped, LineScoped, known_after}
use Rattle.discipline.proofs.machine.Spending.{less_in}
use Rattle.discipline.proofs.machine.Rules.{Names}

-- the name that a line binds after its trees
abbrev pub bound : Line → Set
bound (leaf x l us) = only x
bound (if_else x g t e) = only x
bound (loop x k ps us t) = only x
bound (retain x) = empty
bound (release x) = empty

-- the names that the lines of a tree bind
unfoldable pub binds : Tree → Set
binds (end a) = empty
binds (line l t) = bound l ∪ binds t

-- ---- a name that is bound was not known before

line_unknown : (l : Line) (S : Set) (n : ℕ) → LineScoped l S → bound l n ≡ true → S n ≡ false
line_unknown (leaf x l us) S n s e = subst (λ (y : ℕ). S y ≡ false) (eqb-true x n e) s.1.unknown
line_unknown (if_else x g t u) S n s e = subst (λ (y : ℕ). S y ≡ false) (eqb-true x n e) s.1.unknown
line_unknown (loop x k ps us t) S n s e = subst (λ (y : ℕ). S y ≡ false) (eqb-true x n e) s.1.unknown
line_unknown (retain x) S n s e = absurd (false≢true e)
line_unknown (release x) S n s e = absurd (false≢true e)

left_false : (a b : Bool) → (a || b) ≡ false → a ≡ false
left_false true b e = e
left_false false b e = refl

stays_unknown : (l : Line) (S : Set) (n : ℕ) → known_after l S n ≡ false → S n ≡ false
stays_unknown (leaf x l us) S n e = left_false (S n) (eqb x n) e
stays_unknown (if_else x g t u) S n e = left_false (S n) (eqb x n) e
stays_unknown (loop x k ps us t) S n e = left_false (S n) (eqb x n) e
stays_unknown (retain x) S n e = e
stays_unknown (release x) S n e = e

unknown : (t : Tree) (S : Set) (n : ℕ) → Scoped t S → binds t n ≡ true → S n ≡ false
unfolding binds
unknown (end a) S n s e = absurd (false≢true e)
unknown (line l t) S n s e = elim (or_cases (bound l n) (binds t n) e) [
  | inl q ↦ line_unknown l S n s.0 q
  | inr q ↦ stays_unknown l S n (unknown t (known_after l S) n s.1 q)
]

-- ---- what a tree leaves was there before, or is bound in it

module _ (β : Borrowing) (Γ : NameDepths) where
  own_or : (x n : ℕ) (l : List ℕ) → n ∈ (hold_of Γ x ++ l) → (n ∈ l) ⊎ (eqb x n ≡ true)
  own_or x n l h = go (is_array Γ x) h
    where
      go : (b : Bool) → n ∈ (with_if b x [] ++ l) → (n ∈ l) ⊎ (eqb x n ≡ true)
      go true h = elim (first_or_later n x l h) [ inl e ↦ inr (eq-eqb x n (sym e)) | inr q ↦ inl q ]
      go false h = inl h

  abbrev Was : Line → List ℕ → List ℕ → List ℕ → ℕ → Type 0
  Was l B H P n = (n ∈ (P ++ (B ++ H))) ⊎ (bound l n ≡ true)

  held_before : (B H P : List ℕ) (n : ℕ) → n ∈ H → n ∈ (P ++ (B ++ H))
  held_before B H P n h = omega (arith, h, occurrences_append n P (B ++ H), occurrences_append n B H)

  before_or : (l : Line) (B H P : List ℕ) (n : ℕ) → (n ∈ H) ⊎ (bound l n ≡ true) → Was l B H P n
  before_or l B H P n (inl h) = inl (held_before B H P n h)
  before_or l B H P n (inr e) = inr e

  -- after a line
  after_was : (l : Line) (B H P : List ℕ) (n : ℕ) → LineHolding β Γ B l H P → n ∈ holds_after β Γ l H → Was l B H P n
  unfolding left_by
  after_was (leaf x l us) B H P n r h = go (is_pending l) h
    where
      rest : List ℕ
      rest = less (handed Γ (leaf_hands β l us)) H

      go : (c : Bool) → n ∈ (cond c [] (hold_of Γ x) ++ rest) → Was (leaf x l us) B H P n
      go true h = inl (held_before B H P n (less_in (handed Γ (leaf_hands β l us)) H n h))
      go false h = elim (own_or x n rest h) [
        | inl q ↦ inl (held_before B H P n (less_in (handed Γ (leaf_hands β l us)) H n q))
        | inr q ↦ inr q
      ]
  after_was (if_else x g t e) B H P n r h = elim (own_or x n (left_by β Γ t H) h) [
    | inl q ↦ inl (omega (arith, r.0 n q, occurrences_append n P (B ++ H)))
    | inr q ↦ inr q
  ]
  after_was (loop x k ps us t) B H P n r h = elim (own_or x n (less (handed Γ (loop_hands k us)) H) h) [
    | inl q ↦ inl (held_before B H P n (less_in (handed Γ (loop_hands k us)) H n q))
    | inr q ↦ inr q
  ]
  after_was (retain x) B H P n r h = elim (first_or_later n x H h) [
    | inl e ↦ inl (subst (λ (y : ℕ). y ∈ (P ++ (B ++ H))) (sym e) r)
    | inr q ↦ inl (held_before B H P n q)
  ]
  after_was (release x) B H P n r h = inl (held_before B H P n (less_in (x ∷ []) H n h))

  waits_bound : (l : Line) (n : ℕ) → n ∈ waits_after Γ l → bound l n ≡ true
  unfolding occurrences
  waits_bound (leaf x l us) n h = go (is_pending l) h
    where
      go : (c : Bool) → n ∈ cond c (hold_of Γ x) [] → eqb x n ≡ true
      go true h = elim (own_or x n [] (omega (arith, h, occurrences_append n (hold_of Γ x) []))) [
        | inl q ↦ absurd (omega (arith, q))
        | inr q ↦ q
      ]
      go false h = absurd (omega (arith, h))
  waits_bound (if_else x g t e) n h = absurd (omega (arith, h))
  waits_bound (loop x k ps us t) n h = absurd (omega (arith, h))
  waits_bound (retain x) n h = absurd (omega (arith, h))
  waits_bound (release x) n h = absurd (omega (arith, h))

  left_was : (t : Tree) (B H P Δ : List ℕ) (n : ℕ) → Holding β Γ B t H P Δ → n ∈ left_by β Γ t H →
      (n ∈ (P ++ (B ++ H))) ⊎ (binds t n ≡ true)
  unfolding left_by binds
  left_was (end a) B H P Δ n r h = inl (held_before B H P n (less_in (handed Γ (a ∷ [])) H n h))
  left_was (line l t) B H P Δ n r h =
      elim (left_was t B (holds_after β Γ l H) (waits_after Γ l) Δ n r.1 h) [
        | inl q ↦ elim (append_cases n (waits_after Γ l) (B ++ holds_after β Γ l H) q) [
          | inl w ↦ inr (or_left (bound l n) (binds t n) (waits_bound l n w))
          | inr w ↦ elim (append_cases n B (holds_after β Γ l H) w) [
            | inl b ↦ inl (omega (arith, b, occurrences_append n P (B ++ H), occurrences_append n B H))
            | inr b ↦ elim (after_was l B H P n r.0 b) [
              | inl z ↦ inl z
              | inr z ↦ inr (or_left (bound l n) (binds t n) z)
            ]
          ]
        ]
        | inr q ↦ inr (or_right (bound l n) (binds t n) q)
      ]

  -- of a branch, in whose scope all names that hold or are lent are known
  module _ (t : Tree) (S : Set) (B H Δ : List ℕ) (scoped : Scoped t S) (names : Names S B H Δ)
      (holds : Holding β Γ B t H [] (left_by β Γ t H)) where
    pub none_bound_says : left_by β Γ t H ⊆ (B ++ H) → (n : ℕ) → binds t n ≡ true →
        occurrences n (left_by β Γ t H) ≡ 0
    none_bound_says h n e = elim (hits (occurrences n (left_by β Γ t H)) 0) [
      | inl q ↦ q.0
      | inr q ↦ absurd (false≢true (sym (unknown t S n scoped e)
          ∙ elim (append_cases n B H (h n (omega (arith, q.0)))) [
            | inl b ↦ names.lent n b
            | inr b ↦ names.held n b
          ]))
    ]

    pub none_bound_if : ((n : ℕ) → binds t n ≡ true → occurrences n (left_by β Γ t H) ≡ 0) →
        left_by β Γ t H ⊆ (B ++ H)
    unfolding occurrences
    none_bound_if h n q = elim (left_was t B H [] (left_by β Γ t H) n holds q) [
      | inl w ↦ w
      | inr e ↦ absurd (omega (arith, q, h n e))
    ]
