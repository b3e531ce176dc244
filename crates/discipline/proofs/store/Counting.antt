-- More on lists as multisets: members, lists of distinct numbers, bounds.
use Rattle.prelude.specs.Kit.{ℕ, ◌≤◌, ◌+◌, ◌<◌, suc, zero, arith, dec_lt, ℕ_discrete, cond, ◌≡◌, refl, ◌∙◌, sym, ap, inl}
use Rattle.prelude.specs.Kit.{inr, ◌≢◌, ◌⊎◌, List, [], ◌∷◌, ◌++◌, map, eqb, ℤ, pos, length, get_or, ne_eqb, eq-eqb}
use Rattle.semantics.specs.Basics.{occurrences, ◌∈◌}
use Rattle.semantics.specs.Store.{cell_of, named_by}
use Rattle.laws.specs.Lists.{hits, occurrences_append, occurs_first}

pub hits_itself : (x : ℕ) → ◌≡◌ {A = ℕ} (cond (eqb x x) 1 0) 1
hits_itself x = rw (eq-eqb x x refl) refl

pub occurs_at_most : (n : ℕ) (l : List ℕ) → occurrences n l ≤ length l
unfolding occurrences
occurs_at_most n [] = omega arith
occurs_at_most n (x ∷ l) = elim (hits n x) [
  | inl h ↦ omega (arith, occurs_at_most n l)
  | inr h ↦ omega (arith, occurs_at_most n l)
]

pub in_append_left : (n : ℕ) (l m : List ℕ) → n ∈ l → n ∈ (l ++ m)
in_append_left n l m h = omega (arith, occurrences_append n l m)

pub in_append_right : (n : ℕ) (l m : List ℕ) → n ∈ m → n ∈ (l ++ m)
in_append_right n l m h = omega (arith, occurrences_append n l m)

pub append_cases : (n : ℕ) (l m : List ℕ) → n ∈ (l ++ m) → (n ∈ l) ⊎ (n ∈ m)
append_cases n l m h = elim (dec_lt 0 (occurrences n l)) [
  | yes g ↦ inl g
  | no g ↦ inr (omega (arith, occurrences_append n l m))
]

-- ---- what words name

pub named_by_append : (n d : ℕ) (ws vs : List ℤ) →
    occurrences n (named_by d (ws ++ vs)) ≡ occurrences n (named_by d ws) + occurrences n (named_by d vs)
unfolding occurrences
named_by_append n zero ws vs = refl
named_by_append n (suc d) [] vs = omega arith
named_by_append n (suc d) (w ∷ ws) vs = omega (arith, named_by_append n (suc d) ws vs)

-- a number that words name is named by one of them
pub record Namer (r : ℕ) (ws : List ℤ) : Type 0 where
  pub place : ℕ
  pub within : place < length ws
  pub names : r ≡ cell_of (get_or ws place (pos 0))

pub namer_of : (r : ℕ) (ws : List ℤ) → r ∈ map cell_of ws → Namer r ws
unfolding occurrences
namer_of r [] h = absurd (omega arith)
namer_of r (w ∷ ws) h = elim (hits r (cell_of w)) [
  | inl g ↦ record { place = 0; within = omega arith; names = g.0 }
  | inr g ↦
      let q = namer_of r ws (omega arith) in
      record { place = suc q.place; within = omega (arith, q.within); names = q.names }
]

pub named_at : (ws : List ℤ) (i : ℕ) → i < length ws → cell_of (get_or ws i (pos 0)) ∈ map cell_of ws
unfolding occurrences
named_at [] i h = absurd (omega arith)
named_at (w ∷ ws) zero h = omega (arith, hits_itself (cell_of w))
named_at (w ∷ ws) (suc i) h = omega (arith, named_at ws i (omega arith))

-- ---- a list of distinct numbers below n has at most n

unfoldable pub without : ℕ → List ℕ → List ℕ
without k [] = []
without k (x ∷ l) = cond (eqb k x) (without k l) (x ∷ without k l)

pub without_length : (k : ℕ) (l : List ℕ) → length l ≡ occurrences k l + length (without k l)
unfolding occurrences without
without_length k [] = refl
without_length k (x ∷ l) = let ih = without_length k l in elim (ℕ_discrete k x) [
  | yes e ↦ rw (eq-eqb k x e) (omega arith)
  | no f ↦ rw (ne_eqb k x f) (omega arith)
]

pub without_fewer : (k n : ℕ) (l : List ℕ) →
    (occurrences n (without k l) ≤ occurrences n l) × (occurrences k (without k l) ≡ 0)
unfolding occurrences without
without_fewer k n [] = (omega arith, refl)
without_fewer k n (x ∷ l) = let ih = without_fewer k n l in elim (ℕ_discrete k x) [
  | yes e ↦ rw (eq-eqb k x e) (omega arith, ih.1)
  | no f ↦ rw (ne_eqb k x f) (omega arith, omega (arith, ih.1, ap (λ b. cond {A = ℕ} b 1 0) (ne_eqb k x f)))
]

pub without_other : (k n : ℕ) (l : List ℕ) → n ≢ k → occurrences n (without k l) ≡ occurrences n l
unfolding occurrences without
without_other k n [] h = refl
without_other k n (x ∷ l) h = let ih = without_other k n l h in elim (ℕ_discrete k x) [
  | yes e ↦ rw (eq-eqb k x e, ne_eqb n x (λ q. h (q ∙ sym e))) (omega (arith, ih))
  | no f ↦ rw (ne_eqb k x f) (omega (arith, ih))
]

pub distinct_length : (n : ℕ) (l : List ℕ) → ((c : ℕ) → c ∈ l → c < n) → ((c : ℕ) → occurrences c l ≤ 1) →
    length l ≤ n
unfolding occurrences
distinct_length zero [] below once = omega arith
distinct_length zero (x ∷ l) below once = absurd (omega (arith, below x (occurs_first x l)))
distinct_length (suc n) l below once =
    let shorter = distinct_length n (without n l) rest (λ c. omega (arith, without_fewer n c l, once c)) in
    omega (arith, without_length n l, once n)
  where
    rest : (c : ℕ) → c ∈ without n l → c < n
    rest c h = elim (ℕ_discrete c n) [
      | yes e ↦ absurd (omega (arith, without_fewer n c l, ap (λ (k : ℕ). occurrences k (without n l)) e))
      | no f ↦ omega (arith, f, below c (omega (arith, without_fewer n c l)))
    ]
