-- Multisets under a function, and functions changed at one number.
use Rattle.prelude.specs.Kit.{ℕ, ◌≤◌, ◌+◌, ◌<◌, suc, zero, arith, ℕ_discrete, true, false, Bool, cond, ◌≡◌, refl, sym}
use Rattle.prelude.specs.Kit.{ap, ap₂, inl, inr, ◌≢◌, ◌⊎◌, List, [], ◌∷◌, ◌++◌, map, eqb}
use Rattle.semantics.specs.Basics.{occurrences, ◌∈◌, with_if}
use Rattle.semantics.specs.Live.{Set, members, members_from}
use Rattle.laws.specs.Lists.{◌≈◌, ◌⊆◌, hits, occurrences_append}
use Rattle.discipline.proofs.store.Counting.{hits_itself}

-- ---- a list of numbers, mapped

pub image_in : (f : ℕ → ℕ) (n : ℕ) (l : List ℕ) → n ∈ l → f n ∈ map f l
unfolding occurrences
image_in f n [] h = absurd (omega arith)
image_in f n (x ∷ l) h = elim (hits n x) [
  | inl g ↦ omega (arith, hits_itself (f n), ap (λ (y : ℕ). cond {A = ℕ} (eqb (f n) (f y)) 1 0) g.0)
  | inr g ↦ omega (arith, image_in f n l (omega arith))
]

-- a member of the image comes from a member
pub record Source (f : ℕ → ℕ) (c : ℕ) (l : List ℕ) : Type 0 where
  pub from : ℕ
  pub member : from ∈ l
  pub is : c ≡ f from

pub source : (f : ℕ → ℕ) (c : ℕ) (l : List ℕ) → c ∈ map f l → Source f c l
unfolding occurrences
source f c [] h = absurd (omega arith)
source f c (x ∷ l) h = elim (hits c (f x)) [
  | inl g ↦ record { from = x; member = omega (arith, hits_itself x); is = g.0 }
  | inr g ↦
      let q = source f c l (omega arith) in
      record { from = q.from; member = omega (arith, q.member); is = q.is }
]

pub image_subset : (f : ℕ → ℕ) (l m : List ℕ) → l ⊆ m → map f l ⊆ map f m
image_subset f l m h c g = let q = source f c l g in rw q.is (image_in f q.from m (h q.from q.member))

-- a list with one member taken out
record TakenOut (f : ℕ → ℕ) (x : ℕ) (l : List ℕ) : Type 0 where
  pub rest : List ℕ
  pub counts : (n : ℕ) → occurrences n l ≡ cond (eqb n x) 1 0 + occurrences n rest
  pub images : (c : ℕ) → occurrences c (map f l) ≡ cond (eqb c (f x)) 1 0 + occurrences c (map f rest)

take_out : (f : ℕ → ℕ) (x : ℕ) (l : List ℕ) → x ∈ l → TakenOut f x l
unfolding occurrences
take_out f x [] h = absurd (omega arith)
take_out f x (y ∷ l) h = elim (hits x y) [
  | inl g ↦ record {
    rest = l;
    counts = λ n. ap (λ (z : ℕ). cond {A = ℕ} (eqb n z) 1 0 + occurrences n l) (sym g.0);
    images = λ c. ap (λ (z : ℕ). cond {A = ℕ} (eqb c (f z)) 1 0 + occurrences c (map f l)) (sym g.0);
  }
  | inr g ↦
      let q = take_out f x l (omega arith) in
      record {
        rest = y ∷ q.rest;
        counts = λ n. omega (arith, q.counts n);
        images = λ c. omega (arith, q.images c);
      }
]

pub image_same : (f : ℕ → ℕ) (l m : List ℕ) → l ≈ m → map f l ≈ map f m
unfolding occurrences
image_same f [] [] h c = refl
image_same f [] (x ∷ m) h c = absurd (omega (arith, h x, hits_itself x))
image_same f (x ∷ l) m h c =
    let q = take_out f x m (omega (arith, h x, hits_itself x)) in
    omega (arith, q.images c, image_same f l q.rest (λ n. omega (arith, h n, q.counts n)) c)

pub image_fewer : (f : ℕ → ℕ) (l m : List ℕ) → ((n : ℕ) → occurrences n l ≤ occurrences n m) → (c : ℕ) →
    occurrences c (map f l) ≤ occurrences c (map f m)
unfolding occurrences
image_fewer f [] m h c = omega arith
image_fewer f (x ∷ l) m h c =
    let q = take_out f x m (omega (arith, h x, hits_itself x)) in
    omega (arith, q.images c, image_fewer f l q.rest (λ n. omega (arith, h n, q.counts n)) c)

-- two functions that agree on a list
pub image_alike : (f g : ℕ → ℕ) (l : List ℕ) → ((n : ℕ) → n ∈ l → f n ≡ g n) → map f l ≡ map g l
unfolding occurrences
image_alike f g [] h = refl
image_alike f g (x ∷ l) h =
    ap₂ {C = List ℕ} ◌∷◌ (h x (omega (arith, hits_itself x))) (image_alike f g l (λ n m. h n (omega arith)))

-- a part left out in the middle
pub without_middle : (l k m : List ℕ) → (l ++ m) ⊆ (l ++ (k ++ m))
without_middle l k m n h =
    omega (arith, occurrences_append n l m, occurrences_append n l (k ++ m), occurrences_append n k m)

pub first_or_later : (n x : ℕ) (l : List ℕ) → n ∈ (x ∷ l) → (n ≡ x) ⊎ (n ∈ l)
unfolding occurrences
first_or_later n x l h = elim (hits n x) [ inl g ↦ inl g.0 | inr g ↦ inr (omega arith) ]

pub one_more : (n x : ℕ) (l : List ℕ) →
    (occurrences n l ≤ occurrences n (x ∷ l)) × (occurrences n (x ∷ l) ≤ suc (occurrences n l))
unfolding occurrences
one_more n x l = elim (hits n x) [
  | inl g ↦ (omega arith, omega (arith, g.1))
  | inr g ↦ (omega arith, omega (arith, g.1))
]

-- ---- members of a set of names

members_have : (n x : ℕ) (A : Set) (y : ℕ) → x ≤ y → y < x + n → A y ≡ true → y ∈ members_from n x A
unfolding occurrences members_from
members_have zero x A y low high h = absurd (omega arith)
members_have (suc n) x A y low high h = elim (ℕ_discrete y x) [
  | yes e ↦ rw (← e, h) (omega (arith, hits_itself y))
  | no f ↦ later (A x) (members_have n (suc x) A y (omega (arith, f)) (omega arith) h)
]
  where
    later : (b : Bool) → y ∈ members_from n (suc x) A → y ∈ with_if b x (members_from n (suc x) A)
    later true g = omega arith
    later false g = g

pub member : (A : Set) (y : ℕ) → y < 256 → A y ≡ true → y ∈ members A
unfolding members
member A y below h = members_have 256 0 A y (omega arith) (omega arith) h

-- ---- a function changed at one number

-- what is not in a list differs from its members
pub apart : (x y : ℕ) (l : List ℕ) → occurrences x l ≡ 0 → y ∈ l → y ≢ x
apart x y l none h e = omega (arith, ap (λ (k : ℕ). occurrences k l) e)
