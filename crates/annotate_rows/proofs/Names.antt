-- Laws of the names that are released and retained.
use Rattle.prelude.specs.Kit.{ℕ, ◌≤◌, ◌+◌, ◌<◌, ◌-◌, suc, zero, arith, ℕ_discrete, true, false, Bool, ◌&&◌, not, ◌||◌}
use Rattle.prelude.specs.Kit.{◌≡◌, refl, ◌∙◌, sym, ap, fun_ext, List, [], ◌∷◌, ◌++◌, eqb, ltb, ℤ, ne_eqb, lt-ltb}
use Rattle.prelude.specs.Kit.{eq-eqb, le-ltb, and-false, map-append, max, min, dec_lt}
use Rattle.semantics.specs.Basics.{with_if}
use Rattle.semantics.specs.Code.{number, name, Row, row}
use Rattle.semantics.specs.Live.{Set, empty, only, ◌∪◌, members_from, members}
use Rattle.semantics.specs.Annotate.{NameDepths, is_array, dying}
use Rattle.plain_rows.specs.Parts.{below, retain_rows, release_rows, handed_one}
use Rattle.annotate_rows.specs.Wrote.{Wrote}
use Rattle.annotate_rows.proofs.Rows.{wrote_none, wrote_as}

-- ---- releases

-- the test of a name that is released
abbrev pub dies : NameDepths → Set → Set → Set
dies Γ used A = λ x. used x && (is_array Γ x && not (A x))

-- the releases of the names from i on
abbrev pub releases_from : NameDepths → Set → Set → ℕ → List Row
releases_from Γ used A i = release_rows (members_from (256 - i) i (dies Γ used A))

pub with_if_append : (b : Bool) (x : ℕ) (l : List ℕ) → with_if b x l ≡ with_if b x [] ++ l
with_if_append true x l = refl
with_if_append false x l = refl

none_from : (k i n : ℕ) (U P : Set) → n ≤ i → members_from k i (λ y. (ltb y n && U y) && P y) ≡ []
unfolding members_from
none_from zero i n U P h = refl
none_from (suc k) i n U P h = rw (le-ltb i n h) (none_from k (suc i) n U P (omega arith))

pub release_none : (Γ : NameDepths) (used A : Set) (n : ℕ) {k : List ℕ} {o : List ℤ} {w : ℕ} →
    Wrote k o k o w w (releases_from Γ (below n used) A n)
release_none Γ used A n =
    wrote_as (sym (ap (λ (l : List ℕ). release_rows l) (none_from (256 - n) n n used (λ y. is_array Γ y && not (A y))
    (omega arith))))
    wrote_none

module _ (Γ : NameDepths) (used A : Set) where
  pub release_more : (i : ℕ) → 0 < i → i ≤ 256 →
      release_rows (with_if (dies Γ used A (i - 1)) (i - 1) []) ++ releases_from Γ used A i ≡ releases_from Γ used A
      (i - 1)
  unfolding members_from
  release_more i g h =
      sym (ap (λ (n : ℕ). release_rows (members_from n (i - 1) (dies Γ used A))) (let e : 256 - (i - 1) ≡ suc
      (256 - i) = omega arith in e)
      ∙ ap (λ (n : ℕ). release_rows (with_if (dies Γ used A (i - 1)) (i - 1) (members_from (256 - i) n
      (dies Γ used A)))) (let e : suc (i - 1) ≡ i = omega arith in e)
      ∙ ap (λ (l : List ℕ). release_rows l) (with_if_append (dies Γ used A (i - 1)) (i - 1) (members_from (256 - i)
      i (dies Γ used A)))
      ∙ map-append _ (with_if (dies Γ used A (i - 1)) (i - 1) []) (members_from (256 - i) i (dies Γ used A)))

  pub release_all : {k k₁ : List ℕ} {o o₁ : List ℤ} {w w₁ i : ℕ} → i ≤ 0 → Wrote k o k₁ o₁ w w₁ (releases_from Γ
      used A i) →
      Wrote k o k₁ o₁ w w₁ (release_rows (dying Γ used A))
  unfolding dying members
  release_all {i = i} h r = let e : i ≡ 0 = omega arith in rw e at r

-- one more of the names below n
pub release_below : (Γ : NameDepths) (used A : Set) (n i : ℕ) → 0 < i → i ≤ n → n ≤ 256 →
    release_rows (with_if (dies Γ used A (i - 1)) (i - 1) []) ++ releases_from Γ (below n used) A i
    ≡ releases_from Γ (below n used) A (i - 1)
release_below Γ used A n i g h j =
    ap (λ (b : Bool). release_rows (with_if (b && (is_array Γ (i - 1) && not (A (i - 1)))) (i - 1) [])
    ++ releases_from Γ (below n used) A i)
    (sym (ap (λ (b : Bool). b && used (i - 1)) (lt-ltb (i - 1) n (omega arith))))
    ∙ release_more Γ (below n used) A i g (omega arith)

pub release_used : (Γ : NameDepths) (used A : Set) (n i : ℕ) {u : Bool} → u ≡ used (i - 1) → 0 < i → i ≤ n → n ≤ 256 →
    release_rows (with_if (u && (is_array Γ (i - 1) && not (A (i - 1)))) (i - 1) []) ++ releases_from Γ (below n
    used) A i
    ≡ releases_from Γ (below n used) A (i - 1)
release_used Γ used A n i e g h j = rw e (release_below Γ used A n i g h j)

-- one name
no_member : (n i x : ℕ) (P : Set) → x < i → members_from n i (λ y. eqb x y && P y) ≡ []
unfolding members_from
no_member zero i x P h = refl
no_member (suc n) i x P h = rw (ne_eqb x i (λ e. omega arith)) (no_member n (suc i) x P (omega arith))

one_member : (n i x : ℕ) (P : Set) → i ≤ x → x < i + n → members_from n i (λ y. eqb x y && P y) ≡ with_if (P x) x []
unfolding members_from
one_member zero i x P h g = absurd (let f : ⊥ = omega arith in f)
one_member (suc n) i x P h g = go (ℕ_discrete x i) (λ f. one_member n (suc i) x P (omega (arith, f)) (omega arith))
  where
    go : Dec (x ≡ i) → ((x ≡ i → ⊥) → members_from n (suc i) (λ y. eqb x y && P y) ≡ with_if (P x) x []) →
        with_if (eqb x i && P i) i (members_from n (suc i) (λ y. eqb x y && P y)) ≡ with_if (P x) x []
    go (yes e) later = rw (← e, eq-eqb x x refl, no_member n (suc x) x P (omega arith))
    go (no f) later = rw (ne_eqb x i f) (later f)

-- two names, the lower first
later_member : (n i x y : ℕ) (P : Set) → x < i →
    members_from n i (λ z. (eqb x z || eqb y z) && P z) ≡ members_from n i (λ z. eqb y z && P z)
unfolding members_from
later_member zero i x y P h = refl
later_member (suc n) i x y P h =
    rw (ne_eqb x i (λ e. omega arith))
    (ap (with_if (eqb y i && P i) i) (later_member n (suc i) x y P (omega arith)))

two_members : (n i x y : ℕ) (P : Set) → i ≤ x → x < y →
    members_from n i (λ z. (eqb x z || eqb y z) && P z)
    ≡ members_from n i (λ z. eqb x z && P z) ++ members_from n i (λ z. eqb y z && P z)
unfolding members_from
two_members zero i x y P h g = refl
two_members (suc n) i x y P h g = go (ℕ_discrete x i) (λ f. two_members n (suc i) x y P (omega (arith, f)) g)
  where
    go : Dec (x ≡ i) →
        ((x ≡ i → ⊥) → members_from n (suc i) (λ z. (eqb x z || eqb y z) && P z)
        ≡ members_from n (suc i) (λ z. eqb x z && P z) ++ members_from n (suc i) (λ z. eqb y z && P z)) →
        with_if ((eqb x i || eqb y i) && P i) i (members_from n (suc i) (λ z. (eqb x z || eqb y z) && P z))
        ≡ with_if (eqb x i && P i) i (members_from n (suc i) (λ z. eqb x z && P z))
        ++ with_if (eqb y i && P i) i (members_from n (suc i) (λ z. eqb y z && P z))
    go (yes e) later =
        rw (
          ← e,
          eq-eqb x x refl,
          ne_eqb y x (λ f. omega arith),
          no_member n (suc x) x P (omega arith),
          later_member n (suc x) x y P (omega arith),
        )
        (with_if_append (P x) x (members_from n (suc x) (λ z. eqb y z && P z)))
    go (no f) later = rw (ne_eqb x i f, ne_eqb y i (λ e. omega arith)) (later f)

nothing_from : (n i : ℕ) → members_from n i empty ≡ []
unfolding members_from
nothing_from zero i = refl
nothing_from (suc n) i = nothing_from n (suc i)

module _ (Γ : NameDepths) where
  pub dying_one : (x : ℕ) (A : Set) → x < 256 → with_if (is_array Γ x && not (A x)) x [] ≡ dying Γ (only x) A
  unfolding dying members
  dying_one x A h = sym (one_member 256 0 x (λ y. is_array Γ y && not (A y)) (omega arith) (omega arith))

  pub dying_two : (x y : ℕ) (A : Set) → x < y → release_rows (dying Γ (only x) A) ++ release_rows (dying Γ (only y) A)
      ≡ release_rows (dying Γ (only x ∪ only y) A)
  unfolding dying members
  dying_two x y A h =
      sym (ap (λ (l : List ℕ). release_rows l) (two_members 256 0 x y (λ z. is_array Γ z && not (A z)) (omega
      arith) h)
      ∙ map-append _ (dying Γ (only x) A) (dying Γ (only y) A))

  pub dying_turned : (U W A : Set) → release_rows (dying Γ (U ∪ W) A) ≡ release_rows (dying Γ (W ∪ U) A)
  dying_turned U W A = ap (λ (S : Set). release_rows (dying Γ S A)) (fun_ext (λ z. go (U z) (W z)))
    where
      go : (a b : Bool) → a || b ≡ b || a
      go true true = refl
      go true false = refl
      go false true = refl
      go false false = refl

  pub dying_twice : (x y : ℕ) (A : Set) → x ≡ y → release_rows (dying Γ (only x) A) ≡ release_rows (dying Γ (only y
      ∪ only x) A)
  dying_twice x y A e = rw (← e) (ap (λ (S : Set). release_rows (dying Γ S A)) (fun_ext (λ z. go (eqb x z))))
    where
      go : (a : Bool) → a ≡ a || a
      go true = refl
      go false = refl

  -- two names, by the higher and the lower
  pub dying_pair : (x y : ℕ) (A : Set) {h l : ℕ} → (x ≡ y → ⊥) → h ≡ max x y → l ≡ min x y →
      release_rows (dying Γ (only l) A) ++ release_rows (dying Γ (only h) A)
      ≡ release_rows (dying Γ (only y ∪ only x) A)
  dying_pair x y A {h} {l} n e f = go (dec_lt x y)
    where
      go : Dec (x < y) →
          release_rows (dying Γ (only l) A) ++ release_rows (dying Γ (only h) A)
          ≡ release_rows (dying Γ (only y ∪ only x) A)
      go (yes p) =
          let a : l ≡ x = omega arith in
          let b : h ≡ y = omega arith in
          rw (a, b) (dying_two x y A p ∙ dying_turned (only x) (only y) A)
      go (no p) =
          let a : l ≡ y = omega (arith, n, p) in
          let b : h ≡ x = omega (arith, n, p) in
          rw (a, b) (dying_two y x A (omega (arith, n, p)))

  pub dying_none : (A : Set) → [] ≡ dying Γ empty A
  unfolding dying members
  dying_none A = sym (nothing_from 256 0)

-- whether one name is released
module _ (x : ℕ) where
  pub release_unused : (u l : Bool) (d : ℕ) → u ≡ false → [] ≡ release_rows (with_if (u && (ltb 0 d && not l)) x [])
  release_unused u l d e = rw e

  pub release_number : (u l : Bool) (e d : ℕ) → e ≡ d → e ≤ 0 → [] ≡ release_rows (with_if (u && (ltb 0 d && not l))
      x [])
  release_number u l e d f h = rw (← f, le-ltb 0 e h, and-false u)

  pub release_live : (u l : Bool) (d : ℕ) → l ≡ true → [] ≡ release_rows (with_if (u && (ltb 0 d && not l)) x [])
  release_live u l d e = rw (e, and-false (ltb 0 d), and-false u)

  pub release_on : (u l : Bool) (e d : ℕ) → u ≡ true → e ≡ d → 0 < e → l ≡ false →
      row 15 x ∷ [] ≡ release_rows (with_if (u && (ltb 0 d && not l)) x [])
  release_on u l e d f g h i = rw (f, ← g, lt-ltb 0 e h, i)

-- ---- retains

module _ (x : ℕ) where
  pub retain_on : (e d : ℕ) → e ≡ d → 0 < e → row 14 x ∷ [] ≡ retain_rows (with_if (ltb 0 d) x [])
  retain_on e d f h = rw (← f, lt-ltb 0 e h)

  pub retain_off : (e d : ℕ) → e ≡ d → e ≤ 0 → [] ≡ retain_rows (with_if (ltb 0 d) x [])
  retain_off e d f h = rw (← f, le-ltb 0 e h)

module _ (Γ : NameDepths) where
  pub handed_on : (x : ℕ) (A : Set) → A x ≡ true → with_if (ltb 0 (Γ x)) x [] ≡ handed_one Γ (name x) A
  unfolding handed_one
  handed_on x A e = rw e (go (ltb 0 (Γ x)))
    where
      go : (b : Bool) → with_if b x [] ≡ with_if (b && true) x []
      go true = refl
      go false = refl

  pub handed_off : (x : ℕ) (A : Set) → A x ≡ false → [] ≡ handed_one Γ (name x) A
  unfolding handed_one
  handed_off x A e = rw (e, and-false (ltb 0 (Γ x)))

  pub handed_number : (z : ℤ) (A : Set) → [] ≡ handed_one Γ (number z) A
  unfolding handed_one
  handed_number z A = refl
