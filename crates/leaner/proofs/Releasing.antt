-- Names retained and released before two twins, and an array that the first code alone releases.
use Rattle.prelude.specs.Kit.{ℕ, ◌≤◌, ◌+◌, ◌<◌, suc, zero, arith, ℕ_discrete, true, false, Bool, ◌&&◌, not, ◌||◌}
use Rattle.prelude.specs.Kit.{◌≡◌, refl, ◌∙◌, sym, ap, subst, ◌≢◌, List, [], ◌∷◌, eqb, ltb}
use Rattle.prelude.specs.Kit.{ne_eqb, eq-eqb}
use Rattle.semantics.specs.Basics.{with_if}
use Rattle.semantics.specs.Code.{name, Tree}
use Rattle.semantics.specs.Code.{retain_all, release_all}
use Rattle.semantics.specs.Live.{Set, ◌∪◌, ◌∖∖◌, only, among, members_from, members, uses}
use Rattle.semantics.specs.Annotate.{NameDepths, is_array, dying}
use Rattle.laws.specs.Lists.{occurs_first}
use Rattle.discipline.proofs.machine.Discipline.{less, without}
use Rattle.leaner.proofs.Twin.{Twin, same_retain}
use Rattle.leaner.proofs.Twin.{same_release, spared}

pub twin_retains : {X : List ℕ} {t t' : Tree} (xs : List ℕ) → Twin X t t' → Twin X (retain_all xs t) (retain_all xs t')
twin_retains [] h = h
twin_retains (x ∷ xs) h = same_retain (twin_retains xs h)

pub twin_releases : {X : List ℕ} {t t' : Tree} (xs : List ℕ) → Twin X t t' →
    Twin X (release_all xs t) (release_all xs t')
twin_releases [] h = h
twin_releases (x ∷ xs) h = same_release (twin_releases xs h)

-- one name less to release
less_one : (y : ℕ) → less (y ∷ []) (y ∷ []) ≡ []
unfolding less without
less_one y = rw (eq-eqb y y refl) refl

-- two sets that differ in y alone, which the first has
module _ (y : ℕ) (D D' : Set) (alike : (n : ℕ) → n ≢ y → D n ≡ D' n) (has : D y ≡ true) (lacks : D' y ≡ false)
    {t t' : Tree} (twin : Twin [] t t') where
  later_same : (k i : ℕ) → y < i → members_from k i D ≡ members_from k i D'
  unfolding members_from
  later_same zero i h = refl
  later_same (suc k) i h = λ j. with_if (alike i (λ e. omega (arith, e, h)) j) i (later_same k (suc i) (omega arith) j)

  members_spared : (k i : ℕ) → i ≤ y → y < i + k →
      Twin (y ∷ []) (release_all (members_from k i D) t) (release_all (members_from k i D') t')
  unfolding members_from
  members_spared zero i h g = absurd (omega arith)
  members_spared (suc k) i h g = elim (ℕ_discrete i y) [
    | yes e ↦
        subst (λ (l : List ℕ). Twin (y ∷ []) (release_all l t) (release_all (with_if (D' i) i later') t'))
        (sym (here e))
        (subst (λ (l : List ℕ). Twin (y ∷ []) (release_all (y ∷ later) t) (release_all l t')) (sym (there e)) (found e))
    | no f ↦
        subst (λ (b : Bool). Twin (y ∷ []) (release_all (with_if b i later) t)
        (release_all (with_if (D' i) i later') t')) (sym (alike i f))
        (either (D' i) (members_spared k (suc i) (omega (arith, h, f)) (omega arith)))
  ]
    where
      later : List ℕ
      later = members_from k (suc i) D

      later' : List ℕ
      later' = members_from k (suc i) D'

      here : i ≡ y → with_if (D i) i later ≡ y ∷ later
      here e = ap (λ (b : Bool). with_if b i later) (ap D e ∙ has) ∙ ap (λ (n : ℕ). n ∷ later) e

      there : i ≡ y → with_if (D' i) i later' ≡ later'
      there e = ap (λ (b : Bool). with_if b i later') (ap D' e ∙ lacks)

      found : i ≡ y → Twin (y ∷ []) (release_all (y ∷ later) t) (release_all later' t')
      found e =
          spared (occurs_first y [])
          (subst (λ (X : List ℕ). Twin X (release_all later t) (release_all later' t')) (sym (less_one y))
          (subst (λ (l : List ℕ). Twin [] (release_all l t) (release_all later' t'))
          (sym (later_same k (suc i) (omega (arith, e)))) (twin_releases later' twin)))

      either : (b : Bool) → Twin (y ∷ []) (release_all later t) (release_all later' t') →
          Twin (y ∷ []) (release_all (with_if b i later) t) (release_all (with_if b i later') t')
      either true r = same_release r
      either false r = r

-- a map that binds x, after which A is live, and what follows it; its array y dies there
module _ (Γ : NameDepths) (x : ℕ) (ps : List ℕ) (t : Tree) (A : Set) {k k' : Tree} (rest : Twin [] k k')
    (y : ℕ) (small : y < 256) (other : x ≢ y) (array : Γ y ≡ 1) (dead : A y ≡ false)
    (unused : (uses t ∖∖ ps) y ≡ false) where
  abbrev U : Set
  U = uses t ∖∖ ps

  pub released_twin : Twin (y ∷ []) (release_all (dying Γ (among (name y ∷ []) U ∪ only x) A) k)
      (release_all (dying Γ (among [] U ∪ only x) A) k')
  unfolding dying members among
  released_twin =
      members_spared y (λ n. ((eqb y n || U n) || eqb x n) && (is_array Γ n && not (A n)))
      (λ n. (U n || eqb x n) && (is_array Γ n && not (A n)))
      (λ n f i. ((ne_eqb y n (λ e. f (sym e)) i || U n) || eqb x n) && (is_array Γ n && not (A n)))
      (λ i. ((eq-eqb y y refl i || U y) || eqb x y) && (ltb 0 (array i) && not (dead i)))
      (λ i. (unused i || ne_eqb x y other i) && (is_array Γ y && not (A y)))
      rest 256 0 (omega arith) (omega (arith, small))
