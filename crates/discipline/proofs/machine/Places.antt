-- Parts at certain places: of a call's arguments those that its function owns, and those that it borrows.
use Rattle.prelude.specs.Kit.{ℕ, ◌+◌, suc, arith, true, false, Bool, not, ◌≡◌, refl, ◌∙◌, ap, List, [], ◌∷◌, map}
use Rattle.semantics.specs.Basics.{occurrences, with_if}
use Rattle.semantics.specs.Kinds.{picked}
use Rattle.semantics.specs.Code.{Atom}
use Rattle.laws.specs.Lists.{occurrences_append}
use Rattle.discipline.proofs.machine.Frames.{Setting, given}
use Rattle.discipline.proofs.machine.Standing.{handed_split}

pub picked_map : {A B : Type 0} (f : A → B) (at : ℕ → Bool) (i : ℕ) (l : List A) →
    map f (picked at i l) ≡ picked at i (map f l)
picked_map f at i [] = refl
picked_map {B = B} f at i (a ∷ l) = go (at i) (picked_map f at (suc i) l)
  where
    go : (b : Bool) → map f (picked at (suc i) l) ≡ picked at (suc i) (map f l) →
        map f (with_if b a (picked at (suc i) l)) ≡ with_if b (f a) (picked at (suc i) (map f l))
    go true e = ap (λ (k : List B). f a ∷ k) e
    go false e = e

pub picked_all : {A : Type 0} (at : ℕ → Bool) (i : ℕ) (l : List A) → ((j : ℕ) → at j ≡ true) → picked at i l ≡ l
picked_all at i [] h = refl
picked_all {A} at i (a ∷ l) h = rw (h i) (ap (λ (k : List A). a ∷ k) (picked_all at (suc i) l h))

pub picked_none : {A : Type 0} (at : ℕ → Bool) (i : ℕ) (l : List A) → ((j : ℕ) → at j ≡ false) → picked at i l ≡ []
picked_none at i [] h = refl
picked_none at i (a ∷ l) h = rw (h i) (picked_none at (suc i) l h)

-- what some atoms hand over is handed over at certain places or at the others
pub handed_places : (C : Setting) (at : ℕ → Bool) (i : ℕ) (us : List Atom) (n : ℕ) →
    occurrences n (given C us)
    ≡ occurrences n (given C (picked at i us)) + occurrences n (given C (picked (λ j. not (at j)) i us))
unfolding occurrences
handed_places C at i [] n = refl
handed_places C at i (a ∷ us) n = go (at i) (handed_places C at (suc i) us n)
  where
    more : (l : List Atom) →
        occurrences n (given C (a ∷ l)) ≡ occurrences n (given C (a ∷ [])) + occurrences n (given C l)
    more l = ap (occurrences n) (handed_split C a l) ∙ occurrences_append n (given C (a ∷ [])) (given C l)

    here : List Atom
    here = picked at (suc i) us

    others : List Atom
    others = picked (λ j. not (at j)) (suc i) us

    go : (b : Bool) →
        occurrences n (given C us) ≡ occurrences n (given C here) + occurrences n (given C others) →
        occurrences n (given C (a ∷ us))
        ≡ occurrences n (given C (with_if b a here)) + occurrences n (given C (with_if (not b) a others))
    go true e = omega (arith, e, more us, more here)
    go false e = omega (arith, e, more us, more others)
