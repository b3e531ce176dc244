-- A tree that keeps its holds and lets none outlive its name; retains and releases before such a tree.
use Rattle.prelude.specs.Kit.{ℕ, arith, true, false, Bool, cond, ◌&&◌, refl, sym, List, [], ◌∷◌, ◌++◌}
use Rattle.semantics.specs.Basics.{with_if, occurrences}
use Rattle.semantics.specs.Kinds.{Borrowing, Leaf, is_pending}
use Rattle.semantics.specs.Code.{Line, leaf, if_else, loop, retain, release, Tree, end, line, retain_all, release_all}
use Rattle.semantics.specs.Live.{Set}
use Rattle.semantics.specs.Annotate.{NameDepths, is_array, arrays}
use Rattle.laws.specs.Lists.{◌≈◌, ◌⊆◌, occurrences_append, occurs_first}
use Rattle.discipline.proofs.machine.Discipline.{hold_of, holds_of, leaf_holds, leaf_waits, left_by, Holding}
use Rattle.discipline.proofs.machine.Discipline.{LineHolding}
use Rattle.discipline.proofs.machine.Discipline.{Frugal}
use Rattle.discipline.proofs.machine.Spending.{less_is, holding_same, frugal_same}

module _ (β : Borrowing) (Γ : NameDepths) where
  -- with B lent, from the holds H, with P pending, to the holds Δ; after the tree L is live
  abbrev pub Sound : List ℕ → Tree → List ℕ → List ℕ → List ℕ → Set → Type 0
  Sound B t H P Δ L = Holding β Γ B t H P Δ × Frugal β Γ B t H L

  module _ (B : List ℕ) where
    pub sound_same : (t : Tree) (H I P Δ E : List ℕ) (L : Set) → H ≈ I → Δ ≈ E → Sound B t H P Δ L → Sound B t I P E L
    sound_same t H I P Δ E L h d s = (holding_same β Γ B t H I P Δ E h d s.0, frugal_same β Γ B t H I L h s.1)

    -- a tree need not retain what is pending
    pub sound_pending : (t : Tree) (H P Δ : List ℕ) (L : Set) → Sound B t H [] Δ L → Sound B t H P Δ L
    sound_pending (end a) H P Δ L s = s
    sound_pending (line l t) H P Δ L s = ((line_pending l s.0.0, s.0.1), s.1)
      where
        line_pending : (k : Line) → LineHolding β Γ B k H [] → LineHolding β Γ B k H P
        line_pending (leaf x j us) h = h
        line_pending (if_else x g u e) h = h
        line_pending (loop x j ps us u) h = h
        line_pending (retain x) h = omega (arith, h, occurrences_append x P (B ++ H))
        line_pending (release x) h = h

    pub releases : (xs : List ℕ) (t : Tree) (H H' P Δ : List ℕ) (L : Set) → H ≈ xs ++ H' → Sound B t H' [] Δ L →
        Sound B (release_all xs t) H P Δ L
    unfolding left_by
    releases [] t H H' P Δ L h s =
        sound_pending t H P Δ L (sound_same t H' H [] Δ Δ L (λ n. sym (h n)) (λ n. refl) s)
    releases (x ∷ xs) t H H' P Δ L h s =
        let rest = releases xs t _ H' [] Δ L (less_is (x ∷ []) H (xs ++ H') h) s in
        ((omega (arith, h x, occurs_first x (xs ++ H')), rest.0), (tt, rest.1))

    pub retains : (xs : List ℕ) (t : Tree) (H Δ : List ℕ) (L : Set) → xs ⊆ (B ++ H) → Sound B t (xs ++ H) [] Δ L →
        Sound B (retain_all xs t) H [] Δ L
    unfolding left_by occurrences
    retains [] t H Δ L h s = s
    retains (x ∷ xs) t H Δ L h s =
        let rest = retains xs t (x ∷ H) Δ L
        (λ n g. omega (arith, h n (omega arith), occurrences_append n B H, occurrences_append n B (x ∷ H)))
        (sound_same t (x ∷ (xs ++ H)) (xs ++ (x ∷ H)) [] Δ Δ L
        (λ n. omega (arith, occurrences_append n xs H, occurrences_append n xs (x ∷ H))) (λ n. refl) s) in
        ((h x (occurs_first x xs), rest.0), (tt, rest.1))

    -- an array that is pending is retained by the next line
    pub retains_pending : (x : ℕ) (t : Tree) (H Δ : List ℕ) (L : Set) → Sound B t (hold_of Γ x ++ H) [] Δ L →
        Sound B (retain_all (hold_of Γ x) t) H (hold_of Γ x) Δ L
    unfolding left_by
    retains_pending x t H Δ L = go (is_array Γ x)
      where
        go : (b : Bool) → Sound B t (with_if b x [] ++ H) [] Δ L →
            Sound B (retain_all (with_if b x []) t) H (with_if b x []) Δ L
        go true s = ((occurs_first x (B ++ H), s.0), (tt, s.1))
        go false s = s

    -- the result of a leaf holds at once, or is retained by the next line
    pub retains_result : (x : ℕ) (l : Leaf) (t : Tree) (H Δ : List ℕ) (L : Set) → Sound B t (hold_of Γ x ++ H) [] Δ L →
        Sound B (retain_all (with_if (is_pending l && is_array Γ x) x []) t) (leaf_holds Γ x l ++ H)
        (leaf_waits Γ x l) Δ L
    retains_result x l t H Δ L = go (is_pending l)
      where
        go : (b : Bool) → Sound B t (hold_of Γ x ++ H) [] Δ L →
            Sound B (retain_all (with_if (b && is_array Γ x) x []) t) (cond b [] (hold_of Γ x) ++ H)
            (cond b (hold_of Γ x) []) Δ L
        go true s = retains_pending x t H Δ L s
        go false s = s

    -- an element that is pending is retained by the next line
    pub retains_element : (x : ℕ) (t : Tree) (H Δ : List ℕ) (L : Set) → Sound B t (holds_of Γ (x ∷ []) ++ H) [] Δ L →
        Sound B (retain_all (arrays Γ (x ∷ [])) t) H (holds_of Γ (x ∷ [])) Δ L
    unfolding left_by arrays
    retains_element x t H Δ L = go (is_array Γ x)
      where
        go : (b : Bool) → Sound B t ((with_if b x [] ++ []) ++ H) [] Δ L →
            Sound B (retain_all (with_if b x []) t) H (with_if b x [] ++ []) Δ L
        go true s = ((occurs_first x (B ++ H), s.0), (tt, s.1))
        go false s = s
