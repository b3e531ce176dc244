-- What an annotated tree hands over, retains or releases: at least what the plain tree hands over, and no name that is
-- annotated like a number.
use Rattle.std.specs.Prelude.{ℕ, true, false, Bool, ◌&&◌, not, ◌||◌, ◌≡◌, refl, List, [], ◌∷◌, eqb}
use Rattle.prelude.specs.Kit.{arith, false≢true, ◌∙◌, sym, subst, inl, inr, ne_eqb, ltb-true}
use Rattle.semantics.specs.Basics.{with_if, occurrences, ◌∈◌}
use Rattle.semantics.specs.Kinds.{Borrowing, Loop, mapping, filtering, reducing, rewriting, leaf_hands, leaf_reads}
use Rattle.semantics.specs.Kinds.{loop_hands, loop_reads, element_name, is_pending}
use Rattle.semantics.specs.Code.{Atom, number, name, Line, leaf, if_else, loop, retain, release, Tree, end, line}
use Rattle.semantics.specs.Code.{ending, retain_all, release_all}
use Rattle.semantics.specs.Live.{Set, empty, ◌∪◌, ◌∖∖◌, only, just, is, among, live, uses, after_branch, after_pass}
use Rattle.semantics.specs.Borrow.{spent, line_spent}
use Rattle.semantics.specs.Annotate.{NameDepths, atom_depth, is_array, arrays, dying, handed_again, Style, written}
use Rattle.semantics.specs.Annotate.{annotate, annotate_line}
use Rattle.laws.specs.Tests.{both_hold, or_cases, or_left, or_right}
use Rattle.laws.specs.Lists.{occurs_first}
use Rattle.discipline.proofs.machine.Images.{first_or_later}
use Rattle.soundness.proofs.annotation.Typed.{Functions}
use Rattle.soundness.proofs.annotation.Formed.{Formed, LineFormed, bound_by}
use Rattle.soundness.proofs.annotation.Members.{members_true}
use Rattle.soundness.proofs.annotation.Sparing.{Owned, AllOwned, Spares, LineSpares, array_owned}

or_none : (a b : Bool) → a ≡ false → b ≡ false → (a || b) ≡ false
or_none a b p q = rw (p, q)

or_both : (a b c d : Bool) → (a ≡ true → c ≡ true) → (b ≡ true → d ≡ true) → (a || b) ≡ true → (c || d) ≡ true
or_both a b c d f g e = elim (or_cases a b e) [ inl p ↦ or_left c d (f p) | inr p ↦ or_right c d (g p) ]

-- ---- the plain tree's hand-overs stay

module _ (W : Borrowing) where
  pub spent_retains : (xs : List ℕ) (k : Tree) (n : ℕ) → spent W k n ≡ true → spent W (retain_all xs k) n ≡ true
  unfolding spent
  spent_retains [] k n e = e
  spent_retains (x ∷ xs) k n e = or_right (eqb x n) (spent W (retain_all xs k) n) (spent_retains xs k n e)

  pub spent_releases : (xs : List ℕ) (k : Tree) (n : ℕ) → spent W k n ≡ true → spent W (release_all xs k) n ≡ true
  unfolding spent
  spent_releases [] k n e = e
  spent_releases (x ∷ xs) k n e = or_right (eqb x n) (spent W (release_all xs k) n) (spent_releases xs k n e)

  module _ (style : Style) (β : Borrowing) (Γ : NameDepths) where
    written_hands : (i : Loop) (x : ℕ) (ps : List ℕ) (us : List Atom) (t : Tree) (A : Set) (n : ℕ) →
        among (loop_hands i us) empty n ≡ true → among (loop_hands (written style β Γ i x ps us t A) us) empty n ≡ true
    unfolding among
    written_hands mapping x ps us t A n e = absurd (false≢true e)
    written_hands filtering x ps us t A n e = e
    written_hands reducing x ps us t A n e = e
    written_hands rewriting x ps us t A n e = e

    mutual
      unfolding annotate spent

      pub spent_annotated : (t : Tree) (L : Set) (n : ℕ) → spent W t n ≡ true →
          spent W (annotate style β Γ t L) n ≡ true
      spent_annotated (end a) L n e = spent_retains (handed_again Γ (a ∷ []) L) (end a) n e
      spent_annotated (line l t) L n e = elim (or_cases (line_spent W l n) (spent W t n) e) [
        | inl q ↦ line_annotated l (live t L) (annotate style β Γ t L) n q
        | inr q ↦ rest_annotated l (live t L) (annotate style β Γ t L) n (spent_annotated t L n q)
      ]

      line_annotated : (l : Line) (A : Set) (k : Tree) (n : ℕ) → line_spent W l n ≡ true →
          spent W (annotate_line style β Γ l A k) n ≡ true
      line_annotated (leaf x l us) A k n e =
          let R = among (leaf_reads β l us) empty in
          let k' = release_all (dying Γ (R ∪ only x) A) k in
          let next = retain_all (with_if (is_pending l && is_array Γ x) x []) k' in
          spent_retains (handed_again Γ (leaf_hands β l us) (R ∪ A)) (line (leaf x l us) next) n
          (or_left (among (leaf_hands W l us) empty n) (spent W next n) e)
      line_annotated (if_else x g t e) A k n q =
          let L = after_branch x A in
          let t₁ = annotate style β Γ t L in
          let e₁ = annotate style β Γ e L in
          let free = dying Γ (uses e) (live t L) in
          let other = dying Γ (uses t) (live e L) in
          let a = spent W (release_all free t₁) n in
          let b = spent W (release_all other e₁) n in
          or_left (a || b) (spent W (release_all (dying Γ (only x) A) k) n)
          (or_both (spent W t n) (spent W e n) a b (λ r. spent_releases free t₁ n (spent_annotated t L n r))
          (λ r. spent_releases other e₁ n (spent_annotated e L n r)) q)
      line_annotated (loop x i ps us t) A k n q =
          let j = written style β Γ i x ps us t A in
          let L = after_pass x ps t A in
          let R = among (loop_reads j us) (uses t ∖∖ ps) in
          let unused = dying Γ (just ps) (live t L) in
          let t₁ = annotate style β Γ t L in
          let t₂ = release_all unused t₁ in
          let t₃ = retain_all (arrays Γ (element_name j ps)) t₂ in
          let hands = among (loop_hands j us) empty n in
          let next = release_all (dying Γ (R ∪ only x) A) k in
          spent_retains (handed_again Γ (loop_hands j us) (R ∪ A)) (line (loop x j ps us t₃) next) n
          (or_left (hands || spent W t₃ n) (spent W next n)
          (or_both (among (loop_hands i us) empty n) (spent W t n) hands (spent W t₃ n)
          (written_hands i x ps us t A n)
          (λ r. spent_retains (arrays Γ (element_name j ps)) t₂ n
          (spent_releases unused t₁ n (spent_annotated t L n r))) q))
      line_annotated (retain x) A k n e = or_left (eqb x n) (spent W k n) e
      line_annotated (release x) A k n e = or_left (eqb x n) (spent W k n) e

      rest_annotated : (l : Line) (A : Set) (k : Tree) (n : ℕ) → spent W k n ≡ true →
          spent W (annotate_line style β Γ l A k) n ≡ true
      rest_annotated (leaf x l us) A k n e =
          let R = among (leaf_reads β l us) empty in
          let free = dying Γ (R ∪ only x) A in
          let k' = release_all free k in
          let pend = with_if (is_pending l && is_array Γ x) x [] in
          let next = retain_all pend k' in
          spent_retains (handed_again Γ (leaf_hands β l us) (R ∪ A)) (line (leaf x l us) next) n
          (or_right (among (leaf_hands W l us) empty n) (spent W next n)
          (spent_retains pend k' n (spent_releases free k n e)))
      rest_annotated (if_else x g t e) A k n q =
          let L = after_branch x A in
          let t' = release_all (dying Γ (uses e) (live t L)) (annotate style β Γ t L) in
          let e' = release_all (dying Γ (uses t) (live e L)) (annotate style β Γ e L) in
          or_right (spent W t' n || spent W e' n) (spent W (release_all (dying Γ (only x) A) k) n)
          (spent_releases (dying Γ (only x) A) k n q)
      rest_annotated (loop x i ps us t) A k n q =
          let j = written style β Γ i x ps us t A in
          let R = among (loop_reads j us) (uses t ∖∖ ps) in
          let free = dying Γ (R ∪ only x) A in
          let L = after_pass x ps t A in
          let t₂ = release_all (dying Γ (just ps) (live t L)) (annotate style β Γ t L) in
          let t₃ = retain_all (arrays Γ (element_name j ps)) t₂ in
          spent_retains (handed_again Γ (loop_hands j us) (R ∪ A)) (line (loop x j ps us t₃) (release_all free k)) n
          (or_right (among (loop_hands j us) empty n || spent W t₃ n) (spent W (release_all free k) n)
          (spent_releases free k n q))
      rest_annotated (retain x) A k n e = or_right (eqb x n) (spent W k n) e
      rest_annotated (release x) A k n e = or_right (eqb x n) (spent W k n) e

-- ---- names annotated like numbers are not retained or released

module _ (lent : Set) where
  abbrev mutual
    pub Moves : Tree → Type 0
    Moves (end a) = Unit {0}
    Moves (line l t) = LineMoves l × Moves t

    pub LineMoves : Line → Type 0
    LineMoves (leaf x l us) = Unit {0}
    LineMoves (if_else x g t e) = Moves t × Moves e
    LineMoves (loop x k ps us t) = Moves t
    LineMoves (retain x) = lent x ≡ false
    LineMoves (release x) = lent x ≡ false

  abbrev NoneOf : List ℕ → Type 0
  NoneOf xs = (n : ℕ) → n ∈ xs → lent n ≡ false

  rest_of : (x : ℕ) (xs : List ℕ) → NoneOf (x ∷ xs) → NoneOf xs
  unfolding occurrences
  rest_of x xs h n q = h n (omega (arith, q))

  moves_retains : (xs : List ℕ) (t : Tree) → NoneOf xs → Moves t → Moves (retain_all xs t)
  moves_retains [] t h m = m
  moves_retains (x ∷ xs) t h m = (h x (occurs_first x xs), moves_retains xs t (rest_of x xs h) m)

  pub moves_releases : (xs : List ℕ) (t : Tree) → NoneOf xs → Moves t → Moves (release_all xs t)
  moves_releases [] t h m = m
  moves_releases (x ∷ xs) t h m = (h x (occurs_first x xs), moves_releases xs t (rest_of x xs h) m)

  -- a plain tree has neither
  module _ (F : Functions) (Θ : NameDepths) where
    mutual
      pub formed_moves : (t : Tree) (S : Set) (c d : ℕ) → Formed F Θ t S c d → Moves t
      formed_moves (end a) S c d f = tt
      formed_moves (line l t) S c d f =
          (line_moves l S f.2, formed_moves t (S ∪ only (bound_by l)) f.0 d f.3)

      line_moves : (l : Line) (S : Set) → LineFormed F Θ l S → LineMoves l
      line_moves (leaf x l us) S f = tt
      line_moves (if_else x g t e) S f =
          (formed_moves t S f.1.0 (Θ x) f.1.2, formed_moves e S f.2.0 (Θ x) f.2.2)
      line_moves (loop x k ps us t) S f = formed_moves t (S ∪ just ps) f.0 (atom_depth Θ (ending t)) f.2
      line_moves (retain x) S f = absurd f
      line_moves (release x) S f = absurd f

  module _ (style : Style) (β : Borrowing) (Γ : NameDepths) (numbers : (n : ℕ) → lent n ≡ true → Γ n ≡ 0) where
    owned_array : (n : ℕ) → is_array Γ n ≡ true → lent n ≡ false
    owned_array n e = array_owned β lent style Γ numbers n (ltb-true 0 (Γ n) e)

    with_none : (b : Bool) (x : ℕ) (xs : List ℕ) → (b ≡ true → lent x ≡ false) → NoneOf xs → NoneOf (with_if b x xs)
    with_none true x xs h g n q = elim (first_or_later n x xs q) [
      | inl e ↦ subst (λ (k : ℕ). lent k ≡ false) (sym e) (h refl)
      | inr e ↦ g n e
    ]
    with_none false x xs h g n q = g n q

    none_none : NoneOf []
    unfolding occurrences
    none_none n q = absurd (omega (arith, q))

    again_none : (us : List Atom) (A : Set) → NoneOf (handed_again Γ us A)
    unfolding handed_again
    again_none [] A = none_none
    again_none (number z ∷ us) A = again_none us A
    again_none (name x ∷ us) A = with_none (is_array Γ x && among us A x) x (handed_again Γ us A)
        (λ e. owned_array x (both_hold (is_array Γ x) (among us A x) e).0) (again_none us A)

    arrays_none : (xs : List ℕ) → NoneOf (arrays Γ xs)
    unfolding arrays
    arrays_none [] = none_none
    arrays_none (x ∷ xs) = with_none (is_array Γ x) x (arrays Γ xs) (owned_array x) (arrays_none xs)

    pub dying_none : (used A : Set) → NoneOf (dying Γ used A)
    unfolding dying
    dying_none used A n q = owned_array n (both_hold (is_array Γ n) (not (A n))
        (both_hold (used n) (is_array Γ n && not (A n))
        (members_true n (λ x. used x && (is_array Γ x && not (A x))) q)).1).0

    mutual
      unfolding annotate

      pub annotated_moves : (t : Tree) (L : Set) → Moves t → Moves (annotate style β Γ t L)
      annotated_moves (end a) L m = moves_retains (handed_again Γ (a ∷ []) L) (end a) (again_none (a ∷ []) L) m
      annotated_moves (line l t) L m =
          annotated_line_moves l (live t L) (annotate style β Γ t L) m.0 (annotated_moves t L m.1)

      annotated_line_moves : (l : Line) (A : Set) (k : Tree) → LineMoves l → Moves k →
          Moves (annotate_line style β Γ l A k)
      annotated_line_moves (leaf x l us) A k h m =
          let R = among (leaf_reads β l us) empty in
          let free = dying Γ (R ∪ only x) A in
          let pend = with_if (is_pending l && is_array Γ x) x [] in
          let k' = release_all free k in
          moves_retains (handed_again Γ (leaf_hands β l us) (R ∪ A)) (line (leaf x l us) (retain_all pend k'))
          (again_none (leaf_hands β l us) (R ∪ A)) (
            tt,
            moves_retains pend k'
                (with_none (is_pending l && is_array Γ x) x []
                (λ e. owned_array x (both_hold (is_pending l) (is_array Γ x) e).1) none_none)
                (moves_releases free k (dying_none (R ∪ only x) A) m),
          )
      annotated_line_moves (if_else x g t e) A k h m =
          let L = after_branch x A in (
            (
              moves_releases (dying Γ (uses e) (live t L)) (annotate style β Γ t L) (dying_none (uses e) (live t L))
                  (annotated_moves t L h.0),
              moves_releases (dying Γ (uses t) (live e L)) (annotate style β Γ e L) (dying_none (uses t) (live e L))
                  (annotated_moves e L h.1),
            ),
            moves_releases (dying Γ (only x) A) k (dying_none (only x) A) m,
          )
      annotated_line_moves (loop x i ps us t) A k h m =
          let j = written style β Γ i x ps us t A in
          let L = after_pass x ps t A in
          let R = among (loop_reads j us) (uses t ∖∖ ps) in
          let free = dying Γ (R ∪ only x) A in
          let unused = dying Γ (just ps) (live t L) in
          let t₁ = annotate style β Γ t L in
          let t₂ = release_all unused t₁ in
          let t₃ = retain_all (arrays Γ (element_name j ps)) t₂ in
          moves_retains (handed_again Γ (loop_hands j us) (R ∪ A)) (line (loop x j ps us t₃) (release_all free k))
          (again_none (loop_hands j us) (R ∪ A)) (
            moves_retains (arrays Γ (element_name j ps)) t₂ (arrays_none (element_name j ps))
                (moves_releases unused t₁ (dying_none (just ps) (live t L)) (annotated_moves t L h)),
            moves_releases free k (dying_none (R ∪ only x) A) m,
          )
      annotated_line_moves (retain x) A k h m = (h, m)
      annotated_line_moves (release x) A k h m = (h, m)

  -- ---- so a tree that spares the lent names does not spend them

  module _ (β : Borrowing) (n : ℕ) (is_lent : lent n ≡ true) where
    other : (x : ℕ) → lent x ≡ false → eqb x n ≡ false
    other x e = ne_eqb x n (λ q. false≢true (sym e ∙ subst (λ (k : ℕ). lent k ≡ true) (sym q) is_lent))

    atom_other : (a : Atom) → Owned lent a → is a n ≡ false
    atom_other (number z) h = refl
    atom_other (name x) h = other x h

    atoms_other : (us : List Atom) → AllOwned lent us → among us empty n ≡ false
    unfolding among
    atoms_other [] h = refl
    atoms_other (a ∷ us) h = or_none (is a n) (among us empty n) (atom_other a h.0) (atoms_other us h.1)

    mutual
      unfolding spent

      pub spared : (t : Tree) → Spares β lent t → Moves t → spent β t n ≡ false
      spared (end a) s m = atom_other a s
      spared (line l t) s m =
          or_none (line_spent β l n) (spent β t n) (line_spared l s.0 m.0) (spared t s.1 m.1)

      line_spared : (l : Line) → LineSpares β lent l → LineMoves l → line_spent β l n ≡ false
      line_spared (leaf x l us) s m = atoms_other (leaf_hands β l us) s.1
      line_spared (if_else x g t e) s m =
          or_none (spent β t n) (spent β e n) (spared t s.1 m.0) (spared e s.2 m.1)
      line_spared (loop x k ps us t) s m =
          or_none (among (loop_hands k us) empty n) (spent β t n) (atoms_other (loop_hands k us) s.1)
          (spared t s.3 m)
      line_spared (retain x) s m = other x m
      line_spared (release x) s m = other x m
