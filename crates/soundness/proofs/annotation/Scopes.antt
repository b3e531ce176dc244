-- `annotated_fits`: annotation gives trees whose depths fit and whose names are known.
use Rattle.prelude.specs.Kit.{ℕ, ◌≤◌, ◌<◌, suc, arith, true, false, Bool, ◌&&◌, not, false≢true, ◌≡◌, refl, ◌∙◌, sym}
use Rattle.prelude.specs.Kit.{ap, subst, inl, inr, List, [], ◌∷◌, eq-eqb, ltb-true}
use Rattle.semantics.specs.Basics.{with_if, occurrences, ◌∈◌}
use Rattle.semantics.specs.Kinds.{Leaf, operation, call, literal, index, length_of, iota, replicate, leaf_hands}
use Rattle.semantics.specs.Kinds.{leaf_reads, Loop, mapping, filtering, reducing, rewriting, loop_hands, loop_reads}
use Rattle.semantics.specs.Kinds.{element_name, is_pending, Borrowing, picked}
use Rattle.semantics.specs.Code.{Atom, Line, leaf, if_else, loop, retain, release, Tree, end, line, ending}
use Rattle.semantics.specs.Code.{retain_all, release_all}
use Rattle.semantics.specs.Live.{Set, empty, ◌∪◌, ◌∖∖◌, only, just, among, live, uses, after_branch, after_pass}
use Rattle.semantics.specs.Annotate.{NameDepths, atom_depth, is_array, arrays, dying, handed_again, Style}
use Rattle.semantics.specs.Annotate.{written, annotate, annotate_line}
use Rattle.semantics.specs.Machine.{Program}
use Rattle.laws.specs.Tests.{both_hold, or_cases, or_left, or_right}
use Rattle.laws.specs.Lists.{hits}
use Rattle.discipline.proofs.machine.Discipline.{LoopFits, Fitting, AllNew, AllKnown, Scoped}
use Rattle.soundness.proofs.annotation.Members.{members_true}
use Rattle.soundness.proofs.annotation.Held.{held, held_live, held_among, again_held}
use Rattle.soundness.proofs.annotation.Sets.{Inside, inside_pass}
use Rattle.soundness.proofs.annotation.Formed.{Within, not_within, within_up, within_bound, Rising, rising_up}
use Rattle.soundness.proofs.annotation.Formed.{bound_by, Placed, Formed, LineFormed, LoopForm, seen_among}
use Rattle.soundness.proofs.annotation.Formed.{within_pass, Shallower, live_seen}
use Rattle.soundness.proofs.annotation.Written.{written_as}
use Rattle.soundness.proofs.annotation.Unchanged.{pass, ending_pass}
use Rattle.soundness.proofs.annotation.LoopsFit.{functions_of, loop_fits, rewrite_fits}

-- ---- names

all_new : (ps : List ℕ) (S : Set) (c e : ℕ) → Within S c → Rising c ps e → e ≤ 256 → AllNew ps S
all_new [] S c e w r h = tt
all_new (p ∷ ps) S c e w r h = (
  record { unknown = not_within S c p w r.0; small = omega (arith, rising_up ps (suc p) e r.1) },
  all_new ps (S ∪ only p) (suc p) e (within_bound S p c (suc p) (omega (arith, r.0)) (omega arith) w) r.1 h,
)

just_in : (ps : List ℕ) (n : ℕ) → n ∈ ps → just ps n ≡ true
unfolding occurrences
just_in [] n h = absurd (omega arith)
just_in (p ∷ ps) n h = elim (hits n p) [
  | inl q ↦ or_left (only p n) (just ps n) (eq-eqb p n (sym q.0))
  | inr q ↦ or_right (only p n) (just ps n) (just_in ps n (omega arith))
]

element_in : (k : Loop) (ps : List ℕ) (n : ℕ) → n ∈ element_name k ps → n ∈ ps
unfolding occurrences
element_in mapping ps n h = h
element_in filtering ps n h = h
element_in reducing [] n h = h
element_in reducing (p ∷ ps) n h = omega arith
element_in rewriting ps n h = h

with_if_in : (b : Bool) (x n : ℕ) → n ∈ with_if b x [] → (n ≡ x) × (b ≡ true)
unfolding occurrences
with_if_in true x n h = elim (hits n x) [ inl q ↦ (q.0, refl) | inr q ↦ absurd (omega arith) ]
with_if_in false x n h = absurd (omega arith)

-- ---- depths

module _ (p : Program) (Θ : NameDepths) where
  -- a tree that gives depth d, before which the names S are known
  abbrev pub Fits : Tree → ℕ → Set → Type 0
  Fits t d S = Fitting p Θ t d × Scoped t S

  -- the names of a list are arrays, and known
  abbrev pub Arrays : List ℕ → Set → Type 0
  Arrays xs S = (n : ℕ) → n ∈ xs → (0 < Θ n) × (S n ≡ true)

  first_array : (x : ℕ) (xs : List ℕ) (S : Set) → Arrays (x ∷ xs) S → (0 < Θ x) × (S x ≡ true)
  unfolding occurrences
  first_array x xs S h =
      h x (elim (hits x x) [ inl q ↦ omega (arith, q.1) | inr q ↦ absurd (q.0 refl) ])

  later_arrays : (x : ℕ) (xs : List ℕ) (S : Set) → Arrays (x ∷ xs) S → Arrays xs S
  unfolding occurrences
  later_arrays x xs S h n g = h n (omega arith)

  pub fits_releases : (xs : List ℕ) (t : Tree) (d : ℕ) (S : Set) → Arrays xs S → Fits t d S →
      Fits (release_all xs t) d S
  fits_releases [] t d S h f = f
  fits_releases (x ∷ xs) t d S h f =
      let here = first_array x xs S h in
      let rest = fits_releases xs t d S (later_arrays x xs S h) f in
      ((here.0, rest.0), (here.1, rest.1))

  fits_retains : (xs : List ℕ) (t : Tree) (d : ℕ) (S : Set) → Arrays xs S → Fits t d S → Fits (retain_all xs t) d S
  fits_retains [] t d S h f = f
  fits_retains (x ∷ xs) t d S h f =
      let here = first_array x xs S h in
      let rest = fits_retains xs t d S (later_arrays x xs S h) f in
      ((here.0, rest.0), (here.1, rest.1))

  -- annotated by depths Γ, which are nowhere deeper
  module _ (style : Style) (β : Borrowing) (Γ : NameDepths) (under : Shallower Γ Θ) where
    -- ---- what is retained and released is an array, and known

    -- an array of the one is an array of the other
    array_deep : (n : ℕ) → is_array Γ n ≡ true → 0 < Θ n
    array_deep n e = omega (arith, ltb-true 0 (Γ n) e, under.most n)

    pub dying_in : (used A S : Set) → ((n : ℕ) → used n ≡ true → S n ≡ true) → Arrays (dying Γ used A) S
    unfolding dying
    dying_in used A S h n g =
        let both = both_hold (used n) (is_array Γ n && not (A n))
        (members_true n (λ x. used x && (is_array Γ x && not (A x))) g) in
        (array_deep n (both_hold (is_array Γ n) (not (A n)) both.1).0, h n both.0)

    among_known : (us : List Atom) (A S : Set) → AllKnown us S → ((n : ℕ) → A n ≡ true → S n ≡ true) → (n : ℕ) →
        among us A n ≡ true → S n ≡ true
    among_known us A S seen h n e =
        let inside : Inside (among us A) S empty = seen_among us seen (record { either = λ m q. inl (h m q) }) in
        elim (inside.either n e) [ inl q ↦ q | inr q ↦ absurd (false≢true q) ]

    again_in : (us : List Atom) (A S : Set) → AllKnown us S → Arrays (handed_again Γ us A) S
    again_in us A S seen n g =
        let held_here : 0 < held Γ (among us empty) n =
        omega (arith, g, again_held Γ us A n, held_among Γ us empty n) in
        let both = held_live Γ (among us empty) n held_here in
        (array_deep n both.1, among_known us empty S seen (λ m q. absurd (false≢true q)) n both.0)

    arrays_in : (xs : List ℕ) (n : ℕ) → n ∈ arrays Γ xs → (0 < Θ n) × (n ∈ xs)
    unfolding occurrences arrays
    arrays_in [] n h = absurd (omega arith)
    arrays_in (x ∷ xs) n h = go (is_array Γ x) refl (λ g. arrays_in xs n g) h
      where
        go : (b : Bool) → is_array Γ x ≡ b → (n ∈ arrays Γ xs → (0 < Θ n) × (n ∈ xs)) → n ∈ with_if b x (arrays Γ xs) →
            (0 < Θ n) × (n ∈ (x ∷ xs))
        go true e rest g = elim (hits n x) [
          | inl q ↦ (omega (arith, array_deep x e, ap Θ q.0), omega arith)
          | inr q ↦
              let more = rest (omega arith) in
              (more.0, omega (arith, more.1))
        ]
        go false e rest g =
            let more = rest g in
            (more.0, omega (arith, more.1))

    -- ---- the annotated tree

    -- what a line read, and what it binds, is known after it
    read_known : (us : List Atom) (U S : Set) (x : ℕ) → AllKnown us S → ((n : ℕ) → U n ≡ true → S n ≡ true) → (n : ℕ) →
        (among us U ∪ only x) n ≡ true → (S ∪ only x) n ≡ true
    read_known us U S x seen h n e = elim (or_cases (among us U n) (only x n) e) [
      | inl q ↦ or_left (S n) (only x n) (among_known us U S seen h n q)
      | inr q ↦ or_right (S n) (only x n) q
    ]

    only_known : (S : Set) (x n : ℕ) → only x n ≡ true → (S ∪ only x) n ≡ true
    only_known S x n e = or_right (S n) (only x n) e

    picked_known : (at : ℕ → Bool) (i : ℕ) (us : List Atom) (S : Set) → AllKnown us S → AllKnown (picked at i us) S
    picked_known at i [] S h = tt
    picked_known at i (u ∷ us) S h = go (at i) (picked_known at (suc i) us S h.1)
      where
        go : (b : Bool) → AllKnown (picked at (suc i) us) S → AllKnown (with_if b u (picked at (suc i) us)) S
        go true rest = (h.0, rest)
        go false rest = rest

    -- of known atoms, those that are handed over and those that are read
    leaf_known : (l : Leaf) (us : List Atom) (S : Set) → AllKnown us S →
        AllKnown (leaf_hands β l us) S × AllKnown (leaf_reads β l us) S
    leaf_known (operation o) us S h = (tt, h)
    leaf_known (call f) us S h = (picked_known (λ i. not (β f i)) 0 us S h, picked_known (β f) 0 us S h)
    leaf_known (literal d) us S h = (h, tt)
    leaf_known index us S h = (tt, h)
    leaf_known length_of us S h = (tt, h)
    leaf_known iota us S h = (tt, h)
    leaf_known replicate us S h = (tt, h)

    loop_known : (k : Loop) (us : List Atom) (S : Set) → AllKnown us S →
        AllKnown (loop_hands k us) S × AllKnown (loop_reads k us) S
    loop_known mapping us S h = (tt, h)
    loop_known filtering us S h = (tt, h)
    loop_known reducing [] S h = (tt, tt)
    loop_known reducing (u ∷ us) S h = ((h.0, tt), h.1)
    loop_known rewriting us S h = (h, tt)

    -- the outer names that a tree uses are known
    uses_known : (t : Tree) (S : Set) (c d : ℕ) → Formed (functions_of p) Θ t S c d → (n : ℕ) →
        uses t n ≡ true → S n ≡ true
    uses_known t S c d f n e =
        elim ((live_seen (functions_of p) Θ t S empty c d f).either n e) [ inl q ↦ q | inr q ↦ absurd (false≢true q) ]

    pass_known : (ps : List ℕ) (t : Tree) (S : Set) (c d : ℕ) → Formed (functions_of p) Θ t (S ∪ just ps) c d →
        (n : ℕ) → (uses t ∖∖ ps) n ≡ true → S n ≡ true
    pass_known ps t S c d f n e =
        let inside : Inside (uses t ∖∖ ps) S empty =
        inside_pass ps (live_seen (functions_of p) Θ t (S ∪ just ps) empty c d f) in
        elim (inside.either n e) [ inl q ↦ q | inr q ↦ absurd (false≢true q) ]

    written_fits : (x : ℕ) (o : Loop) (ps : List ℕ) (us : List Atom) (d : ℕ) (S : Set) (c : ℕ) (t : Tree) (A : Set) →
        LoopForm (functions_of p) Θ x o ps us d S c → LoopFits p Θ x (written style β Γ o x ps us t A) ps us d
    written_fits x o ps us d S c t A f = elim (written_as style β Γ o x ps us t A f.fits.parted) [
      | inl e ↦ subst (λ (k : Loop). LoopFits p Θ x k ps us d) (sym e) (loop_fits p Θ x o ps us d S c f)
      | inr r ↦
          subst (λ (k : Loop). LoopFits p Θ x k ps us d) (sym r.is)
          (subst (λ (vs : List Atom). LoopFits p Θ x rewriting ps vs d) (sym r.atoms)
          (rewrite_fits p Θ x r.over ps d S c
          (under.same r.over (omega (arith, r.array)) ∙ r.array)
          (under.same x (omega (arith, r.result)) ∙ r.result)
          (subst (λ (vs : List Atom). LoopForm (functions_of p) Θ x mapping ps vs d S c) r.atoms
          (subst (λ (k : Loop). LoopForm (functions_of p) Θ x k ps us d S c) r.was f))))
    ]

    mutual
      unfolding annotate

      pub annotated_fits : (t : Tree) (S L : Set) (c d : ℕ) → Formed (functions_of p) Θ t S c d → Within S c →
          Fits (annotate style β Γ t L) d S
      annotated_fits (end a) S L c d f w =
          fits_retains (handed_again Γ (a ∷ []) L) (end a) d S (again_in (a ∷ []) L S (f.0, tt)) (f.1, f.0)
      annotated_fits (line l t) S L c d f w =
          let x = bound_by l in
          let c' = f.0 in
          let up : c ≤ c' = omega (arith, f.1.above, f.1.below) in
          annotated_line_fits l (live t L) (annotate style β Γ t L) S c c' d f.1 f.2 w
          (annotated_fits t (S ∪ only x) L c' d f.3 (within_bound S x c c' up f.1.below w))

      annotated_line_fits : (l : Line) (A : Set) (k : Tree) (S : Set) (c c' d : ℕ) → Placed (bound_by l) c c' →
          LineFormed (functions_of p) Θ l S → Within S c → Fits k d (S ∪ only (bound_by l)) →
          Fits (annotate_line style β Γ l A k) d S
      annotated_line_fits (leaf x l us) A k S c c' d place f w s =
          let parts = leaf_known l us S f.seen in
          let R = among (leaf_reads β l us) empty in
          let S' = S ∪ only x in
          let k' = release_all (dying Γ (R ∪ only x) A) k in
          let pend = with_if (is_pending l && is_array Γ x) x [] in
          let rest = fits_retains pend k' d S'
          (λ n h.
          let here = with_if_in (is_pending l && is_array Γ x) x n h in (
            omega (
              arith,
              ap Θ here.0,
              array_deep x (both_hold (is_pending l) (is_array Γ x) here.1).1,
            ),
            only_known S x n (eq-eqb x n (sym here.0)),
          ))
          (fits_releases (dying Γ (R ∪ only x) A) k d S'
          (dying_in (R ∪ only x) A S'
          (read_known (leaf_reads β l us) empty S x parts.1 (λ n q. absurd (false≢true q)))) s) in
          fits_retains (handed_again Γ (leaf_hands β l us) (R ∪ A)) (line (leaf x l us) (retain_all pend k')) d S
          (again_in (leaf_hands β l us) (R ∪ A) S parts.0) (
            (record { limits = f.fits.limits; calls = f.fits.calls; gives = f.fits.rule }, rest.0),
            ((f.seen, record { unknown = not_within S c x w place.above; small = place.small }), rest.1),
          )
      annotated_line_fits (if_else x g t e) A k S c c' d place f w s =
          let A' = after_branch x A in
          let S' = S ∪ only x in
          let c₁ = f.1.0 in
          let c₂ = f.2.0 in
          let t₁ = fits_releases (dying Γ (uses e) (live t A')) (annotate style β Γ t A') (Θ x) S
          (dying_in (uses e) (live t A') S (uses_known e S c₂ (Θ x) f.2.2))
          (annotated_fits t S A' c₁ (Θ x) f.1.2 (within_up S c c₁ (omega (arith, place.above, f.1.1)) w)) in
          let e₁ = fits_releases (dying Γ (uses t) (live e A')) (annotate style β Γ e A') (Θ x) S
          (dying_in (uses t) (live e A') S (uses_known t S c₁ (Θ x) f.1.2))
          (annotated_fits e S A' c₂ (Θ x) f.2.2 (within_up S c c₂ (omega (arith, place.above, f.2.1)) w)) in
          let rest = fits_releases (dying Γ (only x) A) k d S' (dying_in (only x) A S' (only_known S x)) s in (
            ((f.0.guard, t₁.0, e₁.0), rest.0),
            (
              (
                f.0.seen,
                record { unknown = not_within S c x w place.above; small = place.small },
                t₁.1,
                e₁.1,
              ),
              rest.1,
            ),
          )
      annotated_line_fits (loop x o ps us t) A k S c c' d place f w s =
          let i = f.0 in
          let j = written style β Γ o x ps us t A in
          let form = f.1 in
          let r = atom_depth Θ (ending t) in
          let parts = loop_known j us S form.seen in
          let B = after_pass x ps t A in
          let U = uses t ∖∖ ps in
          let R = among (loop_reads j us) U in
          let S' = S ∪ only x in
          let Q = S ∪ just ps in
          let free = dying Γ (just ps) (live t B) in
          let t₀ = release_all free (annotate style β Γ t B) in
          let t' = pass style β Γ x j ps t A in
          let same : atom_depth Θ (ending t) ≡ atom_depth Θ (ending t') =
          ap (atom_depth Θ) (sym (ending_pass style β Γ x j ps t A)) in
          let inside : Fits t' r Q = fits_retains (arrays Γ (element_name j ps)) t₀ r Q
          (λ n h.
          let here = arrays_in (element_name j ps) n h in
          (here.0, or_right (S n) (just ps n) (just_in ps n (element_in j ps n here.1))))
          (fits_releases free (annotate style β Γ t B) r Q
          (dying_in (just ps) (live t B) Q (λ n q. or_right (S n) (just ps n) q))
          (annotated_fits t Q B i r f.2 (within_pass S ps c (suc x) i (omega (arith, place.above))
          form.rising w))) in
          let rest = fits_releases (dying Γ (R ∪ only x) A) k d S'
          (dying_in (R ∪ only x) A S' (read_known (loop_reads j us) U S x parts.1 (pass_known ps t S i r
          f.2))) s in
          fits_retains (handed_again Γ (loop_hands j us) (R ∪ A))
          (line (loop x j ps us t') (release_all (dying Γ (R ∪ only x) A) k)) d S
          (again_in (loop_hands j us) (R ∪ A) S parts.0) (
            (
              (
                subst (LoopFits p Θ x j ps us) same (written_fits x o ps us r S i t A form),
                subst (Fitting p Θ t') same inside.0,
              ),
              rest.0,
            ),
            (
              (
                form.seen,
                record { unknown = not_within S c x w place.above; small = place.small },
                all_new ps S (suc x) i (within_up S c (suc x) (omega (arith, place.above)) w) form.rising
                    form.small,
                inside.1,
              ),
              rest.1,
            ),
          )
      annotated_line_fits (retain x) A k S c c' d place f w s = absurd f
      annotated_line_fits (release x) A k S c c' d place f w s = absurd f
