-- `annotated_adds`: code in another style adds no more references than that in the full style.
use Rattle.prelude.specs.Kit.{ℕ, ◌≤◌, ◌+◌, arith, true, false, Bool, cond, ◌&&◌, ◌≡◌, refl, ap, inl, inr, ◌⊎◌, List, []}
use Rattle.prelude.specs.Kit.{◌∷◌, ltb, length}
use Rattle.semantics.specs.Basics.{with_if}
use Rattle.semantics.specs.Syntax.{Function, Script}
use Rattle.semantics.specs.Kinds.{Borrowing, Loop, mapping, filtering, reducing, rewriting, leaf_hands, leaf_reads}
use Rattle.semantics.specs.Kinds.{loop_hands, loop_reads, element_name, is_pending}
use Rattle.semantics.specs.Code.{Atom, number, name, Line, leaf, if_else, loop, retain, release, Tree, end, line}
use Rattle.semantics.specs.Code.{retain_all, release_all}
use Rattle.semantics.specs.Normal.{normal_body}
use Rattle.semantics.specs.Borrow.{Table, borrows}
use Rattle.semantics.specs.Live.{Set, empty, ◌∪◌, ◌∖∖◌, only, just, among, live, uses, after_branch, after_pass}
use Rattle.semantics.specs.Annotate.{NameDepths, is_array, arrays, dying, handed_again, Style, full_style, rewritable}
use Rattle.semantics.specs.Annotate.{written, annotate, annotate_line, owned_depths, annotated_in}
use Rattle.discipline.proofs.machine.Size.{tree_adds}
use Rattle.soundness.proofs.annotation.Unchanged.{pass, written_loop}

retains_add : (xs : List ℕ) (t : Tree) → tree_adds (retain_all xs t) ≡ length xs + tree_adds t
unfolding tree_adds
retains_add [] t = omega arith
retains_add (x ∷ xs) t = omega (arith, retains_add xs t)

releases_add : (xs : List ℕ) (t : Tree) → tree_adds (release_all xs t) ≡ tree_adds t
unfolding tree_adds
releases_add [] t = refl
releases_add (x ∷ xs) t = omega (arith, releases_add xs t)

module _ (β : Borrowing) (Γ : NameDepths) where
  -- the retains before a loop that is written as j
  abbrev again : Loop → List ℕ → List Atom → Tree → Set → List ℕ
  again j ps us t A = handed_again Γ (loop_hands j us) (among (loop_reads j us) (uses t ∖∖ ps) ∪ A)

  none_again : (ps : List ℕ) (us : List Atom) (t : Tree) (A : Set) → length (again mapping ps us t A) ≡ 0
  unfolding handed_again
  none_again ps us t A = refl

  loop_adds : (style : Style) (x : ℕ) (j : Loop) (ps : List ℕ) (us : List Atom) (t : Tree) (A : Set) (k : Tree) →
      tree_adds (written_loop style β Γ x j ps us t A k)
      ≡ length (again j ps us t A) + (2 + (length (arrays Γ (element_name j ps))
      + tree_adds (annotate style β Γ t (after_pass x ps t A))) + tree_adds k)
  unfolding tree_adds
  loop_adds style x j ps us t A k =
      let R = among (loop_reads j us) (uses t ∖∖ ps) in
      let L = after_pass x ps t A in
      let t' = release_all (dying Γ (just ps) (live t L)) (annotate style β Γ t L) in
      omega (
        arith,
        retains_add (again j ps us t A)
            (line (loop x j ps us (pass style β Γ x j ps t A)) (release_all (dying Γ (R ∪ only x) A) k)),
        retains_add (arrays Γ (element_name j ps)) t',
        releases_add (dying Γ (just ps) (live t L)) (annotate style β Γ t L),
        releases_add (dying Γ (R ∪ only x) A) k,
      )

  module _ (style : Style) where
    -- it writes the same loop as the full style, or leaves a map that the full style rewrites
    pub written_same : (i : Loop) (x : ℕ) (ps : List ℕ) (us : List Atom) (t : Tree) (A : Set) →
        (written style β Γ i x ps us t A ≡ written full_style β Γ i x ps us t A)
        ⊎ ((written style β Γ i x ps us t A ≡ mapping) × (written full_style β Γ i x ps us t A ≡ rewriting))
    written_same mapping x ps [] t A = inl refl
    written_same mapping x ps (number z ∷ us) t A = inl refl
    written_same mapping x ps (name y ∷ us) t A =
        go style.rewrites (rewritable full_style β Γ x ps (name y ∷ us) t A)
      where
        go : (b r : Bool) → (cond (b && r) rewriting mapping ≡ cond r rewriting mapping)
            ⊎ ((cond (b && r) rewriting mapping ≡ mapping) × (cond r rewriting mapping ≡ rewriting))
        go true r = inl refl
        go false true = inr (refl, refl)
        go false false = inl refl
    written_same filtering x ps us t A = inl refl
    written_same reducing x ps us t A = inl refl
    written_same rewriting x ps us t A = inl refl

    mutual
      unfolding annotate tree_adds

      annotate_adds : (t : Tree) (L : Set) →
          tree_adds (annotate style β Γ t L) ≤ tree_adds (annotate full_style β Γ t L)
      annotate_adds (end a) L = omega arith
      annotate_adds (line l t) L =
          annotate_line_adds l (live t L) (annotate style β Γ t L) (annotate full_style β Γ t L) (annotate_adds t L)

      annotate_line_adds : (l : Line) (A : Set) (k k' : Tree) → tree_adds k ≤ tree_adds k' →
          tree_adds (annotate_line style β Γ l A k) ≤ tree_adds (annotate_line full_style β Γ l A k')
      annotate_line_adds (leaf x l us) A k k' h =
          let R = among (leaf_reads β l us) empty in
          let free = dying Γ (R ∪ only x) A in
          let pend = with_if (is_pending l && is_array Γ x) x [] in
          let hands = handed_again Γ (leaf_hands β l us) (R ∪ A) in
          omega (
            arith,
            h,
            retains_add hands (line (leaf x l us) (retain_all pend (release_all free k))),
            retains_add hands (line (leaf x l us) (retain_all pend (release_all free k'))),
            retains_add pend (release_all free k),
            retains_add pend (release_all free k'),
            releases_add free k,
            releases_add free k',
          )
      annotate_line_adds (if_else x g t e) A k k' h =
          let L = after_branch x A in
          let free = dying Γ (only x) A in
          omega (
            arith,
            h,
            annotate_adds t L,
            annotate_adds e L,
            releases_add (dying Γ (uses e) (live t L)) (annotate style β Γ t L),
            releases_add (dying Γ (uses e) (live t L)) (annotate full_style β Γ t L),
            releases_add (dying Γ (uses t) (live e L)) (annotate style β Γ e L),
            releases_add (dying Γ (uses t) (live e L)) (annotate full_style β Γ e L),
            releases_add free k,
            releases_add free k',
          )
      annotate_line_adds (loop x i ps us t) A k k' h =
          let j = written style β Γ i x ps us t A in
          let j' = written full_style β Γ i x ps us t A in
          let inner = annotate_adds t (after_pass x ps t A) in
          let here = loop_adds style x j ps us t A k in
          let there = loop_adds full_style x j' ps us t A k' in
          elim (written_same i x ps us t A) [
            | inl e ↦
                omega (
                  arith,
                  h,
                  inner,
                  here,
                  there,
                  ap (λ (o : Loop). length (again o ps us t A)) e,
                  ap (λ (o : Loop). length (arrays Γ (element_name o ps))) e,
                )
            | inr e ↦
                omega (
                  arith,
                  h,
                  inner,
                  here,
                  there,
                  ap (λ (o : Loop). length (again o ps us t A)) e.0,
                  none_again ps us t A,
                  ap (λ (o : Loop). length (arrays Γ (element_name o ps))) e.0,
                  ap (λ (o : Loop). length (arrays Γ (element_name o ps))) e.1,
                )
          ]
      annotate_line_adds (retain x) A k k' h = omega (arith, h)
      annotate_line_adds (release x) A k k' h = omega (arith, h)

pub annotated_adds : (style : Style) (fs : Script) (T : Table) (f : ℕ) (g : Function) →
    tree_adds (annotated_in style fs T f g) ≤ tree_adds (annotated_in full_style fs T f g)
unfolding annotated_in
annotated_adds style fs T f g =
    let Γ = owned_depths fs T f g in
    let t = normal_body g in
    let free = dying Γ (λ x. ltb x (length g.parameters)) (uses t) in
    omega (
      arith,
      annotate_adds (borrows T) Γ style t empty,
      releases_add free (annotate style (borrows T) Γ t empty),
      releases_add free (annotate full_style (borrows T) Γ t empty),
    )
