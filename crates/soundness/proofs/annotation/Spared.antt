-- Annotation by depths in which the names that are lent are numbers keeps a tree that spares them so.
use Rattle.prelude.specs.Kit.{ℕ, arith, ◌&&◌, ◌≡◌, ◌∙◌, sym, subst, inl, inr}
use Rattle.prelude.specs.Kit.{List, [], ◌∷◌, length}
use Rattle.semantics.specs.Basics.{with_if}
use Rattle.semantics.specs.Kinds.{Borrowing, Loop, leaf_hands, leaf_reads, loop_hands, loop_reads, is_pending}
use Rattle.semantics.specs.Kinds.{element_name}
use Rattle.semantics.specs.Code.{Atom, Line, leaf, if_else, loop, retain, release, Tree, end, line}
use Rattle.semantics.specs.Code.{retain_all, release_all}
use Rattle.semantics.specs.Live.{Set, empty, ◌∪◌, ◌∖∖◌, only, just, among, live, uses, after_branch, after_pass}
use Rattle.semantics.specs.Annotate.{NameDepths, is_array, dying, arrays, handed_again, Style}
use Rattle.semantics.specs.Annotate.{written, annotate}
use Rattle.semantics.specs.Annotate.{annotate_line}
use Rattle.discipline.proofs.machine.Discipline.{loop_arity}
use Rattle.soundness.proofs.annotation.Written.{written_as, written_arity}
use Rattle.soundness.proofs.annotation.Sparing.{AllOwned, Spares, LineSpares, spares_retains, spares_releases}
use Rattle.soundness.proofs.annotation.Sparing.{Numbers, array_owned}

-- over the names that are lent, and the places that are borrowed
module _ (β : Borrowing) (lent : Set) where
  module _ (style : Style) (Γ : NameDepths) (numbers : Numbers β lent Γ) where
    written_owned : (i : Loop) (x : ℕ) (ps : List ℕ) (us : List Atom) (t : Tree) (A : Set) → length us ≡ loop_arity i →
        AllOwned lent (loop_hands i us) → AllOwned lent (loop_hands (written style β Γ i x ps us t A) us)
    written_owned i x ps us t A h owns = elim (written_as style β Γ i x ps us t A h) [
      | inl e ↦ subst (λ (k : Loop). AllOwned lent (loop_hands k us)) (sym e) owns
      | inr r ↦
          subst (λ (k : Loop). AllOwned lent (loop_hands k us)) (sym r.is)
          (subst (AllOwned lent) (sym r.atoms) (array_owned β lent style Γ numbers r.over (omega (arith, r.array)), tt))
    ]

    mutual
      unfolding annotate

      pub annotated_spares : (t : Tree) (L : Set) → Spares β lent t → Spares β lent (annotate style β Γ t L)
      annotated_spares (end a) L s = spares_retains β lent (handed_again Γ (a ∷ []) L) (end a) s
      annotated_spares (line l t) L s =
          annotated_line_spares l (live t L) (annotate style β Γ t L) s.0 (annotated_spares t L s.1)

      annotated_line_spares : (l : Line) (A : Set) (k : Tree) → LineSpares β lent l → Spares β lent k →
          Spares β lent (annotate_line style β Γ l A k)
      annotated_line_spares (leaf x l us) A k h s =
          let R = among (leaf_reads β l us) empty in
          let free = dying Γ (R ∪ only x) A in
          let pend = with_if (is_pending l && is_array Γ x) x [] in
          let k' = release_all free k in
          spares_retains β lent (handed_again Γ (leaf_hands β l us) (R ∪ A)) (line (leaf x l us) (retain_all pend k'))
          (h, spares_retains β lent pend k' (spares_releases β lent free k s))
      annotated_line_spares (if_else x g t e) A k h s =
          let L = after_branch x A in (
            (
              h.0,
              spares_releases β lent (dying Γ (uses e) (live t L)) (annotate style β Γ t L) (annotated_spares t L h.1),
              spares_releases β lent (dying Γ (uses t) (live e L)) (annotate style β Γ e L) (annotated_spares e L h.2),
            ),
            spares_releases β lent (dying Γ (only x) A) k s,
          )
      annotated_line_spares (loop x i ps us t) A k h s =
          let j = written style β Γ i x ps us t A in
          let L = after_pass x ps t A in
          let R = among (loop_reads j us) (uses t ∖∖ ps) in
          let free = dying Γ (R ∪ only x) A in
          let unused = dying Γ (just ps) (live t L) in
          let t₁ = annotate style β Γ t L in
          let t₂ = release_all unused t₁ in
          let t₃ = retain_all (arrays Γ (element_name j ps)) t₂ in
          let inside : Spares β lent t₃ =
          spares_retains β lent (arrays Γ (element_name j ps)) t₂
          (spares_releases β lent unused t₁ (annotated_spares t L h.3)) in
          spares_retains β lent (handed_again Γ (loop_hands j us) (R ∪ A))
          (line (loop x j ps us t₃) (release_all free k)) (
            (
              h.0,
              written_owned i x ps us t A h.4 h.1,
              h.2,
              inside,
              h.4 ∙ sym (written_arity style β Γ i x ps us t A),
            ),
            spares_releases β lent free k s,
          )
      annotated_line_spares (retain x) A k h s = (tt, s)
      annotated_line_spares (release x) A k h s = (tt, s)
