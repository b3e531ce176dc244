-- `script_twins`: the program of an accepted script in which every map stays a map, and its program in the full style,
-- are twins.
use Rattle.prelude.specs.Kit.{ℕ, ◌≤◌, ◌<◌, suc, arith, false, Bool, ◌&&◌, ◌||◌}
use Rattle.prelude.specs.Kit.{and-false, ◌≡◌, refl, ◌∙◌, sym, ap, subst, inl, inr, ◌≢◌, List, [], ◌∷◌, ltb, length}
use Rattle.semantics.specs.Basics.{with_if}
use Rattle.semantics.specs.Syntax.{Function, Script, function_at}
use Rattle.semantics.specs.Kinds.{Borrowing, Loop, mapping, filtering, reducing, rewriting, leaf_hands, leaf_reads}
use Rattle.semantics.specs.Kinds.{loop_hands, loop_reads, element_name, is_pending}
use Rattle.semantics.specs.Code.{Atom, number, name, Line, leaf, if_else, loop, retain, release, Tree, end, line}
use Rattle.semantics.specs.Code.{ending, retain_all, release_all}
use Rattle.semantics.specs.Live.{Set, empty, ◌∪◌, ◌∖∖◌, only, just, among, live, uses}
use Rattle.semantics.specs.Live.{after_branch, after_pass}
use Rattle.semantics.specs.Annotate.{NameDepths, atom_depth, is_array, arrays, dying, handed_again, full_style}
use Rattle.semantics.specs.Annotate.{written, annotate, annotate_line, depths_of, owned_depths, annotated_in}
use Rattle.semantics.specs.Normal.{normal_body}
use Rattle.semantics.specs.Borrow.{Table, borrows, borrowed}
use Rattle.semantics.specs.Machine.{Routine, program_in, program, routine_of}
use Rattle.semantics.specs.Calls.{accepted, judged}
use Rattle.semantics.specs.Demands.{mapping_only}
use Rattle.laws.specs.Routines.{routine_in, length_routines_in, length_routines, routine_in_is, routine_is}
use Rattle.discipline.proofs.machine.Discipline.{AllKnown}
use Rattle.soundness.proofs.annotation.Typed.{Functions}
use Rattle.soundness.proofs.annotation.Formed.{Within, within_up, within_bound, within_pass, bound_by}
use Rattle.soundness.proofs.annotation.Formed.{Placed, Formed, LineFormed}
use Rattle.soundness.proofs.annotation.Unchanged.{pass, written_loop}
use Rattle.soundness.proofs.annotation.Written.{written_as}
use Rattle.soundness.proofs.annotation.Functions.{functions_in, Accepted, given_within, formed}
use Rattle.soundness.proofs.annotation.Accepting.{all_accepted}
use Rattle.leaner.proofs.Twin.{Twin, same_end, same_leaf, same_if, same_loop}
use Rattle.leaner.proofs.Twin.{rewritten, TwinRoutine, TwinPrograms}
use Rattle.leaner.proofs.Releasing.{twin_retains, twin_releases, released_twin}

-- ---- the trees

module _ (β : Borrowing) (Γ : NameDepths) where
  -- no loop is written anew
  written_kept : (i : Loop) (x : ℕ) (ps : List ℕ) (us : List Atom) (t : Tree) (A : Set) →
      written mapping_only β Γ i x ps us t A ≡ i
  written_kept mapping x ps [] t A = refl
  written_kept mapping x ps (number z ∷ us) t A = refl
  written_kept mapping x ps (name y ∷ us) t A = refl
  written_kept filtering x ps us t A = refl
  written_kept reducing x ps us t A = refl
  written_kept rewriting x ps us t A = refl

  -- a tree, annotated both ways
  abbrev BothWays : Tree → Set → Type 0
  BothWays t L = Twin [] (annotate mapping_only β Γ t L) (annotate full_style β Γ t L)

  -- a loop that binds x, after which A is live, and what follows it
  module _ (x : ℕ) (ps : List ℕ) (t : Tree) (A : Set) {k k' : Tree} (rest : Twin [] k k')
      (inner : BothWays t (after_pass x ps t A)) where
    pass_twin : (j : Loop) → Twin [] (pass mapping_only β Γ x j ps t A) (pass full_style β Γ x j ps t A)
    pass_twin j =
        twin_retains (arrays Γ (element_name j ps))
        (twin_releases (dying Γ (just ps) (live t (after_pass x ps t A))) inner)

    loop_twin : (j : Loop) (us : List Atom) →
        Twin [] (written_loop mapping_only β Γ x j ps us t A k) (written_loop full_style β Γ x j ps us t A k')
    loop_twin j us =
        let R = among (loop_reads j us) (uses t ∖∖ ps) in
        twin_retains (handed_again Γ (loop_hands j us) (R ∪ A))
        (same_loop (pass_twin j) (twin_releases (dying Γ (R ∪ only x) A) rest))

    -- a map whose array y dies there
    module _ (y : ℕ) (small : y < 256) (other : x ≢ y) (array : Γ y ≡ 1) (dead : A y ≡ false)
        (unused : (uses t ∖∖ ps) y ≡ false) where
      abbrev U : Set
      U = uses t ∖∖ ps

      none_retained : handed_again Γ (name y ∷ []) (among [] U ∪ A) ≡ []
      unfolding handed_again among
      none_retained =
          (λ i. with_if (is_array Γ y && (unused i || dead i)) y [])
          ∙ ap (λ (b : Bool). with_if b y []) (and-false (is_array Γ y))

      rewritten_twin : Twin [] (written_loop mapping_only β Γ x mapping ps (name y ∷ []) t A k)
          (written_loop full_style β Γ x rewriting ps (name y ∷ []) t A k')
      unfolding handed_again
      rewritten_twin =
          subst (λ (l : List ℕ). Twin [] (written_loop mapping_only β Γ x mapping ps (name y ∷ []) t A k)
          (retain_all l (line (loop x rewriting ps (name y ∷ []) (pass full_style β Γ x rewriting ps t A))
          (release_all (dying Γ (among [] U ∪ only x) A) k')))) (sym none_retained)
          (rewritten (pass_twin mapping)
          (released_twin Γ x ps t A rest y small other array dead unused))

  module _ (F : Functions) (Θ : NameDepths) where
    mutual
      unfolding annotate

      annotate_twin : (t : Tree) (S L : Set) (c d : ℕ) → Formed F Θ t S c d → Within S c → BothWays t L
      annotate_twin (end a) S L c d f w = twin_retains (handed_again Γ (a ∷ []) L) same_end
      annotate_twin (line l t) S L c d f w =
          let c' = f.0 in
          let up : c ≤ c' = omega (arith, f.1.above, f.1.below) in
          line_twin l (live t L) S c c' f.1 f.2 w
          (annotate_twin t (S ∪ only (bound_by l)) L c' d f.3
          (within_bound S (bound_by l) c c' up f.1.below w))

      line_twin : (l : Line) (A : Set) {k k' : Tree} (S : Set) (c c' : ℕ) → Placed (bound_by l) c c' →
          LineFormed F Θ l S → Within S c → Twin [] k k' →
          Twin [] (annotate_line mapping_only β Γ l A k) (annotate_line full_style β Γ l A k')
      line_twin (leaf x l us) A S c c' place f w rest =
          let R = among (leaf_reads β l us) empty in
          twin_retains (handed_again Γ (leaf_hands β l us) (R ∪ A))
          (same_leaf (twin_retains (with_if (is_pending l && is_array Γ x) x [])
          (twin_releases (dying Γ (R ∪ only x) A) rest)))
      line_twin (if_else x g t e) A S c c' place f w rest =
          let L = after_branch x A in
          let c₁ = f.1.0 in
          let c₂ = f.2.0 in
          same_if
          (twin_releases (dying Γ (uses e) (live t L))
          (annotate_twin t S L c₁ (Θ x) f.1.2 (within_up S c c₁ (omega (arith, place.above, f.1.1)) w)))
          (twin_releases (dying Γ (uses t) (live e L))
          (annotate_twin e S L c₂ (Θ x) f.2.2 (within_up S c c₂ (omega (arith, place.above, f.2.1)) w)))
          (twin_releases (dying Γ (only x) A) rest)
      line_twin (loop x i ps us t) A {k} {k'} S c c' place f w rest =
          let j = written full_style β Γ i x ps us t A in
          let form = f.1 in
          let inner = annotate_twin t (S ∪ just ps) (after_pass x ps t A) f.0 (atom_depth Θ (ending t)) f.2
          (within_pass S ps c (suc x) f.0 (omega (arith, place.above)) form.rising w) in
          let first : Loop → Tree = λ o. written_loop mapping_only β Γ x o ps us t A k in
          subst (λ (o : Loop). Twin [] (first o) (written_loop full_style β Γ x j ps us t A k'))
          (sym (written_kept i x ps us t A)) (elim (written_as full_style β Γ i x ps us t A form.fits.parted) [
            | inl e ↦
                subst (λ (o : Loop). Twin [] (first i) (written_loop full_style β Γ x o ps us t A k')) (sym e)
                (loop_twin x ps t A rest inner i us)
            | inr r ↦
                let y = r.over in
                let seen = subst (λ (vs : List Atom). AllKnown vs S) r.atoms form.seen in
                let low = w.below y seen.0 in
                subst (λ (o : Loop). Twin [] (first i) (written_loop full_style β Γ x o ps us t A k')) (sym r.is)
                (subst (λ (o : Loop). Twin [] (first o) (written_loop full_style β Γ x rewriting ps us t A k'))
                (sym r.was)
                (subst (λ (vs : List Atom). Twin [] (written_loop mapping_only β Γ x mapping ps vs t A k)
                (written_loop full_style β Γ x rewriting ps vs t A k')) (sym r.atoms)
                (rewritten_twin x ps t A rest inner y (omega (arith, low, place.above, place.small))
                (λ e. omega (arith, low, place.above, e)) r.array r.dead r.unused)))
          ])
      line_twin (retain x) A S c c' place f w rest = absurd f
      line_twin (release x) A S c c' place f w rest = absurd f

-- ---- functions and programs

module _ (fs : Script) (g : Function) (ok : Accepted fs g) where
  annotated_twin : (T : Table) (f : ℕ) → Twin [] (annotated_in mapping_only fs T f g) (annotated_in full_style fs T f g)
  unfolding annotated_in
  annotated_twin T f =
      let Γ = owned_depths fs T f g in
      let t = normal_body g in
      let given : Set = λ x. ltb x (length g.parameters) in
      twin_releases (dying Γ given (uses t))
      (annotate_twin (borrows T) Γ (functions_in fs) (depths_of fs g) t given empty (length g.parameters) g.result
      (formed fs g ok) (given_within fs g ok))

module _ (file : List ℕ) (fs : Script) (ok : judged file ≡ accepted fs) where
  pub script_twins : TwinPrograms (program_in mapping_only fs) (program fs).routines
  script_twins = record {
    as_many = length_routines fs ∙ sym (length_routines_in mapping_only fs);
    routine = λ f h. at f (omega (arith, h, length_routines_in mapping_only fs));
  }
    where
      at : (f : ℕ) → f < length fs →
          TwinRoutine (routine_of (program_in mapping_only fs) f) (routine_of (program fs) f)
      at f h =
          let g = function_at fs f in
          let T = borrowed fs in
          subst (λ (r : Routine). TwinRoutine r (routine_of (program fs) f)) (sym (routine_in_is mapping_only fs f h))
          (subst (λ (r : Routine). TwinRoutine (routine_in mapping_only fs T f g) r) (sym (routine_is fs f h)) record {
            tree = annotated_in full_style fs T f g;
            is = refl;
            twin = annotated_twin fs g (all_accepted file fs ok f) T f;
          })
