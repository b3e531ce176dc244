-- Every line and every tree, by induction; leaves are taken for granted.
use Rattle.prelude.specs.Kit.{ℕ, ◌+◌, arith, ◌≡◌, ◌∙◌, ap, List, [], ◌∷◌, ◌++◌}
use Rattle.semantics.specs.Basics.{occurrences}
use Rattle.semantics.specs.Kinds.{Leaf, Loop, mapping, filtering, reducing, rewriting}
use Rattle.semantics.specs.Code.{Atom, Line, leaf, if_else, loop, retain, release, Tree, end, line}
use Rattle.semantics.specs.Live.{live}
use Rattle.semantics.specs.Machine.{word, work}
use Rattle.semantics.specs.Store.{named_by}
use Rattle.laws.specs.Lists.{occurrences_append}
use Rattle.semantics.specs.Plain.{run}
use Rattle.discipline.proofs.store.Kept.{keeps_self}
use Rattle.discipline.proofs.normal.Trace.{CalleeGrows}
use Rattle.discipline.proofs.machine.Discipline.{known_after, holds_after, waits_after}
use Rattle.discipline.proofs.machine.Growth.{tree_grows}
use Rattle.discipline.proofs.machine.Agreement.{both, agree_bind, agree_map}
use Rattle.discipline.proofs.machine.Frames.{hold, Setting, given}
use Rattle.discipline.proofs.machine.Standing.{atom_stands, handed_named}
use Rattle.discipline.proofs.machine.Binding.{ended_back}
use Rattle.discipline.proofs.machine.Atoms.{handed_same, hand_over}
use Rattle.discipline.proofs.machine.Size.{tree_adds, line_adds}
use Rattle.discipline.proofs.machine.Situations.{situation_less}
use Rattle.discipline.proofs.machine.Rules.{line_rules, rest_rules}
use Rattle.discipline.proofs.machine.Claims.{TreeClaim, LineClaim, LeafClaim}
use Rattle.discipline.proofs.machine.Holding.{line_retain, line_release}
use Rattle.discipline.proofs.machine.Leaves.{line_leaf}
use Rattle.discipline.proofs.machine.Branches.{line_if}
use Rattle.discipline.proofs.machine.Mapping.{line_mapping}
use Rattle.discipline.proofs.machine.Filtering.{line_filtering}
use Rattle.discipline.proofs.machine.Reducing.{line_reducing}
use Rattle.discipline.proofs.machine.Rewriting.{line_rewriting}

module _ (C : Setting) where
  -- a tree's end hands its atom over
  pub tree_end : (a : Atom) → TreeClaim C (end a)
  unfolding work run tree_adds
  tree_end a B T L H P Δ d rules Z F R ρ δ n s m tog S need = both record {
    answered = record {
      together = tog;
      invariant = hand_over C ρ (a ∷ []) H Δ F (named_by d (word ρ a ∷ [])) rules.holds holds S.invariant;
      stands = atom_stands C H S.numbers S.arrays a rules.fits (λ y h. omega (arith, h, left_over y));
    };
    room = record {
      few = λ c. omega (
        arith,
        S.room.few c,
        handed_same C ρ (a ∷ []) H Δ F (named_by d (word ρ a ∷ [])) rules.holds holds c,
      );
    };
    arrays = λ y h. S.arrays y (omega (arith, h, left_over y));
    keeps = keeps_self s.store (Z ++ F);
  }
    where
      holds : hold ρ (given C (a ∷ [])) ≡ named_by d (word ρ a ∷ [])
      holds = handed_named C ρ a ∙ ap (λ (k : ℕ). named_by k (word ρ a ∷ [])) rules.fits

      left_over : (y : ℕ) → occurrences y H ≡ occurrences y (given C (a ∷ [])) + occurrences y Δ
      left_over y = rules.holds y ∙ occurrences_append y (given C (a ∷ [])) Δ

  module _ (grows : CalleeGrows C.meant) where
    -- a line, and the tree that goes on after it
    pub tree_line : (l : Line) (t : Tree) → LineClaim C l → TreeClaim C t → TreeClaim C (line l t)
    unfolding work run tree_adds
    tree_line l t first rest B T L H P Δ d rules Z F R ρ δ n s m tog S need =
        agree_bind (first B T (live t L) H P Δ (line_rules C rules)
        Z F R ρ δ (tree_adds t + n) s m tog (situation_less (line_adds l + (tree_adds t + n)) S (omega arith))
        (omega arith))
        (λ δ'. tree_grows C.meant grows t δ')
        (λ ρ' s' δ' m' g. agree_map (λ w s'' v m'' e. ended_back C g.words g.values g.keeps e)
        (rest B (known_after l T) L (holds_after C.program.borrowing C.depths l H)
        (waits_after C.depths l) Δ d (rest_rules C l rules) Z F R ρ' δ' n s' m' g.together g.situation need))

    line_loop : (x : ℕ) (k : Loop) (ps : List ℕ) (us : List Atom) (t : Tree) → TreeClaim C t →
        LineClaim C (loop x k ps us t)
    line_loop x mapping ps us t claim = line_mapping C grows x ps us t claim
    line_loop x filtering ps us t claim = line_filtering C grows x ps us t claim
    line_loop x reducing ps us t claim = line_reducing C grows x ps us t claim
    line_loop x rewriting ps us t claim = line_rewriting C grows x ps us t claim

    module _ (leaves : (l : Leaf) → LeafClaim C l) where
      mutual
        pub tree_sound : (t : Tree) → TreeClaim C t
        tree_sound (end a) = tree_end a
        tree_sound (line l t) = tree_line l t (line_sound l) (tree_sound t)

        pub line_sound : (l : Line) → LineClaim C l
        line_sound (leaf x l us) = line_leaf C x l us (leaves l)
        line_sound (if_else x g t e) = line_if C grows x g t e (tree_sound t) (tree_sound e)
        line_sound (loop x k ps us t) = line_loop x k ps us t (tree_sound t)
        line_sound (retain x) = line_retain C x
        line_sound (release x) = line_release C x
