-- `loop_line`: a loop, as it is written, before a sound tree. It lends the array that it reads to its tree.
use Rattle.prelude.specs.Kit.{ℕ, arith, ◌≡◌, refl, ◌∙◌, sym, subst, List}
use Rattle.prelude.specs.Kit.{[], ◌++◌}
use Rattle.semantics.specs.Kinds.{Borrowing, Loop, loop_hands, loop_reads}
use Rattle.semantics.specs.Kinds.{element_name}
use Rattle.semantics.specs.Code.{Atom, loop, Tree, line, retain_all, release_all}
use Rattle.semantics.specs.Live.{Set, empty, ◌∪◌, ◌∖◌, ◌∖∖◌, only, just, among, live, live_before, uses, after_pass}
use Rattle.semantics.specs.Annotate.{NameDepths, arrays, dying, Style, annotate}
use Rattle.discipline.proofs.machine.Discipline.{hold_of, holds_of, handed, less, left_by}
use Rattle.semantics.specs.Kinds.{carried_name}
use Rattle.discipline.proofs.machine.Discipline.{outer_holds, pass_holds, Covered, Frugal}
use Rattle.laws.specs.Lists.{occurrences_append}
use Rattle.discipline.proofs.machine.Spending.{same_append}
use Rattle.soundness.proofs.annotation.Held.{Few, names}
use Rattle.soundness.proofs.annotation.Moves.{Sound, sound_same, retains, retains_element}
use Rattle.soundness.proofs.annotation.Unchanged.{live_release_all, pass, written_loop, live_pass}
use Rattle.soundness.proofs.annotation.Counts.{releasing, Apart, before, behind, again, retainable}
use Rattle.soundness.proofs.annotation.Counts.{handable}
use Rattle.soundness.proofs.annotation.Counts.{left, readable, bound, covered_before}
use Rattle.soundness.proofs.annotation.Trees as Trees
use Rattle.soundness.proofs.annotation.Trees.{element_one, pass_parts, outer, Passing, given}

-- over a loop that lends the array that it reads
module _ (Γ : NameDepths) (few : Few Γ) (B : List ℕ) (x : ℕ) (k : Loop) (ps : List ℕ) (us : List Atom) (t : Tree)
    (A : Set) where
  abbrev hands : List Atom
  hands = loop_hands k us

  abbrev reads : List Atom
  reads = loop_reads k us

  abbrev used : Set
  used = uses t ∖∖ ps

  abbrev after : Set
  after = after_pass x ps t A

  abbrev inner : List ℕ
  inner = Trees.inner Γ few B x k ps us t A

  module _ (apart : Apart Γ few B x us hands reads used A) (c e : ℕ)
      (passing : Passing Γ few B x k ps us t A apart c e) where
    abbrev start : List ℕ
    start = again Γ few B x us hands reads used A
        ++ names Γ B (before Γ few B x us hands reads used A)

    pass_sound : (style : Style) (β : Borrowing) →
        Sound β Γ inner (annotate style β Γ t after) (names Γ inner (live t after)) [] (names Γ inner after) after →
        Sound β Γ inner (pass style β Γ x k ps t A) (pass_holds Γ B k ps us start) (holds_of Γ (element_name k ps))
        (outer_holds Γ B k us start) after
    pass_sound style β s =
        let t' = release_all (dying Γ (just ps) (live t after)) (annotate style β Γ t after) in
        let H = pass_holds Γ B k ps us start in
        let E = element_name k ps in
        let rest : Sound β Γ inner t' (holds_of Γ ps ++ names Γ inner after) [] (names Γ inner after) after =
        releasing β Γ few inner (just ps) (live t after) (annotate style β Γ t after) _ [] after
        (given Γ few B x k ps us t A apart c e passing) s in
        let here : Sound β Γ inner t' (holds_of Γ E ++ H) [] (outer_holds Γ B k us start) after =
        sound_same β Γ inner t' (holds_of Γ ps ++ names Γ inner after) (holds_of Γ E ++ H) []
        (names Γ inner after) (outer_holds Γ B k us start) after
        (λ n. omega (
          arith,
          pass_parts Γ k ps n,
          outer Γ few B x k ps us t A apart n,
          occurrences_append n (holds_of Γ ps) (names Γ inner after),
          occurrences_append n (holds_of Γ E) H,
          occurrences_append n (holds_of Γ (carried_name k ps)) (outer_holds Γ B k us start),
        ))
        (λ n. sym (outer Γ few B x k ps us t A apart n)) rest in
        let one = element_one k ps passing.named in
        subst (λ es. Sound β Γ inner (retain_all (arrays Γ es) t') H (holds_of Γ es)
        (outer_holds Γ B k us start) after)
        (sym one.1)
        (retains_element β Γ inner one.0 t' H (outer_holds Γ B k us start) after
        (subst (λ es. Sound β Γ inner t' (holds_of Γ es ++ H) [] (outer_holds Γ B k us start) after) one.1 here))

    pub loop_line : (style : Style) (β : Borrowing) (L : Set) (j : Tree) → live j L ≡ A →
        Sound β Γ inner (annotate style β Γ t after) (names Γ inner (live t after)) [] (names Γ inner after) after →
        Sound β Γ B j (names Γ B A) [] (names Γ B L) L →
        Sound β Γ B (written_loop style β Γ x k ps us t A j) (names Γ B (live_before (loop x k ps us t) A)) []
        (names Γ B L) L
    unfolding annotate live left_by
    loop_line style β L j same s sound =
        let free = dying Γ (among reads used ∪ only x) A in
        let j' = release_all free j in
        let t' = pass style β Γ x k ps t A in
        let rest = less (handed Γ hands) start in
        let q : live j' L ≡ A = live_release_all free j L ∙ same in
        let pass_same : after_pass x ps t' (live j' L) ≡ after =
        λ i. live_pass style β Γ x k ps t A empty i ∖∖ ps ∪ q i ∖ x in
        let inside = pass_sound style β s in
        let s' : Sound β Γ B j' (hold_of Γ x ++ rest) [] (names Γ B L) L =
        sound_same β Γ B j' (hold_of Γ x ++ names Γ B (behind Γ few B x us hands reads used A))
        (hold_of Γ x ++ rest) [] (names Γ B L) (names Γ B L) L
        (same_append (hold_of Γ x) _ rest (λ n. sym (left Γ few B x us hands reads used A apart n))) (λ n. refl)
        (releasing β Γ few B (among reads used ∪ only x) A j _ [] L
        (bound Γ few B x us hands reads used A apart) sound) in
        retains β Γ B (again Γ few B x us hands reads used A) (line (loop x k ps us t') j')
        (names Γ B (before Γ few B x us hands reads used A)) (names Γ B L) L
        (retainable Γ few B x us hands reads used A apart) (
          (
            (
              handable Γ few B x us hands reads used A apart,
              readable Γ few B x us hands reads used A apart,
              inside.0,
            ),
            s'.0,
          ),
          (
            (
              subst (λ M. Covered Γ start (among us M)) (sym pass_same)
                  (covered_before Γ few B x us hands reads used A apart),
              subst (Frugal β Γ inner t' (pass_holds Γ B k ps us start)) (sym pass_same) inside.1,
            ),
            s'.1,
          ),
        )
