-- `annotated_sound`: annotation gives sound trees, in which at each point exactly the live arrays that are not lent
-- hold one reference each.
use Rattle.prelude.specs.Kit.{ℕ, ◌≤◌, ◌+◌, ◌<◌, suc, min, max, arith, dec_lt, false≢true, ◌≡◌, ◌∙◌, sym, ap, inl, inr}
use Rattle.prelude.specs.Kit.{List, [], ◌∷◌}
use Rattle.semantics.specs.Basics.{occurrences, ◌∈◌}
use Rattle.semantics.specs.Kinds.{Borrowing, Loop, leaf_hands, leaf_reads, loop_hands, loop_reads}
use Rattle.semantics.specs.Code.{Atom, Line, leaf, if_else, loop, retain, release, Tree, end, line, ending}
use Rattle.semantics.specs.Live.{Set, empty, ◌∪◌, ◌∖◌, ◌∖∖◌, only, just, is, among, live, live_before, uses, after_pass}
use Rattle.semantics.specs.Annotate.{NameDepths, atom_depth, handed_again, Style, written, annotate}
use Rattle.semantics.specs.Annotate.{annotate_line}
use Rattle.laws.specs.Tests.{or_cases}
use Rattle.laws.specs.Lists.{hits, occurrences_append}
use Rattle.discipline.proofs.machine.Discipline.{handed, pass_lent}
use Rattle.soundness.proofs.annotation.Typed.{Functions}
use Rattle.soundness.proofs.annotation.Held.{Few, free, free_or, held, names, held_most, held_or, held_less}
use Rattle.soundness.proofs.annotation.Held.{held_le}
use Rattle.soundness.proofs.annotation.Held.{held_is, again_held, append_held, rising_off}
use Rattle.soundness.proofs.annotation.Moves.{Sound, retains}
use Rattle.soundness.proofs.annotation.Sets.{Inside, inside_bound, inside_pass}
use Rattle.soundness.proofs.annotation.Formed.{Within, within_up, within_bound, rising_up, within_pass, bound_by}
use Rattle.soundness.proofs.annotation.Formed.{Shallower, shallow_number, Formed, LineFormed, LoopForm, live_seen}
use Rattle.soundness.proofs.annotation.Formed.{line_stays}
use Rattle.soundness.proofs.annotation.Unchanged.{live_annotate}
use Rattle.soundness.proofs.annotation.Written.{written_arity}
use Rattle.soundness.proofs.annotation.Counts.{Lower, lower_up, free_most, outside, unseen, Steady, rules, Apart}
use Rattle.soundness.proofs.annotation.Lines.{leaf_parts, leaf_line, if_line}
use Rattle.soundness.proofs.annotation.Trees.{loop_parts, Passing, pass_steady}
use Rattle.soundness.proofs.annotation.Loops.{loop_line}

-- The tree is formed over the depths Θ and annotated by Γ, which is nowhere deeper.
module _ (style : Style) (F : Functions) (β : Borrowing) (Θ Γ : NameDepths) (under : Shallower Γ Θ) (few : Few Γ) where
  end_sound : (B : List ℕ) (a : Atom) (L : Set) → Steady Γ B (is a ∪ L) L →
      Sound β Γ B (annotate style β Γ (end a) L) (names Γ B (is a ∪ L)) [] (names Γ B L) L
  unfolding annotate
  end_sound B a L steady =
      retains β Γ B again (end a) (names Γ B (is a ∪ L)) (names Γ B L) L
      (λ n h. omega (
        arith,
        retained n,
        joined n,
        held_most Γ (is a) n,
        append_held Γ few B B (is a ∪ L) n,
        free_or B n,
      )) (
        λ n. append_held Γ few again B (is a ∪ L) n ∙ sum n
            ∙ sym (append_held Γ few (handed Γ (a ∷ [])) B L n),
        tt,
      )
    where
      again : List ℕ
      again = handed_again Γ (a ∷ []) L

      joined : (n : ℕ) → held Γ (is a ∪ L) n ≡ max (held Γ (is a) n) (held Γ L n)
      joined n = held_or Γ (is a) L n

      retained : (n : ℕ) → occurrences n again + max (held Γ (is a) n) (held Γ L n)
          ≡ held Γ (is a) n + held Γ L n
      retained n = omega (arith, held_is Γ a n, held_most Γ (is a) n, again_held Γ (a ∷ []) L n)

      sum : (n : ℕ) → occurrences n again + min (free B n) (held Γ (is a ∪ L) n)
          ≡ occurrences n (handed Γ (a ∷ [])) + min (free B n) (held Γ L n)
      sum n = omega (
        arith,
        held_is Γ a n,
        joined n,
        retained n,
        steady n,
        free_most B n,
        held_most Γ (is a) n,
        held_most Γ L n,
      )

  -- ---- at a line that binds x, in the scope S of names below c; L is live after the tree, and A after the line

  module _ (B : List ℕ) (S L : Set) (c : ℕ) (scope : Within S c) (last : Within L c) (lower : Lower B c) where
    -- what is live after a line, less its name, is below c
    rest_within : (x : ℕ) (A : Set) → Inside A (S ∪ only x) L → Within (A ∖ x) c
    rest_within x A i = record {
      below = λ n e. elim ((inside_bound {B = S} x i).either n e)
          [ inl q ↦ scope.below n q | inr q ↦ last.below n q ];
    }

    -- so is what a loop's tree uses, less the names of a pass
    uses_within : (ps : List ℕ) (t : Tree) (e d : ℕ) → Formed F Θ t (S ∪ just ps) e d → Within (uses t ∖∖ ps) c
    uses_within ps t e d f = record {
      below = λ n q. elim (own.either n q) [ inl v ↦ scope.below n v | inr v ↦ absurd (false≢true v) ];
    }
      where
        own : Inside (uses t ∖∖ ps) S empty
        own = inside_pass ps (live_seen F Θ t (S ∪ just ps) empty e d f)

    pass_within : (x : ℕ) (ps : List ℕ) (t : Tree) (A : Set) (e d : ℕ) → Inside A (S ∪ only x) L →
        Formed F Θ t (S ∪ just ps) e d →
        Within (after_pass x ps t A) c
    pass_within x ps t A e d i f = record {
      below = λ n q. elim (or_cases ((uses t ∖∖ ps) n) ((A ∖ x) n) q) [
        | inl r ↦ (uses_within ps t e d f).below n r
        | inr r ↦ (rest_within x A i).below n r
      ];
    }

    -- what is lent and live before the line is live after it, and so on to the tree's end
    module _ (l : Line) (t : Tree) (d c' : ℕ) (above : c ≤ bound_by l) (below : bound_by l < c')
        (form : LineFormed F Θ l S) (tree : Formed F Θ t (S ∪ only (bound_by l)) c' d)
        (steady : Steady Γ B (live_before l (live t L)) L) where
      steady_line : Steady Γ B (live_before l (live t L)) (live t L)
      steady_line n =
          omega (
            arith,
            steady n,
            (rules Γ F Θ t (S ∪ only (bound_by l)) L c' d tree (within_up L c c' (omega arith) last) n).rest,
          )

      steady_tree : Steady Γ B (live t L) L
      steady_tree n = elim (dec_lt n c) [
        | yes h ↦
            omega (
              arith,
              steady n,
              held_le Γ (live t L) (live_before l (live t L)) n (line_stays F Θ l S (live t L) c n form above h),
            )
        | no h ↦ omega (arith, lower.free_from n (omega arith), held_most Γ (live t L) n)
      ]

    -- a branch of an if
    steady_branch : (x : ℕ) (A T N : Set) → c ≤ x → Steady Γ B N A → ((n : ℕ) → held Γ T n ≤ held Γ N n) →
        Steady Γ B T (A ∖ x)
    steady_branch x A T N above steady most n = elim (hits n x) [
      | inl h ↦ omega (arith, lower.free_from n (omega (arith, h.0)), held_most Γ T n)
      | inr h ↦ omega (arith, steady n, most n, held_less Γ A x n)
    ]

    line_apart : (x : ℕ) (us hands reads : List Atom) (U A : Set) → c ≤ x → occurrences x (handed Γ us) ≡ 0 →
        Within U c →
        ((n : ℕ) → occurrences n (handed Γ us) ≡ occurrences n (handed Γ hands) + occurrences n (handed Γ reads)) →
        Steady Γ B (among us (U ∪ A ∖ x)) A → Apart Γ few B x us hands reads U A
    line_apart x us hands reads U A above unread within parts steady = record {
      parts = parts;
      unread = unread;
      unused = outside Γ U c x within above;
      unlent = lower.free_from x above;
      steady = steady;
    }

    -- the names of a loop's pass
    module _ (x : ℕ) (o : Loop) (ps : List ℕ) (us : List Atom) (t : Tree) (A : Set) (e d : ℕ) (above : c ≤ x)
        (i : Inside A (S ∪ only x) L) (form : LoopForm F Θ x o ps us d S e)
        (tree : Formed F Θ t (S ∪ just ps) e d) where
      -- the loop that is written
      abbrev k : Loop
      k = written style β Γ o x ps us t A

      later : (n : ℕ) → n ∈ ps → suc x ≤ n
      later n h = elim (dec_lt n (suc x)) [
        | yes g ↦ absurd (omega (arith, rising_off Γ ps (suc x) e n form.rising g))
        | no g ↦ omega arith
      ]

      inner_free : (n : ℕ) → c ≤ n → free (pass_lent Γ B k us) n ≡ 1
      inner_free n h =
          omega (
            arith,
            free_or (pass_lent Γ B k us) n,
            free_or B n,
            lower.free_from n h,
            occurrences_append n (handed Γ (loop_reads k us)) B,
            loop_parts Γ k us n,
            unseen Γ us S c n form.seen scope h,
          )

      passing : (apart : Apart Γ few B x us (loop_hands k us) (loop_reads k us) (uses t ∖∖ ps) A) →
          Passing Γ few B x k ps us t A apart (suc x) e
      passing apart = record {
        rising = form.rising;
        named = form.fits.named ∙ sym (written_arity style β Γ o x ps us t A);
        unlent = λ n h. inner_free n (omega (arith, later n h));
        unused = λ n h. outside Γ (after_pass x ps t A) c n (pass_within x ps t A e d i tree) (omega
            (arith, later n h));
        rules = rules Γ F Θ t (S ∪ just ps) (after_pass x ps t A) e d tree
            (within_up (after_pass x ps t A) c e (omega (arith, rising_up ps (suc x) e form.rising))
            (pass_within x ps t A e d i tree));
      }

      inner_steady : (apart : Apart Γ few B x us (loop_hands k us) (loop_reads k us) (uses t ∖∖ ps) A) →
          Steady Γ (pass_lent Γ B k us) (live t (after_pass x ps t A)) (after_pass x ps t A)
      inner_steady apart n = elim (dec_lt 0 (occurrences n ps)) [
        | yes h ↦
            omega (arith, inner_free n (omega (arith, later n h)), held_most Γ (live t (after_pass x ps t A)) n)
        | no h ↦
            omega (arith, pass_steady Γ few B x k ps us t A apart (suc x) e (passing apart) n (omega arith))
      ]

  mutual
    unfolding annotate live

    pub annotated_sound : (t : Tree) (B : List ℕ) (S L : Set) (c d : ℕ) → Formed F Θ t S c d → Within S c → Within L c →
        Lower B c → Steady Γ B (live t L) L →
        Sound β Γ B (annotate style β Γ t L) (names Γ B (live t L)) [] (names Γ B L) L
    annotated_sound (end a) B S L c d f v w b steady = end_sound B a L steady
    annotated_sound (line l t) B S L c d f v w b steady =
        let x = bound_by l in
        let above = f.1.above in
        let c' = f.0 in
        let up : c ≤ c' = omega (arith, above, f.1.below) in
        annotated_line l t B S L c above f.2 (live_seen F Θ t (S ∪ only x) L c' d f.3) v w b
        (steady_line B S L c v w b l t d c' above f.1.below f.2 f.3 steady)
        (annotated_sound t B (S ∪ only x) L c' d f.3 (within_bound S x c c' up f.1.below v)
        (within_up L c c' up w)
        (lower_up B c c' up b) (steady_tree B S L c v w b l t d c' above f.1.below f.2 f.3 steady))

    annotated_line : (l : Line) (t : Tree) (B : List ℕ) (S L : Set) (c : ℕ) → c ≤ bound_by l → LineFormed F Θ l S →
        Inside (live t L) (S ∪ only (bound_by l)) L → Within S c → Within L c → Lower B c →
        Steady Γ B (live_before l (live t L)) (live t L) →
        Sound β Γ B (annotate style β Γ t L) (names Γ B (live t L)) [] (names Γ B L) L →
        Sound β Γ B (annotate_line style β Γ l (live t L) (annotate style β Γ t L))
        (names Γ B (live_before l (live t L))) [] (names Γ B L) L
    annotated_line (leaf x l us) t B S L c above f i v w b steady s =
        let A = live t L in
        leaf_line β Γ style few B L A (annotate style β Γ t L) (live_annotate style β Γ t L L) s x l us
        (line_apart B S L c v w b x us (leaf_hands β l us) (leaf_reads β l us) empty A above
        (unseen Γ us S c x f.seen v above) (record { below = λ n e. absurd (false≢true e) })
        (leaf_parts β Γ l us) steady)
    annotated_line (if_else x g t₁ t₂) t B S L c above f i v w b steady s =
        let A = live t L in
        let A' = A ∖ x in
        let N = is g ∪ live t₁ A' ∪ live t₂ A' in
        let c₁ = f.1.0 in
        let c₂ = f.2.0 in
        let le₁ : c ≤ c₁ = omega (arith, f.1.1) in
        let le₂ : c ≤ c₂ = omega (arith, f.2.1) in
        let within = rest_within B S L c v w b x A i in
        let joined : (n : ℕ) → held Γ N n ≡ max (held Γ (is g) n) (max (held Γ (live t₁ A') n) (held Γ
        (live t₂ A') n)) =
        λ n. held_or Γ (is g) (live t₁ A' ∪ live t₂ A') n ∙ ap (max (held Γ (is g) n)) (held_or Γ (live t₁ A')
        (live t₂ A') n) in
        let steady₁ = steady_branch B S L c v w b x A (live t₁ A') N above steady (λ n. omega (arith, joined n)) in
        let steady₂ = steady_branch B S L c v w b x A (live t₂ A') N above steady (λ n. omega (arith, joined n)) in
        if_line β Γ style few B L A (annotate style β Γ t L) (live_annotate style β Γ t L L) s x g t₁ t₂
        (b.free_from x above)
        (shallow_number g under f.0.guard)
        (rules Γ F Θ t₁ S A' c₁ (Θ x) f.1.2 (within_up A' c c₁ le₁ within))
        (rules Γ F Θ t₂ S A' c₂ (Θ x) f.2.2 (within_up A' c c₂ le₂ within)) steady₁ steady₂
        (annotated_sound t₁ B S A' c₁ (Θ x) f.1.2 (within_up S c c₁ le₁ v) (within_up A' c c₁ le₁ within)
        (lower_up B c c₁ le₁ b) steady₁)
        (annotated_sound t₂ B S A' c₂ (Θ x) f.2.2 (within_up S c c₂ le₂ v) (within_up A' c c₂ le₂ within)
        (lower_up B c c₂ le₂ b) steady₂)
    annotated_line (loop x o ps us t₁) t B S L c above f i v w b steady s =
        let A = live t L in
        let k = written style β Γ o x ps us t₁ A in
        let d = atom_depth Θ (ending t₁) in
        let e = f.0 in
        let form = f.1 in
        let after = after_pass x ps t₁ A in
        let up : c ≤ e = omega (arith, rising_up ps (suc x) e form.rising) in
        let apart = line_apart B S L c v w b x us (loop_hands k us) (loop_reads k us) (uses t₁ ∖∖ ps) A above
        (unseen Γ us S c x form.seen v above) (uses_within B S L c v w b ps t₁ e d f.2)
        (loop_parts Γ k us) steady in
        loop_line Γ few B x k ps us t₁ A apart (suc x) e (passing B S L c v w b x o ps us t₁ A e d above i form
        f.2 apart)
        style β L (annotate style β Γ t L) (live_annotate style β Γ t L L)
        (annotated_sound t₁ (pass_lent Γ B k us) (S ∪ just ps) after e d f.2
        (within_pass S ps c (suc x) e (omega arith) form.rising v)
        (within_up after c e up (pass_within B S L c v w b x ps t₁ A e d i f.2))
        (record { free_from = λ n h. inner_free B S L c v w b x o ps us t₁ A e d above i form f.2 n (omega arith) })
        (inner_steady B S L c v w b x o ps us t₁ A e d above i form f.2 apart)) s
    annotated_line (retain x) t B S L c above f i v w b steady s = absurd f
    annotated_line (release x) t B S L c above f i v w b steady s = absurd f
