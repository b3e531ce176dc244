-- `leaf_line`, `if_line`: an annotated leaf, and an annotated if, before a sound tree.
use Rattle.prelude.specs.Kit.{ℕ, ◌+◌, ◌-◌, suc, min, max, arith, true, false, Bool, ◌&&◌, not, ◌≡◌, refl, ◌∙◌, sym, ap}
use Rattle.prelude.specs.Kit.{subst, inl, inr, List, [], ◌∷◌, ◌++◌, eq-eqb}
use Rattle.semantics.specs.Basics.{with_if, occurrences}
use Rattle.semantics.specs.Kinds.{Leaf, operation, call, literal, index, length_of, iota, replicate, leaf_hands}
use Rattle.semantics.specs.Kinds.{leaf_reads, is_pending, Borrowing, picked}
use Rattle.semantics.specs.Code.{Atom, leaf, if_else, Tree, line, retain_all, release_all}
use Rattle.semantics.specs.Live.{Set, empty, ◌∪◌, ◌∖◌, only, is, among, live, live_before, uses}
use Rattle.semantics.specs.Annotate.{NameDepths, atom_depth, is_array, dying, Style, annotate, annotate_line}
use Rattle.laws.specs.Lists.{hits, occurrences_append}
use Rattle.discipline.proofs.machine.Discipline.{hold_of, handed, less, left_by, Covered, Frugal}
use Rattle.discipline.proofs.machine.Spending.{same_append, holding_left, holding_same}
use Rattle.soundness.proofs.annotation.Held.{Few, free, held, names, held_most, held_or, held_less, held_le}
use Rattle.soundness.proofs.annotation.Held.{hold_held, handed_first}
use Rattle.soundness.proofs.annotation.Held.{only_other, names_held, append_held}
use Rattle.soundness.proofs.annotation.Moves.{Sound, sound_same, retains, retains_result}
use Rattle.soundness.proofs.annotation.Unchanged.{live_release_all, live_retain_all, branch}
use Rattle.soundness.proofs.annotation.Counts.{free_most, number_held, Needs, Steady, releasing, Apart, before}
use Rattle.soundness.proofs.annotation.Counts.{behind}
use Rattle.soundness.proofs.annotation.Counts.{again, retainable, handable, left, readable, bound, covered_before}
use Rattle.soundness.proofs.annotation.Counts.{covered_behind}

module _ (β : Borrowing) (Γ : NameDepths) where
  -- each argument of a call, the first of which has place i, is at a borrowed place or at another
  picked_parts : (f i : ℕ) (us : List Atom) (n : ℕ) → occurrences n (handed Γ us)
      ≡ occurrences n (handed Γ (picked (λ j. not (β f j)) i us)) + occurrences n (handed Γ (picked (β f) i us))
  unfolding occurrences
  picked_parts f i [] n = omega arith
  picked_parts f i (u ∷ us) n = go (β f i) (picked_parts f (suc i) us n)
    where
      owned : List Atom
      owned = picked (λ j. not (β f j)) (suc i) us

      lent : List Atom
      lent = picked (β f) (suc i) us

      go : (b : Bool) →
          occurrences n (handed Γ us) ≡ occurrences n (handed Γ owned) + occurrences n (handed Γ lent) →
          occurrences n (handed Γ (u ∷ us))
          ≡ occurrences n (handed Γ (with_if (not b) u owned)) + occurrences n (handed Γ (with_if b u lent))
      go true h = omega (arith, h, handed_first Γ u us n, handed_first Γ u lent n)
      go false h = omega (arith, h, handed_first Γ u us n, handed_first Γ u owned n)

  -- each atom of a leaf is handed over or read
  pub leaf_parts : (l : Leaf) (us : List Atom) (n : ℕ) → occurrences n (handed Γ us)
      ≡ occurrences n (handed Γ (leaf_hands β l us)) + occurrences n (handed Γ (leaf_reads β l us))
  unfolding occurrences
  leaf_parts (operation o) us n = omega arith
  leaf_parts (call f) us n = picked_parts f 0 us n
  leaf_parts (literal d) us n = omega arith
  leaf_parts index us n = omega arith
  leaf_parts length_of us n = omega arith
  leaf_parts iota us n = omega arith
  leaf_parts replicate us n = omega arith

  module _ (style : Style) (few : Few Γ) (B : List ℕ) (L A : Set) (k : Tree) (same : live k L ≡ A)
      (sound : Sound β Γ B k (names Γ B A) [] (names Γ B L) L) where
    pub leaf_line : (x : ℕ) (l : Leaf) (us : List Atom) →
        Apart Γ few B x us (leaf_hands β l us) (leaf_reads β l us) empty A →
        Sound β Γ B (annotate_line style β Γ (leaf x l us) A k) (names Γ B (live_before (leaf x l us) A)) []
        (names Γ B L) L
    unfolding annotate live left_by
    leaf_line x l us apart =
        let hands = leaf_hands β l us in
        let reads = leaf_reads β l us in
        let free = dying Γ (among reads empty ∪ only x) A in
        let pend = with_if (is_pending l && is_array Γ x) x [] in
        let k' = release_all free k in
        let H = again Γ few B x us hands reads empty A ++ names Γ B (before Γ few B x us hands reads empty A) in
        let rest = less (handed Γ hands) H in
        let e : live (retain_all pend k') L ≡ A = live_retain_all pend k' L ∙ live_release_all free k L ∙ same in
        let s : Sound β Γ B k' (hold_of Γ x ++ names Γ B (behind Γ few B x us hands reads empty A)) [] (names Γ B L) L =
        releasing β Γ few B (among reads empty ∪ only x) A k _ [] L (bound Γ few B x us hands reads empty A apart) sound
        in
        let s' = retains_result β Γ B x l k' rest (names Γ B L) L
        (sound_same β Γ B k' _ (hold_of Γ x ++ rest) [] (names Γ B L) (names Γ B L) L
        (same_append (hold_of Γ x) _ rest (λ n. sym (left Γ few B x us hands reads empty A apart n))) (λ n. refl) s) in
        retains β Γ B (again Γ few B x us hands reads empty A) (line (leaf x l us) (retain_all pend k'))
        (names Γ B (before Γ few B x us hands reads empty A)) (names Γ B L) L
        (retainable Γ few B x us hands reads empty A apart) (
          (
            (handable Γ few B x us hands reads empty A apart, readable Γ few B x us hands reads empty A apart),
            s'.0,
          ),
          (
            (
              subst (λ M. Covered Γ H (among us (M ∖ x))) (sym e)
                  (covered_before Γ few B x us hands reads empty A apart),
              subst (λ M. Covered Γ rest (among reads (M ∖ x))) (sym e)
                  (covered_behind Γ few B x us hands reads empty A apart),
            ),
            s'.1,
          ),
        )

    -- one branch of an if, from what both need
    branch_sound : (x : ℕ) (t e : Tree) (H : List ℕ) → let A' = A ∖ x in
        ((n : ℕ) → Needs Γ t A' n) → ((n : ℕ) → Needs Γ e A' n) → Steady Γ B (live e A') A' →
        ((n : ℕ) → occurrences n H ≡ min (free B n) (max (held Γ (live t A') n) (held Γ (live e A') n))) →
        Sound β Γ B (annotate style β Γ t A') (names Γ B (live t A')) [] (names Γ B A') A' →
        Sound β Γ B (branch style β Γ x t e A) H [] (names Γ B A') A'
    branch_sound x t e H first second steady count s =
        releasing β Γ few B (uses e) (live t (A ∖ x)) (annotate style β Γ t (A ∖ x)) H [] (A ∖ x)
        (λ n. omega (
          arith,
          count n,
          held_most Γ (live e (A ∖ x)) n,
          (first n).rest,
          (second n).most,
          (second n).own,
          steady n,
          free_most B n,
        )) s

    -- the name that an if binds
    bound_if : (x n : ℕ) → free B x ≡ 1 → occurrences n (hold_of Γ x ++ names Γ B (A ∖ x))
        ≡ held Γ (only x) n - held Γ A n + min (free B n) (held Γ A n)
    bound_if x n unlent =
        append_held Γ few (hold_of Γ x) B (A ∖ x) n
        ∙ ap (λ (m : ℕ). m + min (free B n) (held Γ (A ∖ x) n)) (hold_held Γ x n)
        ∙ elim (hits n x) [
          | inl h ↦
              let most = held_le Γ A (only x) n (λ q. eq-eqb x n (sym h.0)) in
              let lent = ap (free B) h.0 ∙ unlent in
              let none : held Γ (A ∖ x) n ≡ 0 = omega (arith, held_less Γ A x n, held_most Γ A n) in
              omega (arith, held_most Γ (only x) n)
          | inr h ↦
              let rest : held Γ (A ∖ x) n ≡ held Γ A n = omega (arith, held_less Γ A x n) in
              omega (arith, only_other Γ x n h.0)
        ]

    pub if_line : (x : ℕ) (g : Atom) (t e : Tree) → let A' = A ∖ x in
        free B x ≡ 1 → atom_depth Γ g ≡ 0 → ((n : ℕ) → Needs Γ t A' n) → ((n : ℕ) → Needs Γ e A' n) →
        Steady Γ B (live t A') A' → Steady Γ B (live e A') A' →
        Sound β Γ B (annotate style β Γ t A') (names Γ B (live t A')) [] (names Γ B A') A' →
        Sound β Γ B (annotate style β Γ e A') (names Γ B (live e A')) [] (names Γ B A') A' →
        Sound β Γ B (annotate_line style β Γ (if_else x g t e) A k) (names Γ B (live_before (if_else x g t e) A)) []
        (names Γ B L) L
    unfolding annotate live left_by
    if_line x g t e unlent guard first second steady₁ steady₂ s₁ s₂ =
        let A' = A ∖ x in
        let k' = release_all (dying Γ (only x) A) k in
        let q : live k' L ≡ A = live_release_all (dying Γ (only x) A) k L ∙ same in
        let N = is g ∪ live t A' ∪ live e A' in
        let H = names Γ B N in
        let joined : (n : ℕ) → held Γ N n ≡ max (held Γ (live t A') n) (held Γ (live e A') n) =
        λ n. omega (
          arith,
          held_or Γ (is g) (live t A' ∪ live e A') n,
          held_or Γ (live t A') (live e A') n,
          number_held Γ g n guard,
        ) in
        let count : (n : ℕ) → occurrences n H ≡ min (free B n) (max (held Γ (live t A') n) (held Γ (live e A') n)) =
        λ n. names_held Γ few B N n ∙ ap (min (free B n)) (joined n) in
        let swapped : (n : ℕ) → occurrences n H ≡ min (free B n) (max (held Γ (live e A') n) (held Γ (live t A') n)) =
        λ n. omega (arith, count n) in
        let b₁ = branch_sound x t e H first second steady₂ count s₁ in
        let b₂ = branch_sound x e t H second first steady₁ swapped s₂ in
        let t' = branch style β Γ x t e A in
        let e' = branch style β Γ x e t A in
        let end = holding_left β Γ B t' H [] (names Γ B A') b₁.0 in
        let Δ = left_by β Γ t' H in
        let rest = releasing β Γ few B (only x) A k _ [] L (λ n. bound_if x n unlent) sound in
        let s' = sound_same β Γ B k' _ (hold_of Γ x ++ Δ) [] (names Γ B L) (names Γ B L) L
        (same_append (hold_of Γ x) (names Γ B A') Δ (λ n. sym (end n))) (λ n. refl) rest in (
          (
            (
              λ n h. omega (arith, end n, names_held Γ few B A' n, count n, (first n).rest, occurrences_append n B H),
              holding_same β Γ B t' H H [] (names Γ B A') Δ (λ n. refl) (λ n. sym (end n)) b₁.0,
              holding_same β Γ B e' H H [] (names Γ B A') Δ (λ n. refl) (λ n. sym (end n)) b₂.0,
            ),
            s'.0,
          ),
          (
            (
              subst (λ M. Frugal β Γ B t' H (M ∖ x)) (sym q) b₁.1,
              subst (λ M. Frugal β Γ B e' H (M ∖ x)) (sym q) b₂.1,
            ),
            s'.1,
          ),
        )
