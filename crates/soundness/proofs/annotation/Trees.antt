-- A loop, as it is written, before a sound tree: what its passes are lent, hold and leave alone.
use Rattle.prelude.specs.Kit.{ℕ, ◌≤◌, ◌+◌, ◌<◌, ◌-◌, min, arith, dec_lt, ◌≡◌, refl, ◌∙◌, sym, ap, inl, inr, List}
use Rattle.prelude.specs.Kit.{[], ◌∷◌, ◌++◌, length}
use Rattle.semantics.specs.Basics.{occurrences, ◌∈◌}
use Rattle.semantics.specs.Kinds.{Loop, mapping, filtering, reducing, rewriting, loop_hands, loop_reads}
use Rattle.semantics.specs.Kinds.{element_name}
use Rattle.semantics.specs.Code.{Atom, Tree}
use Rattle.semantics.specs.Live.{Set, ◌∖◌, ◌∖∖◌, just, among, live, uses, after_pass}
use Rattle.semantics.specs.Annotate.{NameDepths}
use Rattle.discipline.proofs.machine.Discipline.{loop_arity, hold_of, holds_of, handed, less, unlent}
use Rattle.semantics.specs.Kinds.{carried_name}
use Rattle.discipline.proofs.machine.Discipline.{outer_holds, pass_lent, aside}
use Rattle.laws.specs.Lists.{◌≈◌, occurrences_append}
use Rattle.discipline.proofs.machine.Spending.{less_counts, unlent_few, lent_or_not}
use Rattle.soundness.proofs.annotation.Held.{Few, free, free_or, held, names, held_most, held_or, names_held}
use Rattle.soundness.proofs.annotation.Held.{append_held, held_pass, just_none, just_most, holds_just, held_among}
use Rattle.soundness.proofs.annotation.Held.{handed_first}
use Rattle.soundness.proofs.annotation.Formed.{Rising}
use Rattle.soundness.proofs.annotation.Counts.{Needs, Apart, before, again}
use Rattle.soundness.proofs.annotation.Counts.{left}

only_one : (ps : List ℕ) → length ps ≡ 1 → (q : ℕ) × (ps ≡ q ∷ [])
only_one [] h = absurd (omega arith)
only_one (p ∷ []) h = (p, refl)
only_one (p ∷ q ∷ ps) h = absurd (omega arith)

-- a pass has one element
pub element_one : (k : Loop) (ps : List ℕ) → length ps ≡ loop_arity k → (q : ℕ) × (element_name k ps ≡ q ∷ [])
element_one mapping ps h = only_one ps h
element_one filtering ps h = only_one ps h
element_one reducing [] h = absurd (omega arith)
element_one reducing (p ∷ ps) h = only_one ps (omega arith)
element_one rewriting ps h = only_one ps h

module _ (Γ : NameDepths) where
  -- each atom of a loop is handed over or read
  pub loop_parts : (k : Loop) (us : List Atom) (n : ℕ) → occurrences n (handed Γ us)
      ≡ occurrences n (handed Γ (loop_hands k us)) + occurrences n (handed Γ (loop_reads k us))
  unfolding occurrences
  loop_parts mapping us n = omega arith
  loop_parts filtering us n = omega arith
  loop_parts reducing [] n = omega arith
  loop_parts reducing (u ∷ us) n = handed_first Γ u us n
  loop_parts rewriting us n = omega arith

  -- each name of a pass holds what is carried, or is the element
  pub pass_parts : (k : Loop) (ps : List ℕ) (n : ℕ) → occurrences n (holds_of Γ ps)
      ≡ occurrences n (holds_of Γ (element_name k ps)) + occurrences n (holds_of Γ (carried_name k ps))
  unfolding occurrences
  pass_parts mapping ps n = omega arith
  pass_parts filtering ps n = omega arith
  pass_parts reducing [] n = omega arith
  pass_parts reducing (p ∷ ps) n = omega (
    arith,
    occurrences_append n (hold_of Γ p) (holds_of Γ ps),
    occurrences_append n (hold_of Γ p) [],
  )
  pass_parts rewriting ps n = omega arith

  module _ (few : Few Γ) (B : List ℕ) (x : ℕ) (k : Loop) (ps : List ℕ) (us : List Atom) (t : Tree) (A : Set) where
    -- its atoms that are handed over, those that are read, and the outer names that its tree uses
    abbrev hands : List Atom
    hands = loop_hands k us

    abbrev reads : List Atom
    reads = loop_reads k us

    abbrev used : Set
    used = uses t ∖∖ ps

    -- live after a pass
    abbrev pub after : Set
    after = after_pass x ps t A

    -- the names that are lent to the tree
    abbrev pub inner : List ℕ
    inner = pass_lent Γ B k us

    module _ (apart : Apart Γ few B x us hands reads used A) where
      abbrev start : List ℕ
      start = again Γ few B x us hands reads used A
          ++ names Γ B (before Γ few B x us hands reads used A)

      -- what the passes leave alone: all that is live after them, but for the array
      pub outer : outer_holds Γ B k us start ≈ names Γ inner after
      outer n = counted ∙ sum (dec_lt 0 (occurrences n B)) (dec_lt 0 (occurrences n (handed Γ reads)))
          ∙ sym (names_held Γ few inner after n)
        where
          counted : occurrences n (outer_holds Γ B k us start)
              ≡ min (free B n) (held Γ (among reads after) n) - occurrences n (unlent B (handed Γ reads))
          counted =
              less_counts (aside Γ B k us) (less (handed Γ hands) start) n
              ∙ ap (λ (m : ℕ). m - occurrences n (unlent B (handed Γ reads)))
              (left Γ few B x us hands reads used A apart n
              ∙ names_held Γ few B (among reads after) n)

          sum : Dec (0 < occurrences n B) → Dec (0 < occurrences n (handed Γ reads)) →
              min (free B n) (held Γ (among reads after) n) - occurrences n (unlent B (handed Γ reads))
              ≡ min (free inner n) (held Γ after n)
          sum (yes h) d =
              let lent : free B n ≡ 0 = omega (arith, free_or B n) in
              let lent' : free inner n ≡ 0 =
              omega (arith, free_or inner n, occurrences_append n (handed Γ reads) B) in
              omega arith
          sum (no h) (yes g) =
              let lent' : free inner n ≡ 0 =
              omega (arith, free_or inner n, occurrences_append n (handed Γ reads) B) in
              let spent : 1 ≤ occurrences n (unlent B (handed Γ reads)) =
              elim (lent_or_not B (handed Γ reads) n g) [ inl r ↦ absurd (h r) | inr r ↦ r ] in
              omega (arith, held_most Γ (among reads after) n)
          sum (no h) (no g) =
              let none : occurrences n (handed Γ reads) ≡ 0 = omega arith in
              let unlent : free B n ≡ 1 = omega (arith, free_or B n) in
              let unlent' : free inner n ≡ 1 =
              omega (arith, free_or inner n, occurrences_append n (handed Γ reads) B) in
              let same : held Γ (among reads after) n ≡ held Γ after n =
              omega (arith, held_among Γ reads after n) in
              omega (arith, unlent_few B (handed Γ reads) n)

      -- what else a loop's line needs: its names are new, and not live after it
      pub record Passing (c e : ℕ) : Type 0 where
        pub rising : Rising c ps e
        pub named : length ps ≡ loop_arity k
        pub unlent : (n : ℕ) → n ∈ ps → free inner n ≡ 1
        pub unused : (n : ℕ) → n ∈ ps → held Γ after n ≡ 0
        pub rules : (n : ℕ) → Needs Γ t after n

      module _ (c e : ℕ) (passing : Passing c e) where
        -- an outer name is live before the tree as after it
        pub pass_steady : (n : ℕ) → occurrences n ps ≡ 0 → held Γ (live t after) n ≡ held Γ after n
        pass_steady n h =
            let own : held Γ (uses t) n ≤ held Γ after n =
            omega (arith, held_pass Γ ps (uses t) n, held_or Γ used (A ∖ x) n) in
            omega (
              arith,
              (passing.rules n).most,
              (passing.rules n).rest,
              held_most Γ (live t after) n,
              held_most Γ (uses t) n,
              held_most Γ after n,
            )

        -- with its names, a pass has what its tree needs
        pub given : (n : ℕ) → occurrences n (holds_of Γ ps ++ names Γ inner after)
            ≡ held Γ (just ps) n - held Γ (live t after) n + min (free inner n) (held Γ (live t after) n)
        given n =
            append_held Γ few (holds_of Γ ps) inner after n
            ∙ ap (λ (m : ℕ). m + min (free inner n) (held Γ after n)) (holds_just Γ ps c e n passing.rising)
            ∙ sum (dec_lt 0 (occurrences n ps))
          where
            sum : Dec (0 < occurrences n ps) → held Γ (just ps) n + min (free inner n) (held Γ after n)
                ≡ held Γ (just ps) n - held Γ (live t after) n + min (free inner n) (held Γ (live t after) n)
            sum (yes h) =
                omega (
                  arith,
                  passing.unlent n h,
                  passing.unused n h,
                  just_most Γ ps (live t after) n h,
                  held_most Γ (just ps) n,
                )
            sum (no h) =
                let none : occurrences n ps ≡ 0 = omega arith in
                omega (arith, just_none Γ ps n none, pass_steady n none)
