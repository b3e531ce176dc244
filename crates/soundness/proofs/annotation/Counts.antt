-- What is held at one name before and after a line that hands some atoms over and reads the others: the same sums for
-- all leaves and all loops.
use Rattle.prelude.specs.Kit.{ℕ, ◌≤◌, ◌+◌, ◌<◌, ◌-◌, min, max, arith, dec_lt, ◌≡◌, refl, ◌∙◌, sym, ap, subst, inl, inr}
use Rattle.prelude.specs.Kit.{◌≢◌, List, [], ◌++◌, eq-eqb}
use Rattle.semantics.specs.Basics.{occurrences, ◌∈◌}
use Rattle.semantics.specs.Kinds.{Borrowing}
use Rattle.semantics.specs.Code.{Atom, number, name, Tree, release_all}
use Rattle.semantics.specs.Live.{Set, empty, ◌∪◌, ◌∖◌, only, is, among, live, uses}
use Rattle.semantics.specs.Annotate.{NameDepths, atom_depth, dying, handed_again}
use Rattle.laws.specs.Lists.{◌≈◌, ◌⊆◌, hits, occurrences_append}
use Rattle.discipline.proofs.machine.Discipline.{hold_of, handed, less, ◌⊑◌, AllKnown, Covered}
use Rattle.discipline.proofs.machine.Spending.{less_is, less_spends}
use Rattle.soundness.proofs.annotation.Typed.{Functions}
use Rattle.soundness.proofs.annotation.Held.{Few, hit, free, free_or, held, names, held_most, held_or, held_less}
use Rattle.soundness.proofs.annotation.Held.{held_number, held_empty, held_either, held_le, hold_held, only_other}
use Rattle.soundness.proofs.annotation.Held.{held_among, again_held, names_held, append_held, dying_held}
use Rattle.soundness.proofs.annotation.Held.{covered_by}
use Rattle.soundness.proofs.annotation.Moves.{Sound, releases}
use Rattle.soundness.proofs.annotation.Sets.{Inside, inside_right, inside_empty}
use Rattle.soundness.proofs.annotation.Formed.{Within, Formed, live_inside, seen_among, live_stays}

-- the names from c on are not lent
pub record Lower (B : List ℕ) (c : ℕ) : Type 0 where
  pub free_from : (n : ℕ) → c ≤ n → free B n ≡ 1

pub lower_up : (B : List ℕ) (c e : ℕ) → c ≤ e → Lower B c → Lower B e
lower_up B c e h w = record { free_from = λ n g. w.free_from n (omega arith) }

pub free_most : (B : List ℕ) (n : ℕ) → free B n ≤ 1
free_most B n = omega (arith, free_or B n)

module _ (Γ : NameDepths) where
  -- a set of names below c holds nothing from c on
  pub outside : (A : Set) (c n : ℕ) → Within A c → c ≤ n → held Γ A n ≡ 0
  outside A c n w h =
      omega (arith, held_empty Γ n, held_le Γ A empty n (λ e. absurd (omega (arith, w.below n e))))

  -- nor do atoms in scope
  pub unseen : (us : List Atom) (S : Set) (c n : ℕ) → AllKnown us S → Within S c → c ≤ n →
      occurrences n (handed Γ us) ≡ 0
  unseen us S c n seen w h =
      let in_scope : Inside (among us empty) S empty = seen_among us seen inside_empty in
      omega (
        arith,
        held_among Γ us empty n,
        held_either Γ (among us empty) S empty n (in_scope.either n),
        outside S c n w h,
        held_empty Γ n,
      )

  -- a number holds nothing
  pub number_held : (a : Atom) (n : ℕ) → atom_depth Γ a ≡ 0 → held Γ (is a) n ≡ 0
  number_held (number z) n e = held_empty Γ n
  number_held (name x) n e = elim (hits n x) [
    | inl h ↦ held_number Γ (only x) n (ap Γ h.0 ∙ e)
    | inr h ↦ only_other Γ x n h.0
  ]

  -- a tree after which A is live needs what it uses, and A
  pub record Needs (t : Tree) (A : Set) (n : ℕ) : Type 0 where
    pub most : held Γ (live t A) n ≤ held Γ (uses t) n + held Γ A n
    pub own : held Γ (uses t) n ≤ held Γ (live t A) n
    pub rest : held Γ A n ≤ held Γ (live t A) n

  -- what is lent and live before a tree is live after it
  abbrev pub Steady : List ℕ → Set → Set → Type 0
  Steady B A L = (n : ℕ) → held Γ A n ≤ held Γ L n + free B n

  pub rules : (F : Functions) (Θ : NameDepths) (t : Tree) (S A : Set) (c d : ℕ) → Formed F Θ t S c d → Within A c →
      (n : ℕ) → Needs t A n
  rules F Θ t S A c d f w n =
      let upper : Inside (live t A) (live t empty) A = live_inside t inside_right in
      let lower : Inside (live t empty) (live t A) empty = live_inside t inside_empty in
      record {
        most = held_either Γ (live t A) (uses t) A n (upper.either n);
        own = omega (arith, held_empty Γ n, held_either Γ (uses t) (live t A) empty n (lower.either n));
        rest = held_le Γ A (live t A) n (λ q. live_stays F Θ t S A c d n f (w.below n q) q);
      }

  module _ (few : Few Γ) (B : List ℕ) where
    -- A line that binds x, hands over some of its atoms and reads the others; its tree uses U, and A is live after it.
    module _ (x : ℕ) (us hands reads : List Atom) (U A : Set) where
      abbrev pub before : Set
      before = among us (U ∪ A ∖ x)

      abbrev pub behind : Set
      behind = among reads (U ∪ A ∖ x)

      abbrev pub again : List ℕ
      again = handed_again Γ hands (among reads U ∪ A)

      pub record Apart : Type 0 where
        pub parts : (n : ℕ) →
            occurrences n (handed Γ us) ≡ occurrences n (handed Γ hands) + occurrences n (handed Γ reads)
        pub unread : occurrences x (handed Γ us) ≡ 0
        pub unused : held Γ U x ≡ 0
        pub unlent : free B x ≡ 1
        pub steady : Steady B before A

      module _ (apart : Apart) where
        -- what is left of the line's tree and of what comes after
        rest : ℕ → ℕ
        rest n = held Γ (U ∪ A ∖ x) n

        held_before : (n : ℕ) → held Γ before n
            ≡ max (min 1 (occurrences n (handed Γ hands) + occurrences n (handed Γ reads))) (rest n)
        unfolding rest
        held_before n =
            held_among Γ us (U ∪ A ∖ x) n ∙ ap (λ (m : ℕ). max (min 1 m) (held Γ (U ∪ A ∖ x) n)) (apart.parts n)

        held_behind : (n : ℕ) → held Γ behind n ≡ max (min 1 (occurrences n (handed Γ reads))) (rest n)
        unfolding rest
        held_behind n = held_among Γ reads (U ∪ A ∖ x) n

        held_rest : (n : ℕ) → rest n ≡ max (held Γ U n) (held Γ A n - hit n x)
        unfolding rest
        held_rest n = held_or Γ U (A ∖ x) n ∙ ap (max (held Γ U n)) (held_less Γ A x n)

        -- what is handed over, or read, is live before
        before_handed : (n : ℕ) → n ∈ handed Γ hands → held Γ before n ≡ 1
        before_handed n h = omega (arith, held_before n, held_most Γ before n)

        before_same : (n : ℕ) → occurrences n (handed Γ hands) ≡ 0 → held Γ before n ≡ held Γ behind n
        before_same n h = omega (arith, held_before n, held_behind n)

        behind_read : (n : ℕ) → n ∈ handed Γ reads → held Γ behind n ≡ 1
        behind_read n h = omega (arith, held_behind n, held_most Γ behind n)

        behind_before : (n : ℕ) → held Γ behind n ≤ held Γ before n
        behind_before n = omega (arith, held_before n, held_behind n)

        -- at other names than x, what is read and what is live after are what is live behind
        behind_other : (n : ℕ) → n ≢ x → held Γ behind n ≡ max (held Γ (among reads U) n) (held Γ A n)
        behind_other n f =
            let same : held Γ A n - hit n x ≡ held Γ A n =
            elim (hits n x) [ inl h ↦ absurd (f h.0) | inr h ↦ omega arith ] in
            omega (arith, held_behind n, held_rest n, same, held_among Γ reads U n)

        handed_none : occurrences x (handed Γ hands) ≡ 0
        handed_none = omega (arith, apart.parts x, apart.unread)

        read_none : held Γ (among reads U) x ≡ 0
        read_none = omega (arith, apart.parts x, apart.unread, apart.unused, held_among Γ reads U x)

        behind_none : held Γ behind x ≡ 0
        behind_none =
            let gone : rest x ≡ 0 = elim (hits x x) [
              | inl h ↦ omega (arith, held_rest x, apart.unused, held_most Γ A x)
              | inr h ↦ absurd (h.0 refl)
            ] in
            omega (arith, held_behind x, apart.parts x, apart.unread)

        retained : (n : ℕ) → occurrences n again
            + max (min 1 (occurrences n (handed Γ hands))) (held Γ (among reads U ∪ A) n)
            ≡ occurrences n (handed Γ hands) + held Γ (among reads U ∪ A) n
        retained n = again_held Γ hands (among reads U ∪ A) n

        again_few : (n : ℕ) → occurrences n again ≤ occurrences n (handed Γ hands)
        again_few n = omega (arith, retained n)

        -- with what is retained before, the line has a reference for each array that it hands over
        pub handing : again ++ names Γ B before ≈ handed Γ hands ++ names Γ B behind
        handing n =
            append_held Γ few again B before n ∙ sum (dec_lt 0 (occurrences n (handed Γ hands)))
            ∙ sym (append_held Γ few (handed Γ hands) B behind n)
          where
            sum : Dec (0 < occurrences n (handed Γ hands)) →
                occurrences n again + min (free B n) (held Γ before n)
                ≡ occurrences n (handed Γ hands) + min (free B n) (held Γ behind n)
            sum (no h) =
                let none : occurrences n (handed Γ hands) ≡ 0 = omega arith in
                omega (arith, again_few n, before_same n none)
            sum (yes h) =
                let other : n ≢ x = λ e. omega (arith, handed_none, ap (λ (y : ℕ). occurrences y (handed Γ hands)) e) in
                let kept : occurrences n again + 1 ≡ occurrences n (handed Γ hands) + held Γ behind n =
                omega (
                  arith,
                  retained n,
                  held_or Γ (among reads U) A n,
                  behind_other n other,
                  held_most Γ behind n,
                ) in
                let live : held Γ A n ≤ held Γ behind n = omega (arith, behind_other n other) in
                omega (
                  arith,
                  before_handed n h,
                  apart.steady n,
                  free_most B n,
                  held_most Γ behind n,
                )

        pub retainable : again ⊆ (B ++ names Γ B before)
        retainable n h =
            omega (
              arith,
              before_handed n (omega (arith, again_few n)),
              append_held Γ few B B before n,
              free_or B n,
            )

        pub handable : handed Γ hands ⊑ (again ++ names Γ B before)
        handable = less_spends (handed Γ hands) (again ++ names Γ B before) (names Γ B behind) handing

        pub left : less (handed Γ hands) (again ++ names Γ B before) ≈ names Γ B behind
        left = less_is (handed Γ hands) (again ++ names Γ B before) (names Γ B behind) handing

        pub readable : handed Γ reads ⊆ (B ++ less (handed Γ hands) (again ++ names Γ B before))
        readable n h =
            omega (
              arith,
              occurrences_append n B (less (handed Γ hands) (again ++ names Γ B before)),
              left n,
              names_held Γ few B behind n,
              behind_read n h,
              free_or B n,
            )

        -- what the line read, and what it binds, is released unless it is live
        pub bound : (n : ℕ) → occurrences n (hold_of Γ x ++ names Γ B behind)
            ≡ held Γ (among reads U ∪ only x) n - held Γ A n + min (free B n) (held Γ A n)
        bound n =
            append_held Γ few (hold_of Γ x) B behind n
            ∙ ap (λ (m : ℕ). m + min (free B n) (held Γ behind n)) (hold_held Γ x n)
            ∙ elim (hits n x) [
              | inl h ↦
                  subst (λ (y : ℕ). held Γ (only x) y + min (free B y) (held Γ behind y)
                  ≡ held Γ (among reads U ∪ only x) y - held Γ A y + min (free B y) (held Γ A y)) (sym h.0) here
              | inr h ↦
                  omega (
                    arith,
                    only_other Γ x n h.0,
                    held_or Γ (among reads U) (only x) n,
                    behind_other n h.0,
                    behind_before n,
                    apart.steady n,
                    free_most B n,
                    held_most Γ behind n,
                  )
            ]
          where
            here : held Γ (only x) x + min (free B x) (held Γ behind x)
                ≡ held Γ (among reads U ∪ only x) x - held Γ A x + min (free B x) (held Γ A x)
            here =
                let most = held_le Γ A (only x) x (λ q. eq-eqb x x refl) in
                omega (
                  arith,
                  behind_none,
                  read_none,
                  held_or Γ (among reads U) (only x) x,
                  apart.unlent,
                  held_most Γ (only x) x,
                )

        pub covered_before : Covered Γ (again ++ names Γ B before) before
        covered_before = covered_by Γ few (again ++ names Γ B before) before
            (λ n h. elim (dec_lt 0 (occurrences n (handed Γ hands))) [
              | yes g ↦ omega (arith, before_handed n g)
              | no g ↦ omega (arith, append_held Γ few again B before n, again_few n)
            ])

        pub covered_behind : Covered Γ (less (handed Γ hands) (again ++ names Γ B before)) behind
        covered_behind = covered_by Γ few (less (handed Γ hands) (again ++ names Γ B before)) behind
            (λ n h. omega (arith, left n, names_held Γ few B behind n))

module _ (β : Borrowing) (Γ : NameDepths) (few : Few Γ) (B : List ℕ) where
  -- what is used and not live is released before the tree k
  pub releasing : (used A : Set) (k : Tree) (H P : List ℕ) (L : Set) →
      ((n : ℕ) → occurrences n H ≡ held Γ used n - held Γ A n + min (free B n) (held Γ A n)) →
      Sound β Γ B k (names Γ B A) [] (names Γ B L) L →
      Sound β Γ B (release_all (dying Γ used A) k) H P (names Γ B L) L
  releasing used A k H P L h s =
      releases β Γ B (dying Γ used A) k H (names Γ B A) P (names Γ B L) L
      (λ n. omega (arith, h n, append_held Γ few (dying Γ used A) B A n, dying_held Γ few used A n)) s
