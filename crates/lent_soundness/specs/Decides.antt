-- `tree_decides`: the third walk decides the discipline of holds. Where it does not stop, the tree is `Holding`, and it
-- stops only where the tree is not.
use Rattle.std.specs.Prelude.{ℕ, ◌≤◌, ◌+◌, ◌<◌, true, false, Bool, cond, ◌||◌, ◌≡◌, refl, ◌⊎◌, List, [], ◌∷◌, ◌++◌}
use Rattle.std.specs.Prelude.{ltb, length}
use Rattle.prelude.specs.Kit.{arith, false≢true, ◌∙◌, sym, inl, inr}
use Rattle.semantics.specs.Basics.{◌∈◌}
use Rattle.semantics.specs.Kinds.{Borrowing, Leaf, Loop, leaf_hands, leaf_reads, loop_hands, loop_reads, element_name}
use Rattle.semantics.specs.Kinds.{carried_name, is_pending}
use Rattle.semantics.specs.Code.{Atom, Line, leaf, if_else, loop, retain, release, Tree, end, line}
use Rattle.semantics.specs.Live.{Set, empty}
use Rattle.semantics.specs.Annotate.{NameDepths}
use Rattle.semantics_lent.specs.Hold.{Holds, After, same_holds, none_bound, arrays_in, hold_also, hold_all, set_aside}
use Rattle.semantics_lent.specs.Hold.{lending, readable, hold_tree, hold_line}
use Rattle.laws.specs.Lists.{◌≈◌, ◌⊆◌, occurrences_append}
use Rattle.laws.specs.Tests.{or_cases, or_left, or_right}
use Rattle.discipline.proofs.store.Counting.{append_cases}
use Rattle.discipline.proofs.machine.Discipline.{less, hold_of, holds_of, handed, waits_after, outer_holds, pass_lent}
use Rattle.discipline.proofs.machine.Discipline.{pass_holds, left_by, holds_after, Holding, LineHolding}
use Rattle.discipline.proofs.machine.Spending.{spend_split, less_spends, holding_left, holding_same}
use Rattle.lent_soundness.specs.Answers.{Answers, answers_give, answers_then, answers_must, answers_skip}
use Rattle.lent_soundness.specs.Answers.{answers_map}
use Rattle.lent_soundness.specs.Counts.{Counts, Members, member_in, in_member, held_in, in_held, none_members}
use Rattle.lent_soundness.specs.Counts.{counts_plus, counts_minus, counts_also, counts_all, members_all}
use Rattle.lent_soundness.specs.Counts.{members_one, members_lent, readable_says, readable_if, counts_aside}
use Rattle.lent_soundness.specs.Counts.{counts_spent, same_says, same_if, bound_says, bound_if}

-- what is asked of the holds that a tree leaves: only these names, or just these holds
pub data Asked : Type 0 where
  within just : List ℕ → Asked

abbrev pub Leaves : Asked → List ℕ → Type 0
Leaves (within m) l = l ⊆ m
Leaves (just m) l = l ≈ m

module _ (β : Borrowing) (Γ : NameDepths) (few : (n : ℕ) → 256 ≤ n → Γ n ≡ 0) where
  -- before a line or a tree: the walk's sets and counts are the lists
  pub record Follows (B P : Set) (H : Holds) (b p h : List ℕ) : Type 0 where
    pub lent : Members Γ B b
    pub pending : Members Γ P p
    pub held : Counts Γ H h

  -- a test of the holds that a tree leaves says what is asked of them
  pub record Tells (ends : Holds → Bool) (E : Asked) : Type 0 where
    pub says : (I : Holds) (l : List ℕ) → Counts Γ I l → ends I ≡ true → Leaves E l
    pub when : (I : Holds) (l : List ℕ) → Counts Γ I l → Leaves E l → ends I ≡ true

  -- what the walk finds of a tree, and of a line
  abbrev pub TreeHolds : List ℕ → Tree → List ℕ → List ℕ → Asked → Type 0
  TreeHolds b t h p E = Holding β Γ b t h p (left_by β Γ t h) × Leaves E (left_by β Γ t h)

  pub record TreeFound (b : List ℕ) (t : Tree) (h p : List ℕ) (E : Asked) (I : Holds) : Type 0 where
    pub counts : Counts Γ I (left_by β Γ t h)
    pub holds : TreeHolds b t h p E

  pub record LineFound (b : List ℕ) (l : Line) (h p : List ℕ) (A : After) : Type 0 where
    pub pending : Members Γ A.pending (waits_after Γ l)
    pub counts : Counts Γ A.holds (holds_after β Γ l h)
    pub holds : LineHolding β Γ b l h p

  abbrev pub TreeDecided : Tree → Type 0
  TreeDecided t = (B P : Set) (H : Holds) (b p h : List ℕ) (ends : Holds → Bool) (E : Asked) →
      Follows B P H b p h → Tells ends E →
      Answers (TreeHolds b t h p E → ⊥) (TreeFound b t h p E) (hold_tree β Γ t B P H ends)

  abbrev pub LineDecided : Line → Type 0
  LineDecided l = (B P : Set) (H : Holds) (b p h : List ℕ) → Follows B P H b p h →
      Answers (LineHolding β Γ b l h p → ⊥) (LineFound b l h p) (hold_line β Γ l B P H)

  pub same_tells : {O : Holds} {m : List ℕ} → Counts Γ O m → Tells (same_holds O) (just m)
  same_tells c = record { says = λ I l d e. same_says Γ few c d e; when = λ I l d e. same_if Γ c d e }

  bound_tells : {B : Set} {H : Holds} {b h : List ℕ} → Members Γ B b → Counts Γ H h →
      Tells (none_bound B H) (within (b ++ h))
  bound_tells m c = record { says = λ I l d e. bound_says Γ few m c d e; when = λ I l d e. bound_if Γ m c d e }

  tree_end : (a : Atom) → TreeDecided (end a)
  unfolding hold_tree left_by
  tree_end a B P H b p h ends E f tells =
      let l = handed Γ (a ∷ []) in
      answers_then (counts_spent Γ (a ∷ []) f.held) (λ n q. n (less_spends l h (less l h) q.0)) (λ I q.
      answers_then (answers_must (ends I) (λ e r. false≢true (sym e ∙ tells.when I (less l h) q.0 r.1))) (λ n. n)
      (λ u e. answers_then (answers_skip 2) (λ n. n) (λ u' s. answers_give I (record {
        counts = q.0;
        holds = (spend_split l h q.1, tells.says I (less l h) q.0 e);
      }))))

  line_leaf : (x : ℕ) (l : Leaf) (us : List Atom) → LineDecided (leaf x l us)
  unfolding hold_tree left_by
  line_leaf x l us B P H b p h f =
      let hands = leaf_hands β l us in
      let reads = leaf_reads β l us in
      answers_then (counts_spent Γ hands f.held) (λ n q. n q.0) (λ I q.
      answers_then (answers_must (readable Γ B I reads)
      (λ e r. false≢true (sym e ∙ readable_if Γ f.lent q.0 reads r.1))) (λ n. n) (λ u e.
      answers_then (answers_skip (1 + length us)) (λ n. n) (λ u' s.
      answers_give _ (let found = go (is_pending l) I q.0 in record {
        pending = found.0;
        counts = found.1;
        holds = (q.1, readable_says Γ f.lent q.0 reads e);
      }))))
    where
      after : Bool → Holds → After
      after c I = cond c (record { holds = I; pending = arrays_in Γ (x ∷ []) })
          (record { holds = hold_also Γ x I; pending = empty })

      go : (c : Bool) (I : Holds) → Counts Γ I (less (handed Γ (leaf_hands β l us)) h) →
          Members Γ (after c I).pending (cond c (hold_of Γ x) [])
          × Counts Γ (after c I).holds (cond c [] (hold_of Γ x) ++ less (handed Γ (leaf_hands β l us)) h)
      go true I q = (members_one Γ x, q)
      go false I q = (none_members Γ, counts_also Γ x q)

  line_if : (x : ℕ) (g : Atom) (t e : Tree) → TreeDecided t → TreeDecided e → LineDecided (if_else x g t e)
  unfolding hold_tree left_by
  line_if x g t e then else B P H b p h f =
      let inside : Follows B empty H b [] h =
      record { lent = f.lent; pending = none_members Γ; held = f.held } in
      answers_then (answers_skip 2) (λ n. n) (λ u s.
      answers_then (then B empty H b [] h (none_bound B H) (within (b ++ h)) inside (bound_tells f.lent f.held))
      (λ n q. n (q.1, q.0)) (λ I q.
      answers_then (else B empty H b [] h (same_holds I) (just (left_by β Γ t h)) inside (same_tells q.counts))
      (λ n r. let left = holding_left β Γ b e h [] (left_by β Γ t h) r.2 in
      n (holding_same β Γ b e h h [] (left_by β Γ t h) (left_by β Γ e h) (λ k. refl) (λ k. sym (left k)) r.2, left))
      (λ J r. answers_give _ (record {
        pending = none_members Γ;
        counts = counts_also Γ x q.counts;
        holds = (
          q.holds.1,
          q.holds.0,
          holding_same β Γ b e h h [] (left_by β Γ e h) (left_by β Γ t h) (λ k. refl) r.holds.1 r.holds.0,
        );
      }))))

  line_loop : (x : ℕ) (k : Loop) (ps : List ℕ) (us : List Atom) (t : Tree) → TreeDecided t →
      LineDecided (loop x k ps us t)
  unfolding hold_tree left_by
  line_loop x k ps us t inner B P H b p h f =
      let hands = loop_hands k us in
      let reads = loop_reads k us in
      let outer = outer_holds Γ b k us h in
      let begun = pass_holds Γ b k ps us h in
      let lent = pass_lent Γ b k us in
      let waits = holds_of Γ (element_name k ps) in
      answers_then (counts_spent Γ hands f.held) (λ n q. n q.0) (λ I q.
      answers_then (answers_must (readable Γ B I reads)
      (λ e r. false≢true (sym e ∙ readable_if Γ f.lent q.0 reads r.1))) (λ n. n) (λ u e.
      answers_then (answers_skip (1 + length us)) (λ n. n) (λ u' s.
      let aside : Counts Γ (set_aside Γ B reads I) outer = counts_aside Γ f.lent reads q.0 in
      answers_then (inner (lending Γ reads B) (arrays_in Γ (element_name k ps))
      (hold_all Γ (carried_name k ps) (set_aside Γ B reads I)) lent waits begun (same_holds (set_aside Γ B reads I))
      (just outer)
      (record {
        lent = members_lent Γ reads f.lent;
        pending = members_all Γ (element_name k ps);
        held = counts_all Γ (carried_name k ps) aside;
      }) (same_tells aside))
      (λ n r. let left = holding_left β Γ lent t begun waits outer r.2 in
      n (
        holding_same β Γ lent t begun begun waits outer (left_by β Γ t begun) (λ j. refl) (λ j. sym (left j)) r.2,
        left,
      ))
      (λ J r. answers_give _ (record {
        pending = none_members Γ;
        counts = counts_also Γ x q.0;
        holds = (
          q.1,
          readable_says Γ f.lent q.0 reads e,
          holding_same β Γ lent t begun begun waits (left_by β Γ t begun) outer (λ j. refl) r.holds.1 r.holds.0,
        );
      })))))

  line_retain : (x : ℕ) → LineDecided (retain x)
  unfolding hold_tree left_by
  line_retain x B P H b p h f =
      answers_then (answers_must (P x || (B x || ltb 0 (H x)))
      (λ e q. false≢true (sym e ∙ when (append_cases x p (b ++ h) q)))) (λ n. n) (λ u e.
      answers_then (answers_skip 1) (λ n. n) (λ u' s. answers_give _ (record {
        pending = none_members Γ;
        counts = counts_plus Γ x (deep (append_cases x p (b ++ h) (says e))) f.held;
        holds = says e;
      })))
    where
      says : (P x || (B x || ltb 0 (H x))) ≡ true → x ∈ (p ++ (b ++ h))
      says e = elim (or_cases (P x) (B x || ltb 0 (H x)) e) [
        | inl q ↦ omega (arith, member_in Γ f.pending x q, occurrences_append x p (b ++ h))
        | inr q ↦ elim (or_cases (B x) (ltb 0 (H x)) q) [
          | inl r ↦ omega (
            arith,
            member_in Γ f.lent x r,
            occurrences_append x p (b ++ h),
            occurrences_append x b h,
          )
          | inr r ↦ omega (arith, held_in Γ f.held x r, occurrences_append x p (b ++ h), occurrences_append x b h)
        ]
      ]

      when : (x ∈ p) ⊎ (x ∈ (b ++ h)) → (P x || (B x || ltb 0 (H x))) ≡ true
      when (inl q) = or_left (P x) (B x || ltb 0 (H x)) (in_member Γ f.pending x q)
      when (inr q) = or_right (P x) (B x || ltb 0 (H x)) (elim (append_cases x b h q) [
        | inl r ↦ or_left (B x) (ltb 0 (H x)) (in_member Γ f.lent x r)
        | inr r ↦ or_right (B x) (ltb 0 (H x)) (in_held Γ f.held x r)
      ])

      deep : (x ∈ p) ⊎ (x ∈ (b ++ h)) → 0 < Γ x
      deep (inl q) = f.pending.deep x q
      deep (inr q) = elim (append_cases x b h q) [
        | inl r ↦ f.lent.deep x r
        | inr r ↦ f.held.deep x r
      ]

  line_release : (x : ℕ) → LineDecided (release x)
  unfolding hold_tree left_by
  line_release x B P H b p h f =
      answers_then (answers_must (ltb 0 (H x)) (λ e q. false≢true (sym e ∙ in_held Γ f.held x q))) (λ n. n) (λ u e.
      answers_then (answers_skip 1) (λ n. n) (λ u' s. answers_give _ (record {
        pending = none_members Γ;
        counts = counts_minus Γ x f.held;
        holds = held_in Γ f.held x e;
      })))

  tree_line : (l : Line) (t : Tree) → LineDecided l → TreeDecided t → TreeDecided (line l t)
  unfolding hold_tree left_by
  tree_line l t first rest B P H b p h ends E f tells =
      answers_then (first B P H b p h f) (λ n q. n q.0.0) (λ A q.
      answers_map (λ n r. n (r.0.1, r.1))
      (λ I r. record { counts = r.counts; holds = ((q.holds, r.holds.0), r.holds.1) })
      (rest B A.pending A.holds b (waits_after Γ l) (holds_after β Γ l h) ends E
      (record { lent = f.lent; pending = q.pending; held = q.counts }) tells))

  mutual
    pub tree_decides : (t : Tree) → TreeDecided t
    tree_decides (end a) = tree_end a
    tree_decides (line l t) = tree_line l t (line_decides l) (tree_decides t)

    pub line_decides : (l : Line) → LineDecided l
    line_decides (leaf x l us) = line_leaf x l us
    line_decides (if_else x g t e) = line_if x g t e (tree_decides t) (tree_decides e)
    line_decides (loop x k ps us t) = line_loop x k ps us t (tree_decides t)
    line_decides (retain x) = line_retain x
    line_decides (release x) = line_release x
