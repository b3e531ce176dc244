-- The line of a map that rewrites its array: in the array's own cell if nothing else refers to it; otherwise in a new
-- cell, after which the array is released.
use Rattle.prelude.specs.Kit.{ℕ, ◌≤◌, ◌+◌, ◌<◌, ◌-◌, suc, pred, arith, true, false, Bool, cond, ◌≡◌, refl, ◌∙◌, sym, ap}
use Rattle.prelude.specs.Kit.{subst, ◌≢◌, List, [], ◌∷◌, ◌++◌, append-nil, eqb, ℤ, pos, length, get_or, drop, drop-length}
use Rattle.prelude.specs.Kit.{ne_eqb, eq-eqb, eqb-true}
use Rattle.semantics.specs.Basics.{occurrences, ◌∈◌, updated, tabulate}
use Rattle.semantics.specs.Outcome.{onward, ◌>>=◌, ◌>>◌, give, require, passes}
use Rattle.semantics.specs.Value.{Value, num, list, items}
use Rattle.semantics.specs.Kinds.{rewriting}
use Rattle.semantics.specs.Code.{Atom, loop, Tree, ending}
use Rattle.semantics.specs.Live.{Set, ◌∪◌, just, among, after_pass}
use Rattle.semantics.specs.Annotate.{atom_depth}
use Rattle.semantics.specs.Meaning.{Meter, Env, do_pass, do_loop, with_item, step_wants}
use Rattle.semantics.specs.Meaning as Meaning
use Rattle.semantics.specs.Machine.{State, Frame, word, with_store, touching, held, elements_of, acquire, is_alone}
use Rattle.semantics.specs.Machine.{release_word, append_word, overwrite_word, work_line, work_pass, work, binding}
use Rattle.semantics.specs.Machine as Machine
use Rattle.semantics.specs.Store.{Store, cell, cell_of, named_by}
use Rattle.semantics.specs.Demands.{value_of}
use Rattle.laws.specs.Lists.{◌≈◌, occurrences_append, occurs_first}
use Rattle.laws.specs.Values.{items_list}
use Rattle.semantics.specs.Plain.{value, run, run_line}
use Rattle.discipline.proofs.normal.Trace.{CalleeGrows}
use Rattle.discipline.proofs.store.Invariant.{Invariant, StandsFor}
use Rattle.discipline.proofs.store.Counting.{in_append_left, in_append_right}
use Rattle.discipline.proofs.store.Change.{permute, set_aside, held_used}
use Rattle.discipline.proofs.store.Kept.{keeps_self, stands_kept}
use Rattle.discipline.proofs.machine.Discipline.{less, unlent, holds_after}
use Rattle.discipline.proofs.machine.Spending.{spend_split, less_in}
use Rattle.discipline.proofs.machine.Growth.{Grows, give_grows, require_grows, bind_grows, passes_grow, pass_grows}
use Rattle.discipline.proofs.machine.Growth.{tree_grows}
use Rattle.discipline.proofs.machine.Agreement.{Together, Agree, both, agree_assoc, agree_bind}
use Rattle.discipline.proofs.machine.Frames.{hold, Setting, Situation, Ended, Going, own, given}
use Rattle.discipline.proofs.machine.Standing.{none_in, named_one, atom_stands, handed_named}
use Rattle.discipline.proofs.machine.Atoms.{handed_same}
use Rattle.discipline.proofs.machine.Binding.{name_bound, ended_less, ended_depth}
use Rattle.discipline.proofs.machine.Elements.{words_of, array_items, array_length, array_used}
use Rattle.discipline.proofs.machine.Acquiring.{roots_cover, out_of_cells, acquire_together, acquire_agrees}
use Rattle.discipline.proofs.machine.Size.{tree_adds, line_adds}
use Rattle.discipline.proofs.machine.Situations.{situation_less, touch_together}
use Rattle.discipline.proofs.machine.Fits.{rewrite_fits, first_same}
use Rattle.discipline.proofs.machine.Rules.{LineRules, TreeRules, Fresh, fresh, outer_names, loop_fresh}
use Rattle.discipline.proofs.machine.Rules.{pass_rules}
use Rattle.discipline.proofs.machine.Claims.{TreeClaim, LineClaim, begin_step}
use Rattle.discipline.proofs.machine.Holding.{ended_released}
use Rattle.discipline.proofs.machine.Copied.{CopyEnds}
use Rattle.discipline.proofs.machine.Passes.{passes_agree}
use Rattle.discipline.proofs.machine.Sites.{one_part}
use Rattle.discipline.proofs.machine.Bodies.{pass_begins}
use Rattle.discipline.proofs.machine.Filling.{one_root, Passing, pass_done, pass_together, reserves, first_pass}
use Rattle.discipline.proofs.machine.Filling.{filled_ended}
use Rattle.discipline.proofs.machine.Rewritten.{element_to_come, mixed_length, Rewriting, pass_rewritten}
use Rattle.discipline.proofs.machine.Rewritten.{rewritten_together}

-- the state once the cell c is looked at
abbrev pub looked_at : ℕ → State → State
looked_at c s = with_store s s.store (touching s.store c)

-- an array's value is a list
list_again : {σ : Store} {d : ℕ} {w : ℤ} {v : Value} → StandsFor σ (suc d) w v → list (items v) ≡ v
unfolding value_of
list_again s = ap (λ (l : List Value). list l) (array_items s) ∙ s.means

-- what is set aside is no other reference's cell
pub apart_aside : {τ : Store} {k c : ℕ} {Z R : List ℕ} → Invariant τ (k ∷ Z) R → c ∈ R → k ≢ c
apart_aside {k = k} {Z = Z} {R} inv h e = omega (
  arith,
  h,
  inv.alone k (occurs_first k Z),
  inv.counts k,
  occurs_first k Z,
  ap (λ (j : ℕ). occurrences j R) e,
)

module _ (C : Setting) (grows : CalleeGrows C.meant) {x p : ℕ} {a : Atom} {t : Tree} {B : List ℕ} {T A : Set}
    {H P Δ : List ℕ} (rules : LineRules C (loop x rewriting (p ∷ []) (a ∷ []) t) B T A H P Δ)
    (claim : TreeClaim C t) where
  -- the holds once the array's is spent
  abbrev H' : List ℕ
  H' = less (given C (a ∷ [])) H

  abbrev after : Set
  after = after_pass x (p ∷ []) t A

  -- the depth of the result's elements, which are numbers
  abbrev d : ℕ
  d = pred (C.depths x)

  pub fits : (atom_depth C.depths a ≡ 1) × (atom_depth C.depths (ending t) ≡ 0) × (C.depths x ≡ 1)
  fits = rewrite_fits (atom_depth C.depths a) (atom_depth C.depths (ending t)) (C.depths x)
      rules.fits.0.gives

  numbers : d ≡ 0
  numbers = ap pred fits.2

  pub element_depth : C.depths p ≡ 0
  element_depth = first_same rules.fits.0.names ∙ ap pred fits.0

  split : H ≈ given C (a ∷ []) ++ H'
  split = spend_split (given C (a ∷ [])) H rules.holds.0

  pub tree_rules : TreeRules C t B (T ∪ just (p ∷ [])) after H' (own C p) H' (atom_depth C.depths (ending t))
  unfolding unlent less
  tree_rules = subst (λ (l : List ℕ). TreeRules C t B (T ∪ just (p ∷ [])) after H' l H'
      (atom_depth C.depths (ending t))) (append-nil (own C p)) (pass_rules C rules)

  pub new_element : Fresh p B H' H'
  unfolding unlent less
  new_element = fresh p rules.scoped.2.0.unknown (outer_names C rules)

  -- in the state s₀ at the line's beginning, or once the array's count is tested; n references more may come after it
  module _ {Z F R : List ℕ} {ρ : Frame} {δ : Env} (n : ℕ) (need : C.need ≤ n) (s₀ : State)
      (S : Situation C s₀.store Z F R B H P ρ δ (suc (tree_adds t + n))) where
    abbrev σ : Store
    σ = s₀.store

    abbrev array : ℤ
    array = word ρ a

    abbrev c : ℕ
    c = cell_of array

    abbrev vs : List Value
    vs = items (value δ a)

    abbrev roots : List ℕ
    roots = R ++ held C.depths (among (a ∷ []) after) ρ

    abbrev going : Frame → State → Env → Meter → Type 0
    going = Going C (loop x rewriting (p ∷ []) (a ∷ []) t) σ Z F R B H Δ ρ δ n

    pub stands : StandsFor σ 1 array (value δ a)
    stands = atom_stands C H S.numbers S.arrays a fits.0
        (λ y h. omega (arith, h, split y, occurrences_append y (given C (a ∷ [])) H'))

    -- the array is read, and its count tested
    looked : {m : Meter} → Together C.start s₀ m → Together C.start (looked_at c (looked_at c s₀)) m
    unfolding with_store
    looked tog = touch_together c σ S.invariant (array_used stands) refl refl
        (touch_together c σ S.invariant (array_used stands) refl refl tog)

    -- the array's reference, apart from the others
    pub spent : (k : ℕ) → occurrences k (hold ρ H ++ F) ≡ occurrences k (c ∷ (hold ρ H' ++ F))
    spent k = handed_same C ρ (a ∷ []) H H' F (c ∷ []) split
        (handed_named C ρ a ∙ ap (λ (j : ℕ). named_by j (array ∷ [])) fits.0) k

    pub before : Invariant σ Z (c ∷ (hold ρ H' ++ F))
    before = permute Z (c ∷ (hold ρ H' ++ F)) S.invariant (λ k. refl) spent

    -- ---- a pass

    abbrev machine_pass : List ℕ → ℤ → ℕ → Machine.Work ℤ
    machine_pass Q = work_pass rewriting d (λ ws. work C.callee C.program.borrowing C.depths t after Q
        (binding (p ∷ []) ws ρ)) array

    abbrev meant_pass : Value → Value → Meaning.Work Value
    meant_pass = do_pass rewriting (λ ws. run C.meant t (Meaning.binding (p ∷ []) ws δ))

    element_of : {τ : Store} {v : Value} → StandsFor τ 1 array v → StandsFor τ (suc (C.depths p)) array v
    element_of {τ} {v} h = subst (λ (k : ℕ). StandsFor τ (suc k) array v) (sym element_depth) h

    -- ---- in the array's own cell

    -- between two passes
    abbrev InPlace : ℕ → Value → Store → Type 0
    InPlace i v τ = Rewriting C array vs Z F (roots ++ (c ∷ [])) B H' ρ δ (tree_adds t + n) σ i v τ

    -- what is carried is the array's own word
    record Rewrites (i : ℕ) (w : ℤ) (s : State) (v : Value) (m : Meter) : Type 0 where
      pub together : Together C.start s m
      pub same : w ≡ array
      pub between : InPlace i v s.store

    pub first_in_place : (cell σ c).count ≡ 1 → InPlace 0 (list []) σ
    unfolding occurrences
    first_in_place alone = record {
      passing = record {
        situation = record {
          invariant = set_aside alone before;
          numbers = S.numbers;
          arrays = λ y h. S.arrays y (less_in (given C (a ∷ [])) H y h);
          pending = λ y h. absurd (none_in y h);
          lent = S.lent;
          room = record { few = λ k. omega (arith, S.room.few k, spent k) };
          rooted = λ f. one_root c Z F roots (λ q h. in_append_left q R (held C.depths (among (a ∷ []) after) ρ)
              (S.rooted f q h));
        };
        filled = subst (λ (v : Value). StandsFor σ 1 array v) (sym (list_again stands)) stands;
        size = omega (arith, ap length (items_list vs));
        keeps = keeps_self σ (Z ++ F);
      };
      whole = refl;
      many = refl;
    }

    rewrite_pass : (i : ℕ) (w : ℤ) (v : Value) (s : State) (m : Meter) → i < length vs → Rewrites i w s v m →
        Agree C.start (Rewrites (suc i)) (machine_pass (roots ++ (c ∷ [])) w i s)
        (meant_pass v (get_or vs i (num (pos 0))) m)
    unfolding work_pass do_pass onward require overwrite_word with_store
    rewrite_pass i w v s m within q =
        rw (
          q.same,
          ← element_to_come (items v) vs i q.between.many (num (pos 0)) within,
          ← ap (λ (l : List Value). get_or l i (num (pos 0))) (items_list (items v ++ drop i vs)),
        )
        (pass_begins C grows p claim tree_rules new_element (c ∷ Z) F (roots ++ (c ∷ [])) ρ δ n need array
        (list (items v ++ drop i vs)) (InPlace i v) (λ τ P'. P'.passing.situation)
        (λ τ P'. element_of P'.passing.filled)
        (λ e r. require true 28 >> Machine.carried_on rewriting d array i array e r)
        (λ r. require true 28 >> give (with_item v r))
        (λ r. bind_grows (require_grows true 28) (λ _. give_grows (with_item v r)))
        (omega (
          arith,
          within,
          ap length (items_list (items v ++ drop i vs)),
          mixed_length (items v) vs i q.between.many (omega (arith, within)),
        ))
        q.together q.between
        (λ τ r s' y m' P' item E.
        let E' = ended_depth C fits.1 E in
        rw (eq-eqb c c refl) (both record {
          together = rewritten_together C array vs Z F (roots ++ (c ∷ [])) B H' ρ δ (tree_adds t + n) P' within E';
          same = refl;
          between = pass_rewritten C array vs Z F (roots ++ (c ∷ [])) B H' ρ δ (tree_adds t + n) P' within E';
        })))

    rewrites_ended : {w : ℤ} {s : State} {v : Value} {m : Meter} → Rewrites (length vs) w s v m →
        Ended C (C.depths x) σ Z F H' ρ δ n w s v m
    rewrites_ended {w} {s} {v} {m} q = ended_depth C (sym fits.2) (ended_less C n (omega arith) rewritten)
      where
        -- no element is to come
        all_done : list (items v ++ drop (length vs) vs) ≡ v
        all_done = ap (λ (l : List Value). list (items v ++ l)) (drop-length vs)
            ∙ ap (λ (l : List Value). list l) (append-nil (items v)) ∙ q.between.whole

        rewritten : Ended C 1 σ Z F H' ρ δ (tree_adds t + n) w s v m
        rewritten = subst (λ (u : ℤ). Ended C 1 σ Z F H' ρ δ (tree_adds t + n) u s v m) (sym q.same)
            (subst (λ (y : Value). Ended C 1 σ Z F H' ρ δ (tree_adds t + n) array s y m) all_done
            (filled_ended C 0 q.together q.between.passing))

    -- ---- in a new cell

    -- the array's reference is with those of others
    pub kept_situation : Situation C σ Z (c ∷ F) roots B H' [] ρ δ (suc (tree_adds t + n))
    unfolding occurrences
    kept_situation = record {
      invariant = permute Z (hold ρ H' ++ (c ∷ F)) before (λ k. refl) same;
      numbers = S.numbers;
      arrays = λ y h. S.arrays y (less_in (given C (a ∷ [])) H y h);
      pending = λ y h. absurd (none_in y h);
      lent = λ y h. record { stands = (S.lent y h).stands; kept = omega (arith, (S.lent y h).kept) };
      room = record { few = λ k. omega (arith, S.room.few k, spent k, same k) };
      rooted = λ f q h. roots_cover C Z F R H (among (a ∷ []) after) ρ (S.rooted f) (rules.frugal f).0 q (omega (
        arith,
        h,
        spent q,
        occurrences_append q Z (c ∷ F),
        occurrences_append q Z (hold ρ H ++ F),
        occurrences_append q (hold ρ H') F,
      ));
    }
      where
        same : (k : ℕ) → occurrences k (c ∷ (hold ρ H' ++ F)) ≡ occurrences k (hold ρ H' ++ (c ∷ F))
        same k = omega (arith, occurrences_append k (hold ρ H') F, occurrences_append k (hold ρ H') (c ∷ F))

    -- between two passes, with the roots Q
    abbrev Between : List ℕ → ℕ → ℤ → Value → Store → Type 0
    Between Q i w v τ = Passing C d Z (c ∷ F) Q B H' ρ δ (tree_adds t + n) σ i w v τ

    abbrev Copies : List ℕ → ℕ → ℤ → State → Value → Meter → Type 0
    Copies Q i w s v m = Together C.start s m × Between Q i w v s.store

    -- the array is held all the while
    array_held : c ∈ (hold ρ H' ++ (c ∷ F))
    array_held = in_append_right c (hold ρ H') (c ∷ F) (occurs_first c F)

    still_array : {Q : List ℕ} {i : ℕ} {w : ℤ} {v : Value} {τ : Store} → Between Q i w v τ →
        StandsFor τ 1 array (value δ a)
    still_array {τ = τ} P' = stands_kept stands (λ q h. rw (named_one 1 array q h) (
      P'.keeps.keep c (in_append_right c Z (c ∷ F) (occurs_first c F)),
      held_used P'.situation.invariant c array_held,
    ))

    copy_pass : (Q : List ℕ) (i : ℕ) (w : ℤ) (v : Value) (s : State) (m : Meter) → i < length vs → Copies Q i w s v m →
        Agree C.start (Copies Q (suc i)) (machine_pass Q w i s) (meant_pass v (get_or vs i (num (pos 0))) m)
    unfolding work_pass do_pass onward require append_word with_store
    copy_pass Q i w v s m within q =
        pass_begins C grows p claim tree_rules new_element (cell_of w ∷ Z) (c ∷ F) Q ρ δ n need array (value δ a)
        (Between Q i w v) (λ τ P'. P'.situation) (λ τ P'. element_of (still_array P'))
        (λ e r. require true 28 >> Machine.carried_on rewriting d array i w e r)
        (λ r. require true 28 >> give (with_item v r))
        (λ r. bind_grows (require_grows true 28) (λ _. give_grows (with_item v r))) within q.0 q.1
        (λ τ r s' y m' P' item E.
        let E' = ended_depth C (fits.1 ∙ sym numbers) E in
        rw (ne_eqb (cell_of w) c (apart_aside P'.situation.invariant array_held)) (both (
          pass_together C d Z (c ∷ F) Q B H' ρ δ (tree_adds t + n) P' item.few E',
          pass_done C d Z (c ∷ F) Q B H' ρ δ (tree_adds t + n) P' item.few E',
        )))

    copies_ended : {Q : List ℕ} {w : ℤ} {s : State} {v : Value} {m : Meter} → Copies Q (length vs) w s v m →
        CopyEnds C (C.depths x) c σ Z F H' ρ δ n w s v m
    copies_ended q = ended_released C c
        (ended_depth C (ap suc numbers ∙ sym fits.2) (ended_less C n (omega arith) (filled_ended C d q.0 q.1)))

    -- ---- the line, after the test

    -- from the word that is carried first
    abbrev machine_rest : ℤ → Machine.Work Frame
    machine_rest w = do
      u ← passes (machine_pass (roots ++ (cell_of w ∷ []))) w (tabulate 0 (length (words_of σ array)) (λ i. i))
      Machine.loop_ends rewriting array u
      give (updated ρ x u)

    abbrev meant_rest : Meaning.Work Env
    meant_rest = do
      u ← passes meant_pass (list []) vs
      give (updated δ x u)

    pass_adds : (v w : Value) → Grows (meant_pass v w)
    pass_adds = pass_grows rewriting _ (λ ws. tree_grows C.meant grows t _)

    rest_grows : Grows meant_rest
    rest_grows = bind_grows (passes_grow meant_pass pass_adds (list []) vs) (λ v. give_grows _)

    bound : {w : ℤ} {s : State} {v : Value} {m : Meter} → Ended C (C.depths x) σ Z F H' ρ δ n w s v m →
        going (updated ρ x w) s (updated δ x v) m
    unfolding holds_after
    bound = name_bound C (loop x rewriting (p ∷ []) (a ∷ []) t) H' refl refl (loop_fresh C rules) S

    in_place : {m : Meter} → Together C.start s₀ m → (cell σ c).count ≡ 1 →
        Agree C.start going (machine_rest array s₀) (meant_rest m)
    unfolding onward
    in_place {m} tog alone = agree_bind
        (passes_agree Rewrites (machine_pass (roots ++ (c ∷ []))) meant_pass vs pass_adds rewrite_pass
        (length (words_of σ array)) array (list []) s₀ m (array_length stands)
        (record { together = tog; same = refl; between = first_in_place alone }))
        (λ v. give_grows _)
        (λ w s v m' q. rw (eq-eqb (cell_of w) c (ap cell_of q.same)) (both (bound (rewrites_ended q))))

    copied : {m : Meter} → Together C.start s₀ m → step_wants (C.start.budget - s₀.left) m.trace ≡ true →
        Agree C.start going (onward machine_rest (acquire roots d [] s₀)) (meant_rest m)
    unfolding onward release_word cell_of with_store
    copied {m} tog wants = acquire_agrees roots d [] machine_rest meant_rest rest_grows tog wants
        (out_of_cells s₀ (among (a ∷ []) after) S (λ f. (rules.frugal f).0))
        (λ free.
        let Q = roots ++ (σ.first ∷ []) in
        agree_bind
        (passes_agree (Copies Q) (machine_pass Q) meant_pass vs pass_adds (copy_pass Q) (length (words_of σ array))
        (pos σ.first) (list []) _ m (array_length stands) (
          acquire_together d [] (reserves C d (tree_adds t + n) kept_situation free shallow).taken tog,
          first_pass C d (tree_adds t + n) kept_situation free shallow,
        ))
        (λ v. give_grows _)
        (λ w s v m' q.
        rw (ne_eqb (cell_of w) c (apart_aside q.1.situation.invariant array_held))
        (both (bound (copies_ended q)))))
      where
        shallow : d ≤ 3
        shallow = omega (arith, numbers)

    -- nothing else refers to the array, or something does
    chosen : {m : Meter} → Together C.start s₀ m →
        step_wants (C.start.budget - s₀.left) m.trace ≡ true → (b : Bool) → eqb (cell σ c).count 1 ≡ b →
        Agree C.start going (onward machine_rest (cond b (give array) (acquire roots d []) s₀)) (meant_rest m)
    unfolding onward
    chosen tog wants true e = in_place tog (eqb-true (cell σ c).count 1 e)
    chosen tog wants false e = copied tog wants

module _ (C : Setting) (grows : CalleeGrows C.meant) where
  rewrite_line : (x p : ℕ) (a : Atom) (t : Tree) → TreeClaim C t →
      LineClaim C (loop x rewriting (p ∷ []) (a ∷ []) t)
  unfolding work_line run_line do_loop line_adds onward elements_of is_alone with_store
  rewrite_line x p a t claim B T A H P Δ rules Z F R ρ δ n s m tog S need =
      agree_assoc _ _ (Meaning.step true m) (begin_step C
      (λ σ. Going C (loop x rewriting (p ∷ []) (a ∷ []) t) σ Z F R B H Δ ρ δ n) true tog enough
      (λ u. rest_grows C grows rules claim n need s enough)
      (λ u v s' m' t' S' w.
      chosen C grows rules claim n need _ S' (looked C grows rules claim n need s' S' t') (w refl) _ refl))
    where
      enough : Situation C s.store Z F R B H P ρ δ (suc (tree_adds t + n))
      enough = situation_less (suc (tree_adds t + n)) S (omega arith)

  pub line_rewriting : (x : ℕ) (ps : List ℕ) (us : List Atom) (t : Tree) → TreeClaim C t →
      LineClaim C (loop x rewriting ps us t)
  line_rewriting x ps us t claim = one_part C rewriting ps us t refl (λ Γ vs. refl) (λ p a. rewrite_line x p a t claim)
