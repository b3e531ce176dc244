-- The line of a reduce: its start is handed over, and each pass carries on what its tree gives.
use Rattle.prelude.specs.Kit.{ℕ, ◌≤◌, ◌+◌, ◌<◌, suc, pred, arith, ℕ_discrete, true, false, ◌≡◌, refl, ◌∙◌, sym, ap}
use Rattle.prelude.specs.Kit.{subst, List, [], ◌∷◌, ◌++◌, append-nil, eqb, ℤ, pos, length, get_or, eq-eqb}
use Rattle.laws.specs.Tests.{or_left}
use Rattle.discipline.proofs.machine.Standing.{none_in, hold_of_other, atom_stands, hold_aside, named_few}
use Rattle.discipline.proofs.machine.Standing.{lent_kept, handed_named}
use Rattle.semantics.specs.Basics.{occurrences, ◌∈◌, updated}
use Rattle.semantics.specs.Outcome.{onward, ◌>>=◌, ◌>>◌, give, require, passes}
use Rattle.semantics.specs.Value.{Value, num, items}
use Rattle.semantics.specs.Kinds.{reducing}
use Rattle.semantics.specs.Code.{Atom, number, name, loop, Tree, ending}
use Rattle.semantics.specs.Live.{Set, ◌∪◌, just, among, after_pass}
use Rattle.semantics.specs.Annotate.{atom_depth}
use Rattle.semantics.specs.Meaning.{Meter, Env, do_pass, do_loop}
use Rattle.semantics.specs.Meaning as Meaning
use Rattle.semantics.specs.Machine.{State, Frame, word, with_store, held, elements_of, work_line, work_pass, work}
use Rattle.semantics.specs.Machine.{binding}
use Rattle.semantics.specs.Machine as Machine
use Rattle.semantics.specs.Store.{Store, cell_of, named_by}
use Rattle.laws.specs.Lists.{◌≈◌, ◌⊆◌, occurrences_append}
use Rattle.laws.specs.Updates.{updated_there}
use Rattle.semantics.specs.Plain.{value, run, run_line}
use Rattle.discipline.proofs.normal.Trace.{CalleeGrows}
use Rattle.discipline.proofs.store.Invariant.{Invariant, Keeps, StandsFor}
use Rattle.discipline.proofs.store.Counting.{in_append_left, in_append_right}
use Rattle.discipline.proofs.store.Change.{permute, held_used}
use Rattle.discipline.proofs.store.Kept.{keeps_self, keeps_fewer}
use Rattle.discipline.proofs.machine.Discipline.{less, holds_after, Covered}
use Rattle.discipline.proofs.machine.Acquiring.{roots_cover}
use Rattle.discipline.proofs.machine.Spending.{spend_split, less_in, unlent_few}
use Rattle.discipline.proofs.machine.Images.{apart, without_middle}
use Rattle.discipline.proofs.machine.Growth.{Grows, give_grows, require_grows, bind_grows, passes_grow, pass_grows}
use Rattle.discipline.proofs.machine.Growth.{tree_grows}
use Rattle.discipline.proofs.machine.Agreement.{Together, Agree, both, agree_assoc, agree_bind}
use Rattle.discipline.proofs.machine.Frames.{hold, Room, Setting, Situation, Lent, Ended, Going, own, given}
use Rattle.discipline.proofs.machine.Atoms.{handed_same}
use Rattle.discipline.proofs.machine.Binding.{bound_situation, name_bound, ended_depth, ended_back}
use Rattle.discipline.proofs.machine.Elements.{words_of, array_length, array_used}
use Rattle.discipline.proofs.machine.Size.{tree_adds, line_adds}
use Rattle.discipline.proofs.machine.Situations.{situation_less, touch_together}
use Rattle.discipline.proofs.machine.Fits.{reduce_fits, first_same, second_same}
use Rattle.discipline.proofs.machine.Rules.{LineRules, TreeRules, Fresh, fresh, names_bound, loop_fresh}
use Rattle.discipline.proofs.machine.Claims.{TreeClaim, LineClaim, begin_step}
use Rattle.discipline.proofs.machine.Passes.{passes_agree, kept_aside, outer, lent_names, lend, aside_in}
use Rattle.discipline.proofs.machine.Passes.{lend_split, lend_back, lent_array}
use Rattle.discipline.proofs.machine.Sites.{Site, loop_site, site_reads, site_names, site_tree}
use Rattle.discipline.proofs.machine.Bodies.{pass_begins}

-- an atom that is held is among itself
given_live : (C : Setting) (a : Atom) (A : Set) (n : ℕ) → n ∈ given C (a ∷ []) → among (a ∷ []) A n ≡ true
unfolding among
given_live C (number z) A n h = absurd (none_in n h)
given_live C (name x) A n h = elim (ℕ_discrete n x) [
  | yes e ↦ or_left (eqb x n) (A n) (eq-eqb x n (sym e))
  | no e ↦ absurd (none_in n (hold_of_other C x n [] e h))
]

-- a pass names the running value q and the element p; the start is b and the array a
module _ (C : Setting) {x q p : ℕ} {b a : Atom} {t : Tree} {B : List ℕ} {T A : Set} {H P Δ : List ℕ}
    (rules : LineRules C (loop x reducing (q ∷ (p ∷ [])) (b ∷ (a ∷ [])) t) B T A H P Δ) where
  -- the depth of what is carried: the start's, the tree's and the result's
  abbrev d : ℕ
  d = C.depths q

  -- the holds once the start is spent, those of them that a pass has from outside, and the names lent to it
  abbrev H' : List ℕ
  H' = less (given C (b ∷ [])) H

  abbrev I : List ℕ
  I = outer C a B H'

  abbrev L : List ℕ
  L = lent_names C a B H'

  abbrev after : Set
  after = after_pass x (q ∷ (p ∷ [])) t A

  pub fits : (atom_depth C.depths b ≡ atom_depth C.depths (ending t)) × (C.depths x ≡ atom_depth C.depths b)
  fits = reduce_fits (atom_depth C.depths b) (atom_depth C.depths a) (atom_depth C.depths (ending t))
      (C.depths x) rules.fits.0.gives

  pub start_depth : atom_depth C.depths b ≡ d
  start_depth = sym (first_same rules.fits.0.names)

  pub tree_depth : atom_depth C.depths (ending t) ≡ d
  tree_depth = sym fits.0 ∙ start_depth

  pub result_depth : d ≡ C.depths x
  result_depth = sym start_depth ∙ sym fits.1

  pub site : Site C x reducing (q ∷ (p ∷ [])) (b ∷ (a ∷ [])) t a p B T A H P Δ
  site = loop_site C rules refl refl (second_same rules.fits.0.names) rules.fits.0.deep

  split : H ≈ given C (b ∷ []) ++ H'
  split = spend_split (given C (b ∷ [])) H rules.holds.0

  pub tree_rules : TreeRules C t L (T ∪ just (q ∷ (p ∷ []))) after (own C q ++ I) (own C p) I
      (atom_depth C.depths (ending t))
  tree_rules = subst (λ (l : List ℕ). TreeRules C t L (T ∪ just (q ∷ (p ∷ []))) after (l ++ I) (own C p) I
      (atom_depth C.depths (ending t))) (append-nil (own C q)) (site_tree C site)

  pub new_carried : Fresh q L I I
  new_carried = fresh q rules.scoped.2.0.unknown (site_names C site)

  pub new_element : Fresh p L (own C q ++ I) I
  new_element = fresh p rules.scoped.2.1.0.unknown (names_bound C q (site_names C site))

  -- at the line's beginning; n references more may come after it
  module _ {Z F R : List ℕ} {ρ : Frame} {δ : Env} (n : ℕ) {σ : Store}
      (S : Situation C σ Z F R B H P ρ δ (suc (suc (tree_adds t + n)))) where
    abbrev others : List ℕ
    others = hold ρ (kept_aside C a B H') ++ F

    abbrev roots : List ℕ
    roots = R ++ held C.depths (among (a ∷ []) after) ρ

    -- what is carried is a word as a tree gives it, which leaves the outer holds
    abbrev Carried : ℤ → State → Value → Meter → Type 0
    Carried w s v m = Ended C d σ Z others I ρ δ (tree_adds t + n) w s v m

    pub lent_before : (y : ℕ) → y ∈ L → Lent σ others (C.depths y) (ρ y) (δ y)
    lent_before = lend C a B H' (site_reads C site) (λ y h. S.arrays y (less_in (given C (b ∷ [])) H y h)) S.lent

    rooted : C.start.frugal ≡ true → (Z ++ others) ⊆ (roots ++ [])
    rooted f r h = in_append_left r roots [] (roots_cover C Z F R (kept_aside C a B H') (among (a ∷ []) after) ρ
        (S.rooted f) (array_covered f) r h)
      where
        in_start : (y : ℕ) → y ∈ kept_aside C a B H' → y ∈ H
        in_start y g = less_in (given C (b ∷ [])) H y (aside_in C a B H' (site_reads C site) y g)

        array_covered : C.start.frugal ≡ true → Covered C.depths (kept_aside C a B H') (among (a ∷ []) after)
        array_covered f = record {
          live = λ y g. given_live C a after y (omega (arith, g, unlent_few B (given C (a ∷ [])) y));
          below = λ y g. (rules.frugal f).0.below y (in_start y g);
          array = λ y g. (rules.frugal f).0.array y (in_start y g);
        }

    -- ---- references

    -- a word in the place of the array's hold, and back
    aside : (w : ℤ) (c : ℕ) → occurrences c (named_by d (w ∷ []) ++ (hold ρ H' ++ F)) ≡
        occurrences c (named_by d (w ∷ []) ++ (hold ρ I ++ others))
    aside w c = omega (
      arith,
      occurrences_append c (named_by d (w ∷ [])) (hold ρ I ++ others),
      occurrences_append c (named_by d (w ∷ [])) (hold ρ H' ++ F),
      hold_aside ρ H' (kept_aside C a B H') I F (lend_split C a B H' (site_reads C site)) c,
    )

    -- the start is carried first
    spent : (c : ℕ) → occurrences c (hold ρ H ++ F) ≡
        occurrences c (named_by d (word ρ b ∷ []) ++ (hold ρ I ++ others))
    spent c = handed_same C ρ (b ∷ []) H H' F (named_by d (word ρ b ∷ [])) split start_holds c ∙ aside (word ρ b) c
      where
        start_holds : hold ρ (given C (b ∷ [])) ≡ named_by d (word ρ b ∷ [])
        start_holds = handed_named C ρ b ∙ ap (λ (k : ℕ). named_by k (word ρ b ∷ [])) start_depth

    room : (w : ℤ) → Room Z (named_by d (w ∷ []) ++ (hold ρ I ++ others)) (tree_adds t + n)
    room w = record {
      few = λ c. omega (
        arith,
        S.room.few c,
        spent c,
        occurrences_append c (named_by d (word ρ b ∷ [])) (hold ρ I ++ others),
        occurrences_append c (named_by d (w ∷ [])) (hold ρ I ++ others),
        named_few c d w,
      );
    }

    -- ---- before the first pass

    pub first_carried : {s : State} {m : Meter} → s.store ≡ σ → Together C.start s m →
        Carried (word ρ b) s (value δ b) m
    first_carried {s} {m} e tog = record {
      answered = record {
        together = tog;
        invariant = subst (λ (τ : Store). Invariant τ Z (named_by d (word ρ b ∷ []) ++ (hold ρ I ++ others))) (sym e)
            (permute Z (named_by d (word ρ b ∷ []) ++ (hold ρ I ++ others)) S.invariant (λ k. refl) spent);
        stands = subst (λ (τ : Store). StandsFor τ d (word ρ b) (value δ b)) (sym e)
            (atom_stands C H S.numbers S.arrays b start_depth
            (λ y h. omega (arith, h, split y, occurrences_append y (given C (b ∷ [])) H')));
      };
      room = room (word ρ b);
      arrays = λ y h. subst (λ (τ : Store). StandsFor τ (C.depths y) (ρ y) (δ y)) (sym e)
          (S.arrays y (less_in (given C (b ∷ [])) H y (less_in (kept_aside C a B H') H' y h)));
      keeps = subst (λ (τ : Store). Keeps σ τ (Z ++ others)) (sym e) (keeps_self σ (Z ++ others));
    }

    -- ---- a pass

    pub lent_now : {w : ℤ} {s : State} {v : Value} {m : Meter} → Carried w s v m →
        (y : ℕ) → y ∈ L → Lent s.store others (C.depths y) (ρ y) (δ y)
    lent_now {w = w} E y h = lent_kept Z others E.keeps (λ r g. held_used E.answered.invariant r
        (in_append_right r (named_by d (w ∷ [])) (hold ρ I ++ others)
        (in_append_right r (hold ρ I) others g))) (lent_before y h)

    -- before a pass's tree, once the running value is bound
    pub record Bound (w : ℤ) (v : Value) (τ : Store) : Type 0 where
      pub situation : Situation C τ Z others (roots ++ []) L (own C q ++ I) [] (updated ρ q w) (updated δ q v)
          (tree_adds t + n)
      pub array : StandsFor τ (suc (C.depths p)) (word ρ a) (value δ a)
      pub keeps : Keeps σ τ (Z ++ others)

    pub bound : {w : ℤ} {s : State} {v : Value} {m : Meter} → Carried w s v m → Bound w v s.store
    bound E = record {
      situation = bound_situation C (roots ++ []) L new_carried.lent new_carried.before S.numbers lent_before
          rooted E;
      array = lent_array C a B H' S.numbers (lent_now E) site.array;
      keeps = E.keeps;
    }

    -- what its tree gives is carried on
    pub given_on : {w r : ℤ} {s : State} {v y : Value} {m : Meter} {τ : Store} → Bound w v τ →
        Ended C (atom_depth C.depths (ending t)) τ Z others I (updated ρ q w) (updated δ q v) n r s y m →
        Carried r s y m
    given_on {w} {r} {v = v} now E =
        let E' = ended_depth C tree_depth (ended_back C
        (λ y g. updated_there ρ q w y (apart q y I new_carried.after g))
        (λ y g. updated_there δ q v y (apart q y I new_carried.after g)) now.keeps E) in
        record { answered = E'.answered; room = room r; arrays = E'.arrays; keeps = E'.keeps }

    reduce_pass : CalleeGrows C.meant → TreeClaim C t → C.need ≤ n → (i : ℕ) (w : ℤ) (v : Value) (s : State)
        (m : Meter) → i < length (items (value δ a)) → Carried w s v m → Agree C.start Carried
        (work_pass reducing (pred (C.depths x)) (λ vs. work C.callee C.program.borrowing C.depths t after
        (roots ++ []) (binding (q ∷ (p ∷ [])) vs ρ)) (word ρ a) w i s)
        (do_pass reducing (λ vs. run C.meant t (Meaning.binding (q ∷ (p ∷ [])) vs δ)) v
        (get_or (items (value δ a)) i (num (pos 0))) m)
    unfolding work_pass do_pass onward require
    reduce_pass grows claim need i w v s m within E =
        pass_begins C grows p claim tree_rules new_element Z others (roots ++ []) (updated ρ q w) (updated δ q v) n need
        (word ρ a) (value δ a) (Bound w v) (λ τ B'. B'.situation) (λ τ B'. B'.array)
        (λ e r. require true 28 >> Machine.carried_on reducing (pred (C.depths x)) (word ρ a) i w e r)
        (λ r. require true 28 >> give r) (λ r. bind_grows (require_grows true 28) (λ _. give_grows r)) within
        E.answered.together
        (bound E) (λ τ r s' y m' B' item E'. both (given_on B' E'))

    -- ---- after the last pass the array's hold is back

    carried_ended : {w : ℤ} {s : State} {v : Value} {m : Meter} → Carried w s v m →
        Ended C (C.depths x) σ Z F H' ρ δ n w s v m
    carried_ended {w = w} {s} E = ended_depth C result_depth record {
      answered = record {
        together = E.answered.together;
        invariant = permute Z (named_by d (w ∷ []) ++ (hold ρ H' ++ F)) E.answered.invariant (λ k. refl)
            (λ c. sym (aside w c));
        stands = E.answered.stands;
      };
      room = record { few = λ c. omega (arith, E.room.few c, aside w c) };
      arrays = lend_back C a B H' (site_reads C site) (lent_now E) E.arrays;
      keeps = keeps_fewer (Z ++ others) (Z ++ F) (without_middle Z (hold ρ (kept_aside C a B H')) F) E.keeps;
    }

module _ (C : Setting) (grows : CalleeGrows C.meant) where
  reduce_line : (x q p : ℕ) (b a : Atom) (t : Tree) → TreeClaim C t →
      LineClaim C (loop x reducing (q ∷ (p ∷ [])) (b ∷ (a ∷ [])) t)
  unfolding work_line run_line do_loop line_adds onward elements_of with_store holds_after
  reduce_line x q p b a t claim B T A H P Δ rules Z F R ρ δ n s m tog S need =
      agree_assoc _ _ (Meaning.step false m) (begin_step C
      (λ σ. Going C (loop x reducing (q ∷ (p ∷ [])) (b ∷ (a ∷ [])) t) σ Z F R B H Δ ρ δ n) false tog S
      (λ u. bind_grows all_grow (λ v. give_grows _))
      (λ u v s' m' t' S' w.
      let S'' = situation_less (suc (suc (tree_adds t + n))) S' (omega arith) in
      let stands = lent_array C a B (less (given C (b ∷ [])) H) S'.numbers (lent_before C rules n S'')
      (site C rules).array in
      let t'' = touch_together (cell_of (word ρ a)) s'.store S'.invariant (array_used stands) refl refl t' in
      agree_bind
      (passes_agree (λ i. Carried C rules n S'') _ _ (items (value δ a))
      (pass_grows reducing _ (λ vs. tree_grows C.meant grows t _)) (reduce_pass C rules n S'' grows claim need)
      (length (words_of s'.store (word ρ a))) (word ρ b) (value δ b) _ m' (array_length stands)
      (first_carried C rules n S'' refl t''))
      (λ v. give_grows _)
      (λ w s'' v m'' E. both (name_bound C (loop x reducing (q ∷ (p ∷ [])) (b ∷ (a ∷ [])) t)
      (less (given C (b ∷ [])) H) refl refl (loop_fresh C rules) S' (carried_ended C rules n S'' E)))))
    where
      all_grow : Grows (passes (do_pass reducing (λ vs. run C.meant t (Meaning.binding (q ∷ (p ∷ [])) vs δ)))
          (value δ b) (items (value δ a)))
      all_grow = passes_grow (do_pass reducing (λ vs. run C.meant t (Meaning.binding (q ∷ (p ∷ [])) vs δ)))
          (pass_grows reducing _ (λ vs. tree_grows C.meant grows t _)) (value δ b) (items (value δ a))

  pub line_reducing : (x : ℕ) (ps : List ℕ) (us : List Atom) (t : Tree) → TreeClaim C t →
      LineClaim C (loop x reducing ps us t)
  line_reducing x ps [] t claim = λ B T A H P Δ rules. absurd (omega (arith, rules.fits.0.limits))
  line_reducing x ps (b ∷ []) t claim = λ B T A H P Δ rules. absurd (omega (arith, rules.fits.0.limits))
  line_reducing x ps (b ∷ (a ∷ (c ∷ us))) t claim =
      λ B T A H P Δ rules. absurd (omega (arith, rules.fits.0.limits))
  line_reducing x [] (b ∷ (a ∷ [])) t claim =
      λ B T A H P Δ rules. absurd (omega (arith, ap length rules.fits.0.names))
  line_reducing x (q ∷ []) (b ∷ (a ∷ [])) t claim =
      λ B T A H P Δ rules. absurd (omega (arith, ap length rules.fits.0.names))
  line_reducing x (q ∷ (p ∷ (r ∷ ps))) (b ∷ (a ∷ [])) t claim =
      λ B T A H P Δ rules. absurd (omega (arith, ap length rules.fits.0.names))
  line_reducing x (q ∷ (p ∷ [])) (b ∷ (a ∷ [])) t claim = reduce_line x q p b a t claim
