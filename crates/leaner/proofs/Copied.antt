-- A map that fills a new cell beside one that was to rewrite its array, which is not alone: that one fills a new cell
-- too, and then releases the array.
use Rattle.prelude.specs.Kit.{ℕ, ◌≤◌, ◌+◌, ◌<◌, suc, pred, arith, true, ◌≡◌, refl, ◌∙◌, sym, ap, subst, inl, inr, List}
use Rattle.prelude.specs.Kit.{[], ◌∷◌, ◌++◌, ℤ, length, ne_eqb}
use Rattle.semantics.specs.Basics.{occurrences, ◌∈◌, updated}
use Rattle.semantics.specs.Outcome.{done, onward, ◌>>=◌, ◌>>◌, give, require}
use Rattle.semantics.specs.Kinds.{Loop, mapping, rewriting}
use Rattle.semantics.specs.Code.{Atom, loop, Tree}
use Rattle.semantics.specs.Live.{Set, ◌∪◌, just, after_pass}
use Rattle.semantics.specs.Annotate.{NameDepths}
use Rattle.semantics.specs.Machine.{State, Frame, Work, Routine, Program, word, with_store, work_pass, acquire}
use Rattle.semantics.specs.Machine.{release_word, release_events, append_word}
use Rattle.semantics.specs.Machine as Machine
use Rattle.semantics.specs.Store.{Store, cell_of, released, deepest}
use Rattle.laws.specs.Lists.{◌⊆◌, occurrences_append}
use Rattle.discipline.proofs.normal.Trace.{CalleeGrows}
use Rattle.discipline.proofs.store.Invariant.{Invariant}
use Rattle.discipline.proofs.store.Change.{permute}
use Rattle.discipline.proofs.store.Release.{Releases}
use Rattle.discipline.proofs.store.Release as Store_release
use Rattle.discipline.proofs.store.Counting.{append_cases, in_append_left, in_append_right}
use Rattle.discipline.proofs.machine.Discipline.{less}
use Rattle.discipline.proofs.machine.Spending.{less_in}
use Rattle.discipline.proofs.machine.Images.{first_or_later, without_middle}
use Rattle.discipline.proofs.machine.Frames.{hold, Setting, given}
use Rattle.discipline.proofs.machine.Elements.{words_of}
use Rattle.discipline.proofs.machine.Size.{tree_adds}
use Rattle.discipline.proofs.machine.Rules.{LineRules}
use Rattle.discipline.proofs.machine.Claims.{TreeClaim}
use Rattle.discipline.proofs.machine.Holding.{released_state}
use Rattle.discipline.proofs.machine.Rewriting.{fits}
use Rattle.leaner.proofs.Released.{leaner_freed}
use Rattle.leaner.proofs.Runs.{Race, Starts, Twins, both, level_leaner, release_quiet}
use Rattle.leaner.proofs.Beside.{Around, framed_fewer, Images}
use Rattle.leaner.proofs.Claims.{first_setting, leaner_setting, Before, TreeTwins}
use Rattle.leaner.proofs.Binding.{known_left}
use Rattle.leaner.proofs.Reading.{read_same, array_matching}
use Rattle.leaner.proofs.Filling.{around_new, PassesDone, both_appended}
use Rattle.leaner.proofs.Filled.{Passed, filled_passes}
use Rattle.leaner.proofs.Copiers.{new_apart, Copier, around_kept, line_roots, keeping_copier, FillsAsMap}
use Rattle.leaner.proofs.Copiers.{handed_reads, handed_owes, pass_body, loop_rest, rewriting_fills}
use Rattle.leaner.proofs.Mapping.{reading_pass}

-- a reference of others apart from the names' references
pub kept_first : {τ : Store} {Z : List ℕ} (c : ℕ) (l F : List ℕ) → Invariant τ Z (l ++ (c ∷ F)) →
    Invariant τ Z (c ∷ (l ++ F))
unfolding occurrences
kept_first {Z = Z} c l F inv = permute Z (c ∷ (l ++ F)) inv (λ y. refl)
    (λ y. omega (arith, occurrences_append y l (c ∷ F), occurrences_append y l F))

module _ {r : Race} (starts : Starts r) (p : Program) (rs : List Routine) (n : ℕ) (Γ : NameDepths) where
  abbrev C : Setting
  C = first_setting r p n Γ

  abbrev C' : Setting
  C' = leaner_setting r p rs n Γ

  module _ (grows : CalleeGrows C'.meant) (trees : (t : Tree) → TreeClaim C t) (trees' : (t : Tree) → TreeClaim C' t)
      {t t' : Tree} (claim : TreeTwins r p rs n Γ [] t t') {x z : ℕ} {v : Atom} {S S' L A' : Set}
      {H H' P P' I Δ' X E : List ℕ} {π : ℕ → ℕ} {a a' b : Around} {ρ ρ' : Frame} {k k' : ℕ} {s s' : State}
      (rules' : LineRules C' (loop x rewriting (z ∷ []) (v ∷ []) t') a'.lent S' A' H' P' Δ')
      (need : C.need ≤ k) (need' : C'.need ≤ k')
      (q : Before r p rs n Γ X E π a a' H H' P P' ρ ρ' (suc (tree_adds t + k)) (suc (tree_adds t' + k')) s s')
      (o : Copier C z v t S L (pred (Γ x)) a b H I ρ (suc (tree_adds t + k)) s) where
    -- the leaner run's holds once the array's is spent
    abbrev J : List ℕ
    J = less (given C (v ∷ [])) H'

    abbrev c' : ℕ
    c' = cell_of (word ρ' v)

    abbrev d : ℕ
    d = pred (Γ x)

    abbrev b' : Around
    b' = around_kept c' (line_roots Γ x z v t' A' a' ρ') a'

    o' : Copier C' z v t' (S' ∪ just (z ∷ [])) (after_pass x (z ∷ []) t' A') d a' b' H' J ρ'
        (suc (tree_adds t' + k')) s'
    o' = keeping_copier grows rules' (trees' t') need' q.leaner

    handed_in : given C (v ∷ []) ⊆ (a'.lent ++ H')
    handed_in = handed_reads a'.lent (given C (v ∷ [])) H' rules'.holds.0

    image : cell_of (word ρ v) ≡ π c'
    image = (read_same r p rs n Γ q v handed_in).cell (omega (arith, (fits C' grows rules' (trees' t')).0))

    copy_images : Images π b b'
    copy_images = record {
      lent = λ y h. o.lends y (q.images.lent y h);
      held = λ c h. elim (append_cases c a'.aside (c' ∷ a'.others) h) [
        | inl g ↦ o.shares (π c) (q.images.held c (in_append_left c a'.aside a'.others g))
        | inr g ↦ elim (first_or_later c c' a'.others g) [
          | inl e ↦ subst (λ (j : ℕ). j ∈ (b.aside ++ b.others)) (image ∙ ap π (sym e))
              (in_append_right (cell_of (word ρ v)) b.aside b.others o.reads.kept)
          | inr i ↦ o.shares (π c) (q.images.held c (in_append_right c a'.aside a'.others i))
        ]
      ];
    }

    unfoldable copy_before : Before r p rs n Γ [] E π b b' I J [] [] ρ ρ' (suc (tree_adds t + k))
        (suc (tree_adds t' + k')) s s'
    copy_before = record {
      first = o.here;
      leaner = o'.here;
      tied = q.tied;
      framed = framed_fewer (P' ++ (a'.lent ++ H')) (a'.lent ++ J)
          (known_left P' a'.lent H' J (less_in (given C (v ∷ [])) H')) q.framed;
      images = copy_images;
      owes = handed_owes X (given C (v ∷ [])) H H' I o.holds q.owes;
      exempt = q.exempt;
    }

    -- ---- a pass

    abbrev body : ℕ → List ℤ → Work ℤ
    body c = pass_body C z t L (b.roots ++ (c ∷ [])) ρ

    abbrev body' : ℕ → List ℤ → Work ℤ
    body' c = pass_body C' z t' (after_pass x (z ∷ []) t' A') (b'.roots ++ (c ∷ [])) ρ'

    map_pass : (c c₁ i : ℕ) (w : ℤ) (t₁ : State) (w' : ℤ) (t₁' : State) →
        i < length (words_of s'.store (word ρ' v)) → Passed starts p rs n Γ copy_before d c c₁ i w t₁ w' t₁' →
        Twins r (Passed starts p rs n Γ copy_before d c c₁ (suc i)) (work_pass mapping d (body c) (word ρ v) w i t₁)
        (work_pass mapping d (body' c₁) (word ρ' v) w' i t₁')
    unfolding work_pass append_word onward require copy_before
    map_pass c c₁ i w t₁ w' t₁' within f =
        reading_pass starts p rs n Γ trees trees' claim copy_before o.reads o'.reads image k k' (omega arith)
        (omega arith) need need' d c c₁ i w t₁ w' t₁' within f
        (λ e u. require true 28 >> Machine.carried_on mapping d (word ρ v) i w e u)
        (λ e u. require true 28 >> Machine.carried_on mapping d (word ρ' v) i w' e u)
        (λ u s₁ u' s₁' few h known known'.
        both (both_appended r p rs n Γ d E π (around_new c b) (around_new c₁ b') I J ρ ρ' f h h.tied h.result
        q.exempt known known' few))

    copy_pass : (i : Loop) → FillsAsMap i → (c c₁ j : ℕ) (w : ℤ) (t₁ : State) (w' : ℤ) (t₁' : State) →
        j < length (words_of s'.store (word ρ' v)) → Passed starts p rs n Γ copy_before d c c₁ j w t₁ w' t₁' →
        Twins r (Passed starts p rs n Γ copy_before d c c₁ (suc j)) (work_pass i d (body c) (word ρ v) w j t₁)
        (work_pass rewriting d (body' c₁) (word ρ' v) w' j t₁')
    unfolding copy_before
    copy_pass i fills c c₁ j w t₁ w' t₁' within f = rw (
      fills d (body c) (word ρ v) w j t₁ (new_apart o.reads f.first),
      rewriting_fills d (body' c₁) (word ρ' v) w' j t₁' (new_apart o'.reads f.leaner),
    ) (map_pass c c₁ j w t₁ w' t₁' within f)

    -- ---- after the passes the leaner run releases the array

    copies_done : (c c₁ : ℕ) {i : ℕ} {w : ℤ} {t₁ : State} {w' : ℤ} {t₁' : State} →
        Passed starts p rs n Γ copy_before d c c₁ i w t₁ w' t₁' →
        PassesDone r p rs n Γ d (around_new c b) I ρ o.here.values (tree_adds t + k) s.store E π a' J ρ' i w t₁
        w' (released_state c' t₁')
    unfolding copy_before with_store
    copies_done c c₁ {w' = w'} {t₁'} f = record {
      first = f.first;
      leaner = freed.holds;
      cells = f.cells;
      tied = record {
        level = level_leaner r _ (release_events deepest c' t₁'.store) (release_quiet deepest c' t₁'.store)
            f.tied.level;
        stores = leaner_freed f.tied.stores freed;
      };
      framed = f.framed;
      result = f.result;
      stays = λ y h. f.stays y (without_middle a'.aside (c' ∷ []) a'.others y h);
    }
      where
        freed : Releases t₁'.store (released deepest c' t₁'.store) (release_events deepest c' t₁'.store)
            (cell_of w' ∷ a'.aside) (hold ρ' J ++ a'.others)
        freed = Store_release.release c' (kept_first c' (hold ρ' J) a'.others
            f.leaner.passing.situation.invariant)

    -- the line, once the array is read
    pub copied : (i : Loop) → FillsAsMap i → {Q : Frame → State → Frame → State → Type 0} →
        ((c : ℕ) (w : ℤ) (t₁ : State) (w' : ℤ) (t₂' : State) →
        PassesDone r p rs n Γ d (around_new c b) I ρ o.here.values (tree_adds t + k) s.store E π a' J ρ'
        (length (words_of s'.store (word ρ' v))) w t₁ w' t₂' →
        Twins r Q ((Machine.loop_ends i (word ρ v) w >> give (updated ρ x w)) t₁) (done (updated ρ' x w') t₂')) →
        Twins r Q
        (onward (loop_rest C i x z v t L b.roots ρ s.store) (acquire b.roots d [] s))
        (onward (loop_rest C' rewriting x z v t' (after_pass x (z ∷ []) t' A') b'.roots ρ' s'.store)
        (acquire b'.roots d [] s'))
    unfolding onward release_word cell_of copy_before
    copied i fills next =
        filled_passes starts p rs n Γ copy_before d (omega (arith, ap pred (fits C' grows rules' (trees' t')).2)) _ _
        (array_matching r p rs n Γ q v handed_in 0 (fits C' grows rules' (trees' t')).0).size _ _ _ _
        (copy_pass i fills)
        (λ c c₁ w t₁ w' t₁' f. rw (ne_eqb (cell_of w') c' (new_apart o'.reads f.leaner))
        (next c w t₁ w' _ (copies_done c c₁ f)))
