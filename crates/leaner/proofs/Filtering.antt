-- The line of a filter that both runs work alike.
use Rattle.prelude.specs.Kit.{ℕ, ◌≤◌, ◌+◌, ◌<◌, suc, zero, pred, arith, true, false, Bool, cond, ◌≡◌, refl, ◌∙◌, sym}
use Rattle.prelude.specs.Kit.{ap, subst, List, [], ◌∷◌, ◌++◌, ℤ, pos, length, get_or}
use Rattle.semantics.specs.Basics.{◌∈◌}
use Rattle.semantics.specs.Number.{is_zero, is_answer}
use Rattle.semantics.specs.Outcome.{onward, ◌>>=◌, ◌>>◌, give, require}
use Rattle.semantics.specs.Value.{items}
use Rattle.semantics.specs.Kinds.{filtering}
use Rattle.semantics.specs.Code.{Atom, loop, Tree}
use Rattle.semantics.specs.Live.{Set, ◌∪◌, just, after_pass}
use Rattle.semantics.specs.Annotate.{NameDepths}
use Rattle.semantics.specs.Meaning.{Env}
use Rattle.semantics.specs.Machine.{State, Frame, Routine, Program, word, with_store, touching, work_line}
use Rattle.semantics.specs.Machine.{work_pass, retain_word, append_word, if_array}
use Rattle.semantics.specs.Machine as Machine
use Rattle.semantics.specs.Store.{Store, cell, cell_of, elements}
use Rattle.laws.specs.Lists.{◌⊆◌}
use Rattle.semantics.specs.Plain.{value}
use Rattle.discipline.proofs.store.Invariant.{StandsFor}
use Rattle.discipline.proofs.store.Counting.{in_append_left, in_append_right}
use Rattle.discipline.proofs.machine.Discipline.{less, holds_after}
use Rattle.discipline.proofs.machine.Frames.{hold, Setting, Ended, given}
use Rattle.discipline.proofs.machine.Standing.{atom_read, names_one}
use Rattle.discipline.proofs.machine.Elements.{words_of, array_length, array_used, array_depth}
use Rattle.discipline.proofs.machine.Retaining.{retained_array, retains_array}
use Rattle.discipline.proofs.machine.Size.{tree_adds, line_adds}
use Rattle.discipline.proofs.machine.Rules.{LineRules, loop_fresh}
use Rattle.discipline.proofs.machine.Claims.{TreeClaim}
use Rattle.discipline.proofs.machine.Passes.{outer, lent_cell, lent_array}
use Rattle.discipline.proofs.machine.Filling.{pass_kept, still_lent}
use Rattle.discipline.proofs.machine.Filtering.{words_same, kept}
use Rattle.leaner.proofs.Leaner.{Matching, matching_at, matching_elements, leaner_retained}
use Rattle.leaner.proofs.Leaner.{leaner_other_retained}
use Rattle.leaner.proofs.Runs.{Race, Starts, Tied, Twins, both, twin_test, level_quiet, touching_quiet}
use Rattle.leaner.proofs.Beside.{Around, Known, Same, atom_same}
use Rattle.leaner.proofs.Claims.{first_setting, leaner_setting, Before, before_less, TreeEnded, TreeTwins}
use Rattle.leaner.proofs.Claims.{LineTwins}
use Rattle.leaner.proofs.Reading.{array_matching, matching_same, read_same, not_exempt}
use Rattle.leaner.proofs.Sites.{PassSite, filter_site, filter_depths}
use Rattle.leaner.proofs.Filling.{Fill, Filling, around_filling, filling_on, both_appended}
use Rattle.leaner.proofs.Lending.{around_passes, lend_before}
use Rattle.leaner.proofs.Filled.{filling_line}
use Rattle.leaner.proofs.Copiers.{lending_reader, line_roots}
use Rattle.leaner.proofs.Mapping.{reading_pass}

-- words that are the same, retained where they stand for arrays
retained_tied : {r : Race} {E : List ℕ} {π : ℕ → ℕ} (d : ℕ) (u u' : ℤ) (s s' : State) → Same d π u u' →
    (0 < d → 0 < (cell s'.store (cell_of u')).count) → Tied r E π s s' →
    Tied r E π (retained_array d u s) (retained_array d u' s')
unfolding with_store
retained_tied zero u u' s s' same used t = t
retained_tied {r} (suc d) u u' s s' same used t = record {
  level = level_quiet r _ _ (touching s.store (cell_of u)) (touching s'.store (cell_of u'))
      (touching_quiet s.store (cell_of u)) (touching_quiet s'.store (cell_of u')) t.level;
  stores = leaner_retained (cell_of u') (used (omega arith)) (leaner_other_retained (cell_of u)
      (subst (λ (c : ℕ). 0 < (cell s.store c).count) (sym (same.cell (omega arith)))
      (t.stores.used (cell_of u') (used (omega arith)))) t.stores);
}

-- nothing is put into the cell
fill_kept : {C : Setting} {d : ℕ} {b : Around} {I : List ℕ} {ρ : Frame} {δ : Env} {n k : ℕ} {σ : Store} {i : ℕ}
    {w x : ℤ} {s s₁ : State} → Fill C d b I ρ δ n σ i w s →
    Known (Ended C 0 s.store (cell_of w ∷ b.aside) b.others I ρ δ k) x s₁ → Fill C d b I ρ δ n σ (suc i) w s₁
fill_kept {C} {d} {b} {I} {ρ} {δ} {n} q e = record {
  value = q.value;
  meter = e.meter;
  together = e.holds.answered.together;
  passing = pass_kept C d b.aside b.others b.roots b.lent I ρ δ n q.passing e.holds;
}

module _ {r : Race} (starts : Starts r) (p : Program) (rs : List Routine) (n : ℕ) (Γ : NameDepths) where
  abbrev C : Setting
  C = first_setting r p n Γ

  abbrev C' : Setting
  C' = leaner_setting r p rs n Γ

  -- ---- the element, after the tree

  module _ {S S' A A' : Set} {H H' P P' Δ Δ' : List ℕ} {x z : ℕ} {v : Atom} {t t' : Tree} (E : List ℕ) (π : ℕ → ℕ)
      (a a' : Around) (ρ ρ' : Frame) (k k' : ℕ) (trees : TreeClaim C t) (trees' : TreeClaim C' t')
      (rules : LineRules C (loop x filtering (z ∷ []) (v ∷ []) t) a.lent S A H P Δ)
      (rules' : LineRules C' (loop x filtering (z ∷ []) (v ∷ []) t') a'.lent S' A' H' P' Δ')
      (exempt : E ⊆ a'.aside) (δ δ' : Env) (Q Q' : List ℕ) (σ σ' : Store) where
    abbrev d : ℕ
    d = pred (Γ x)

    abbrev b : Around
    b = around_passes C v H ρ Q a

    abbrev b' : Around
    b' = around_passes C' v H' ρ' Q' a'

    abbrev I : List ℕ
    I = outer C v a.lent H

    abbrev I' : List ℕ
    I' = outer C' v a'.lent H'

    pub depth : Γ x ≡ suc (Γ z)
    depth = (filter_depths C rules).1 ∙ (filter_site C rules).array

    module _ {i : ℕ} {w : ℤ} {t₁ : State} {w' : ℤ} {t₁' : State}
        (f : Filling r p rs n Γ d E π b b' I I' ρ ρ' δ δ' (suc (tree_adds t) + k) (suc (tree_adds t') + k') σ σ'
        i w t₁ w' t₁') (within : i < length (items (value δ v)))
        (within' : i < length (items (value δ' v))) (few : i < 16)
        {u : ℤ} {s₁ : State} {u' : ℤ} {s₁' : State}
        (h : TreeEnded r p rs n Γ 0 E f.cells (around_filling w' b') I' ρ ρ' u s₁ u' s₁')
        (known : Known (Ended C 0 t₁.store (cell_of w ∷ a.aside) b.others I ρ δ k) u s₁)
        (known' : Known (Ended C' 0 t₁'.store (cell_of w' ∷ a'.aside) b'.others I' ρ' δ' k') u' s₁') where
      abbrev el : ℤ
      el = get_or (words_of t₁.store (word ρ v)) i (pos 0)

      abbrev el' : ℤ
      el' = get_or (words_of t₁'.store (word ρ' v)) i (pos 0)

      abbrev c' : ℕ
      c' = cell_of (word ρ' v)

      array' : StandsFor s₁'.store (suc (Γ z)) (word ρ' v) (value δ' v)
      array' = lent_array C' v a'.lent H' f.leaner.passing.situation.numbers
          (still_lent C' d a'.aside b'.others Q' b'.lent I' ρ' δ' (suc (tree_adds t') + k')
          f.leaner.passing known'.holds) (filter_site C' rules').array

      held_array : c' ∈ b'.others
      held_array = lent_cell C' v a'.lent H' f.leaner.passing.situation.lent
          (omega (arith, (filter_site C' rules').array))

      image : h.cells c' ≡ cell_of (word ρ v)
      image = h.stays c' (in_append_right c' (cell_of w' ∷ a'.aside) b'.others held_array)
          ∙ sym ((atom_same C f.framed v (λ y g. in_append_left y b'.lent I'
          (in_append_left y (given C (v ∷ [])) a'.lent g))).cell (omega (arith, (filter_site C rules).array)))

      words : Matching h.cells s₁'.store (Γ z) (words_of t₁'.store (word ρ' v))
          (words_of t₁.store (word ρ v))
      unfolding less
      words = subst (λ (l : List ℤ). Matching h.cells s₁'.store (Γ z) l (words_of t₁.store (word ρ v)))
          (words_same C' rules' trees' a'.aside a'.others Q' ρ' δ' k' f.leaner.passing within'
          known'.holds)
          (subst (λ (l : List ℤ). Matching h.cells s₁'.store (Γ z) (words_of s₁'.store (word ρ' v)) l)
          (words_same C rules trees a.aside a.others Q ρ δ k f.first.passing within known.holds)
          (subst (λ (c : ℕ). Matching h.cells s₁'.store (Γ z) (words_of s₁'.store (word ρ' v))
          (elements (cell s₁.store c))) image
          (subst (λ (j : ℕ). Matching h.cells s₁'.store j (words_of s₁'.store (word ρ' v))
          (elements (cell s₁.store (h.cells c')))) (array_depth array')
          (matching_elements c' h.tied.stores known'.holds.answered.invariant (array_used array')
          (not_exempt E c' known'.holds.answered.invariant
          (λ y g. in_append_right y (cell_of w' ∷ []) a'.aside (exempt y g))
          (in_append_right c' (hold ρ' I') b'.others held_array))))))

      element_words : Matching h.cells s₁'.store (Γ z) (el' ∷ []) (el ∷ [])
      unfolding less
      element_words = matching_at i (omega (
        arith,
        within',
        array_length array',
        ap length (words_same C' rules' trees' a'.aside a'.others Q' ρ' δ' k' f.leaner.passing within'
            known'.holds),
      )) words

      pub element_same : Same d h.cells el el'
      element_same = subst (λ (j : ℕ). Same j h.cells el el') (ap pred (sym depth))
          (matching_same element_words)

      kept_first : Known (Ended C d t₁.store (cell_of w ∷ a.aside) b.others I ρ δ k) el (retained_array d el s₁)
      unfolding less
      kept_first = record {
        value = _;
        meter = _;
        holds = kept C rules trees a.aside a.others Q ρ δ k f.first.passing within known.holds;
      }

      kept_leaner : Known (Ended C' d t₁'.store (cell_of w' ∷ a'.aside) b'.others I' ρ' δ' k') el'
          (retained_array d el' s₁')
      unfolding less
      kept_leaner = record {
        value = _;
        meter = _;
        holds = kept C' rules' trees' a'.aside a'.others Q' ρ' δ' k' f.leaner.passing within' known'.holds;
      }

      -- the element is left out or kept
      pub chosen : (g : Bool) →
          Twins r (Filling r p rs n Γ d E π b b' I I' ρ ρ' δ δ' (suc (tree_adds t) + k) (suc (tree_adds t') + k') σ σ'
          (suc i)) (cond g (give w) (do if_array d (retain_word el); append_word w el; give w) s₁)
          (cond g (give w') (do if_array d (retain_word el'); append_word w' el'; give w') s₁')
      unfolding append_word onward
      chosen true = both (filling_on r p rs n Γ d E π b b' I I' ρ ρ' f h (fill_kept f.first known)
          (fill_kept f.leaner known') h.tied)
      chosen false = rw (retains_array d el s₁, retains_array d el' s₁')
          (both (both_appended r p rs n Γ d E π b b' I I' ρ ρ' f h
          (retained_tied d el el' s₁ s₁' element_same used h.tied) element_same exempt kept_first kept_leaner few))
        where
          used : 0 < d → 0 < (cell s₁'.store (cell_of el')).count
          used g = element_words.used (cell_of el') (names_one (Γ z) el' (omega (arith, g, ap pred depth)))

  -- ---- the line

  module _ (trees : (t : Tree) → TreeClaim C t) (trees' : (t : Tree) → TreeClaim C' t) where
    pub filter_twins : (X : List ℕ) (x z : ℕ) (v : Atom) (t t' : Tree) → TreeTwins r p rs n Γ [] t t' →
        LineTwins r p rs n Γ X (loop x filtering (z ∷ []) (v ∷ []) t) (loop x filtering (z ∷ []) (v ∷ []) t')
    unfolding work_line line_adds holds_after less cell_of onward work_pass before_less lend_before
    filter_twins X x z v t t' claim S S' A A' H H' P P' Δ Δ' E π a a' ρ ρ' k k' s s' rules rules' q need need' =
        filling_line starts p rs n Γ v site.reads site'.reads q' (Γ z) site.array x d
        (deep ∙ ap suc (sym (ap pred deep))) shallow (loop_fresh C' rules') Q Q' _ _
        (λ c c' i w t₁ w' t₁' within f.
        reading_pass starts p rs n Γ trees trees' claim
        (lend_before starts p rs n Γ v site.reads site'.reads q' Q Q')
        (lending_reader site Q q'.first) (lending_reader site' Q' q'.leaner)
        ((read_same r p rs n Γ q v site'.reads).cell (omega (arith, site.array)))
        k k' (omega arith) (omega arith) need need' d c c' i w t₁ w' t₁' within f
        (λ e u. require (is_answer u) 28 >> Machine.carried_on filtering d (word ρ v) i w e u)
        (λ e u. require (is_answer u) 28 >> Machine.carried_on filtering d (word ρ' v) i w' e u)
        (λ u s₁ u' s₁' few h known known'.
        rw (h.result.number refl)
        (twin_test r 28 _ _ (is_answer u') (is_answer u') refl h.tied.level (λ answer.
        chosen E π a a' ρ ρ' k k' (trees t) (trees' t') rules rules' q.exempt q.first.values q.leaner.values
        (Q ++ (c ∷ [])) (Q' ++ (c' ∷ [])) s.store s'.store f (within_first within) (within_leaner within) few h
        known known' (is_zero u')))))
      where
        d : ℕ
        d = pred (Γ x)

        Q : List ℕ
        Q = line_roots Γ x z v t A a ρ

        Q' : List ℕ
        Q' = line_roots Γ x z v t' A' a' ρ'

        site : PassSite C z v t a.lent (S ∪ just (z ∷ [])) (after_pass x (z ∷ []) t A) H 0
        site = filter_site C rules

        site' : PassSite C' z v t' a'.lent (S' ∪ just (z ∷ [])) (after_pass x (z ∷ []) t' A') H' 0
        site' = filter_site C' rules'

        deep : Γ x ≡ suc (Γ z)
        deep = (filter_depths C rules).1 ∙ site.array

        array : StandsFor s.store (suc (Γ z)) (word ρ v) (value q.first.values v)
        array = atom_read C q.first.situation v site.array site.reads

        array' : StandsFor s'.store (suc (Γ z)) (word ρ' v) (value q.leaner.values v)
        array' = atom_read C' q.leaner.situation v site.array site'.reads

        -- the array is one of the store's, and so no deeper than they are
        shallow : d ≤ 3
        shallow = omega (
          arith,
          ap pred deep,
          array_depth array,
          (q.first.situation.invariant.tidy (cell_of (word ρ v)) (array_used array)).depth,
        )

        within_leaner : {i : ℕ} → i < length (words_of s'.store (word ρ' v)) →
            i < length (items (value q.leaner.values v))
        within_leaner h = omega (arith, h, array_length array')

        within_first : {i : ℕ} → i < length (words_of s'.store (word ρ' v)) →
            i < length (items (value q.first.values v))
        within_first h = omega (
          arith,
          h,
          array_length array,
          (array_matching r p rs n Γ q v site'.reads (Γ z) site.array).size,
        )

        q' : Before r p rs n Γ X E π a a' H H' P P' ρ ρ' (suc (suc (tree_adds t) + k))
            (suc (suc (tree_adds t') + k')) s s'
        q' = before_less r p rs n Γ (omega arith) (omega arith) q
