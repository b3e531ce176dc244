-- A map that fills a new cell beside one that rewrites its array in its own cell: the numbers of the two cells differ
-- meanwhile, and are the same after the last pass.
use Rattle.prelude.specs.Kit.{ℕ, ◌≤◌, ◌+◌, ◌<◌, suc, pred, arith, true, ◌≡◌, refl, ◌∙◌, sym, ap, subst, ap₂, inl, inr}
use Rattle.prelude.specs.Kit.{◌≢◌, List, [], ◌∷◌, ◌++◌, map, append-nil, ℤ, pos, length, get_or, drop, drop-length}
use Rattle.prelude.specs.Kit.{eq-eqb}
use Rattle.semantics.specs.Basics.{occurrences, ◌∈◌, updated}
use Rattle.semantics.specs.Outcome.{done, onward, ◌>>=◌, ◌>>◌, give, require}
use Rattle.semantics.specs.Value.{Value, num, items, number_in}
use Rattle.semantics.specs.Kinds.{Loop, mapping, rewriting}
use Rattle.semantics.specs.Code.{Atom, loop, Tree}
use Rattle.semantics.specs.Live.{Set, after_pass}
use Rattle.semantics.specs.Annotate.{NameDepths}
use Rattle.semantics.specs.Meaning.{with_item}
use Rattle.semantics.specs.Machine.{State, Frame, Work, Routine, Program, word, with_store, touching, work_pass}
use Rattle.semantics.specs.Machine.{acquire, append_word, overwrite_word}
use Rattle.semantics.specs.Machine as Machine
use Rattle.semantics.specs.Store.{Store, cell, cell_of, elements, has_free, acquired, appended}
use Rattle.semantics.specs.Demands.{value_of}
use Rattle.laws.specs.Lists.{◌⊆◌, occurrences_append, occurs_first}
use Rattle.laws.specs.Updates.{updated_same, updated_there}
use Rattle.laws.specs.Values.{items_list}
use Rattle.semantics.specs.Plain.{value}
use Rattle.discipline.proofs.normal.Trace.{CalleeGrows}
use Rattle.discipline.proofs.store.Invariant.{StandsFor}
use Rattle.discipline.proofs.store.Counting.{hits_itself, in_append_right}
use Rattle.discipline.proofs.machine.Discipline.{less}
use Rattle.discipline.proofs.machine.Spending.{less_in}
use Rattle.discipline.proofs.machine.Images.{first_or_later, without_middle}
use Rattle.discipline.proofs.machine.Frames.{hold, Setting, Ended, given}
use Rattle.discipline.proofs.machine.Standing.{stands_number}
use Rattle.discipline.proofs.machine.Elements.{words_of, array_length, array_depth, array_items}
use Rattle.discipline.proofs.machine.Elements.{array_used, elements_length}
use Rattle.discipline.proofs.machine.Size.{tree_adds}
use Rattle.discipline.proofs.machine.Rules.{LineRules}
use Rattle.discipline.proofs.machine.Claims.{TreeClaim}
use Rattle.discipline.proofs.machine.Passes.{Item, element_at_pass}
use Rattle.discipline.proofs.machine.Acquiring.{after_acquire}
use Rattle.discipline.proofs.machine.Rewriting.{fits, element_depth, new_element}
use Rattle.discipline.proofs.machine.Rewriting as Rewriting_line
use Rattle.leaner.proofs.Leaner.{Leaner, leaner_finished}
use Rattle.leaner.proofs.Acquired.{leaner_alone}
use Rattle.leaner.proofs.Written.{leaner_other_appended, leaner_overwritten}
use Rattle.leaner.proofs.Runs.{Race, Starts, Twins, both, twins_bind, level_quiet, level_taken, touching_quiet}
use Rattle.leaner.proofs.Beside.{Around, Known, Same}
use Rattle.leaner.proofs.Claims.{first_setting, leaner_setting, Before, TreeEnded, TreeTwins}
use Rattle.leaner.proofs.Binding.{framed_stays, known_left}
use Rattle.leaner.proofs.Acquiring.{acquire_first}
use Rattle.leaner.proofs.Reading.{array_matching}
use Rattle.leaner.proofs.Owing.{owes_in}
use Rattle.leaner.proofs.Passes.{twin_pass, passes_twins}
use Rattle.leaner.proofs.Filling.{Fill, around_filling, around_roots, around_new, here_filling, fill_begins}
use Rattle.leaner.proofs.Filling.{appended_state, fill_appended, Between, pass_before, passed_on, same_cell}
use Rattle.leaner.proofs.Filling.{PassesDone}
use Rattle.leaner.proofs.Copiers.{still_read, new_apart, Copier, handed_reads, handed_owes, line_roots}
use Rattle.leaner.proofs.Copiers.{rewriting_tree, pass_body, loop_rest, FillsAsMap}
use Rattle.leaner.proofs.Overwriting.{Rewrite, here_rewriting, rewrite_begins, overwritten_state, mixed}
use Rattle.leaner.proofs.Overwriting.{mixed_stands, mixed_within, mixed_element, still_once, still_numbers}
use Rattle.leaner.proofs.Overwriting.{rewrite_on}

-- numbers are told by their values
numbers_back : (l : List ℤ) → map number_in (map num l) ≡ l
numbers_back [] = refl
numbers_back (w ∷ l) = ap (λ (m : List ℤ). w ∷ m) (numbers_back l)

same_numbers : (l m : List ℤ) → map num l ≡ map num m → l ≡ m
same_numbers l m e = sym (numbers_back l) ∙ ap (map number_in) e ∙ numbers_back m

-- an array of numbers has those of its value
array_numbers : {σ : Store} {d : ℕ} {w : ℤ} {v : Value} → d ≡ 0 → StandsFor σ (suc d) w v →
    map num (words_of σ w) ≡ items v
unfolding value_of
array_numbers {σ} {w = w} e s = ap (λ (j : ℕ). map (value_of σ j) (words_of σ w)) (sym e) ∙ sym (array_items s)

-- words of numbers of the same value
number_same : {τ τ' : Store} {d : ℕ} {w w' : ℤ} {u u' : Value} {cells : ℕ → ℕ} → d ≡ 0 → StandsFor τ d w u →
    StandsFor τ' d w' u' → u ≡ u' → Same d cells w w'
number_same z h h' e = record {
  number = λ d. ap number_in (stands_number z h ∙ e ∙ sym (stands_number z h'));
  cell = λ d. absurd (omega (arith, d, z));
}

module _ {r : Race} (starts : Starts r) (p : Program) (rs : List Routine) (n : ℕ) (Γ : NameDepths) where
  abbrev C : Setting
  C = first_setting r p n Γ

  abbrev C' : Setting
  C' = leaner_setting r p rs n Γ

  module _ (grows : CalleeGrows C'.meant) (trees : (t : Tree) → TreeClaim C t) (trees' : (t : Tree) → TreeClaim C' t)
      {t t' : Tree} (claim : TreeTwins r p rs n Γ [] t t') {x z : ℕ} {v : Atom} {S S' L A' : Set}
      {H H' P P' I Δ' X E : List ℕ} {π : ℕ → ℕ} {a a' b : Around} {ρ ρ' : Frame} {k k' : ℕ} {s s' : State}
      (rules' : LineRules C' (loop x rewriting (z ∷ []) (v ∷ []) t') a'.lent S' A' H' P' Δ')
      (need : C.need ≤ k) (need' : C'.need ≤ k')
      (q : Before r p rs n Γ X E π a a' H H' P P' ρ ρ' (suc (tree_adds t + k)) (suc (tree_adds t' + k')) s s')
      (o : Copier C z v t S L (pred (Γ x)) a b H I ρ (suc (tree_adds t + k)) s)
      (alone : (cell s'.store (cell_of (word ρ' v))).count ≡ 1) where
    -- the leaner run's holds once the array's is spent
    abbrev J : List ℕ
    J = less (given C (v ∷ [])) H'

    abbrev array : ℤ
    array = word ρ' v

    abbrev c' : ℕ
    c' = cell_of array

    abbrev d : ℕ
    d = pred (Γ x)

    abbrev vs : List Value
    vs = items (value q.leaner.values v)

    abbrev b' : Around
    b' = around_new c' (around_roots (line_roots Γ x z v t' A' a' ρ') a')

    -- the array and the result are arrays of numbers
    depths : (Γ z ≡ 0) × (d ≡ 0)
    depths = (element_depth C' grows rules' (trees' t'), ap pred (fits C' grows rules' (trees' t')).2)

    -- ---- what holds between two passes

    -- what both have so far is the same, and of the array's cell the numbers differ
    record Rewrites (c i : ℕ) (w : ℤ) (t₁ : State) (w' : ℤ) (t₁' : State) : Type 0 where
      pub between : Between r Γ (Fill C d (around_new c b) I ρ o.here.values (tree_adds t + k) s.store)
          (Rewrite C' array vs b' J ρ' q.leaner.values (tree_adds t' + k') s'.store) (c' ∷ E) π b' J ρ ρ' i w t₁
          w' t₁'
      pub same_value : between.first.value ≡ between.leaner.value

    begun : Rewrite C' array vs b' J ρ' q.leaner.values (tree_adds t' + k') s'.store 0 array s'
    begun = rewrite_begins grows rules' (trees' t') need' q.leaner alone

    -- no other reference is to the array's cell
    not_array : (y : ℕ) → y ∈ (a'.aside ++ (hold ρ' J ++ a'.others)) → y ≢ c'
    unfolding occurrences
    not_array y h e = omega (
      arith,
      subst (λ (j : ℕ). j ∈ (a'.aside ++ (hold ρ' J ++ a'.others))) e h,
      occurrences_append c' a'.aside (hold ρ' J ++ a'.others),
      alone,
      begun.between.passing.situation.invariant.counts c',
      hits_itself c',
    )

    rewrites_begin : has_free s.store ≡ true →
        Rewrites s.store.first 0 (pos s.store.first) (after_acquire d [] s) array s'
    unfolding with_store cell_of fill_begins rewrite_begins
    rewrites_begin free = record {
      between = record {
        first = fill_begins d (omega (arith, depths.1)) free o.here;
        leaner = rewrite_begins grows rules' (trees' t') need' q.leaner alone;
        cells = updated π c' s.store.first;
        tied = record {
          level = level_taken r (acquired d [] s.store) s.store.first q.tied.level;
          stores = subst (λ (e : ℕ). Leaner (c' ∷ E) (updated π c' s.store.first) s'.store
              (acquired e [] s.store)) (sym depths.1)
              (leaner_alone c' q.tied.stores begun.between.passing.situation.invariant
              q.first.situation.invariant free (occurs_first c' a'.aside)
              (array_depth begun.between.passing.filled));
        };
        framed = framed_stays a' J q.framed (known_left P' a'.lent H' J (less_in (given C (v ∷ [])) H'))
            (λ y h. (q.leaner.situation.lent y h).kept)
            (λ y h. updated_there π c' s.store.first y (not_array y h));
        result = sym (updated_same π c' s.store.first);
        stays = λ y h. updated_there π c' s.store.first y (not_array y
            (without_middle a'.aside (hold ρ' J) a'.others y h));
      };
      same_value = refl;
    }

    -- ---- a pass

    handed_in : given C (v ∷ []) ⊆ (a'.lent ++ H')
    handed_in = handed_reads a'.lent (given C (v ∷ [])) H' rules'.holds.0

    words : words_of s.store (word ρ v) ≡ words_of s'.store array
    words = (array_matching r p rs n Γ q v handed_in 0 (fits C' grows rules' (trees' t')).0).numbers refl

    stands' : StandsFor s'.store 1 array (value q.leaner.values v)
    stands' = Rewriting_line.stands C' grows rules' (trees' t') k' need' s' q.leaner.situation

    same_items : items (value o.here.values v) ≡ vs
    same_items = sym (array_numbers depths.0 o.reads.array) ∙ ap (map num) words ∙ array_numbers refl stands'

    module _ {c i : ℕ} {w : ℤ} {t₁ : State} {w' : ℤ} {t₁' : State} (f : Rewrites c i w t₁ w' t₁')
        (within : i < length (words_of s'.store array)) where
      in_range : i < length vs
      in_range = omega (arith, within, array_length stands')

      in_first : i < length (items (value o.here.values v))
      in_first = omega (arith, in_range, ap length same_items)

      -- where the trees begin
      unfoldable rewrites_before : Before r p rs n Γ [] (c' ∷ E) f.between.cells (around_filling w (around_new c b))
          (around_filling w' b') I J [] [] ρ ρ' (tree_adds t + k) (tree_adds t' + k') t₁ t₁'
      unfolding pass_before here_filling here_rewriting
      rewrites_before = pass_before r p rs n Γ f.between (here_filling f.between.first)
          (here_rewriting f.between.leaner)
          (record {
            lent = λ y h. o.lends y (q.images.lent y h);
            held = λ y h. o.shares (π y) (q.images.held y h);
          })
          (handed_owes X (given C (v ∷ [])) H H' I o.holds q.owes)
          (λ y h. elim (first_or_later y c' E h) [
            | inl e ↦ subst (λ (j : ℕ). j ∈ (cell_of w' ∷ a'.aside))
                (ap cell_of f.between.leaner.is ∙ sym e) (occurs_first (cell_of w') a'.aside)
            | inr g ↦ in_append_right y (cell_of w' ∷ []) a'.aside (q.exempt y g)
          ])

      array_first : StandsFor t₁.store (suc (Γ z)) (word ρ v) (value o.here.values v)
      array_first = still_read o.reads f.between.first

      array_leaner : StandsFor t₁'.store (suc (Γ z)) array (mixed f.between.leaner)
      array_leaner = subst (λ (j : ℕ). StandsFor t₁'.store (suc j) array (mixed f.between.leaner))
          (sym depths.0) (mixed_stands f.between.leaner)

      item : Item t₁.store (Γ z) (word ρ v) (value o.here.values v) i
      item = element_at_pass i f.between.first.passing.situation.invariant array_first in_first

      element_same : Same (Γ z) f.between.cells (get_or (words_of t₁.store (word ρ v)) i (pos 0))
          (get_or (words_of t₁'.store array) i (pos 0))
      element_same = number_same depths.0 item.stands
          (element_at_pass i f.between.leaner.between.passing.situation.invariant array_leaner
          (mixed_within f.between.leaner in_range)).stands
          (ap (λ (l : List Value). get_or l i (num (pos 0))) same_items
          ∙ sym (mixed_element f.between.leaner in_range))

      -- both trees gave a number: the first appends it, the leaner overwrites the element
      goes_on : {u : ℤ} {s₁ : State} {u' : ℤ} {s₁' : State} →
          TreeEnded r p rs n Γ d (c' ∷ E) f.between.cells (around_filling w' b') J ρ ρ' u s₁ u' s₁' →
          Known (Ended C d t₁.store (cell_of w ∷ b.aside) b.others I ρ o.here.values k) u s₁ →
          Known (Ended C' d t₁'.store (cell_of w' ∷ a'.aside) a'.others J ρ' q.leaner.values k') u' s₁' →
          Rewrites c (suc i) w (appended_state w u s₁) w' (overwritten_state w' i u' s₁')
      unfolding with_store passed_on fill_appended rewrite_on
      goes_on {u} {s₁} {u'} {s₁'} h known known' = record {
        between = passed_on r p rs n Γ f.between h
            (λ y g. (f.between.leaner.between.passing.situation.lent y g).kept)
            (fill_appended item.few f.between.first known)
            (rewrite_on f.between.leaner in_range depths.1 known') record {
              level = level_quiet r _ _ (touching s₁.store (cell_of w)) (touching s₁'.store (cell_of w'))
                  (touching_quiet s₁.store (cell_of w)) (touching_quiet s₁'.store (cell_of w')) h.tied.level;
              stores = leaner_overwritten (cell_of w') (subst (λ (j : ℕ). Leaner (c' ∷ E) h.cells s₁'.store
                  (appended j u s₁.store)) (same_cell r p rs n Γ f.between h)
                  (leaner_other_appended (cell_of w') h.tied.stores used numbers u exempt)) used numbers i u'
                  exempt;
            };
        same_value = ap₂ with_item f.same_value
            (sym (stands_number depths.1 known.holds.answered.stands) ∙ ap num (h.result.number depths.1)
            ∙ stands_number depths.1 known'.holds.answered.stands);
      }
        where
          used : 0 < (cell s₁'.store (cell_of w')).count
          used = omega (arith, still_once f.between.leaner in_range depths.1 known')

          numbers : (cell s₁'.store (cell_of w')).depth ≡ 0
          numbers = still_numbers f.between.leaner in_range depths.1 known'

          exempt : cell_of w' ∈ (c' ∷ E)
          exempt = subst (λ (u : ℤ). cell_of u ∈ (c' ∷ E)) (sym f.between.leaner.is) (occurs_first c' E)

    abbrev body : ℕ → List ℤ → Work ℤ
    body c = pass_body C z t L (b.roots ++ (c ∷ [])) ρ

    abbrev body' : List ℤ → Work ℤ
    body' = pass_body C' z t' (after_pass x (z ∷ []) t' A') b'.roots ρ'

    map_pass : (c i : ℕ) (w : ℤ) (t₁ : State) (w' : ℤ) (t₁' : State) → i < length (words_of s'.store array) →
        Rewrites c i w t₁ w' t₁' → Twins r (Rewrites c (suc i)) (work_pass mapping d (body c) (word ρ v) w i t₁)
        (work_pass rewriting d body' array w' i t₁')
    unfolding work_pass append_word overwrite_word onward require rewrites_before pass_before here_filling
        here_rewriting
    map_pass c i w t₁ w' t₁' within f =
        twin_pass r p rs n Γ trees trees' z claim o.reads.tree (rewriting_tree C' grows rules' (trees' t'))
        (owes_in [] I J (handed_owes X (given C (v ∷ [])) H H' I o.holds q.owes)) o.reads.names
        (new_element C' grows rules' (trees' t')) (rewrites_before f within) need need' (word ρ v) array
        (value o.here.values v) (mixed f.between.leaner) i (array_first f within) (array_leaner f within)
        (in_first f within) (mixed_within f.between.leaner (in_range f within)) (element_same f within)
        (λ e u. require true 28 >> Machine.carried_on mapping d (word ρ v) i w e u)
        (λ e u. require true 28 >> Machine.carried_on rewriting d array i w' e u)
        (λ u s₁ u' s₁' h known known'. rw (eq-eqb (cell_of w') c' (ap cell_of f.between.leaner.is))
        (both (goes_on f within h known known')))

    rewrite_pass : (i : Loop) → FillsAsMap i → (c j : ℕ) (w : ℤ) (t₁ : State) (w' : ℤ) (t₁' : State) →
        j < length (words_of s'.store array) → Rewrites c j w t₁ w' t₁' →
        Twins r (Rewrites c (suc j)) (work_pass i d (body c) (word ρ v) w j t₁)
        (work_pass rewriting d body' array w' j t₁')
    rewrite_pass i fills c j w t₁ w' t₁' within f =
        rw (fills d (body c) (word ρ v) w j t₁ (new_apart o.reads f.between.first))
        (map_pass c j w t₁ w' t₁' within f)

    -- ---- after the last pass the numbers are the same

    module _ {c : ℕ} {w : ℤ} {t₁ : State} {w' : ℤ} {t₁' : State}
        (f : Rewrites c (length (words_of s'.store array)) w t₁ w' t₁') where
      numbers_leaner : map num (words_of t₁'.store w') ≡ items f.between.leaner.value
      numbers_leaner = array_numbers refl f.between.leaner.between.passing.filled
          ∙ items_list (items f.between.leaner.value ++ drop (length (words_of s'.store array)) vs)
          ∙ ap (λ (j : ℕ). items f.between.leaner.value ++ drop j vs) (sym (array_length stands'))
          ∙ ap (λ (l : List Value). items f.between.leaner.value ++ l) (drop-length vs)
          ∙ append-nil (items f.between.leaner.value)

      elements_same : elements (cell t₁.store (f.between.cells c')) ≡ elements (cell t₁'.store c')
      elements_same = ap (λ (j : ℤ). elements (cell t₁.store (f.between.cells (cell_of j))))
          (sym f.between.leaner.is) ∙ ap (λ (j : ℕ). elements (cell t₁.store j)) (sym f.between.result)
          ∙ same_numbers (words_of t₁.store w) (words_of t₁'.store w')
          (array_numbers depths.1 f.between.first.passing.filled ∙ ap items f.same_value
          ∙ sym numbers_leaner)
          ∙ ap (λ (j : ℤ). words_of t₁'.store j) f.between.leaner.is

      used : 0 < (cell t₁'.store c').count
      used = subst (λ (j : ℤ). 0 < (cell t₁'.store (cell_of j)).count) f.between.leaner.is
          (array_used f.between.leaner.between.passing.filled)

      sizes_same : (cell t₁.store (f.between.cells c')).size ≡ (cell t₁'.store c').size
      sizes_same = omega (
        arith,
        ap length elements_same,
        elements_length (cell t₁.store (f.between.cells c'))
            (f.between.first.passing.situation.invariant.tidy (f.between.cells c')
            (f.between.tied.stores.used c' used)),
        elements_length (cell t₁'.store c')
            (f.between.leaner.between.passing.situation.invariant.tidy c' used),
      )

      rewrites_done : PassesDone r p rs n Γ d (around_new c b) I ρ o.here.values (tree_adds t + k) s.store E π a'
          J ρ' (length (words_of s'.store array)) w t₁ w' t₁'
      rewrites_done = record {
        first = f.between.first;
        leaner = f.between.leaner.between.passing.situation.invariant;
        cells = f.between.cells;
        tied = record {
          level = f.between.tied.level;
          stores = leaner_finished c' elements_same sizes_same f.between.tied.stores;
        };
        framed = f.between.framed;
        result = f.between.result;
        stays = f.between.stays;
      }

    -- the line, once the array is read and its count tested
    pub in_place : (i : Loop) → FillsAsMap i → {Q : Frame → State → Frame → State → Type 0} →
        ((c : ℕ) (w : ℤ) (t₁ : State) (w' : ℤ) (t₁' : State) →
        PassesDone r p rs n Γ d (around_new c b) I ρ o.here.values (tree_adds t + k) s.store E π a' J ρ'
        (length (words_of s'.store array)) w t₁ w' t₁' →
        Twins r Q ((Machine.loop_ends i (word ρ v) w >> give (updated ρ x w)) t₁) (done (updated ρ' x w') t₁')) →
        Twins r Q
        (onward (loop_rest C i x z v t L b.roots ρ s.store) (acquire b.roots d [] s))
        (loop_rest C' rewriting x z v t' (after_pass x (z ∷ []) t' A') (line_roots Γ x z v t' A' a' ρ') ρ' s'.store
        array s')
    unfolding onward cell_of
    in_place i fills next = acquire_first r s b.roots d [] _ (λ free.
        rw (ap length words)
        (twins_bind r (passes_twins r (Rewrites s.store.first) _ _ (length (words_of s'.store array)) _ _ _ _
        (rewrite_pass i fills s.store.first) (rewrites_begin free))
        (λ w t₁ w' t₁' _ _ f. rw (eq-eqb (cell_of w') c' (ap cell_of f.between.leaner.is))
        (next s.store.first w t₁ w' t₁' (rewrites_done f)))))
