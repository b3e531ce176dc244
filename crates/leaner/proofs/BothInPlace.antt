-- Two maps that rewrite their arrays, both in the array's own cell: before and after each pass the numbers are the
-- same.
use Rattle.prelude.specs.Kit.{ℕ, ◌≤◌, ◌+◌, ◌<◌, suc, pred, arith, true, ◌≡◌, refl, ◌∙◌, sym, ap, subst, List, [], ◌∷◌}
use Rattle.prelude.specs.Kit.{◌++◌, ℤ, pos, length, get_or, eq-eqb}
use Rattle.semantics.specs.Outcome.{onward, ◌>>=◌, ◌>>◌, require}
use Rattle.semantics.specs.Value.{Value, items}
use Rattle.semantics.specs.Kinds.{rewriting}
use Rattle.semantics.specs.Code.{Atom, loop, Tree}
use Rattle.semantics.specs.Live.{Set, after_pass}
use Rattle.semantics.specs.Annotate.{NameDepths}
use Rattle.semantics.specs.Machine.{State, Frame, Routine, Program, word, with_store, touching, work_pass}
use Rattle.semantics.specs.Machine.{overwrite_word}
use Rattle.semantics.specs.Machine as Machine
use Rattle.semantics.specs.Store.{Store, cell, cell_of, elements, overwritten}
use Rattle.laws.specs.Lists.{◌⊆◌}
use Rattle.semantics.specs.Plain.{value}
use Rattle.discipline.proofs.normal.Trace.{CalleeGrows, running_grows}
use Rattle.discipline.proofs.store.Invariant.{StandsFor}
use Rattle.discipline.proofs.store.Counting.{in_append_right}
use Rattle.discipline.proofs.machine.Discipline.{less}
use Rattle.discipline.proofs.machine.Spending.{less_in}
use Rattle.discipline.proofs.machine.Frames.{Setting, Ended, given, own}
use Rattle.discipline.proofs.machine.Elements.{words_of, array_length, array_depth, array_used}
use Rattle.discipline.proofs.machine.Size.{tree_adds}
use Rattle.discipline.proofs.machine.Rules.{LineRules, loop_fresh}
use Rattle.discipline.proofs.machine.Claims.{TreeClaim}
use Rattle.discipline.proofs.machine.Rewriting.{fits, element_depth, new_element, stands}
use Rattle.leaner.proofs.Leaner.{Leaner}
use Rattle.leaner.proofs.Written.{leaner_both_overwritten}
use Rattle.leaner.proofs.Runs.{Race, Starts, Twins, both, twins_bind, level_quiet, touching_quiet}
use Rattle.leaner.proofs.Beside.{Around, Known, array_same, framed_fewer, Owes}
use Rattle.leaner.proofs.Claims.{first_setting, leaner_setting, Before, TreeEnded, LineEnded, TreeTwins}
use Rattle.leaner.proofs.Binding.{known_left, line_bound}
use Rattle.leaner.proofs.Reading.{read_same, array_matching}
use Rattle.leaner.proofs.Owing.{owes_in}
use Rattle.leaner.proofs.Passes.{twin_pass, passes_twins}
use Rattle.leaner.proofs.Filling.{around_filling, around_roots, around_new, just_aside, Between, pass_before}
use Rattle.leaner.proofs.Filling.{passed_on, same_cell}
use Rattle.leaner.proofs.Copiers.{handed_reads, handed_owes, line_roots, rewriting_tree, pass_body, loop_rest}
use Rattle.leaner.proofs.Overwriting.{Rewrite, here_rewriting, rewrite_begins, overwritten_state, mixed}
use Rattle.leaner.proofs.Overwriting.{mixed_stands, mixed_within, still_once, still_numbers, rewrite_on}

module _ {r : Race} (starts : Starts r) (p : Program) (rs : List Routine) (n : ℕ) (Γ : NameDepths) where
  abbrev C : Setting
  C = first_setting r p n Γ

  abbrev C' : Setting
  C' = leaner_setting r p rs n Γ

  module _ (grows : CalleeGrows C'.meant) (trees : (t : Tree) → TreeClaim C t) (trees' : (t : Tree) → TreeClaim C' t)
      {t t' : Tree} (claim : TreeTwins r p rs n Γ [] t t') {x z : ℕ} {v : Atom} {S S' A A' : Set}
      {H H' P P' Δ Δ' X E : List ℕ} {π : ℕ → ℕ} {a a' : Around} {ρ ρ' : Frame} {k k' : ℕ} {s s' : State}
      (rules : LineRules C (loop x rewriting (z ∷ []) (v ∷ []) t) a.lent S A H P Δ)
      (rules' : LineRules C' (loop x rewriting (z ∷ []) (v ∷ []) t') a'.lent S' A' H' P' Δ')
      (need : C.need ≤ k) (need' : C'.need ≤ k')
      (q : Before r p rs n Γ X E π a a' H H' P P' ρ ρ' (suc (tree_adds t + k)) (suc (tree_adds t' + k')) s s') where
    -- the holds of the two runs once those of the arrays are spent, and the arrays' cells
    abbrev I : List ℕ
    I = less (given C (v ∷ [])) H

    abbrev J : List ℕ
    J = less (given C (v ∷ [])) H'

    abbrev c : ℕ
    c = cell_of (word ρ v)

    abbrev c' : ℕ
    c' = cell_of (word ρ' v)

    abbrev d : ℕ
    d = pred (Γ x)

    abbrev b : Around
    b = around_new c (around_roots (line_roots Γ x z v t A a ρ) a)

    abbrev b' : Around
    b' = around_new c' (around_roots (line_roots Γ x z v t' A' a' ρ') a')

    -- the arrays and the results are arrays of numbers
    depths : (Γ z ≡ 0) × (d ≡ 0)
    depths = (element_depth C' grows rules' (trees' t'), ap pred (fits C' grows rules' (trees' t')).2)

    handed_in : given C (v ∷ []) ⊆ (a'.lent ++ H')
    handed_in = handed_reads a'.lent (given C (v ∷ [])) H' rules'.holds.0

    owes : Owes [] I J
    owes = handed_owes X (given C (v ∷ [])) H H' I (λ y. omega arith) q.owes

    -- between two passes
    abbrev Rewrites : (i : ℕ) (w : ℤ) (t₁ : State) (w' : ℤ) (t₁' : State) → Type 0
    Rewrites = Between r Γ
        (Rewrite C (word ρ v) (items (value q.first.values v)) b I ρ q.first.values (tree_adds t + k)
        s.store)
        (Rewrite C' (word ρ' v) (items (value q.leaner.values v)) b' J ρ' q.leaner.values (tree_adds t' + k')
        s'.store) E π b' J ρ ρ'

    rewrites_begin : (cell s.store c).count ≡ 1 → (cell s'.store c').count ≡ 1 →
        Rewrites 0 (word ρ v) s (word ρ' v) s'
    rewrites_begin alone alone' = record {
      first = rewrite_begins (running_grows p n) rules (trees t) need q.first alone;
      leaner = rewrite_begins grows rules' (trees' t') need' q.leaner alone';
      cells = π;
      tied = q.tied;
      framed = framed_fewer (P' ++ (a'.lent ++ H')) (a'.lent ++ J)
          (known_left P' a'.lent H' J (less_in (given C (v ∷ [])) H')) q.framed;
      result = (read_same r p rs n Γ q v handed_in).cell (omega (arith, (fits C' grows rules' (trees' t')).0));
      stays = λ y h. refl;
    }

    -- ---- a pass

    array_size : length (words_of s.store (word ρ v)) ≡ length (words_of s'.store (word ρ' v))
    array_size = (array_matching r p rs n Γ q v handed_in 0 (fits C' grows rules' (trees' t')).0).size

    module _ {i : ℕ} {w : ℤ} {t₁ : State} {w' : ℤ} {t₁' : State} (f : Rewrites i w t₁ w' t₁')
        (within : i < length (words_of s'.store (word ρ' v))) where
      in_first : i < length (items (value q.first.values v))
      in_first = omega (
        arith,
        within,
        array_size,
        array_length (stands C (running_grows p n) rules (trees t) k need s q.first.situation),
      )

      in_leaner : i < length (items (value q.leaner.values v))
      in_leaner = omega (
        arith,
        within,
        array_length (stands C' grows rules' (trees' t') k' need' s' q.leaner.situation),
      )

      -- the elements are the same
      words : words_of t₁.store (word ρ v) ≡ words_of t₁'.store (word ρ' v)
      words = ap (λ (u : ℤ). words_of t₁.store u) (sym f.first.is)
          ∙ ap (λ (j : ℕ). elements (cell t₁.store j)) f.result
          ∙ f.tied.stores.numbers (cell_of w') (array_used f.leaner.between.passing.filled)
          (just_aside E f.leaner.between.passing.situation.invariant q.exempt)
          (array_depth f.leaner.between.passing.filled)
          ∙ ap (λ (u : ℤ). words_of t₁'.store u) f.leaner.is

      -- where the trees begin
      unfoldable rewrites_before : Before r p rs n Γ [] E f.cells (around_filling w b) (around_filling w' b') I J []
          [] ρ ρ' (tree_adds t + k) (tree_adds t' + k') t₁ t₁'
      unfolding pass_before here_rewriting
      rewrites_before = pass_before r p rs n Γ f (here_rewriting f.first) (here_rewriting f.leaner)
          (record { lent = q.images.lent; held = q.images.held }) owes
          (λ y h. in_append_right y (cell_of w' ∷ []) a'.aside (q.exempt y h))

      -- both trees gave the same number, which takes the element's place
      goes_on : {u : ℤ} {s₁ : State} {u' : ℤ} {s₁' : State} →
          TreeEnded r p rs n Γ d E f.cells (around_filling w' b') J ρ ρ' u s₁ u' s₁' →
          Known (Ended C d t₁.store (cell_of w ∷ a.aside) a.others I ρ q.first.values k) u s₁ →
          Known (Ended C' d t₁'.store (cell_of w' ∷ a'.aside) a'.others J ρ' q.leaner.values k') u' s₁' →
          Rewrites (suc i) w (overwritten_state w i u s₁) w' (overwritten_state w' i u' s₁')
      unfolding with_store
      goes_on {u} {s₁} {u'} {s₁'} h known known' = passed_on r p rs n Γ f h
          (λ y g. (f.leaner.between.passing.situation.lent y g).kept)
          (rewrite_on f.first in_first depths.1 known) (rewrite_on f.leaner in_leaner depths.1 known')
          record {
            level = level_quiet r _ _ (touching s₁.store (cell_of w)) (touching s₁'.store (cell_of w'))
                (touching_quiet s₁.store (cell_of w)) (touching_quiet s₁'.store (cell_of w')) h.tied.level;
            stores = subst (λ (y : ℤ). Leaner E h.cells (overwritten (cell_of w') i u' s₁'.store)
                (overwritten (cell_of w) i y s₁.store)) (sym (h.result.number depths.1))
                (subst (λ (j : ℕ). Leaner E h.cells (overwritten (cell_of w') i u' s₁'.store)
                (overwritten j i u' s₁.store)) (same_cell r p rs n Γ f h)
                (leaner_both_overwritten (cell_of w') h.tied.stores
                (omega (arith, still_once f.leaner in_leaner depths.1 known'))
                (still_numbers f.leaner in_leaner depths.1 known') i u'
                (just_aside E known'.holds.answered.invariant q.exempt)));
          }

    rewrite_pass : (i : ℕ) (w : ℤ) (t₁ : State) (w' : ℤ) (t₁' : State) →
        i < length (words_of s'.store (word ρ' v)) → Rewrites i w t₁ w' t₁' →
        Twins r (Rewrites (suc i))
        (work_pass rewriting d (pass_body C z t (after_pass x (z ∷ []) t A) b.roots ρ) (word ρ v) w i t₁)
        (work_pass rewriting d (pass_body C' z t' (after_pass x (z ∷ []) t' A') b'.roots ρ') (word ρ' v) w' i t₁')
    unfolding work_pass overwrite_word onward require rewrites_before pass_before here_rewriting
    rewrite_pass i w t₁ w' t₁' within f =
        twin_pass r p rs n Γ trees trees' z claim (rewriting_tree C (running_grows p n) rules (trees t))
        (rewriting_tree C' grows rules' (trees' t')) (owes_in [] I J owes)
        (new_element C (running_grows p n) rules (trees t)) (new_element C' grows rules' (trees' t'))
        (rewrites_before f within) need need' (word ρ v) (word ρ' v) (mixed f.first) (mixed f.leaner) i
        (array (mixed_stands f.first)) (array (mixed_stands f.leaner))
        (mixed_within f.first (in_first f within)) (mixed_within f.leaner (in_leaner f within))
        (record {
          number = λ e. ap (λ (l : List ℤ). get_or l i (pos 0)) (words f within);
          cell = λ e. absurd (omega (arith, e, depths.0));
        })
        (λ e u. require true 28 >> Machine.carried_on rewriting d (word ρ v) i w e u)
        (λ e u. require true 28 >> Machine.carried_on rewriting d (word ρ' v) i w' e u)
        (λ u s₁ u' s₁' h known known'. rw (
          eq-eqb (cell_of w) c (ap cell_of f.first.is),
          eq-eqb (cell_of w') c' (ap cell_of f.leaner.is),
        ) (both (goes_on f within h known known')))
      where
        array : {τ : Store} {u : ℤ} {y : Value} → StandsFor τ 1 u y → StandsFor τ (suc (Γ z)) u y
        array {τ} {u} {y} h = subst (λ (j : ℕ). StandsFor τ (suc j) u y) (sym depths.0) h

    -- the line, once the arrays are read and their counts tested
    pub both_in_place : (cell s.store c).count ≡ 1 → (cell s'.store c').count ≡ 1 →
        Twins r (LineEnded r p rs n Γ E π a' (own C x ++ J) [])
        (loop_rest C rewriting x z v t (after_pass x (z ∷ []) t A) (line_roots Γ x z v t A a ρ) ρ s.store (word ρ v)
        s)
        (loop_rest C' rewriting x z v t' (after_pass x (z ∷ []) t' A') (line_roots Γ x z v t' A' a' ρ') ρ' s'.store
        (word ρ' v) s')
    unfolding onward
    both_in_place alone alone' = rw array_size
        (twins_bind r (passes_twins r Rewrites _ _ (length (words_of s'.store (word ρ' v))) _ _ _ _ rewrite_pass
        (rewrites_begin alone alone'))
        (λ w t₁ w' t₁' _ _ f. rw (
          eq-eqb (cell_of w) c (ap cell_of f.first.is),
          eq-eqb (cell_of w') c' (ap cell_of f.leaner.is),
        ) (both (line_bound r p rs n Γ x (loop_fresh C' rules')
        (array_same (omega (arith, (fits C' grows rules' (trees' t')).2)) f.result) f.framed f.stays
        f.tied))))
