-- One pass of a loop that reads its array and fills a new cell, and the line of a map.
use Rattle.prelude.specs.Kit.{ℕ, ◌≤◌, ◌+◌, ◌<◌, suc, pred, arith, true, ◌≡◌, ◌∙◌, sym, ap, subst, List, [], ◌∷◌, ◌++◌}
use Rattle.prelude.specs.Kit.{ℤ, pos, length, get_or}
use Rattle.semantics.specs.Basics.{updated}
use Rattle.semantics.specs.Outcome.{onward, ◌>>=◌, ◌>>◌, require}
use Rattle.semantics.specs.Value.{items}
use Rattle.semantics.specs.Kinds.{mapping}
use Rattle.semantics.specs.Code.{Atom, loop, Tree}
use Rattle.semantics.specs.Live.{Set, ◌∪◌, just, after_pass}
use Rattle.semantics.specs.Annotate.{NameDepths}
use Rattle.semantics.specs.Machine.{State, Frame, Routine, Program, word, held, work, work_line, work_pass}
use Rattle.semantics.specs.Machine.{Work, step, elements_of, append_word}
use Rattle.semantics.specs.Machine as Machine
use Rattle.semantics.specs.Store.{cell_of}
use Rattle.semantics.specs.Plain.{value}
use Rattle.discipline.proofs.store.Invariant.{StandsFor}
use Rattle.discipline.proofs.store.Counting.{in_append_right}
use Rattle.discipline.proofs.machine.Discipline.{less, holds_after}
use Rattle.discipline.proofs.machine.Frames.{hold, Setting, Ended}
use Rattle.discipline.proofs.machine.Elements.{words_of, array_length}
use Rattle.discipline.proofs.machine.Size.{tree_adds, line_adds}
use Rattle.discipline.proofs.machine.Rules.{loop_fresh}
use Rattle.discipline.proofs.machine.Claims.{TreeClaim}
use Rattle.discipline.proofs.machine.Passes.{element_at_pass}
use Rattle.leaner.proofs.Leaner.{Matching, matching_at}
use Rattle.leaner.proofs.Runs.{Race, Starts, Twins, both}
use Rattle.leaner.proofs.Beside.{Around, here_less, Known}
use Rattle.leaner.proofs.Claims.{first_setting, leaner_setting, Before, before_less, TreeEnded, TreeTwins}
use Rattle.leaner.proofs.Claims.{LineTwins}
use Rattle.leaner.proofs.Owing.{owes_in}
use Rattle.leaner.proofs.Reading.{array_words, read_same, matching_same}
use Rattle.leaner.proofs.Sites.{PassSite, map_site, map_depths}
use Rattle.leaner.proofs.Passes.{twin_pass}
use Rattle.leaner.proofs.Filling.{around_filling, around_new, here_filling, pass_before, both_appended}
use Rattle.leaner.proofs.Lending.{lend_before}
use Rattle.leaner.proofs.Filled.{Passed, filling_line}
use Rattle.leaner.proofs.Copiers.{Reader, still_read, lending_reader, line_roots}

module _ {r : Race} (starts : Starts r) (p : Program) (rs : List Routine) (n : ℕ) (Γ : NameDepths) where
  abbrev C : Setting
  C = first_setting r p n Γ

  abbrev C' : Setting
  C' = leaner_setting r p rs n Γ

  -- ---- the pass of a loop that reads its array

  module _ (trees : (t : Tree) → TreeClaim C t) (trees' : (t : Tree) → TreeClaim C' t) {t t' : Tree}
      (claim : TreeTwins r p rs n Γ [] t t') {E : List ℕ} {π : ℕ → ℕ} {b b' : Around} {I I' : List ℕ}
      {ρ ρ' : Frame} {m m' : ℕ} {s s' : State}
      (q : Before r p rs n Γ [] E π b b' I I' [] [] ρ ρ' (suc m) (suc m') s s') {v : Atom} {z e : ℕ} {S S' L L' : Set}
      (o : Reader C z v t S L e b I ρ q.first.values s.store)
      (o' : Reader C' z v t' S' L' e b' I' ρ' q.leaner.values s'.store)
      (image : cell_of (word ρ v) ≡ π (cell_of (word ρ' v))) (k k' : ℕ) (enough : tree_adds t + k ≤ m)
      (enough' : tree_adds t' + k' ≤ m') (need : C.need ≤ k) (need' : C'.need ≤ k') (d : ℕ) where
    -- what follows its trees gets the elements and what they gave
    pub reading_pass : (c c' i : ℕ) (w : ℤ) (t₁ : State) (w' : ℤ) (t₁' : State) →
        i < length (words_of s'.store (word ρ' v)) → (f : Passed starts p rs n Γ q d c c' i w t₁ w' t₁') →
        (finish finish' : ℤ → ℤ → Work ℤ) →
        ((x : ℤ) (s₁ : State) (x' : ℤ) (s₁' : State) → i < 16 →
        TreeEnded r p rs n Γ e E f.cells (around_filling w' (around_new c' b')) I' ρ ρ' x s₁ x' s₁' →
        Known (Ended C e t₁.store (cell_of w ∷ b.aside) b.others I ρ q.first.values k) x s₁ →
        Known (Ended C' e t₁'.store (cell_of w' ∷ b'.aside) b'.others I' ρ' q.leaner.values k') x' s₁' →
        Twins r (Passed starts p rs n Γ q d c c' (suc i))
        (finish (get_or (words_of t₁.store (word ρ v)) i (pos 0)) x s₁)
        (finish' (get_or (words_of t₁'.store (word ρ' v)) i (pos 0)) x' s₁')) →
        Twins r (Passed starts p rs n Γ q d c c' (suc i))
        ((do
          step
          ws ← elements_of (word ρ v)
          x ← work C.callee p.borrowing Γ t L (b.roots ++ (c ∷ [])) (updated ρ z (get_or ws i (pos 0)))
          finish (get_or ws i (pos 0)) x) t₁)
        ((do
          step
          ws ← elements_of (word ρ' v)
          x ← work C'.callee p.borrowing Γ t' L' (b'.roots ++ (c' ∷ [])) (updated ρ' z (get_or ws i (pos 0)))
          finish' (get_or ws i (pos 0)) x) t₁')
    unfolding pass_before here_filling here_less
    reading_pass c c' i w t₁ w' t₁' within f finish finish' next =
        twin_pass r p rs n Γ trees trees' z claim o.tree o'.tree (owes_in [] I I' q.owes) o.names
        o'.names g need need' (word ρ v) (word ρ' v) (value q.first.values v) (value q.leaner.values v) i
        array array' within_first within_leaner (matching_same (matching_at i within_now words)) finish finish'
        (λ x s₁ x' s₁' h known known'. next x s₁ x' s₁'
        (element_at_pass i g.leaner.situation.invariant array' within_leaner).few h known known')
      where
        g : Before r p rs n Γ [] E f.cells (around_filling w (around_new c b))
            (around_filling w' (around_new c' b')) I I' [] [] ρ ρ' (tree_adds t + k) (tree_adds t' + k') t₁ t₁'
        g = pass_before r p rs n Γ f (here_less (tree_adds t + k) enough (here_filling f.first))
            (here_less (tree_adds t' + k') enough' (here_filling f.leaner))
            (record { lent = q.images.lent; held = q.images.held }) q.owes
            (λ y h. in_append_right y (cell_of w' ∷ []) b'.aside (q.exempt y h))

        array : StandsFor t₁.store (suc (Γ z)) (word ρ v) (value q.first.values v)
        array = still_read o f.first

        array' : StandsFor t₁'.store (suc (Γ z)) (word ρ' v) (value q.leaner.values v)
        array' = still_read o' f.leaner

        -- the elements are the same
        words : Matching f.cells t₁'.store (Γ z) (words_of t₁'.store (word ρ' v))
            (words_of t₁.store (word ρ v))
        words = array_words (word ρ v) (word ρ' v) f.tied.stores g.leaner.situation.invariant g.exempt
            array' (image ∙ sym (f.stays (cell_of (word ρ' v)) (in_append_right (cell_of (word ρ' v)) b'.aside
            b'.others o'.kept)))
            (in_append_right (cell_of (word ρ' v)) (hold ρ' I') b'.others o'.kept)

        within_leaner : i < length (items (value q.leaner.values v))
        within_leaner = omega (arith, within, array_length o'.array)

        within_now : i < length (words_of t₁'.store (word ρ' v))
        within_now = omega (arith, within_leaner, array_length array')

        within_first : i < length (items (value q.first.values v))
        within_first = omega (arith, within_now, array_length array, words.size)

  -- ---- a map

  module _ (trees : (t : Tree) → TreeClaim C t) (trees' : (t : Tree) → TreeClaim C' t) where
    pub map_twins : (X : List ℕ) (x z : ℕ) (v : Atom) (t t' : Tree) → TreeTwins r p rs n Γ [] t t' →
        LineTwins r p rs n Γ X (loop x mapping (z ∷ []) (v ∷ []) t) (loop x mapping (z ∷ []) (v ∷ []) t')
    unfolding work_line line_adds holds_after less cell_of onward work_pass append_word require lend_before
    map_twins X x z v t t' claim S S' A A' H H' P P' Δ Δ' E π a a' ρ ρ' k k' s s' rules rules' q need need' =
        filling_line starts p rs n Γ v site.reads site'.reads q' (Γ z) site.array x d
        ((map_depths C rules).1 ∙ ap suc (sym (ap pred (map_depths C rules).1)))
        (subst (λ (e : ℕ). e ≤ 3) (sym (ap pred (map_depths C rules).1)) (map_depths C rules).0)
        (loop_fresh C' rules') Q Q' _ _
        (λ c c' i w t₁ w' t₁' within f.
        reading_pass trees trees' claim (lend_before starts p rs n Γ v site.reads site'.reads q' Q Q')
        (lending_reader site Q q'.first) (lending_reader site' Q' q'.leaner)
        ((read_same r p rs n Γ q v site'.reads).cell (omega (arith, site.array)))
        k k' (omega arith) (omega arith) need need' d c c' i w t₁ w' t₁' within f
        (λ e u. require true 28 >> Machine.carried_on mapping d (word ρ v) i w e u)
        (λ e u. require true 28 >> Machine.carried_on mapping d (word ρ' v) i w' e u) (λ u s₁ u' s₁' few h known known'.
        both (both_appended r p rs n Γ d E π _ _ _ _ ρ ρ' f h h.tied h.result q.exempt known known' few)))
      where
        d : ℕ
        d = pred (Γ x)

        Q : List ℕ
        Q = line_roots Γ x z v t A a ρ

        Q' : List ℕ
        Q' = line_roots Γ x z v t' A' a' ρ'

        site : PassSite C z v t a.lent (S ∪ just (z ∷ [])) (after_pass x (z ∷ []) t A) H d
        site = map_site C rules

        site' : PassSite C' z v t' a'.lent (S' ∪ just (z ∷ [])) (after_pass x (z ∷ []) t' A') H' d
        site' = map_site C' rules'

        q' : Before r p rs n Γ X E π a a' H H' P P' ρ ρ' (suc (tree_adds t + k)) (suc (tree_adds t' + k')) s s'
        q' = before_less r p rs n Γ (omega arith) (omega arith) q
