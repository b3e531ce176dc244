-- The lines of two maps that rewrite their arrays. Where nothing else refers to the array in the first run, nothing
-- does in the leaner one, and both rewrite it in its own cell; else the first fills a new cell and releases the array.
use Rattle.prelude.specs.Kit.{ℕ, ◌≤◌, ◌+◌, ◌<◌, suc, pred, arith, true, false, Bool, cond, false≢true, ◌≡◌, refl, ◌∙◌}
use Rattle.prelude.specs.Kit.{sym, subst, List, [], ◌∷◌, ◌++◌, eqb, ℤ, ne_eqb, eq-eqb, eqb-true}
use Rattle.semantics.specs.Basics.{updated}
use Rattle.semantics.specs.Outcome.{done, onward, ◌>>=◌, ◌>>◌, give}
use Rattle.semantics.specs.Kinds.{rewriting}
use Rattle.semantics.specs.Code.{Atom, loop, Tree}
use Rattle.semantics.specs.Live.{Set, ◌∪◌, just, after_pass}
use Rattle.semantics.specs.Annotate.{NameDepths, atom_depth}
use Rattle.semantics.specs.Machine.{State, Frame, Routine, Program, word, with_store, with_left, work_line}
use Rattle.semantics.specs.Machine.{elements_of, acquire, release_word, is_alone}
use Rattle.semantics.specs.Machine as Machine
use Rattle.semantics.specs.Store.{cell, cell_of}
use Rattle.laws.specs.Lists.{◌⊆◌}
use Rattle.discipline.proofs.normal.Trace.{CalleeGrows, running_grows}
use Rattle.discipline.proofs.store.Invariant.{Invariant}
use Rattle.discipline.proofs.store.Release as Store_release
use Rattle.discipline.proofs.store.Counting.{in_append_right}
use Rattle.discipline.proofs.machine.Discipline.{less, holds_after}
use Rattle.discipline.proofs.machine.Spending.{less_in}
use Rattle.discipline.proofs.machine.Frames.{hold, Setting, given, own}
use Rattle.discipline.proofs.machine.Standing.{atom_read}
use Rattle.discipline.proofs.machine.Elements.{array_used}
use Rattle.discipline.proofs.machine.Size.{tree_adds, line_adds}
use Rattle.discipline.proofs.machine.Rules.{LineRules, loop_fresh}
use Rattle.discipline.proofs.machine.Claims.{TreeClaim}
use Rattle.discipline.proofs.machine.Rewriting.{looked_at, fits, before}
use Rattle.leaner.proofs.Alone.{leaner_alone_too}
use Rattle.leaner.proofs.Released.{first_released}
use Rattle.leaner.proofs.Runs.{Race, Starts, Twins, both, after_step}
use Rattle.leaner.proofs.Beside.{Around, array_same, images_held}
use Rattle.leaner.proofs.Claims.{first_setting, leaner_setting, Before, before_less, LineEnded, TreeTwins}
use Rattle.leaner.proofs.Claims.{LineTwins}
use Rattle.leaner.proofs.Binding.{known_left, line_bound}
use Rattle.leaner.proofs.Owing.{owes_in}
use Rattle.leaner.proofs.Reading.{read_same, touched_tied}
use Rattle.leaner.proofs.Filling.{around_new, filling_images, PassesDone}
use Rattle.leaner.proofs.Filled.{read_before}
use Rattle.leaner.proofs.Copiers.{new_apart, Copier, handed_reads, handed_owes, around_kept, line_roots}
use Rattle.leaner.proofs.Copiers.{keeping_copier, loop_rest, rewriting_fills}
use Rattle.leaner.proofs.Copied.{kept_first, copied}
use Rattle.leaner.proofs.InPlace.{in_place}
use Rattle.leaner.proofs.BothInPlace.{both_in_place}
use Rattle.leaner.proofs.Rewriting.{here_looked}

module _ {r : Race} (starts : Starts r) (p : Program) (rs : List Routine) (n : ℕ) (Γ : NameDepths) where
  abbrev C : Setting
  C = first_setting r p n Γ

  abbrev C' : Setting
  C' = leaner_setting r p rs n Γ

  -- both look at a cell in use
  both_looked : {X E : List ℕ} {π : ℕ → ℕ} {a a' : Around} {H H' P P' : List ℕ} {ρ ρ' : Frame} {k k' : ℕ}
      {s s' : State} (c c' : ℕ) → Before r p rs n Γ X E π a a' H H' P P' ρ ρ' k k' s s' → 0 < (cell s.store c).count →
      0 < (cell s'.store c').count →
      Before r p rs n Γ X E π a a' H H' P P' ρ ρ' k k' (looked_at c s) (looked_at c' s')
  both_looked c c' q used used' = record {
    first = here_looked c q.first used;
    leaner = here_looked c' q.leaner used';
    tied = touched_tied c c' q.tied;
    framed = q.framed;
    images = q.images;
    owes = q.owes;
    exempt = q.exempt;
  }

  module _ (grows : CalleeGrows C'.meant) (trees : (t : Tree) → TreeClaim C t) (trees' : (t : Tree) → TreeClaim C' t)
    where
      module _ {x z : ℕ} {v : Atom} {t t' : Tree} {S S' A A' : Set} {H H' P P' Δ Δ' X E : List ℕ} {π : ℕ → ℕ}
          {a a' : Around} {ρ ρ' : Frame} {k k' : ℕ} {s s' : State}
          (rules : LineRules C (loop x rewriting (z ∷ []) (v ∷ []) t) a.lent S A H P Δ)
          (rules' : LineRules C' (loop x rewriting (z ∷ []) (v ∷ []) t') a'.lent S' A' H' P' Δ')
          (need : C.need ≤ k) (need' : C'.need ≤ k')
          (q : Before r p rs n Γ X E π a a' H H' P P' ρ ρ' (suc (tree_adds t + k)) (suc (tree_adds t' + k')) s s') where
        -- the holds of the two runs once those of the arrays are spent, and the arrays' cells
        abbrev I : List ℕ
        I = less (given C (v ∷ [])) H

        abbrev J : List ℕ
        J = less (given C (v ∷ [])) H'

        abbrev c : ℕ
        c = cell_of (word ρ v)

        abbrev c' : ℕ
        c' = cell_of (word ρ' v)

        fewer : J ⊆ I
        fewer = owes_in [] I J (handed_owes X (given C (v ∷ [])) H H' I (λ y. omega arith) q.owes)

        image : c ≡ π c'
        image = (read_same r p rs n Γ q v (handed_reads a'.lent (given C (v ∷ [])) H' rules'.holds.0)).cell
            (omega (arith, (fits C' grows rules' (trees' t')).0))

        -- where nothing else refers to the array in the first run, nothing does in the leaner one
        alone_too : (cell s.store c).count ≡ 1 → (cell s'.store c').count ≡ 1
        alone_too alone = leaner_alone_too c' q.tied.stores
            (before C' grows rules' (trees' t') k' need' s' q.leaner.situation)
            (subst (λ (j : ℕ). Invariant s.store a.aside (j ∷ (hold ρ I ++ a.others))) image
            (before C (running_grows p n) rules (trees t) k need s q.first.situation))
            (images_held I J q.images q.framed (λ y h. known_left P' a'.lent H' J
            (less_in (given C (v ∷ [])) H') y (in_append_right y a'.lent J h)) fewer)
            (subst (λ (j : ℕ). (cell s.store j).count ≡ 1) image alone)

        -- the first keeps its array while it fills a new cell, and then releases it
        o : Copier C z v t (S ∪ just (z ∷ [])) (after_pass x (z ∷ []) t A) (pred (Γ x)) a
            (around_kept c (line_roots Γ x z v t A a ρ) a) H I ρ (suc (tree_adds t + k)) s
        o = keeping_copier (running_grows p n) rules (trees t) need q.first

        releases : {i : ℕ} (c₁ : ℕ) (w : ℤ) (t₁ : State) (w' : ℤ) (t₂' : State) →
            PassesDone r p rs n Γ (pred (Γ x)) (around_new c₁ (around_kept c (line_roots Γ x z v t A a ρ) a)) I ρ
            o.here.values (tree_adds t + k) s.store E π a' J ρ' i w t₁ w' t₂' →
            Twins r (LineEnded r p rs n Γ E π a' (own C x ++ J) [])
            ((Machine.loop_ends rewriting (word ρ v) w >> give (updated ρ x w)) t₁) (done (updated ρ' x w') t₂')
        unfolding onward release_word
        releases c₁ w t₁ w' t₂' f = rw (ne_eqb (cell_of w) c (new_apart o.reads f.first))
            (both (line_bound r p rs n Γ x (loop_fresh C' rules')
            (array_same (omega (arith, (fits C' grows rules' (trees' t')).2)) f.result) f.framed f.stays
            (first_released c f.tied f.leaner
            (Store_release.release c (kept_first c (hold ρ I) a.others f.first.passing.situation.invariant))
            (images_held I J (filling_images a a' w w' q.images f.result f.stays) f.framed
            (λ y h. in_append_right y a'.lent J h) fewer))))

        -- by what the counts of the two arrays are
        chosen : TreeTwins r p rs n Γ [] t t' → (g g' : Bool) → eqb (cell s.store c).count 1 ≡ g →
            eqb (cell s'.store c').count 1 ≡ g' →
            Twins r (LineEnded r p rs n Γ E π a' (own C x ++ J) [])
            (onward (loop_rest C rewriting x z v t (after_pass x (z ∷ []) t A) (line_roots Γ x z v t A a ρ) ρ
            s.store) (cond g (give (word ρ v)) (acquire (line_roots Γ x z v t A a ρ) (pred (Γ x)) []) s))
            (onward (loop_rest C' rewriting x z v t' (after_pass x (z ∷ []) t' A') (line_roots Γ x z v t' A' a' ρ') ρ'
            s'.store) (cond g' (give (word ρ' v)) (acquire (line_roots Γ x z v t' A' a' ρ') (pred (Γ x)) []) s'))
        unfolding onward
        chosen claim true true e e' = both_in_place starts p rs n Γ grows trees trees' claim rules rules' need need' q
            (eqb-true (cell s.store c).count 1 e) (eqb-true (cell s'.store c').count 1 e')
        chosen claim true false e e' = absurd (false≢true (sym e' ∙ eq-eqb (cell s'.store c').count 1
            (alone_too (eqb-true (cell s.store c).count 1 e))))
        chosen claim false true e e' = in_place starts p rs n Γ grows trees trees' claim rules' need need' q o
            (eqb-true (cell s'.store c').count 1 e') rewriting rewriting_fills releases
        chosen claim false false e e' = copied starts p rs n Γ grows trees trees' claim rules' need need' q o rewriting
            rewriting_fills releases

      pub rewritings_twins : (X : List ℕ) (x z : ℕ) (v : Atom) (t t' : Tree) → TreeTwins r p rs n Γ [] t t' →
          LineTwins r p rs n Γ X (loop x rewriting (z ∷ []) (v ∷ []) t) (loop x rewriting (z ∷ []) (v ∷ []) t')
      unfolding work_line line_adds holds_after onward elements_of is_alone with_store with_left
      rewritings_twins X x z v t t' claim S S' A A' H H' P P' Δ Δ' E π a a' ρ ρ' k k' s s' rules rules' q need need' =
          after_step r _ _ q.tied (λ j j' f f' tied.
          chosen rules rules' need need' (both_looked (cell_of (word ρ v)) (cell_of (word ρ' v))
          (read_before starts p rs n Γ v reads reads' q' 0 array j j' f f' tied)
          (array_used (atom_read C q.first.situation v array reads))
          (array_used (atom_read C' q.leaner.situation v array reads'))) claim _ _ refl refl)
        where
          array : atom_depth Γ v ≡ 1
          array = (fits C' grows rules' (trees' t')).0

          reads : given C (v ∷ []) ⊆ (a.lent ++ H)
          reads = handed_reads a.lent (given C (v ∷ [])) H rules.holds.0

          reads' : given C (v ∷ []) ⊆ (a'.lent ++ H')
          reads' = handed_reads a'.lent (given C (v ∷ [])) H' rules'.holds.0

          q' : Before r p rs n Γ X E π a a' H H' P P' ρ ρ' (suc (tree_adds t + k)) (suc (tree_adds t' + k')) s s'
          q' = before_less r p rs n Γ (omega arith) (omega arith) q
