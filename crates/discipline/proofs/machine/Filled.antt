-- The line of a loop that fills a new cell, whatever its passes put there: a map's and a filter's.
use Rattle.prelude.specs.Kit.{ℕ, ◌≤◌, ◌+◌, ◌<◌, suc, arith, true, false, ◌≡◌, refl, sym, ap, subst, List, [], ◌∷◌, ◌++◌}
use Rattle.prelude.specs.Kit.{ℤ, pos, length, get_or}
use Rattle.semantics.specs.Basics.{updated, tabulate}
use Rattle.semantics.specs.Outcome.{Run, onward, passes, ◌>>=◌, ◌>>◌, give}
use Rattle.semantics.specs.Value.{Value, num, list, items}
use Rattle.semantics.specs.Kinds.{Loop, loop_hands, carried_name}
use Rattle.semantics.specs.Code.{Atom, loop, Tree, ending}
use Rattle.semantics.specs.Live.{Set, ◌∪◌, just, among, after_pass}
use Rattle.semantics.specs.Annotate.{atom_depth}
use Rattle.semantics.specs.Meaning.{Meter, Env, with_item}
use Rattle.semantics.specs.Meaning as Meaning
use Rattle.semantics.specs.Machine.{State, Frame, word, with_store, touching, held, elements_of, acquire, work}
use Rattle.semantics.specs.Machine as Machine
use Rattle.semantics.specs.Store.{Store, cell_of, appended}
use Rattle.semantics.specs.Plain.{value, run}
use Rattle.discipline.proofs.normal.Trace.{CalleeGrows}
use Rattle.discipline.proofs.machine.Discipline.{Covered, handed, holds_of, loop_holds, less, holds_after}
use Rattle.discipline.proofs.machine.Growth.{Grows, give_grows, bind_grows, passes_grow}
use Rattle.discipline.proofs.machine.Agreement.{Together, Agree, both, agree_assoc, agree_bind}
use Rattle.discipline.proofs.machine.Frames.{hold, Setting, Situation, Ended, Going, own}
use Rattle.discipline.proofs.machine.Standing.{atom_read}
use Rattle.discipline.proofs.machine.Binding.{name_bound, ended_less, ended_depth}
use Rattle.discipline.proofs.machine.Elements.{words_of, array_length, array_used}
use Rattle.discipline.proofs.machine.Acquiring.{out_of_cells, acquire_together, acquire_agrees}
use Rattle.discipline.proofs.machine.Size.{tree_adds}
use Rattle.discipline.proofs.machine.Situations.{situation_less, touch_together}
use Rattle.discipline.proofs.machine.Rules.{TreeRules, fresh, loop_fresh}
use Rattle.discipline.proofs.machine.Claims.{TreeClaim, begin_step}
use Rattle.discipline.proofs.machine.Passes.{Item, passes_agree, kept_aside, outer, lent_names, lent_array}
use Rattle.discipline.proofs.machine.Passes.{lend_rooted}
use Rattle.discipline.proofs.machine.Sites.{Site, site_reads, site_names, site_tree}
use Rattle.discipline.proofs.machine.Filling.{Passing, pass_done, pass_together, pass_kept, reserves, first_pass}
use Rattle.discipline.proofs.machine.Filling.{filled_ended, lending, lent_back}
use Rattle.discipline.proofs.machine.Bodies.{pass_begins}

-- A loop that fills a cell with elements of depth d: it hands over nothing, and no name of a pass holds what is
-- carried.
pub record Fills (C : Setting) (x : ℕ) (k : Loop) (ps : List ℕ) (us : List Atom) (t : Tree) (a : Atom) (p : ℕ)
    (B : List ℕ) (T A : Set) (H P Δ : List ℕ) (d : ℕ) : Type 0 where
  pub site : Site C x k ps us t a p B T A H P Δ
  pub claim : TreeClaim C t
  pub spends : loop_hands k us ≡ []
  pub carries : carried_name k ps ≡ []
  pub new : T p ≡ false
  pub result : suc d ≡ C.depths x

module _ (C : Setting) {x : ℕ} {k : Loop} {ps : List ℕ} {us : List Atom} {t : Tree} {a : Atom} {p : ℕ} {B : List ℕ}
    {T A : Set} {H P Δ : List ℕ} {d : ℕ} (f : Fills C x k ps us t a p B T A H P Δ d) where
  -- what is held at the line's beginning, of that what a pass has from outside, and the names lent to it
  abbrev pub start_holds : List ℕ
  start_holds = loop_holds C.depths k us H

  abbrev pub inside : List ℕ
  inside = outer C a B start_holds

  abbrev pub lent : List ℕ
  lent = lent_names C a B start_holds

  all_held : H ≡ start_holds
  unfolding less
  all_held = sym (ap (λ (l : List Atom). less (handed C.depths l) H) f.spends)

  tree_rules : TreeRules C t lent (T ∪ just ps) (after_pass x ps t A) inside (own C p) inside
      (atom_depth C.depths (ending t))
  tree_rules = subst (λ (l : List ℕ). TreeRules C t lent (T ∪ just ps) (after_pass x ps t A)
      (holds_of C.depths l ++ inside) (own C p) inside (atom_depth C.depths (ending t))) f.carries
      (site_tree C f.site)

  -- n references more may come, and j during a pass
  module _ (Z F : List ℕ) (ρ : Frame) (δ : Env) (j n : ℕ) where
    -- the references of others, that of the array among them
    abbrev pub others : List ℕ
    others = hold ρ (kept_aside C a B start_holds) ++ F

    -- between two passes, with the roots Q, if before the first the store was σ
    abbrev pub Between : List ℕ → Store → ℕ → ℤ → Value → Store → Type 0
    Between Q σ i w v τ = Passing C d Z others Q lent inside ρ δ (j + n) σ i w v τ

    abbrev pub Carried : List ℕ → Store → ℕ → ℤ → State → Value → Meter → Type 0
    Carried Q σ i w s v m = Together C.start s m × Between Q σ i w v s.store

    -- ---- a pass

    -- what follows its tree gets the element and what the tree gave
    pub filling_pass : CalleeGrows C.meant → (Q : List ℕ) {σ : Store} {i : ℕ} {w : ℤ} {v : Value} {s : State}
        {m : Meter} → tree_adds t ≤ j → C.need ≤ n → (finish : ℤ → ℤ → Machine.Work ℤ)
        (meant_finish : Value → Meaning.Work Value) → ((y : Value) → Grows (meant_finish y)) →
        i < length (items (value δ a)) → Carried Q σ i w s v m →
        ((τ : Store) (r : ℤ) (s' : State) (y : Value) (m' : Meter) → Between Q σ i w v τ →
        Item τ (C.depths p) (word ρ a) (value δ a) i →
        Ended C (atom_depth C.depths (ending t)) τ (cell_of w ∷ Z) others inside ρ δ n r s' y m' →
        Agree C.start (Carried Q σ (suc i)) (finish (get_or (words_of τ (word ρ a)) i (pos 0)) r s')
        (meant_finish y m')) →
        Agree C.start (Carried Q σ (suc i))
        ((do
          Machine.step
          ws ← elements_of (word ρ a)
          r ← work C.callee C.program.borrowing C.depths t (after_pass x ps t A) Q
              (updated ρ p (get_or ws i (pos 0)))
          finish (get_or ws i (pos 0)) r) s)
        ((do
          Meaning.step false
          r ← run C.meant t (updated δ p (get_or (items (value δ a)) i (num (pos 0))))
          meant_finish r) m)
    filling_pass grows Q {σ} {i} {w} {v} enough need finish meant_finish finishes within q next =
        pass_begins C grows p f.claim tree_rules (fresh p f.new (site_names C f.site)) (cell_of w ∷ Z) others Q
        ρ δ n need (word ρ a) (value δ a) (Between Q σ i w v)
        (λ τ P'. situation_less (tree_adds t + n) P'.situation (omega (arith, enough)))
        (λ τ P'. lent_array C a B start_holds P'.situation.numbers P'.situation.lent f.site.array)
        finish meant_finish finishes within q.0 q.1 next

    -- what the tree gave is put behind the elements
    pub put_behind : {Q : List ℕ} {σ τ : Store} {i : ℕ} {w r : ℤ} {v y : Value} {s : State} {m : Meter} →
        Between Q σ i w v τ → i < 16 → Ended C d τ (cell_of w ∷ Z) others inside ρ δ n r s y m →
        Carried Q σ (suc i) w (with_store s (appended (cell_of w) r s.store) (touching s.store (cell_of w)))
        (with_item v y) m
    unfolding with_store
    put_behind {Q} P' few E = (
      pass_together C d Z others Q lent inside ρ δ (j + n) P' few E,
      pass_done C d Z others Q lent inside ρ δ (j + n) P' few E,
    )

    -- nothing is put there
    pub put_nothing : {Q : List ℕ} {σ τ : Store} {i : ℕ} {w r : ℤ} {v y : Value} {s : State} {m : Meter} →
        Between Q σ i w v τ → Ended C 0 τ (cell_of w ∷ Z) others inside ρ δ n r s y m → Carried Q σ (suc i) w s v m
    put_nothing {Q} P' E = (E.answered.together, pass_kept C d Z others Q lent inside ρ δ (j + n) P' E)

    -- ---- the line

    -- while a cell is wanted the names of `want` are live
    abbrev want : Set
    want = among us (after_pass x ps t A)

    covered : C.start.frugal ≡ true → Covered C.depths start_holds want
    covered q = subst (λ (l : List ℕ). Covered C.depths l want) all_held (f.site.rules.frugal q).0

    module _ (R : List ℕ) where
      abbrev pub roots : List ℕ
      roots = R ++ held C.depths want ρ

      -- the machine's pass has the new cell for one of its roots
      pub filling_line : (g : ℤ → ℤ → ℕ → Run State ℤ) (h : Value → Value → Run Meter Value) →
          ((v w : Value) → Grows (h v w)) → d ≤ 3 →
          ((c : ℕ) (σ : Store) (i : ℕ) (w : ℤ) (v : Value) (s : State) (m : Meter) → i < length (items (value δ a)) →
          Carried (roots ++ (c ∷ [])) σ i w s v m → Agree C.start (Carried (roots ++ (c ∷ [])) σ (suc i))
          (g (pos c) w i s) (h v (get_or (items (value δ a)) i (num (pos 0))) m)) →
          (s : State) (m : Meter) → Together C.start s m →
          Situation C s.store Z F R B H P ρ δ (suc (j + n)) →
          Agree C.start (Going C (loop x k ps us t) s.store Z F R B H Δ ρ δ n)
          ((do
            Machine.step
            ws ← elements_of (word ρ a)
            c ← acquire roots d []
            w ← passes (g c) c (tabulate 0 (length ws) (λ i. i))
            give (updated ρ x w)) s)
          ((do
            v ← (do Meaning.step true; passes h (list []) (items (value δ a)))
            give (updated δ x v)) m)
      unfolding onward elements_of with_store holds_after
      filling_line g h grow shallow pass s m tog S = agree_assoc _ _ (Meaning.step true m) (begin_step C
          (λ σ. Going C (loop x k ps us t) σ Z F R B H Δ ρ δ n) true tog
          (subst (λ (l : List ℕ). Situation C s.store Z F R B l P ρ δ (suc (j + n))) all_held S)
          (λ u. bind_grows all_grow (λ v. give_grows _))
          (λ u v s' m' t' S' w.
          let stands = atom_read C S' a f.site.array (site_reads C f.site) in
          let t'' = touch_together (cell_of (word ρ a)) s'.store S'.invariant (array_used stands) refl refl t' in
          acquire_agrees roots d [] _ _ (bind_grows all_grow (λ v. give_grows _)) t'' (w refl)
          (out_of_cells (with_store s' s'.store (touching s'.store (cell_of (word ρ a)))) want S' covered)
          (λ free.
          let lends = lending C a B start_holds (site_reads C f.site) roots
          (λ q. lend_rooted C a B start_holds (site_reads C f.site) Z F R ρ start_holds want (λ i. omega arith)
          (S'.rooted q) (covered q)) S' in
          agree_bind
          (passes_agree (Carried (roots ++ (s'.store.first ∷ [])) s'.store) (g (pos s'.store.first)) h
          (items (value δ a)) grow (pass s'.store.first s'.store)
          (length (words_of s'.store (word ρ a))) (pos s'.store.first) (list []) _ m' (array_length stands) (
            acquire_together d [] (reserves C d (j + n) lends free shallow).taken t'',
            first_pass C d (j + n) lends free shallow,
          ))
          (λ v. give_grows _)
          (λ w s'' v m'' q. both (name_bound C (loop x k ps us t) start_holds refl refl (loop_fresh C f.site.rules) S'
          (ended_depth C f.result (ended_less C n (omega arith) (lent_back C a B start_holds
          (site_reads C f.site) q.1.situation.lent (filled_ended C d q.0 q.1)))))))))
        where
          all_grow : Grows (passes h (list []) (items (value δ a)))
          all_grow = passes_grow h grow (list []) (items (value δ a))
