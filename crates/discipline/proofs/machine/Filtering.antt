-- The line of a filter: its cell is reserved, and each element whose guard is 1 is retained and put there; both runs
-- stop at a guard that is neither 1 nor 0.
use Rattle.prelude.specs.Kit.{ℕ, ◌≤◌, ◌+◌, ◌<◌, suc, pred, arith, true, false, Bool, cond, ◌≡◌, refl, ◌∙◌, sym, ap}
use Rattle.prelude.specs.Kit.{subst, List, [], ◌∷◌, ◌++◌, ℤ, pos, length, get_or}
use Rattle.semantics.specs.Basics.{◌∈◌}
use Rattle.semantics.specs.Number.{is_zero, is_answer}
use Rattle.semantics.specs.Outcome.{done, onward, ◌>>=◌, ◌>>◌, give, require}
use Rattle.semantics.specs.Value.{Value, num, items, number_in}
use Rattle.semantics.specs.Kinds.{filtering}
use Rattle.semantics.specs.Code.{Atom, loop, Tree, ending}
use Rattle.semantics.specs.Live.{Set, after_pass}
use Rattle.semantics.specs.Annotate.{atom_depth}
use Rattle.semantics.specs.Meaning.{Meter, Env, do_pass, do_loop, with_item}
use Rattle.semantics.specs.Meaning as Meaning
use Rattle.semantics.specs.Machine.{State, Frame, word, work_line, work_pass, append_word, retain_word, if_array, work}
use Rattle.semantics.specs.Machine.{binding}
use Rattle.semantics.specs.Machine as Machine
use Rattle.semantics.specs.Store.{Store, cell, cell_of, named_by}
use Rattle.semantics.specs.Sound.{all_inner}
use Rattle.semantics.specs.Demands.{root}
use Rattle.laws.specs.Lists.{occurs_first, occurrences_append}
use Rattle.semantics.specs.Plain.{value, run, run_line}
use Rattle.discipline.proofs.normal.Trace.{CalleeGrows}
use Rattle.discipline.proofs.store.Invariant.{StandsFor}
use Rattle.discipline.proofs.store.Counting.{in_append_left, in_append_right}
use Rattle.discipline.proofs.store.Cells.{agree_elements}
use Rattle.discipline.proofs.store.Change.{held_used}
use Rattle.discipline.proofs.store.Kept.{alike_trans, stands_kept}
use Rattle.discipline.proofs.machine.Discipline.{less}
use Rattle.discipline.proofs.machine.Growth.{give_grows, require_grows, bind_grows, pass_grows, tree_grows}
use Rattle.discipline.proofs.machine.Agreement.{Agree, both, after_test}
use Rattle.discipline.proofs.machine.Frames.{hold, Room, Setting, Ended}
use Rattle.discipline.proofs.machine.Standing.{named_few, stands_held, atom_read, stands_number}
use Rattle.discipline.proofs.machine.Binding.{ended_depth}
use Rattle.discipline.proofs.machine.Elements.{words_of, array_used, array_depth}
use Rattle.discipline.proofs.machine.Size.{tree_adds, line_adds}
use Rattle.discipline.proofs.machine.Situations.{situation_less, room_less}
use Rattle.discipline.proofs.machine.Retaining.{retained_array, retains_array, WordRetained, word_retained}
use Rattle.discipline.proofs.machine.Fits.{filter_fits, first_same}
use Rattle.discipline.proofs.machine.Rules.{LineRules}
use Rattle.discipline.proofs.machine.Claims.{TreeClaim, LineClaim}
use Rattle.discipline.proofs.machine.Passes.{Item, element_at_pass, lent_array, lent_cell}
use Rattle.discipline.proofs.machine.Sites.{Site, loop_site, one_part, site_reads}
use Rattle.discipline.proofs.machine.Filling.{still_lent}
use Rattle.discipline.proofs.machine.Filled.{Fills, start_holds, inside, lent, others, Between, Carried}
use Rattle.discipline.proofs.machine.Filled.{filling_pass, put_behind, put_nothing, filling_line}

-- An element u that is retained after a tree that gave a number: it is as if the tree had given the element.
element_kept : (C : Setting) (d : ℕ) {τ : Store} {Z F I : List ℕ} {ρ : Frame} {δ : Env} {k : ℕ} {r : ℤ} {s : State}
    {v : Value} {m : Meter} → Ended C 0 τ Z F I ρ δ k r s v m → Room Z (hold ρ I ++ F) (suc k) → (u : ℤ) (x : Value) →
    StandsFor s.store d u x → (0 < d → cell_of u ∈ all_inner s.store.cells) →
    Ended C d τ Z F I ρ δ k u (retained_array d u s) x m
element_kept C d {Z = Z} {F} {I} {ρ} {s = s} {m = m} E room u x stands named = record {
  answered = record {
    together = r.together;
    invariant = r.invariant;
    stands = stands_kept stands (λ q h.
        (r.alike q, held_used r.invariant q (in_append_left q (named_by d (u ∷ [])) (hold ρ I ++ F) h)));
  };
  room = record {
    few = λ q. omega (
      arith,
      room.few q,
      named_few q d u,
      occurrences_append q (named_by d (u ∷ [])) (hold ρ I ++ F),
    );
  };
  arrays = λ y h. stands_held ρ y I h (E.arrays y h) (λ q g. r.alike q)
      (λ q g. held_used r.invariant q (in_append_right q (named_by d (u ∷ [])) (hold ρ I ++ F)
      (in_append_left q (hold ρ I) F g)));
  keeps = record { keep = λ q h. alike_trans (E.keeps.keep q h) (r.alike q) };
}
  where
    r : WordRetained C.start d u Z (hold ρ I ++ F) s (retained_array d u s) m
    r = word_retained d u E.answered.together E.answered.invariant (λ h. omega (arith, named h))
        (room_less 1 room (omega arith))

module _ (C : Setting) {x p : ℕ} {a : Atom} {t : Tree} {B : List ℕ} {T A : Set} {H P Δ : List ℕ}
    (rules : LineRules C (loop x filtering (p ∷ []) (a ∷ []) t) B T A H P Δ) (claim : TreeClaim C t) where
  -- the depth of the elements, the array's and the result's
  abbrev d : ℕ
  d = pred (C.depths x)

  fits : (atom_depth C.depths (ending t) ≡ 0) × (C.depths x ≡ atom_depth C.depths a)
  fits = filter_fits (atom_depth C.depths a) (atom_depth C.depths (ending t)) (C.depths x)
      rules.fits.0.gives

  site : Site C x filtering (p ∷ []) (a ∷ []) t a p B T A H P Δ
  site = loop_site C rules refl refl (first_same rules.fits.0.names) rules.fits.0.deep

  element_depth : C.depths p ≡ d
  element_depth = sym (ap pred (fits.1 ∙ site.array))

  pub filter_fills : Fills C x filtering (p ∷ []) (a ∷ []) t a p B T A H P Δ d
  filter_fills = record {
    site = site;
    claim = claim;
    spends = refl;
    carries = refl;
    new = rules.scoped.2.0.unknown;
    result = ap suc (sym element_depth) ∙ sym site.array ∙ sym fits.1;
  }

  module _ (Z F R : List ℕ) (ρ : Frame) (δ : Env) (n : ℕ) where
    -- during a pass: the references of others, the names lent and the holds from outside
    abbrev O : List ℕ
    O = others C filter_fills Z F ρ δ (suc (tree_adds t)) n

    abbrev L : List ℕ
    L = lent C filter_fills

    abbrev I : List ℕ
    I = inside C filter_fills

    abbrev array : ℤ
    array = word ρ a

    -- after the tree the element is where it was
    module _ {σ τ : Store} {i : ℕ} {w : ℤ} {v : Value}
        (between : Between C filter_fills Z F ρ δ (suc (tree_adds t)) n R σ i w v τ)
        (within : i < length (items (value δ a))) {r : ℤ} {s : State} {y : Value} {m : Meter}
        (E : Ended C 0 τ (cell_of w ∷ Z) O I ρ δ n r s y m) where
      abbrev element : ℤ
      element = get_or (words_of τ array) i (pos 0)

      abbrev meant_element : Value
      meant_element = get_or (items (value δ a)) i (num (pos 0))

      pub words_same : words_of s.store array ≡ words_of τ array
      words_same = agree_elements (cell s.store (cell_of array)) (cell τ (cell_of array))
          ((E.keeps.keep (cell_of array) (in_append_right (cell_of array) (cell_of w ∷ Z) O
          (lent_cell C a B (start_holds C filter_fills) between.situation.lent rules.fits.0.deep))
          ).cells (cell_of array) (root (cell_of array) (occurs_first (cell_of array) [])))

      item : Item s.store (C.depths p) array (value δ a) i
      item = element_at_pass i E.answered.invariant (lent_array C a B (start_holds C filter_fills)
          between.situation.numbers (still_lent C d Z O R L I ρ δ (suc (tree_adds t) + n) between E)
          site.array) within

      stands : StandsFor s.store d element meant_element
      stands = subst (λ (ws : List ℤ). StandsFor s.store d (get_or ws i (pos 0)) meant_element) words_same
          (subst (λ (e : ℕ). StandsFor s.store e (get_or (words_of s.store array) i (pos 0)) meant_element)
          element_depth item.stands)

      named : 0 < d → cell_of element ∈ all_inner s.store.cells
      named h = subst (λ (ws : List ℤ). cell_of (get_or ws i (pos 0)) ∈ all_inner s.store.cells) words_same
          (item.named (omega (arith, h, element_depth)))

      pub kept : Ended C d τ (cell_of w ∷ Z) O I ρ δ n element (retained_array d element s) meant_element m
      kept = element_kept C d E (room_less (suc n) between.situation.room (omega arith)) element meant_element
          stands named

      -- the element is left out or kept
      chosen : i < 16 → (b : Bool) →
          Agree C.start (Carried C filter_fills Z F ρ δ (suc (tree_adds t)) n R σ (suc i))
          (cond b (give w) (do if_array d (retain_word element); append_word w element; give w) s)
          (done (cond b v (with_item v meant_element)) m)
      unfolding append_word onward
      chosen few true = both (put_nothing C filter_fills Z F ρ δ (suc (tree_adds t)) n between E)
      chosen few false = rw (retains_array d element s)
          (both (put_behind C filter_fills Z F ρ δ (suc (tree_adds t)) n between few kept))

    filter_pass : CalleeGrows C.meant → C.need ≤ n → (σ : Store) (i : ℕ) (w : ℤ) (v : Value) (s : State)
        (m : Meter) → i < length (items (value δ a)) →
        Carried C filter_fills Z F ρ δ (suc (tree_adds t)) n R σ i w s v m →
        Agree C.start (Carried C filter_fills Z F ρ δ (suc (tree_adds t)) n R σ (suc i))
        (work_pass filtering d (λ vs. work C.callee C.program.borrowing C.depths t
        (after_pass x (p ∷ []) t A) R (binding (p ∷ []) vs ρ)) array w i s)
        (do_pass filtering (λ vs. run C.meant t (Meaning.binding (p ∷ []) vs δ)) v
        (get_or (items (value δ a)) i (num (pos 0))) m)
    unfolding work_pass do_pass
    filter_pass grows need σ i w v s m within q =
        filling_pass C filter_fills Z F ρ δ (suc (tree_adds t)) n grows R (omega arith) need
        (λ e r. require (is_answer r) 28 >> Machine.carried_on filtering d array i w e r)
        (λ r. require (is_answer (number_in r)) 28 >>
        give (Meaning.carried_on filtering v (get_or (items (value δ a)) i (num (pos 0))) r))
        (λ r. bind_grows (require_grows (is_answer (number_in r)) 28) (λ _. give_grows _)) within q
        (λ τ r s' y m' between item E.
        let E' = ended_depth C fits.0 E in
        rw (ap number_in (sym (stands_number refl E'.answered.stands)))
        (after_test 28 _ _ (is_answer r) (is_answer r) refl
        (record { low = omega arith; high = omega arith; other = λ h. omega arith }) E'.answered.together
        (λ answer. chosen between within E' item.few (is_zero r))))

module _ (C : Setting) (grows : CalleeGrows C.meant) where
  filter_line : (x p : ℕ) (a : Atom) (t : Tree) → TreeClaim C t → LineClaim C (loop x filtering (p ∷ []) (a ∷ []) t)
  unfolding work_line run_line do_loop line_adds cell_of less onward
  filter_line x p a t claim B T A H P Δ rules Z F R ρ δ n s m tog S need =
      filling_line C (filter_fills C rules claim) Z F ρ δ (suc (tree_adds t)) n R _ _
      (pass_grows filtering _ (λ vs. tree_grows C.meant grows t _)) shallow
      (λ c. filter_pass C rules claim Z F _ ρ δ n grows need) s m tog
      (situation_less (suc (suc (tree_adds t) + n)) S (omega arith))
    where
      stands : StandsFor s.store (suc (C.depths p)) (word ρ a) (value δ a)
      stands = atom_read C S a (site C rules claim).array (site_reads C (site C rules claim))

      -- the array is one of the store's, and so no deeper than they are
      shallow : pred (C.depths x) ≤ 3
      shallow = omega (
        arith,
        array_depth stands,
        (S.invariant.tidy (cell_of (word ρ a)) (array_used stands)).depth,
        element_depth C rules claim,
      )

  pub line_filtering : (x : ℕ) (ps : List ℕ) (us : List Atom) (t : Tree) → TreeClaim C t →
      LineClaim C (loop x filtering ps us t)
  line_filtering x ps us t claim = one_part C filtering ps us t refl (λ Γ vs. refl) (λ p a. filter_line x p a t claim)
