-- The leaves that make an array: literals, iotas and replicates.
use Rattle.prelude.specs.Kit.{ℕ, ◌≤◌, ◌+◌, ◌<◌, suc, zero, arith, true, ◌≡◌, refl, sym, subst, inl, inr, List, [], ◌∷◌}
use Rattle.prelude.specs.Kit.{◌++◌, map, ℤ, pos, nat_abs, length-map, length-replicate}
use Rattle.std.proofs.Math.ListN as List
use Rattle.semantics.specs.Basics.{tabulate}
use Rattle.semantics.specs.Outcome.{Run, onward, give}
use Rattle.semantics.specs.Kinds.{literal, iota, replicate}
use Rattle.semantics.specs.Code.{Atom}
use Rattle.semantics.specs.Annotate.{NameDepths, atom_depth}
use Rattle.semantics.specs.Machine.{State, Frame, Routine, Program, word, with_store, touching, work_leaf}
use Rattle.semantics.specs.Machine.{if_array, retain_word, retain_times, is_count}
use Rattle.semantics.specs.Store.{Store, cell, cell_of, has_free}
use Rattle.laws.specs.Lists.{◌⊆◌, tabulate_length}
use Rattle.laws.specs.Updates.{updated_same}
use Rattle.discipline.proofs.store.Change.{root_used}
use Rattle.discipline.proofs.store.Counting.{append_cases, in_append_left, in_append_right}
use Rattle.discipline.proofs.machine.Discipline.{less}
use Rattle.discipline.proofs.machine.Spending.{less_in}
use Rattle.discipline.proofs.machine.Images.{image_subset}
use Rattle.discipline.proofs.machine.Frames.{hold, Setting, given}
use Rattle.discipline.proofs.machine.Standing.{none_in}
use Rattle.discipline.proofs.machine.Atoms.{AllOfDepth, handed_first, handed_rest}
use Rattle.discipline.proofs.machine.Elements.{inside_below}
use Rattle.discipline.proofs.machine.Fits.{numbers_fit, literal_fits, replicate_fits}
use Rattle.leaner.proofs.Leaner.{Matching, matching_none, matching_more, leaner_retained}
use Rattle.leaner.proofs.Leaner.{leaner_other_retained, retained_used, image_cell, cell_used}
use Rattle.leaner.proofs.Acquired.{matching_acquired}
use Rattle.leaner.proofs.Runs.{Race, Starts, Tied, Twins, both, twin_test, level_quiet, touching_quiet}
use Rattle.leaner.proofs.Beside.{Around, Stays}
use Rattle.leaner.proofs.Claims.{first_setting, WordsGiven, Before}
use Rattle.leaner.proofs.Leaves.{LeafTwins}
use Rattle.leaner.proofs.Reading.{same_matching, read_same, read_used}
use Rattle.leaner.proofs.Acquiring.{Stored, both_free, with_new, tied_acquired, new_stays}
use Rattle.leaner.proofs.Acquiring.{acquire_gives, acquire_twins}

pub numbers_match : (π : ℕ → ℕ) (τ : Store) (l : List ℤ) → Matching π τ 0 l l
numbers_match π τ l = record { size = refl; numbers = λ e. refl; names = refl; used = λ r h. absurd (none_in r h) }

repeated_match : {π : ℕ → ℕ} {τ : Store} {d : ℕ} {w w' : ℤ} (n : ℕ) → Matching π τ d (w' ∷ []) (w ∷ []) →
    Matching π τ d (List.replicate n w') (List.replicate n w)
repeated_match {π} {τ} {d} zero m = matching_none π τ d
repeated_match (suc n) m = matching_more m (repeated_match n m)

-- cells that are in use, retained so many times
retain_twins : {r : Race} {E : List ℕ} {π : ℕ → ℕ} {A : Type 0} {Q : A → State → A → State → Type 0}
    (f f' : Unit {0} → Run State A) (w w' : ℤ) (n : ℕ) (s s' : State) → 0 < (cell s.store (cell_of w)).count →
    0 < (cell s'.store (cell_of w')).count → Tied r E π s s' →
    ((t t' : State) → Tied r E π t t' → Twins r Q (f tt t) (f' tt t')) →
    Twins r Q (onward f (retain_times n w s)) (onward f' (retain_times n w' s'))
unfolding retain_times retain_word onward with_store
retain_twins f f' w w' zero s s' used used' t next = next s s' t
retain_twins {r} f f' w w' (suc n) s s' used used' t next = retain_twins f f' w w' n _ _
    (retained_used s.store (cell_of w) used (cell_of w) used)
    (retained_used s'.store (cell_of w') used' (cell_of w') used') record {
      level = level_quiet r _ _ (touching s.store (cell_of w)) (touching s'.store (cell_of w'))
          (touching_quiet s.store (cell_of w)) (touching_quiet s'.store (cell_of w')) t.level;
      stores = leaner_retained (cell_of w') used' (leaner_other_retained (cell_of w) used t.stores);
    } next

module _ {r : Race} (starts : Starts r) (p : Program) (rs : List Routine) (n : ℕ) (Γ : NameDepths) where
  abbrev C : Setting
  C = first_setting r p n Γ

  module _ {X E : List ℕ} {π : ℕ → ℕ} {a a' : Around} {H H' P P' : List ℕ} {ρ ρ' : Frame} {k k' : ℕ} {s s' : State}
      (q : Before r p rs n Γ X E π a a' H H' P P' ρ ρ' k k' s s') where
    pub stored : Stored r a.aside a'.aside (hold ρ H ++ a.others) (hold ρ' H' ++ a'.others) s s'
    stored = record {
      clean = q.first.together.clean;
      clean_leaner = q.leaner.together.clean;
      holds = q.first.situation.invariant;
      holds_leaner = q.leaner.situation.invariant;
    }

    -- the words of atoms of one depth, all of them readable
    atoms_match : (d : ℕ) (us : List Atom) → AllOfDepth C d us → given C us ⊆ (a'.lent ++ H') →
        Matching π s'.store d (map (word ρ') us) (map (word ρ) us)
    atoms_match d [] all reads = matching_none π s'.store d
    atoms_match d (b ∷ us) all reads = matching_more
        (subst (λ (e : ℕ). Matching π s'.store e (word ρ' b ∷ []) (word ρ b ∷ [])) all.0
        (same_matching s'.store (read_same r p rs n Γ q b first) (read_used r p rs n Γ q b first)))
        (atoms_match d us all.1 (handed_rest C b us (a'.lent ++ H') reads))
      where
        first : given C (b ∷ []) ⊆ (a'.lent ++ H')
        first = handed_first C b us (a'.lent ++ H') reads

    -- what was held and is not handed over keeps its correspondence
    pub held_stays : (I : List ℕ) → I ⊆ H' → has_free s.store ≡ true →
        Stays π (with_new starts stored q.tied) (a'.aside ++ (hold ρ' I ++ a'.others))
    held_stays I fewer e c h = new_stays starts stored q.tied e c
        (root_used q.leaner.situation.invariant c (elim (append_cases c a'.aside (hold ρ' I ++ a'.others) h) [
          | inl g ↦ in_append_left c a'.aside (hold ρ' H' ++ a'.others) g
          | inr g ↦ in_append_right c a'.aside (hold ρ' H' ++ a'.others)
              (elim (append_cases c (hold ρ' I) a'.others g) [
                | inl z ↦ in_append_left c (hold ρ' H') a'.others (image_subset (λ y. cell_of (ρ' y)) I H' fewer c z)
                | inr z ↦ in_append_right c (hold ρ' H') a'.others z
              ])
        ]))

    -- a new array in both runs; whatever is done then keeps the correspondence
    array_given : {t t' : State} (I : List ℕ) → I ⊆ H' → has_free s.store ≡ true → (x d : ℕ) → Γ x ≡ suc d →
        Tied r E (with_new starts stored q.tied) t t' →
        WordsGiven r (Γ x) E π (a'.aside ++ (hold ρ' I ++ a'.others)) (pos s.store.first) t
        (pos s'.store.first) t'
    unfolding cell_of
    array_given I fewer e x d deep tied = record {
      cells = with_new starts stored q.tied;
      tied = tied;
      result = record {
        number = λ z. absurd (omega (arith, z, deep));
        cell = λ h. sym (updated_same π s'.store.first s.store.first);
      };
      stays = held_stays I fewer e;
    }

  pub twin_literal : (X : List ℕ) (d : ℕ) → LeafTwins r p rs n Γ X (literal d)
  unfolding work_leaf
  twin_literal X d x us H H' P P' E π a a' ρ ρ' k k' s s' fit fit' rule rule' q need need' Q R Q' R' =
      acquire_gives starts (stored q) q.tied Q Q' d (map (word ρ') us) (map (word ρ) us) (λ e.
      array_given q (less (given C us) H') (less_in (given C us) H') e x d depths.1
      (tied_acquired starts (stored q) q.tied d (map (word ρ') us) (map (word ρ) us) e
      (omega (arith, length-map us (word ρ'), fit.limits.0)) (atoms_match q d us depths.0 reads)))
    where
      depths : AllOfDepth C d us × (Γ x ≡ suc d)
      depths = literal_fits C us d (Γ x) fit.gives

      reads : given C us ⊆ (a'.lent ++ H')
      reads y h = in_append_right y a'.lent H' (omega (arith, h, rule'.0 y))

  pub twin_iota : (X : List ℕ) → LeafTwins r p rs n Γ X iota
  unfolding work_leaf less
  twin_iota X x [] H H' P P' E π a a' ρ ρ' k k' s s' fit fit' rule rule' q need need' =
      absurd (omega (arith, fit.limits))
  twin_iota X x (b ∷ (c ∷ us)) H H' P P' E π a a' ρ ρ' k k' s s' fit fit' rule rule' q need need' =
      absurd (omega (arith, fit.limits))
  twin_iota X x (b ∷ []) H H' P P' E π a a' ρ ρ' k k' s s' fit fit' rule rule' q need need' =
      λ Q R Q' R'.
      let depths = numbers_fit C (b ∷ []) 1 (Γ x) fit.gives in
      let w = word ρ' b in
      let ws = tabulate 0 (nat_abs w) (λ i. pos i) in
      rw ((read_same r p rs n Γ q b rule'.1).number depths.0.0)
      (twin_test r 26 _ _ (is_count w) (is_count w) refl q.tied.level (λ h.
      acquire_gives starts (stored q) q.tied Q Q' 0 ws ws (λ e.
      array_given q H' (λ y g. g) e x 0 depths.1
      (tied_acquired starts (stored q) q.tied 0 ws ws e
      (omega (arith, tabulate_length (nat_abs w) 0 (λ i. pos i), inside_below w 17 h))
      (numbers_match π s'.store ws)))))

  pub twin_replicate : (X : List ℕ) → LeafTwins r p rs n Γ X replicate
  unfolding work_leaf less onward with_store
  twin_replicate X x [] H H' P P' E π a a' ρ ρ' k k' s s' fit fit' rule rule' q need need' =
      absurd (omega (arith, fit.limits))
  twin_replicate X x (b ∷ []) H H' P P' E π a a' ρ ρ' k k' s s' fit fit' rule rule' q need need' =
      absurd (omega (arith, fit.limits))
  twin_replicate X x (b ∷ (c ∷ (d ∷ us))) H H' P P' E π a a' ρ ρ' k k' s s' fit fit' rule rule' q need need' =
      absurd (omega (arith, fit.limits))
  twin_replicate X x (b ∷ (c ∷ [])) H H' P P' E π a a' ρ ρ' k k' s s' fit fit' rule rule' q need need' =
      λ Q R Q' R'.
      let count = nat_abs (word ρ' b) in
      rw ((read_same r p rs n Γ q b (handed_first C b (c ∷ []) (a'.lent ++ H') rule'.1)).number depths.0)
      (twin_test r 26 _ _ (is_count (word ρ' b)) (is_count (word ρ' b)) refl q.tied.level (λ h.
      let few = inside_below (word ρ' b) 17 h in
      acquire_twins starts (stored q) q.tied _ _ Q Q' (atom_depth Γ c) (List.replicate count (word ρ' c))
      (List.replicate count (word ρ c)) (λ e.
      retained (atom_depth Γ c) count e _ _
      (tied_acquired starts (stored q) q.tied (atom_depth Γ c) (List.replicate count (word ρ' c))
      (List.replicate count (word ρ c)) e (omega (arith, few, length-replicate count (word ρ' c)))
      (repeated_match count words))
      (matching_acquired (atom_depth Γ c) (List.replicate count (word ρ' c)) s.store.first
      q.leaner.situation.invariant (both_free starts (stored q) q.tied e) words))))
    where
      depths : (atom_depth Γ b ≡ 0) × (atom_depth Γ c ≤ 3) × (Γ x ≡ suc (atom_depth Γ c))
      depths = replicate_fits (atom_depth Γ b) (atom_depth Γ c) (Γ x) fit.gives

      reads : given C (c ∷ []) ⊆ (a'.lent ++ H')
      reads = handed_rest C b (c ∷ []) (a'.lent ++ H') rule'.1

      words : Matching π s'.store (atom_depth Γ c) (word ρ' c ∷ []) (word ρ c ∷ [])
      words = same_matching s'.store (read_same r p rs n Γ q c reads) (read_used r p rs n Γ q c reads)

      -- what follows the acquiring, by the depth of the value
      retained : (d m : ℕ) → has_free s.store ≡ true → (t t' : State) →
          Tied r E (with_new starts (stored q) q.tied) t t' →
          Matching (with_new starts (stored q) q.tied) t'.store d (word ρ' c ∷ []) (word ρ c ∷ []) →
          Twins r (WordsGiven r (Γ x) E π (a'.aside ++ (hold ρ' H' ++ a'.others)))
          (onward (λ _. give (pos s.store.first)) (if_array d (retain_times m (word ρ c)) t))
          (onward (λ _. give (pos s'.store.first)) (if_array d (retain_times m (word ρ' c)) t'))
      retained zero m free t t' tied words =
          (both (array_given q H' (λ y g. g) free x (atom_depth Γ c) depths.2 tied))
      retained (suc d) m free t t' tied words = retain_twins _ _ (word ρ c) (word ρ' c) m t t'
          (subst (λ (i : ℕ). 0 < (cell t.store i).count) (sym (image_cell words))
          (tied.stores.used (cell_of (word ρ' c)) (cell_used words))) (cell_used words) tied
          (λ u u' h. both (array_given q H' (λ y g. g) free x (atom_depth Γ c) depths.2 h))
