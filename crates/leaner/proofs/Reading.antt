-- Arrays that both runs read have the same words; and the leaves that make no array.
use Rattle.prelude.specs.Kit.{ℕ, ◌+◌, ◌<◌, suc, zero, arith, ◌≡◌, refl, sym, ap, subst, ap₂, List, [], ◌∷◌, ◌++◌, ℤ}
use Rattle.prelude.specs.Kit.{pos, nat_abs, length, get_or}
use Rattle.semantics.specs.Basics.{◌∈◌}
use Rattle.semantics.specs.Number.{Operation, exact, fits, inside}
use Rattle.semantics.specs.Outcome.{onward}
use Rattle.semantics.specs.Kinds.{operation, index, length_of}
use Rattle.semantics.specs.Code.{Atom}
use Rattle.semantics.specs.Annotate.{NameDepths, atom_depth}
use Rattle.semantics.specs.Machine.{State, Frame, Routine, Program, word, with_store, touching, work_leaf, elements_of}
use Rattle.semantics.specs.Store.{Store, cell, cell_of, elements}
use Rattle.laws.specs.Lists.{◌⊆◌}
use Rattle.semantics.specs.Value.{Value}
use Rattle.semantics.specs.Plain.{value}
use Rattle.discipline.proofs.store.Invariant.{Invariant, StandsFor}
use Rattle.discipline.proofs.store.Counting.{in_append_right}
use Rattle.discipline.proofs.machine.Discipline.{less}
use Rattle.discipline.proofs.machine.Frames.{hold, Setting, given}
use Rattle.discipline.proofs.machine.Standing.{atom_read, array_cell, name_held}
use Rattle.discipline.proofs.machine.Atoms.{handed_first, handed_rest}
use Rattle.discipline.proofs.machine.Elements.{words_of, array_used, array_depth, inside_below}
use Rattle.discipline.proofs.machine.Fits.{numbers_fit, index_fits, length_fits}
use Rattle.leaner.proofs.Leaner.{Leaner, Matching, matching_number, matching_cell, matching_at, matching_elements}
use Rattle.leaner.proofs.Leaner.{image_cell}
use Rattle.leaner.proofs.Runs.{Race, Tied, both, twin_test, level_quiet, touching_quiet}
use Rattle.leaner.proofs.Beside.{Around, Same, atom_same}
use Rattle.leaner.proofs.Claims.{first_setting, leaner_setting, WordsGiven, Before}
use Rattle.leaner.proofs.Leaves.{LeafTwins}

-- ---- words one by one

pub same_matching : {d : ℕ} {π : ℕ → ℕ} (τ : Store) {w w' : ℤ} → Same d π w w' →
    (0 < d → 0 < (cell τ (cell_of w')).count) → Matching π τ d (w' ∷ []) (w ∷ [])
same_matching {d} {π} τ {w} {w'} q used = go d refl
  where
    go : (k : ℕ) → d ≡ k → Matching π τ k (w' ∷ []) (w ∷ [])
    go zero e = subst (λ (z : ℤ). Matching π τ 0 (w' ∷ []) (z ∷ [])) (sym (q.number e)) (matching_number π τ w')
    go (suc k) e = matching_cell π τ k w' w (q.cell (omega (arith, e))) (used (omega (arith, e)))

pub matching_same : {d : ℕ} {π : ℕ → ℕ} {τ : Store} {w w' : ℤ} → Matching π τ d (w' ∷ []) (w ∷ []) → Same d π w w'
matching_same {d} {π} {τ} {w} {w'} m = record {
  number = λ e. ap (λ (l : List ℤ). get_or l 0 (pos 0)) (m.numbers e);
  cell = λ h. go d h m;
}
  where
    go : (k : ℕ) → 0 < k → Matching π τ k (w' ∷ []) (w ∷ []) → cell_of w ≡ π (cell_of w')
    go zero h g = absurd (omega arith)
    go (suc k) h g = image_cell g

-- ---- arrays

-- a cell that is held is not set aside, so that its numbers do not differ
pub not_exempt : {τ : Store} {Z R : List ℕ} (E : List ℕ) (c : ℕ) → Invariant τ Z R → E ⊆ Z → c ∈ R → c ∈ E → ⊥
not_exempt E c v f h g = omega (arith, h, f c g, v.alone c (f c g), v.counts c)

-- the words of an array that the leaner run's references R hold, and those of its image
pub array_words : {E : List ℕ} {π : ℕ → ℕ} {τ σ : Store} {Z R : List ℕ} {e : ℕ} {u : Value} (w w' : ℤ) →
    Leaner E π τ σ → Invariant τ Z R → E ⊆ Z → StandsFor τ (suc e) w' u → cell_of w ≡ π (cell_of w') → cell_of w' ∈ R →
    Matching π τ e (words_of τ w') (words_of σ w)
array_words {E} {π} {τ} {σ} {e = e} w w' l v exempt stands image held =
    subst (λ (c : ℕ). Matching π τ e (words_of τ w') (elements (cell σ c))) (sym image)
    (subst (λ (j : ℕ). Matching π τ j (words_of τ w') (elements (cell σ (π (cell_of w'))))) (array_depth stands)
    (matching_elements (cell_of w') l v (array_used stands) (not_exempt E (cell_of w') v exempt held)))

-- the touch of a cell in each run
pub touched_tied : {r : Race} {E : List ℕ} {π : ℕ → ℕ} {s s' : State} (c c' : ℕ) → Tied r E π s s' →
    Tied r E π (with_store s s.store (touching s.store c)) (with_store s' s'.store (touching s'.store c'))
unfolding with_store
touched_tied {r} {s = s} {s'} c c' t = record {
  level = level_quiet r s.store s'.store (touching s.store c) (touching s'.store c')
      (touching_quiet s.store c) (touching_quiet s'.store c') t.level;
  stores = t.stores;
}

module _ (r : Race) (p : Program) (rs : List Routine) (n : ℕ) (Γ : NameDepths) where
  abbrev C : Setting
  C = first_setting r p n Γ

  abbrev C' : Setting
  C' = leaner_setting r p rs n Γ

  module _ {X E : List ℕ} {π : ℕ → ℕ} {a a' : Around} {H H' P P' : List ℕ} {ρ ρ' : Frame} {k k' : ℕ} {s s' : State}
      (q : Before r p rs n Γ X E π a a' H H' P P' ρ ρ' k k' s s') (b : Atom)
      (reads : given C (b ∷ []) ⊆ (a'.lent ++ H'))
    where
      pub read_same : Same (atom_depth Γ b) π (word ρ b) (word ρ' b)
      read_same = atom_same C q.framed b (λ y h. in_append_right y P' (a'.lent ++ H') (reads y h))

      pub read_used : 0 < atom_depth Γ b → 0 < (cell s'.store (cell_of (word ρ' b))).count
      read_used h = go (atom_depth Γ b) refl h
        where
          go : (d : ℕ) → atom_depth Γ b ≡ d → 0 < d → 0 < (cell s'.store (cell_of (word ρ' b))).count
          go zero e h = absurd (omega arith)
          go (suc d) e h = array_used (atom_read C' q.leaner.situation b e reads)

      pub array_matching : (d : ℕ) → atom_depth Γ b ≡ suc d →
          Matching π s'.store d (words_of s'.store (word ρ' b)) (words_of s.store (word ρ b))
      array_matching d e =
          subst (λ (c : ℕ). Matching π s'.store d (words_of s'.store (word ρ' b)) (elements (cell s.store c)))
          (sym (read_same.cell (omega (arith, e))))
          (subst (λ (j : ℕ). Matching π s'.store j (words_of s'.store (word ρ' b))
          (elements (cell s.store (π (cell_of (word ρ' b)))))) (array_depth stands)
          (matching_elements (cell_of (word ρ' b)) q.tied.stores q.leaner.situation.invariant
          (array_used stands) (not_exempt E (cell_of (word ρ' b)) q.leaner.situation.invariant q.exempt held)))
        where
          stands : StandsFor s'.store (suc d) (word ρ' b) (value q.leaner.values b)
          stands = atom_read C' q.leaner.situation b e reads

          held : cell_of (word ρ' b) ∈ (hold ρ' H' ++ a'.others)
          held = array_cell C' ρ' (hold ρ' H' ++ a'.others) b (omega (arith, e))
              (λ y h. name_held C' q.leaner.situation y (reads y h))

  -- a number given, the same in both
  number_given : {E : List ℕ} {π : ℕ → ℕ} {K : List ℕ} {s s' : State} (d : ℕ) (z z' : ℤ) → z ≡ z' → d ≡ 0 →
      Tied r E π s s' → WordsGiven r d E π K z s z' s'
  number_given {π = π} d z z' e is t = record {
    cells = π;
    tied = t;
    result = record { number = λ h. e; cell = λ h. absurd (omega (arith, h, is)) };
    stays = λ c h. refl;
  }

  pub twin_operation : (X : List ℕ) (o : Operation) → LeafTwins r p rs n Γ X (operation o)
  unfolding work_leaf less
  twin_operation X o x [] H H' P P' E π a a' ρ ρ' k k' s s' fit fit' rule rule' q need need' =
      absurd (omega (arith, fit.limits))
  twin_operation X o x (b ∷ []) H H' P P' E π a a' ρ ρ' k k' s s' fit fit' rule rule' q need need' =
      absurd (omega (arith, fit.limits))
  twin_operation X o x (b ∷ (c ∷ (e ∷ us))) H H' P P' E π a a' ρ ρ' k k' s s' fit fit' rule rule' q need need' =
      absurd (omega (arith, fit.limits))
  twin_operation X o x (b ∷ (c ∷ [])) H H' P P' E π a a' ρ ρ' k k' s s' fit fit' rule rule' q need need' =
      λ Q R Q' R'.
      let depths = numbers_fit C (b ∷ (c ∷ [])) 0 (Γ x) fit.gives in
      let same = ap₂ (exact o)
      ((read_same q b (handed_first C b (c ∷ []) (a'.lent ++ H') rule'.1)).number depths.0.0)
      ((read_same q c (handed_rest C b (c ∷ []) (a'.lent ++ H') rule'.1)).number depths.0.1.0) in
      twin_test r 24 _ _ (fits (exact o (word ρ b) (word ρ c))) (fits (exact o (word ρ' b) (word ρ' c))) (ap fits same)
      q.tied.level (λ h. both (number_given (Γ x) _ _ same depths.1 q.tied))

  pub twin_length : (X : List ℕ) → LeafTwins r p rs n Γ X length_of
  unfolding work_leaf elements_of onward with_store less
  twin_length X x [] H H' P P' E π a a' ρ ρ' k k' s s' fit fit' rule rule' q need need' =
      absurd (omega (arith, fit.limits))
  twin_length X x (b ∷ (c ∷ us)) H H' P P' E π a a' ρ ρ' k k' s s' fit fit' rule rule' q need need' =
      absurd (omega (arith, fit.limits))
  twin_length X x (b ∷ []) H H' P P' E π a a' ρ ρ' k k' s s' fit fit' rule rule' q need need' =
      λ Q R Q' R'.
      let depth = length_fits (atom_depth Γ b) (Γ x) fit.gives in
      both (number_given (Γ x) _ _ (ap (λ (i : ℕ). pos i) (array_matching q b rule'.1 _ depth.0).size) depth.1
      (touched_tied (cell_of (word ρ b)) (cell_of (word ρ' b)) q.tied))

  pub twin_index : (X : List ℕ) → LeafTwins r p rs n Γ X index
  unfolding work_leaf elements_of onward with_store less
  twin_index X x [] H H' P P' E π a a' ρ ρ' k k' s s' fit fit' rule rule' q need need' =
      absurd (omega (arith, fit.limits))
  twin_index X x (b ∷ []) H H' P P' E π a a' ρ ρ' k k' s s' fit fit' rule rule' q need need' =
      absurd (omega (arith, fit.limits))
  twin_index X x (b ∷ (c ∷ (e ∷ us))) H H' P P' E π a a' ρ ρ' k k' s s' fit fit' rule rule' q need need' =
      absurd (omega (arith, fit.limits))
  twin_index X x (b ∷ (c ∷ [])) H H' P P' E π a a' ρ ρ' k k' s s' fit fit' rule rule' q need need' =
      λ Q R Q' R'.
      let depth = index_fits (atom_depth Γ b) (atom_depth Γ c) (Γ x) fit.gives in
      let words = array_matching q b (handed_first C b (c ∷ []) (a'.lent ++ H') rule'.1) (Γ x) depth.0 in
      let same = (read_same q c (handed_rest C b (c ∷ []) (a'.lent ++ H') rule'.1)).number depth.1 in
      let t = touched_tied (cell_of (word ρ b)) (cell_of (word ρ' b)) q.tied in
      rw same (twin_test r 23 _ _ (inside (word ρ' c) (length (words_of s.store (word ρ b))))
      (inside (word ρ' c) (length (words_of s'.store (word ρ' b)))) (ap (inside (word ρ' c)) words.size)
      t.level (λ h.
      let within = inside_below (word ρ' c) (length (words_of s.store (word ρ b))) h in
      both record {
        cells = π;
        tied = t;
        result = matching_same (matching_at (nat_abs (word ρ' c)) (omega (arith, within, words.size)) words);
        stays = λ c h. refl;
      }))
