-- The leaves that make an array of given elements: literals and iotas.
use Rattle.prelude.specs.Kit.{ℕ, ◌≤◌, ◌-◌, suc, arith, true, ◌≡◌, refl, List, [], ◌∷◌, ◌++◌, map, ℤ, pos, nat_abs}
use Rattle.prelude.specs.Kit.{length-map}
use Rattle.semantics.specs.Basics.{tabulate}
use Rattle.semantics.specs.Outcome.{done, Run, ◌>>=◌, give, require}
use Rattle.semantics.specs.Value.{Value, num}
use Rattle.semantics.specs.Kinds.{literal, iota}
use Rattle.semantics.specs.Live.{among, ◌∖◌}
use Rattle.semantics.specs.Meaning.{Meter, Env, step_wants, do_leaf, do_literal, do_iota}
use Rattle.semantics.specs.Meaning as Meaning
use Rattle.semantics.specs.Machine.{State, Frame, word, held, work_leaf, is_count}
use Rattle.semantics.specs.Machine as Machine
use Rattle.semantics.specs.Store.{Store, named_by}
use Rattle.semantics.specs.Demands.{value_of}
use Rattle.laws.specs.Lists.{◌≈◌, ◌⊆◌, tabulate_length}
use Rattle.discipline.proofs.store.Tabulate.{map_tabulate}
use Rattle.semantics.specs.Plain.{value}
use Rattle.discipline.proofs.machine.Discipline.{less}
use Rattle.discipline.proofs.machine.Spending.{spend_split}
use Rattle.discipline.proofs.machine.Growth.{bind_grows, give_grows, require_grows}
use Rattle.discipline.proofs.machine.Agreement.{Together, Agree, both, after_test}
use Rattle.discipline.proofs.machine.Frames.{hold, Setting, Situation, given}
use Rattle.discipline.proofs.machine.Standing.{none_in, atom_number}
use Rattle.discipline.proofs.machine.Elements.{inside_below}
use Rattle.discipline.proofs.machine.Atoms.{AllOfDepth, handed_words, hand_over, atoms_mean, atoms_fit}
use Rattle.discipline.proofs.machine.Acquiring.{out_of_cells, acquire_gives, array_made}
use Rattle.discipline.proofs.machine.Fits.{numbers_fit, literal_fits}
use Rattle.discipline.proofs.machine.Claims.{LeafClaim, Gave, gave, begin_step}

module _ (C : Setting) where
  pub leaf_literal : (d : ℕ) → LeafClaim C (literal d)
  unfolding work_leaf do_leaf do_literal
  leaf_literal d x us A B H P fit rule frugal Z F R ρ δ n s m t S need =
      begin_step C (λ σ. Gave C (literal d) x σ Z (hold ρ H' ++ F)) true t S (λ u. give_grows _)
      (λ u v s' m' t' S' w.
      let inside : given C us ⊆ H = λ y h. omega (arith, h, rule.0 y) in
      acquire_gives (R ++ held C.depths (among us (A ∖ x)) ρ) d (map (word ρ) us) _ (give_grows _) t' (w refl)
      (out_of_cells s' (among us (A ∖ x)) S' (λ f. (frugal f).0))
      (λ e. both (gave C (suc d) refl depths.1
      (array_made d (map (word ρ) us) (map (value δ) us) t'
      (hand_over C ρ us H H' F (named_by d (map (word ρ) us)) split (handed_words C ρ d us depths.0) S'.invariant)
      e (omega (arith, length-map us (word ρ), fit.limits.0)) fit.limits.1
      (atoms_fit C H S'.numbers S'.arrays d us depths.0 inside)
      (atoms_mean C H S'.numbers S'.arrays d us depths.0 inside)))))
    where
      H' : List ℕ
      H' = less (given C us) H

      split : H ≈ given C us ++ H'
      split = spend_split (given C us) H rule.0

      depths : AllOfDepth C d us × (C.depths x ≡ suc d)
      depths = literal_fits C us d (C.depths x) fit.gives

  -- ---- arrays of so many elements

  -- a leaf that makes an array of as many elements as w says: after its step and the test of w
  pub begin_counted : (Q : Store → ℤ → State → Value → Meter → Type 0) {Z F R B H P : List ℕ} {ρ : Frame} {δ : Env}
      {k : ℕ} {s : State} {m : Meter} (w : ℤ) (f : Run State ℤ) (v : Value) → Together C.start s m →
      Situation C s.store Z F R B H P ρ δ k →
      ((s' : State) (m' : Meter) → Together C.start s' m' → Situation C s'.store Z F R B H P ρ δ k →
      nat_abs w ≤ 16 → step_wants (C.start.budget - s'.left) m'.trace ≡ true →
      Agree C.start (Q s'.store) (f s') (done v m')) →
      Agree C.start (Q s.store) ((Machine.step >>= λ _. require (is_count w) 26 >>= λ _. f) s)
      ((Meaning.step (is_count w) >>= λ _. require (is_count w) 26 >>= λ _. give v) m)
  begin_counted Q w f v t S next = begin_step C Q (is_count w) t S
      (λ u. bind_grows (require_grows _ 26) (λ _. give_grows _))
      (λ u u' s' m' t' S' wants. after_test 26 _ _ (is_count w) (is_count w) refl
      (record { low = omega arith; high = omega arith; other = λ h. omega arith }) t'
      (λ test. next s' m' t' S' (omega (arith, inside_below w 17 test)) (wants test)))

  pub leaf_iota : LeafClaim C iota
  unfolding work_leaf do_leaf do_iota less value_of
  leaf_iota x [] A B H P fit rule frugal = absurd (omega (arith, fit.limits))
  leaf_iota x (a ∷ (b ∷ us)) A B H P fit rule frugal = absurd (omega (arith, fit.limits))
  leaf_iota x (a ∷ []) A B H P fit rule frugal = λ Z F R ρ δ n s m t S need.
      let depths = numbers_fit C (a ∷ []) 1 (C.depths x) fit.gives in
      let count = nat_abs (word ρ a) in
      rw (atom_number C S a depths.0.0)
      (begin_counted (λ σ. Gave C iota x σ Z (hold ρ H ++ F)) (word ρ a) _ _ t S (λ s' m' t' S' few wants.
      acquire_gives (R ++ held C.depths (among (a ∷ []) (A ∖ x)) ρ) 0 (tabulate 0 count (λ i. pos i)) _
      (give_grows _) t' wants (out_of_cells s' (among (a ∷ []) (A ∖ x)) S' (λ f. (frugal f).0))
      (λ e. both (gave C 1 refl depths.1
      (array_made 0 (tabulate 0 count (λ i. pos i)) (tabulate 0 count (λ i. num (pos i))) t' S'.invariant e
      (omega (arith, tabulate_length count 0 (λ i. pos i), few)) (omega arith)
      (λ r h. absurd (none_in r h)) (map_tabulate (value_of s'.store 0) (λ i. pos i) 0 count))))))
