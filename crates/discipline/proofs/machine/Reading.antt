-- The leaves whose result holds no reference: operations, lengths and elements.
use Rattle.prelude.specs.Kit.{ℕ, arith, false, ◌≡◌, refl, sym, ap, subst, ap₂, List, [], ◌∷◌, ◌++◌, ℤ, pos, nat_abs}
use Rattle.prelude.specs.Kit.{length}
use Rattle.semantics.specs.Outcome.{onward}
use Rattle.semantics.specs.Number.{Operation, exact, fits, inside}
use Rattle.semantics.specs.Value.{Value, num, items}
use Rattle.semantics.specs.Kinds.{operation, index, length_of}
use Rattle.semantics.specs.Annotate.{atom_depth}
use Rattle.semantics.specs.Meaning.{Meter, do_leaf, do_operation, do_index, do_length}
use Rattle.semantics.specs.Machine.{State, word, with_store, work_leaf, elements_of}
use Rattle.semantics.specs.Store.{cell_of}
use Rattle.semantics.specs.Plain.{value}
use Rattle.discipline.proofs.store.Invariant.{Invariant}
use Rattle.discipline.proofs.store.Kept.{keeps_self}
use Rattle.discipline.proofs.machine.Discipline.{less}
use Rattle.discipline.proofs.machine.Growth.{bind_grows, give_grows, require_grows}
use Rattle.discipline.proofs.machine.Agreement.{Start, Together, both, after_test}
use Rattle.discipline.proofs.machine.Frames.{hold, Setting, Returned}
use Rattle.discipline.proofs.machine.Standing.{number_stands, atom_read, atom_number}
use Rattle.discipline.proofs.machine.Atoms.{handed_first}
use Rattle.discipline.proofs.machine.Elements.{words_of, array_length, array_used, inside_below, element_stands}
use Rattle.discipline.proofs.machine.Elements.{element_named}
use Rattle.discipline.proofs.machine.Situations.{touch_together}
use Rattle.discipline.proofs.machine.Fits.{numbers_fit, index_fits, length_fits}
use Rattle.discipline.proofs.machine.Claims.{LeafClaim, Gave, holds, waits, begin_step}

-- a number given, by a leaf that leaves the store alone
pub number_given : {start : Start} {Z F : List ℕ} {s : State} {m : Meter} (d : ℕ) (z : ℤ) (v : Value) → num z ≡ v →
    d ≡ 0 → Together start s m → Invariant s.store Z F → Returned start d s.store Z F z s v m
number_given {start} {Z} {F} {s} {m} d z v is e t inv =
    subst (λ (k : ℕ). Returned start k s.store Z F z s v m) (sym e) record {
      answered = record { together = t; invariant = inv; stands = number_stands z v is };
      keeps = keeps_self s.store (Z ++ F);
    }

module _ (C : Setting) where
  pub leaf_operation : (o : Operation) → LeafClaim C (operation o)
  unfolding work_leaf do_leaf do_operation less
  leaf_operation o x [] A B H P fit rule frugal = absurd (omega (arith, fit.limits))
  leaf_operation o x (a ∷ []) A B H P fit rule frugal = absurd (omega (arith, fit.limits))
  leaf_operation o x (a ∷ (b ∷ (c ∷ us))) A B H P fit rule frugal = absurd (omega (arith, fit.limits))
  leaf_operation o x (a ∷ (b ∷ [])) A B H P fit rule frugal = λ Z F R ρ δ n s m t S need.
      let depths = numbers_fit C (a ∷ (b ∷ [])) 0 (C.depths x) fit.gives in
      let r = exact o (word ρ a) (word ρ b) in
      begin_step C (λ σ. Gave C (operation o) x σ Z (hold ρ H ++ F)) false t S
      (λ u. bind_grows (require_grows _ 24) (λ _. give_grows _))
      (λ u v s' m' t' S' w.
      let same = ap₂ (exact o) (atom_number C S' a depths.0.0) (atom_number C S' b depths.0.1.0) in
      rw same (after_test 24 _ _ (fits r) (fits r) refl
      (record { low = omega arith; high = omega arith; other = λ h. omega arith }) t'
      (λ e. both (holds refl (number_given (C.depths x) r (num r) refl depths.1 t' S'.invariant)))))

  pub leaf_length : LeafClaim C length_of
  unfolding work_leaf do_leaf do_length elements_of onward with_store less
  leaf_length x [] A B H P fit rule frugal = absurd (omega (arith, fit.limits))
  leaf_length x (a ∷ (b ∷ us)) A B H P fit rule frugal = absurd (omega (arith, fit.limits))
  leaf_length x (a ∷ []) A B H P fit rule frugal = λ Z F R ρ δ n s m t S need.
      let depth = length_fits (atom_depth C.depths a) (C.depths x) fit.gives in
      begin_step C (λ σ. Gave C length_of x σ Z (hold ρ H ++ F)) false t S (λ u. give_grows _)
      (λ u v s' m' t' S' w.
      let array = atom_read C S' a depth.0 rule.1 in
      both (holds refl (number_given (C.depths x) (pos (length (words_of s'.store (word ρ a))))
      (num (pos (length (items (value δ a))))) (ap (λ (k : ℕ). num (pos k)) (sym (array_length array))) depth.1
      (touch_together (cell_of (word ρ a)) s'.store S'.invariant (array_used array) refl refl t')
      S'.invariant)))

  pub leaf_index : LeafClaim C index
  unfolding work_leaf do_leaf do_index elements_of onward with_store less
  leaf_index x [] A B H P fit rule frugal = absurd (omega (arith, fit.limits))
  leaf_index x (a ∷ []) A B H P fit rule frugal = absurd (omega (arith, fit.limits))
  leaf_index x (a ∷ (b ∷ (c ∷ us))) A B H P fit rule frugal = absurd (omega (arith, fit.limits))
  leaf_index x (a ∷ (b ∷ [])) A B H P fit rule frugal = λ Z F R ρ δ n s m t S need.
      let depth = index_fits (atom_depth C.depths a) (atom_depth C.depths b) (C.depths x) fit.gives in
      begin_step C (λ σ. Gave C index x σ Z (hold ρ H ++ F)) false t S
      (λ u. bind_grows (require_grows _ 23) (λ _. give_grows _))
      (λ u v s' m' t' S' w.
      let array = atom_read C S' a depth.0 (handed_first C a (b ∷ []) (B ++ H) rule.1) in
      let i = nat_abs (word ρ b) in
      let t'' = touch_together (cell_of (word ρ a)) s'.store S'.invariant (array_used array) refl refl t' in
      rw (atom_number C S' b depth.1)
      (after_test 23 _ _ (inside (word ρ b) (length (words_of s'.store (word ρ a))))
      (inside (word ρ b) (length (items (value δ a))))
      (ap (inside (word ρ b)) (sym (array_length array)))
      (record { low = omega arith; high = omega arith; other = λ h. omega arith }) t'' (λ h.
      let within = inside_below (word ρ b) (length (words_of s'.store (word ρ a))) h in
      both (waits refl refl t'' S'.invariant (element_stands S'.invariant array i within (num (pos 0)))
      (element_named S'.invariant array i within)))))
