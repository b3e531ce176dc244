-- An array of numbers that is rewritten in its own cell: before a pass it has the results so far, and after them the
-- elements to come.
use Rattle.prelude.specs.Kit.{ℕ, ◌≤◌, ◌<◌, suc, zero, arith, ◌≡◌, refl, ◌∙◌, sym, ap, ap₂, List, [], ◌∷◌, ◌++◌, map}
use Rattle.prelude.specs.Kit.{append_assoc, ℤ, pos, length, get_or, set, drop, length-append, length-drop, drop-cons}
use Rattle.prelude.specs.Kit.{get_or-append_seam, set-append_seam}
use Rattle.semantics.specs.Value.{Value, num, list, items}
use Rattle.semantics.specs.Meaning.{Meter, Env, with_item}
use Rattle.semantics.specs.Machine.{State, Frame, with_store, touching}
use Rattle.semantics.specs.Store.{Store, cell, cell_of, elements, overwritten}
use Rattle.semantics.specs.Demands.{value_of}
use Rattle.laws.specs.Values.{items_list}
use Rattle.discipline.proofs.store.Invariant.{StandsFor}
use Rattle.discipline.proofs.store.Overwrite.{Overwrites, overwrite}
use Rattle.discipline.proofs.machine.Agreement.{Together}
use Rattle.discipline.proofs.machine.Frames.{hold, Setting, Ended}
use Rattle.discipline.proofs.machine.Standing.{stands_number}
use Rattle.discipline.proofs.machine.Elements.{array_items, array_length, array_depth, elements_length}
use Rattle.discipline.proofs.machine.Acquiring.{cell_stands}
use Rattle.discipline.proofs.machine.Situations.{touch_together}
use Rattle.discipline.proofs.machine.Filling.{Passing, filling, once, still_filled, written_situation}
use Rattle.discipline.proofs.machine.Filling.{written_keeps}

-- ---- results in the places of the first elements

module _ (l vs : List Value) (i : ℕ) (e : length l ≡ i) where
  pub mixed_length : i ≤ length vs → length (l ++ drop i vs) ≡ length vs
  mixed_length h = omega (arith, length-append l (drop i vs), length-drop i vs, e, h)

  -- the element of a pass is still there
  pub element_to_come : (d : Value) → i < length vs → get_or (l ++ drop i vs) i d ≡ get_or vs i d
  element_to_come d h = ap₂ (λ (m : List Value) (k : ℕ). get_or (l ++ m) k d) (drop-cons vs i d h) (sym e)
      ∙ get_or-append_seam l (get_or vs i d) (drop (suc i) vs) d

  -- its result takes its place
  result_put : (v : Value) → i < length vs → set (l ++ drop i vs) i v ≡ (l ++ (v ∷ [])) ++ drop (suc i) vs
  result_put v h = ap₂ (λ (m : List Value) (k : ℕ). set (l ++ m) k v) (drop-cons vs i (num (pos 0)) h) (sym e)
      ∙ set-append_seam l (get_or vs i (num (pos 0))) (drop (suc i) vs) v
      ∙ sym (append_assoc l (v ∷ []) (drop (suc i) vs))

map_set : {A B : Type 0} (f : A → B) (l : List A) (i : ℕ) (a : A) → map f (set l i a) ≡ set (map f l) i (f a)
map_set f [] i a = refl
map_set f (x ∷ l) zero a = refl
map_set {B = B} f (x ∷ l) (suc i) a = ap (λ (m : List B). f x ∷ m) (map_set f l i a)

-- ---- between two passes

-- The array's word is a, and its values were vs; F, R, L and I are as for a loop that fills a new cell.
module _ (C : Setting) (a : ℤ) (vs : List Value) (Z F R L I : List ℕ) (ρ : Frame) (δ : Env) (n : ℕ) where
  -- i passes are done, and gave v
  pub record Rewriting (σ : Store) (i : ℕ) (v : Value) (τ : Store) : Type 0 where
    pub passing : Passing C 0 Z F R L I ρ δ n σ (length vs) a (list (items v ++ drop i vs)) τ
    pub whole : list (items v) ≡ v
    pub many : length (items v) ≡ i

  module _ {σ τ : Store} {i k : ℕ} {x : Value} (P : Rewriting σ i x τ) (within : i < length vs) {r : ℤ} {s : State}
      {v : Value} {m : Meter} (E : Ended C 0 τ (cell_of a ∷ Z) F I ρ δ k r s v m) where
    abbrev after : Store
    after = overwritten (cell_of a) i r s.store

    still : StandsFor s.store 1 a (list (items x ++ drop i vs))
    still = still_filled C 0 Z F R L I ρ δ n P.passing E

    alone : (cell s.store (cell_of a)).count ≡ 1
    alone = once C 0 Z F R L I ρ δ n P.passing E

    inside : i < (cell s.store (cell_of a)).size
    inside = omega (
      arith,
      within,
      array_length still,
      ap length (items_list (items x ++ drop i vs)),
      mixed_length (items x) vs i P.many (omega (arith, within)),
      elements_length (cell s.store (cell_of a))
          (E.answered.invariant.tidy (cell_of a) (omega (arith, alone))),
    )

    overwrites : Overwrites s.store after (cell_of a) i r (cell_of a ∷ Z) (hold ρ I ++ F)
    overwrites = overwrite (cell_of a) i r E.answered.invariant (filling C 0 Z F R L I ρ δ n P.passing E) inside
        (array_depth still)

    results : items (with_item x v) ≡ items x ++ (v ∷ [])
    results = items_list (items x ++ (v ∷ []))

    value_now : value_of after 1 a ≡ list (items (with_item x v) ++ drop (suc i) vs)
    unfolding value_of
    value_now = ap (λ (l : List ℤ). list (map (value_of after 0) l)) overwrites.new.elements
        ∙ ap (λ (l : List Value). list l)
        (map_set (value_of after 0) (elements (cell s.store (cell_of a))) i r
        ∙ ap₂ (λ (l : List Value) (u : Value). set l i u)
        (sym (array_items still) ∙ items_list (items x ++ drop i vs)) (stands_number refl E.answered.stands)
        ∙ result_put (items x) vs i P.many v within
        ∙ ap (λ (l : List Value). l ++ drop (suc i) vs) (sym results))

    one_longer : length (items (with_item x v)) ≡ suc i
    one_longer = omega (arith, ap length results, length-append (items x) (v ∷ []), P.many)

    pub pass_rewritten : Rewriting σ (suc i) (with_item x v) after
    pass_rewritten = record {
      passing = record {
        situation = written_situation C 0 Z F R L I ρ δ n P.passing E overwrites.holds overwrites.alike;
        filled = cell_stands 0 a (list (items (with_item x v) ++ drop (suc i) vs)) value_now
            (omega (arith, alone, overwrites.new.count)) (overwrites.new.depth ∙ array_depth still);
        size = omega (
          arith,
          ap length (items_list (items (with_item x v) ++ drop (suc i) vs)),
          mixed_length (items (with_item x v)) vs (suc i) one_longer (omega (arith, within)),
        );
        keeps = written_keeps C 0 Z F R L I ρ δ n P.passing E overwrites.holds overwrites.alike;
      };
      whole = ap (λ (l : List Value). list l) results;
      many = one_longer;
    }

    pub rewritten_together : Together C.start (with_store s after (touching s.store (cell_of a))) m
    rewritten_together = touch_together (cell_of a) after E.answered.invariant (omega (arith, alone))
        overwrites.free overwrites.cells E.answered.together
