-- The atoms that a line hands over: what their words hold and stand for.
use Rattle.prelude.specs.Kit.{ℕ, suc, zero, arith, ◌≡◌, refl, ◌∙◌, sym, ap, subst, ap₂, inl, inr, List, [], ◌∷◌, ◌++◌}
use Rattle.prelude.specs.Kit.{map, map-append, ℤ}
use Rattle.semantics.specs.Basics.{occurrences, ◌∈◌}
use Rattle.semantics.specs.Value.{Value, num}
use Rattle.semantics.specs.Code.{Atom}
use Rattle.semantics.specs.Annotate.{atom_depth}
use Rattle.semantics.specs.Meaning.{Env}
use Rattle.semantics.specs.Machine.{Frame, word}
use Rattle.semantics.specs.Store.{Store, cell, cell_of, named_by}
use Rattle.semantics.specs.Demands.{value_of}
use Rattle.laws.specs.Lists.{◌≈◌, ◌⊆◌, occurrences_append}
use Rattle.laws.specs.Tests.{AllEqual}
use Rattle.laws.specs.Cells.{named_by_none}
use Rattle.semantics.specs.Plain.{value}
use Rattle.discipline.proofs.store.Invariant.{Invariant, StandsFor}
use Rattle.discipline.proofs.store.Counting.{append_cases}
use Rattle.discipline.proofs.store.Change.{permute}
use Rattle.discipline.proofs.machine.Frames.{hold, named_all, Arguments, none, more, Setting, given}
use Rattle.discipline.proofs.machine.Standing.{none_in, atom_stands, handed_split, handed_named, hold_split}

pub named_by_more : (d : ℕ) (w : ℤ) (ws : List ℤ) → named_by d (w ∷ ws) ≡ named_by d (w ∷ []) ++ named_by d ws
named_by_more zero w ws = refl
named_by_more (suc d) w ws = refl

-- atoms that are all of one depth
abbrev pub AllOfDepth : Setting → ℕ → List Atom → Type 0
AllOfDepth C d us = AllEqual d (map (atom_depth C.depths) us)

module _ (C : Setting) where
  pub handed_arguments : (ρ : Frame) (us : List Atom) →
      hold ρ (given C us) ≡ named_all (map (atom_depth C.depths) us) (map (word ρ) us)
  handed_arguments ρ [] = refl
  handed_arguments ρ (a ∷ us) =
      ap (hold ρ) (handed_split C a us)
      ∙ map-append (λ y. cell_of (ρ y)) (given C (a ∷ [])) (given C us)
      ∙ ap₂ {C = List ℕ} ◌++◌ (handed_named C ρ a) (handed_arguments ρ us)

  pub handed_words : (ρ : Frame) (d : ℕ) (us : List Atom) → AllOfDepth C d us →
      hold ρ (given C us) ≡ named_by d (map (word ρ) us)
  handed_words ρ d us all = handed_arguments ρ us ∙ one_depth us all
    where
      one_depth : (us : List Atom) → AllOfDepth C d us →
          named_all (map (atom_depth C.depths) us) (map (word ρ) us) ≡ named_by d (map (word ρ) us)
      one_depth [] all = sym (named_by_none d)
      one_depth (a ∷ us) all =
          ap₂ {C = List ℕ} ◌++◌ (ap (λ (k : ℕ). named_by k (word ρ a ∷ [])) all.0) (one_depth us all.1)
          ∙ sym (named_by_more d (word ρ a) (map (word ρ) us))

  pub handed_first : (a : Atom) (us : List Atom) (H : List ℕ) → given C (a ∷ us) ⊆ H → given C (a ∷ []) ⊆ H
  handed_first a us H h n g = h n (omega (
    arith,
    ap (occurrences n) (handed_split C a us),
    occurrences_append n (given C (a ∷ [])) (given C us),
  ))

  pub handed_rest : (a : Atom) (us : List Atom) (H : List ℕ) → given C (a ∷ us) ⊆ H → given C us ⊆ H
  handed_rest a us H h n g = h n (omega (
    arith,
    ap (occurrences n) (handed_split C a us),
    occurrences_append n (given C (a ∷ [])) (given C us),
  ))

  -- what is handed over, set apart from the other holds
  pub handed_same : (ρ : Frame) (us : List Atom) (H H' F l : List ℕ) → H ≈ given C us ++ H' →
      hold ρ (given C us) ≡ l → (hold ρ H ++ F) ≈ (l ++ (hold ρ H' ++ F))
  handed_same ρ us H H' F l spends e c =
      hold_split ρ H (given C us) H' F spends c ∙ ap (λ (k : List ℕ). occurrences c (k ++ (hold ρ H' ++ F))) e

  pub hand_over : {σ : Store} {Z : List ℕ} (ρ : Frame) (us : List Atom) (H H' F l : List ℕ) → H ≈ given C us ++ H' →
      hold ρ (given C us) ≡ l → Invariant σ Z (hold ρ H ++ F) → Invariant σ Z (l ++ (hold ρ H' ++ F))
  hand_over {σ} {Z} ρ us H H' F l spends e v =
      permute Z (l ++ (hold ρ H' ++ F)) v (λ c. refl) (handed_same ρ us H H' F l spends e)

  module _ {σ : Store} {ρ : Frame} {δ : Env} (H : List ℕ) (numbers : (y : ℕ) → C.depths y ≡ 0 → num (ρ y) ≡ δ y)
      (arrays : (y : ℕ) → y ∈ H → StandsFor σ (C.depths y) (ρ y) (δ y)) where
    pub atoms_stand : (us : List Atom) → given C us ⊆ H →
        Arguments σ (map (atom_depth C.depths) us) (map (word ρ) us) (map (value δ) us)
    atoms_stand [] h = none
    atoms_stand (a ∷ us) h =
        more (atom_stands C H numbers arrays a refl (handed_first a us H h)) (atoms_stand us (handed_rest a us H h))

    -- the values of atoms of one depth
    pub atoms_mean : (d : ℕ) (us : List Atom) → AllOfDepth C d us → given C us ⊆ H →
        map (value_of σ d) (map (word ρ) us) ≡ map (value δ) us
    atoms_mean d [] all h = refl
    atoms_mean d (a ∷ us) all h =
        ap₂ {C = List Value} ◌∷◌
        (atom_stands C H numbers arrays a all.0 (handed_first a us H h)).means
        (atoms_mean d us all.1 (handed_rest a us H h))

    pub atoms_fit : (d : ℕ) (us : List Atom) → AllOfDepth C d us → given C us ⊆ H →
        (r : ℕ) → r ∈ named_by d (map (word ρ) us) → d ≡ suc (cell σ r).depth
    atoms_fit d [] all h r g = absurd (none_in r (subst (λ (l : List ℕ). r ∈ l) (named_by_none d) g))
    atoms_fit d (a ∷ us) all h r g = elim (append_cases r (named_by d (word ρ a ∷ [])) (named_by d (map (word ρ) us))
        (subst (λ (l : List ℕ). r ∈ l) (named_by_more d (word ρ a) (map (word ρ) us)) g)) [
          | inl q ↦ ((atom_stands C H numbers arrays a all.0 (handed_first a us H h)).fits r q).1
          | inr q ↦ atoms_fit d us all.1 (handed_rest a us H h) r q
        ]
