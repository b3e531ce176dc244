-- The passes of a loop, over what is carried from one to the next; the element that a pass is about; and the array,
-- which a loop lends to its passes.
use Rattle.prelude.specs.Kit.{ℕ, ◌≤◌, ◌+◌, ◌<◌, suc, arith, dec_lt, true, false, Bool, ◌≡◌, refl, ◌∙◌, sym, ap, subst}
use Rattle.prelude.specs.Kit.{ap₂, inl, inr, List, [], ◌∷◌, ◌++◌, append_assoc, append-nil, ℤ, pos, length, get_or}
use Rattle.prelude.specs.Kit.{length-append, get_or-append_seam}
use Rattle.semantics.specs.Basics.{tabulate, occurrences, ◌∈◌, with_if}
use Rattle.semantics.specs.Outcome.{Run, passes}
use Rattle.semantics.specs.Value.{Value, num, items}
use Rattle.semantics.specs.Code.{Atom, number, name}
use Rattle.semantics.specs.Annotate.{atom_depth, is_array}
use Rattle.semantics.specs.Meaning.{Meter, Env}
use Rattle.semantics.specs.Live.{Set}
use Rattle.semantics.specs.Machine.{State, Frame, word, held}
use Rattle.semantics.specs.Store.{Store, cell, cell_of}
use Rattle.semantics.specs.Sound.{all_inner}
use Rattle.laws.specs.Lists.{◌≈◌, ◌⊆◌, occurrences_append, hits}
use Rattle.semantics.specs.Plain.{value}
use Rattle.discipline.proofs.store.Invariant.{Invariant, StandsFor, Tidy}
use Rattle.discipline.proofs.store.Counting.{append_cases, in_append_left, in_append_right}
use Rattle.discipline.proofs.machine.Discipline.{less, unlent, ◌⊑◌, Covered}
use Rattle.discipline.proofs.machine.Spending.{spend_split, unlent_few, lent_or_not, unlent_not_lent}
use Rattle.discipline.proofs.machine.Images.{image_in, image_fewer}
use Rattle.discipline.proofs.machine.Growth.{Grows, passes_grow}
use Rattle.discipline.proofs.machine.Agreement.{Start, Agree, both, agree_bind}
use Rattle.discipline.proofs.machine.Frames.{hold, Setting, Lent, given}
use Rattle.discipline.proofs.machine.Standing.{atom_stands, array_cell}
use Rattle.discipline.proofs.machine.Elements.{words_of, array_length, array_used, elements_length, element_stands}
use Rattle.discipline.proofs.machine.Elements.{element_named}
use Rattle.discipline.proofs.machine.Acquiring.{roots_cover}

-- ---- passes

-- What is carried is a word for the machine and a value for the meaning. If each pass carries it on, so do all of them.
module _ {start : Start} (Carried : ℕ → ℤ → State → Value → Meter → Type 0) (f : ℤ → ℕ → Run State ℤ)
    (g : Value → Value → Run Meter Value) (vs : List Value) (grows : (v w : Value) → Grows (g v w))
    (pass : (i : ℕ) (c : ℤ) (v : Value) (s : State) (m : Meter) → i < length vs → Carried i c s v m →
    Agree start (Carried (suc i)) (f c i s) (g v (get_or vs i (num (pos 0))) m)) where
  rest_agree : (ws pre : List Value) (i : ℕ) (c : ℤ) (v : Value) (s : State) (m : Meter) → vs ≡ pre ++ ws →
      length pre ≡ i → Carried i c s v m →
      Agree start (Carried (length vs)) (passes f c (tabulate i (length ws) (λ k. k)) s) (passes g v ws m)
  unfolding passes tabulate
  rest_agree [] pre i c v s m split place q = both
      (subst (λ (k : ℕ). Carried k c s v m) (sym (ap length (split ∙ append-nil pre) ∙ place)) q)
  rest_agree (w ∷ ws) pre i c v s m split place q = agree_bind
      (subst (λ (u : Value). Agree start (Carried (suc i)) (f c i s) (g v u m)) item (pass i c v s m within q))
      (λ u. passes_grow g grows u ws)
      (λ c' s' v' m' q'. rest_agree ws (pre ++ (w ∷ [])) (suc i) c' v' s' m'
      (split ∙ sym (append_assoc pre (w ∷ []) ws)) (length-append pre (w ∷ []) ∙ omega (arith, place)) q')
    where
      within : i < length vs
      within = omega (arith, ap length split, length-append pre (w ∷ ws), place)

      item : get_or vs i (num (pos 0)) ≡ w
      item = ap₂ (λ (l : List Value) (k : ℕ). get_or l k (num (pos 0))) split (sym place)
          ∙ get_or-append_seam pre w ws (num (pos 0))

  pub passes_agree : (k : ℕ) (c : ℤ) (v : Value) (s : State) (m : Meter) → length vs ≡ k → Carried 0 c s v m →
      Agree start (Carried (length vs)) (passes f c (tabulate 0 k (λ i. i)) s) (passes g v vs m)
  passes_agree k c v s m e q = subst (λ (j : ℕ).
      Agree start (Carried (length vs)) (passes f c (tabulate 0 j (λ i. i)) s) (passes g v vs m)) e
      (rest_agree vs [] 0 c v s m refl refl q)

-- ---- the element of a pass

-- element i of an array w of value v
pub record Item (σ : Store) (d : ℕ) (w : ℤ) (v : Value) (i : ℕ) : Type 0 where
  pub used : 0 < (cell σ (cell_of w)).count
  pub few : i < 16
  pub stands : StandsFor σ d (get_or (words_of σ w) i (pos 0)) (get_or (items v) i (num (pos 0)))
  pub named : 0 < d → cell_of (get_or (words_of σ w) i (pos 0)) ∈ all_inner σ.cells

pub element_at_pass : {σ : Store} {Z R : List ℕ} {d : ℕ} {w : ℤ} {v : Value} (i : ℕ) → Invariant σ Z R →
    StandsFor σ (suc d) w v → i < length (items v) → Item σ d w v i
element_at_pass {σ} {w = w} i inv array h = record {
  used = array_used array;
  few = omega (arith, within, elements_length (cell σ (cell_of w)) tidy, tidy.size);
  stands = element_stands inv array i within (num (pos 0));
  named = element_named inv array i within;
}
  where
    within : i < length (words_of σ w)
    within = omega (arith, h, array_length array)

    tidy : Tidy (cell σ (cell_of w))
    tidy = inv.tidy (cell_of w) (array_used array)

-- ---- the array, lent to the passes

module _ (C : Setting) (a : Atom) (B H : List ℕ) where
  -- its hold, set aside if it is not lent already; the other holds; the names lent
  abbrev pub kept_aside : List ℕ
  kept_aside = unlent B (given C (a ∷ []))

  abbrev pub outer : List ℕ
  outer = less kept_aside H

  abbrev pub lent_names : List ℕ
  lent_names = given C (a ∷ []) ++ B

  once : (b : Bool) (x n : ℕ) → occurrences n (with_if b x [] ++ []) ≤ 1
  unfolding occurrences
  once true x n = elim (hits n x) [ inl g ↦ omega (arith, g.1) | inr g ↦ omega (arith, g.1) ]
  once false x n = omega arith

  pub given_few : (a : Atom) (n : ℕ) → occurrences n (given C (a ∷ [])) ≤ 1
  unfolding occurrences
  given_few (number z) n = omega arith
  given_few (name x) n = once (is_array C.depths x) x n

  module _ (reads : given C (a ∷ []) ⊆ (B ++ H)) where
    pub aside_in : kept_aside ⊆ H
    aside_in n h = elim (append_cases n B H (reads n (omega (arith, h, unlent_few B (given C (a ∷ [])) n)))) [
      | inl g ↦ absurd (omega (arith, g, unlent_not_lent B (given C (a ∷ [])) n h))
      | inr g ↦ g
    ]

    aside_held : kept_aside ⊑ H
    aside_held n = elim (dec_lt 0 (occurrences n kept_aside)) [
      | yes h ↦ omega (arith, aside_in n h, given_few a n, unlent_few B (given C (a ∷ [])) n)
      | no h ↦ omega (arith, h)
    ]

    -- what the passes may not spend is among the roots of the line
    pub lend_rooted : (Z F R : List ℕ) (ρ : Frame) (G : List ℕ) (A : Set) → H ⊑ G → (Z ++ F) ⊆ R →
        Covered C.depths G A → (Z ++ (hold ρ kept_aside ++ F)) ⊆ (R ++ held C.depths A ρ)
    lend_rooted Z F R ρ G A more rooted covered q h = roots_cover C Z F R G A ρ rooted covered q (omega (
      arith,
      h,
      occurrences_append q Z (hold ρ kept_aside ++ F),
      occurrences_append q (hold ρ kept_aside) F,
      occurrences_append q Z (hold ρ G ++ F),
      occurrences_append q (hold ρ G) F,
      image_fewer (λ y. cell_of (ρ y)) kept_aside G (λ n. omega (arith, aside_held n, more n)) q,
    ))

    pub lend_split : H ≈ kept_aside ++ outer
    lend_split = spend_split kept_aside H aside_held

    -- the names lent stand, and their cells are among what others hold
    pub lend : {σ : Store} {F : List ℕ} {ρ : Frame} {δ : Env} →
        ((y : ℕ) → y ∈ H → StandsFor σ (C.depths y) (ρ y) (δ y)) →
        ((y : ℕ) → y ∈ B → Lent σ F (C.depths y) (ρ y) (δ y)) →
        (y : ℕ) → y ∈ lent_names → Lent σ (hold ρ kept_aside ++ F) (C.depths y) (ρ y) (δ y)
    lend {σ} {F} {ρ} {δ} arrays lent y h = elim (append_cases y (given C (a ∷ [])) B h) [
      | inl g ↦ elim (lent_or_not B (given C (a ∷ [])) y g) [
        | inl q ↦ by_others y q
        | inr q ↦ record {
          stands = arrays y (aside_in y q);
          kept = in_append_left (cell_of (ρ y)) (hold ρ kept_aside) F (image_in (λ z. cell_of (ρ z)) y kept_aside q);
        }
      ]
      | inr g ↦ by_others y g
    ]
      where
        by_others : (y : ℕ) → y ∈ B → Lent σ (hold ρ kept_aside ++ F) (C.depths y) (ρ y) (δ y)
        by_others y q = record {
          stands = (lent y q).stands;
          kept = in_append_right (cell_of (ρ y)) (hold ρ kept_aside) F (lent y q).kept;
        }

  -- the array is among the names lent
  pub lent_array : {τ : Store} {F : List ℕ} {ρ : Frame} {δ : Env} {d : ℕ} →
      ((y : ℕ) → C.depths y ≡ 0 → num (ρ y) ≡ δ y) →
      ((y : ℕ) → y ∈ lent_names → Lent τ F (C.depths y) (ρ y) (δ y)) →
      atom_depth C.depths a ≡ d → StandsFor τ d (word ρ a) (value δ a)
  lent_array numbers lent e = atom_stands C lent_names numbers (λ y h. (lent y h).stands) a e
      (λ n h. in_append_left n (given C (a ∷ [])) B h)

  -- and its cell is among those of others
  pub lent_cell : {τ : Store} {F : List ℕ} {ρ : Frame} {δ : Env} →
      ((y : ℕ) → y ∈ lent_names → Lent τ F (C.depths y) (ρ y) (δ y)) → 0 < atom_depth C.depths a →
      cell_of (word ρ a) ∈ F
  lent_cell {F = F} {ρ} lent deep =
      array_cell C ρ F a deep (λ y h. (lent y (in_append_left y (given C (a ∷ [])) B h)).kept)

  -- after the passes the names held before stand: those set aside are lent, the others are held
  pub lend_back : {τ : Store} {F : List ℕ} {ρ : Frame} {δ : Env} → given C (a ∷ []) ⊆ (B ++ H) →
      ((y : ℕ) → y ∈ lent_names → Lent τ F (C.depths y) (ρ y) (δ y)) →
      ((y : ℕ) → y ∈ outer → StandsFor τ (C.depths y) (ρ y) (δ y)) →
      (y : ℕ) → y ∈ H → StandsFor τ (C.depths y) (ρ y) (δ y)
  lend_back reads lent arrays y h = elim (append_cases y kept_aside outer (omega (arith, h, lend_split reads y))) [
    | inl g ↦ (lent y (in_append_left y (given C (a ∷ [])) B
        (omega (arith, g, unlent_few B (given C (a ∷ [])) y)))).stands
    | inr g ↦ arrays y g
  ]
