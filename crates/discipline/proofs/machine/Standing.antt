-- Words that stand for values: what names and atoms hold, and what stays after a change of the store.
use Rattle.prelude.specs.Kit.{ℕ, ◌≤◌, ◌<◌, suc, zero, arith, true, false, Bool, ◌≡◌, refl, ◌∙◌, sym, ap, subst, ap₂}
use Rattle.prelude.specs.Kit.{inl, inr, ◌≢◌, List, [], ◌∷◌, ◌++◌, append-nil, map-append, ltb, ℤ, lt-ltb}
use Rattle.laws.specs.Updates.{updated_same, updated_there}
use Rattle.semantics.specs.Basics.{occurrences, ◌∈◌, with_if, updated}
use Rattle.semantics.specs.Value.{Value, num, number_in}
use Rattle.semantics.specs.Code.{Atom, number, name}
use Rattle.semantics.specs.Annotate.{atom_depth}
use Rattle.semantics.specs.Meaning.{Env}
use Rattle.semantics.specs.Machine.{Frame, word}
use Rattle.semantics.specs.Store.{Store, cell, cell_of, named_by}
use Rattle.semantics.specs.Demands.{value_of}
use Rattle.laws.specs.Lists.{◌≈◌, ◌⊆◌, hits, occurrences_append, occurs_first}
use Rattle.semantics.specs.Plain.{value}
use Rattle.discipline.proofs.store.Invariant.{Alike, Keeps, StandsFor}
use Rattle.discipline.proofs.store.Counting.{append_cases, in_append_left, in_append_right}
use Rattle.discipline.proofs.store.Kept.{stands_kept}
use Rattle.discipline.proofs.machine.Images.{image_in, image_same, image_alike, apart}
use Rattle.discipline.proofs.machine.Frames.{hold, Setting, Situation, Lent, own, given}

-- ---- what one word names

pub none_in : (y : ℕ) → y ∈ [] → ⊥
unfolding occurrences
none_in y h = omega arith

pub named_one : (d : ℕ) (w : ℤ) (r : ℕ) → r ∈ named_by d (w ∷ []) → r ≡ cell_of w
unfolding occurrences
named_one zero w r h = absurd (omega arith)
named_one (suc d) w r h = elim (hits r (cell_of w)) [ inl g ↦ g.0 | inr g ↦ absurd (omega arith) ]

pub names_one : (d : ℕ) (w : ℤ) → 0 < d → cell_of w ∈ named_by d (w ∷ [])
names_one zero w h = absurd (omega arith)
names_one (suc d) w h = occurs_first (cell_of w) []

-- at most one reference
pub named_few : (c d : ℕ) (w : ℤ) → occurrences c (named_by d (w ∷ [])) ≤ 1
unfolding occurrences
named_few c zero w = omega arith
named_few c (suc d) w = elim (hits c (cell_of w)) [ inl g ↦ omega (arith, g.1) | inr g ↦ omega (arith, g.1) ]

pub number_stands : {σ : Store} (w : ℤ) (v : Value) → num w ≡ v → StandsFor σ 0 w v
unfolding value_of occurrences
number_stands w v e = record { means = e; fits = λ r h. absurd (omega arith) }

-- a word that stands for a value whose depth is 0 is that number
pub stands_number : {σ : Store} {d : ℕ} {w : ℤ} {v : Value} → d ≡ 0 → StandsFor σ d w v → num w ≡ v
unfolding value_of
stands_number {σ} {d} {w} {v} e s = subst (λ (k : ℕ). value_of σ k w ≡ v) e s.means

-- ---- names that are held

pub held_in : (ρ : Frame) (y : ℕ) (H : List ℕ) (d r : ℕ) → y ∈ H → r ∈ named_by d (ρ y ∷ []) → r ∈ hold ρ H
held_in ρ y H d r h g =
    subst (λ (c : ℕ). c ∈ hold ρ H) (sym (named_one d (ρ y) r g)) (image_in (λ z. cell_of (ρ z)) y H h)

-- a change that leaves what is held alone, and in use
pub stands_held : {σ τ : Store} {d : ℕ} {v : Value} (ρ : Frame) (y : ℕ) (H : List ℕ) → y ∈ H → StandsFor σ d (ρ y) v →
    ((r : ℕ) → r ∈ hold ρ H → Alike σ τ r) → ((r : ℕ) → r ∈ hold ρ H → 0 < (cell τ r).count) → StandsFor τ d (ρ y) v
stands_held {d = d} ρ y H h s alike used =
    stands_kept s (λ r g. let i = held_in ρ y H d r h g in (alike r i, used r i))

pub hold_updated : (ρ : Frame) (x : ℕ) (w : ℤ) (H : List ℕ) → occurrences x H ≡ 0 → hold (updated ρ x w) H ≡ hold ρ H
hold_updated ρ x w H fresh =
    image_alike (λ y. cell_of (updated ρ x w y)) (λ y. cell_of (ρ y)) H
    (λ y h. ap cell_of (updated_there ρ x w y (apart x y H fresh h)))

-- holds in two parts: the references are those of both
pub hold_split : (ρ : Frame) (H l H' F : List ℕ) → H ≈ l ++ H' → (hold ρ H ++ F) ≈ (hold ρ l ++ (hold ρ H' ++ F))
hold_split ρ H l H' F p c = omega (
  arith,
  occurrences_append c (hold ρ H) F,
  occurrences_append c (hold ρ l) (hold ρ H' ++ F),
  occurrences_append c (hold ρ H') F,
  image_same (λ y. cell_of (ρ y)) H (l ++ H') p c,
  ap (occurrences c) (map-append (λ y. cell_of (ρ y)) l H'),
  occurrences_append c (hold ρ l) (hold ρ H'),
)

-- the same with the first part behind the second
pub hold_aside : (ρ : Frame) (H l H' F : List ℕ) → H ≈ l ++ H' → (hold ρ H ++ F) ≈ (hold ρ H' ++ (hold ρ l ++ F))
hold_aside ρ H l H' F p c = omega (
  arith,
  hold_split ρ H l H' F p c,
  occurrences_append c (hold ρ l) (hold ρ H' ++ F),
  occurrences_append c (hold ρ H') F,
  occurrences_append c (hold ρ H') (hold ρ l ++ F),
  occurrences_append c (hold ρ l) F,
)

module _ (C : Setting) where
  pub hold_of_array : (x : ℕ) → 0 < C.depths x → own C x ≡ x ∷ []
  hold_of_array x h = rw (lt-ltb 0 (C.depths x) h) refl

  pub hold_of_number : (x : ℕ) → C.depths x ≡ 0 → own C x ≡ []
  hold_of_number x e = rw e refl

  pub hold_named : (ρ : Frame) (x : ℕ) → hold ρ (own C x) ≡ named_by (C.depths x) (ρ x ∷ [])
  hold_named ρ x = go (C.depths x) refl
    where
      go : (d : ℕ) → C.depths x ≡ d → hold ρ (own C x) ≡ named_by d (ρ x ∷ [])
      go zero e = rw (hold_of_number x e) refl
      go (suc d) e = rw (hold_of_array x (omega (arith, e))) refl

  -- the holds of a name just bound, before others
  pub hold_bound : (ρ : Frame) (x : ℕ) (w : ℤ) (H : List ℕ) → occurrences x H ≡ 0 →
      hold (updated ρ x w) (own C x ++ H) ≡ named_by (C.depths x) (w ∷ []) ++ hold ρ H
  hold_bound ρ x w H fresh =
      map-append (λ y. cell_of (updated ρ x w y)) (own C x) H
      ∙ ap₂ {C = List ℕ} ◌++◌
      (hold_named (updated ρ x w) x ∙ ap (λ (z : ℤ). named_by (C.depths x) (z ∷ [])) (updated_same ρ x w))
      (hold_updated ρ x w H fresh)

  pub hold_of_other : (x y : ℕ) (H : List ℕ) → y ≢ x → y ∈ (own C x ++ H) → y ∈ H
  unfolding occurrences
  hold_of_other x y H f h = go (ltb 0 (C.depths x)) h
    where
      go : (b : Bool) → y ∈ (with_if b x [] ++ H) → y ∈ H
      go true g = elim (hits y x) [ inl e ↦ absurd (f e.0) | inr e ↦ omega arith ]
      go false g = g

  -- ---- atoms

  pub atom_stands : {σ : Store} {ρ : Frame} {δ : Env} {d : ℕ} (H : List ℕ) →
      ((y : ℕ) → C.depths y ≡ 0 → num (ρ y) ≡ δ y) →
      ((y : ℕ) → y ∈ H → StandsFor σ (C.depths y) (ρ y) (δ y)) → (a : Atom) → atom_depth C.depths a ≡ d →
      given C (a ∷ []) ⊆ H →
      StandsFor σ d (word ρ a) (value δ a)
  atom_stands {σ} H numbers arrays (number z) e h =
      subst (λ (k : ℕ). StandsFor σ k z (num z)) e (number_stands z (num z) refl)
  atom_stands {σ} {ρ} {δ} {d} H numbers arrays (name x) e h = go d e
    where
      go : (k : ℕ) → C.depths x ≡ k → StandsFor σ k (ρ x) (δ x)
      go zero f = number_stands (ρ x) (δ x) (numbers x f)
      go (suc k) f = subst (λ (k : ℕ). StandsFor σ k (ρ x) (δ x)) f
          (arrays x (h x (rw (hold_of_array x (omega (arith, f))) (occurs_first x []))))

  pub atom_number : {σ : Store} {Z F R B H P : List ℕ} {ρ : Frame} {δ : Env} {n : ℕ} →
      Situation C σ Z F R B H P ρ δ n → (a : Atom) → atom_depth C.depths a ≡ 0 → number_in (value δ a) ≡ word ρ a
  atom_number S (number z) e = refl
  atom_number S (name x) e = ap number_in (sym (S.numbers x e))

  pub handed_split : (a : Atom) (us : List Atom) → given C (a ∷ us) ≡ given C (a ∷ []) ++ given C us
  handed_split (number z) us = refl
  handed_split (name x) us = ap (λ (l : List ℕ). l ++ given C us) (sym (append-nil (own C x)))

  pub handed_named : (ρ : Frame) (a : Atom) →
      hold ρ (given C (a ∷ [])) ≡ named_by (atom_depth C.depths a) (word ρ a ∷ [])
  handed_named ρ (number z) = refl
  handed_named ρ (name x) = ap (hold ρ) (append-nil (own C x)) ∙ hold_named ρ x

  -- a name that is lent or held may be read
  pub readable : {σ : Store} {Z F R B H P : List ℕ} {ρ : Frame} {δ : Env} {n : ℕ} → Situation C σ Z F R B H P ρ δ n →
      (y : ℕ) → y ∈ (B ++ H) → StandsFor σ (C.depths y) (ρ y) (δ y)
  readable {B = B} {H} S y h = elim (append_cases y B H h) [ inl g ↦ (S.lent y g).stands | inr g ↦ S.arrays y g ]

  -- and its cell is held
  pub name_held : {σ : Store} {Z F R B H P : List ℕ} {ρ : Frame} {δ : Env} {n : ℕ} → Situation C σ Z F R B H P ρ δ n →
      (y : ℕ) → y ∈ (B ++ H) → cell_of (ρ y) ∈ (hold ρ H ++ F)
  name_held {F = F} {B = B} {H} {ρ = ρ} S y h = elim (append_cases y B H h) [
    | inl g ↦ in_append_right (cell_of (ρ y)) (hold ρ H) F (S.lent y g).kept
    | inr g ↦ in_append_left (cell_of (ρ y)) (hold ρ H) F (image_in (λ z. cell_of (ρ z)) y H g)
  ]

  -- an array's cell is where the cells of the names are that it would hand over
  pub array_cell : (ρ : Frame) (K : List ℕ) (a : Atom) → 0 < atom_depth C.depths a →
      ((y : ℕ) → y ∈ given C (a ∷ []) → cell_of (ρ y) ∈ K) → cell_of (word ρ a) ∈ K
  array_cell ρ K (number z) deep f = absurd (omega (arith, deep))
  array_cell ρ K (name x) deep f = f x (rw (hold_of_array x deep) (occurs_first x []))

  -- an atom that is read
  pub atom_read : {σ : Store} {Z F R B H P : List ℕ} {ρ : Frame} {δ : Env} {n d : ℕ} → Situation C σ Z F R B H P ρ δ n →
      (a : Atom) → atom_depth C.depths a ≡ d → given C (a ∷ []) ⊆ (B ++ H) → StandsFor σ d (word ρ a) (value δ a)
  atom_read {B = B} {H} S a e h = atom_stands (B ++ H) S.numbers (readable S) a e h

-- what is lent stays while its holders keep it
pub lent_kept : {σ τ : Store} {d : ℕ} {w : ℤ} {v : Value} (Z F : List ℕ) → Keeps σ τ (Z ++ F) →
    ((r : ℕ) → r ∈ F → 0 < (cell τ r).count) → Lent σ F d w v → Lent τ F d w v
lent_kept {σ} {τ} {d} {w} Z F keeps used l = record {
  stands = stands_kept l.stands (λ r g.
      let i : r ∈ F = subst (λ (c : ℕ). c ∈ F) (sym (named_one d w r g)) l.kept in
      (keeps.keep r (in_append_right r Z F i), used r i));
  kept = l.kept;
}
