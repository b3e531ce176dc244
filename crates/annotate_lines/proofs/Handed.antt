-- Laws of atoms that are written and handed over, from the last to the first.
use Rattle.prelude.specs.Kit.{ℕ, ◌≤◌, ◌+◌, ◌<◌, ◌-◌, arith, ◌&&◌, ◌≡◌, refl, ◌∙◌, sym, ap, List, [], ◌∷◌, ◌++◌, map, ℤ}
use Rattle.prelude.specs.Kit.{get_or, map-append}
use Rattle.semantics.specs.Code.{Atom, number, name, Row, atom_row}
use Rattle.semantics.specs.Live.{Set, among}
use Rattle.semantics.specs.Annotate.{NameDepths, is_array, handed_again}
use Rattle.plain_rows.specs.Plain.{meant, placed, atoms_at}
use Rattle.plain_rows.specs.Parts.{retain_rows, handed_one}
use Rattle.kinds.specs.declared.Atom as P
use Rattle.plain_rows.proofs.Atoms.{atoms_more, atoms_none, atoms_all}
use Rattle.annotate_rows.specs.Wrote.{Wrote}
use Rattle.annotate_rows.proofs.Rows.{wrote_none, wrote_then, wrote_as}
use Rattle.annotate_rows.proofs.Names.{with_if_append}

module _ (Γ : NameDepths) where
  pub handed_cons : (a : Atom) (us : List Atom) (A : Set) → handed_one Γ a (among us A) ++ handed_again Γ us A ≡
      handed_again Γ (a ∷ us) A
  unfolding handed_one handed_again
  handed_cons (number z) us A = refl
  handed_cons (name x) us A = sym (with_if_append (is_array Γ x && among us A x) x (handed_again Γ us A))

module _ (w rows : List ℕ) (at : ℕ) where
  pub atoms_begin : (m : ℕ) {k : List ℕ} {o : List ℤ} {v : ℕ} → Wrote k o k o v v (map atom_row (atoms_at w rows
      (at + m) (m - m)))
  atoms_begin m = wrote_as (sym (ap (map atom_row) (atoms_none w rows (at + m) m))) wrote_none

  pub atoms_go : (i m r : ℕ) (a : P.Atom) → 0 < i → i ≤ m → r ≡ get_or rows (at + (i - 1)) 0 → a ≡ placed w r →
      {k k₁ k₂ : List ℕ} {o o₁ o₂ : List ℤ} {v v₁ v₂ : ℕ} →
      Wrote k o k₁ o₁ v v₁ (map atom_row (atoms_at w rows (at + i) (m - i))) → Wrote k₁ o₁ k₂ o₂ v₁ v₂
      (atom_row (meant a) ∷ []) →
      Wrote k o k₂ o₂ v v₂ (map atom_row (atoms_at w rows (at + (i - 1)) (m - (i - 1))))
  atoms_go i m r a g h e f x y =
      wrote_as (sym (ap (map atom_row) (atoms_more w rows at i m g h) ∙ rw (← e, ← f))) (wrote_then x y)

  pub atoms_end : (i m : ℕ) → i ≤ 0 → {k k₁ : List ℕ} {o o₁ : List ℤ} {v v₁ : ℕ} →
      Wrote k o k₁ o₁ v v₁ (map atom_row (atoms_at w rows (at + i) (m - i))) → Wrote k o k₁ o₁ v v₁ (map atom_row
      (atoms_at w rows at m))
  atoms_end i m h x = wrote_as (ap (map atom_row) (atoms_all w rows at i m (omega arith))) x

  module _ (Γ : NameDepths) (A : Set) where
    abbrev pub retains_at : ℕ → ℕ → List Row
    retains_at i m = retain_rows (handed_again Γ (atoms_at w rows (at + i) (m - i)) A)

    pub retains_begin : (m : ℕ) {k : List ℕ} {o : List ℤ} {v : ℕ} → Wrote k o k o v v (retains_at m m)
    unfolding handed_again
    retains_begin m =
        wrote_as (sym (ap (λ (us : List Atom). retain_rows (handed_again Γ us A)) (atoms_none w rows (at + m) m)))
        wrote_none

    pub retains_go : (i m r : ℕ) (a : P.Atom) (S : Set) → 0 < i → i ≤ m → r ≡ get_or rows (at + (i - 1)) 0 → a ≡
        placed w r →
        S ≡ among (atoms_at w rows (at + i) (m - i)) A → {k k₁ k₂ : List ℕ} {o o₁ o₂ : List ℤ} {v v₁ v₂ : ℕ} →
        Wrote k o k₁ o₁ v v₁ (retains_at i m) → Wrote k₁ o₁ k₂ o₂ v₁ v₂ (retain_rows (handed_one Γ (meant a) S)) →
        Wrote k o k₂ o₂ v v₂ (retains_at (i - 1) m)
    retains_go i m r a S g h e f s x y =
        wrote_as
        (sym (map-append _ (handed_one Γ (meant a) S) (handed_again Γ (atoms_at w rows (at + i) (m - i)) A))
        ∙ ap (λ (l : List ℕ). retain_rows l) (names s (meant a) (ap meant (f ∙ ap (placed w) e))))
        (wrote_then x y)
      where
        names : S ≡ among (atoms_at w rows (at + i) (m - i)) A → (b : Atom) → b ≡ meant
            (placed w (get_or rows (at + (i - 1)) 0)) →
            handed_one Γ b S ++ handed_again Γ (atoms_at w rows (at + i) (m - i)) A
            ≡ handed_again Γ (atoms_at w rows (at + (i - 1)) (m - (i - 1))) A
        names s b q =
            rw (s, q, atoms_more w rows at i m g h)
            (handed_cons Γ (meant (placed w (get_or rows (at + (i - 1)) 0))) (atoms_at w rows (at + i) (m - i)) A)

    pub retains_end : (i m : ℕ) → i ≤ 0 → {k k₁ : List ℕ} {o o₁ : List ℤ} {v v₁ : ℕ} → Wrote k o k₁ o₁ v v₁
        (retains_at i m) →
        Wrote k o k₁ o₁ v v₁ (retain_rows (handed_again Γ (atoms_at w rows at m) A))
    retains_end i m h x =
        wrote_as (ap (λ (us : List Atom). retain_rows (handed_again Γ us A)) (atoms_all w rows at i m
        (omega arith))) x
