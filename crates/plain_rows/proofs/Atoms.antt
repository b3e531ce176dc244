-- Laws of the atoms of a line, in the terms of a walk from the last to the first.
use Rattle.prelude.specs.Kit.{ℕ, ◌≤◌, ◌+◌, ◌<◌, ◌-◌, suc, zero, arith, ◌≡◌, refl, ◌∙◌, sym, ap, List, [], ◌∷◌, length}
use Rattle.prelude.specs.Kit.{get_or}
use Rattle.semantics.specs.Code as C
use Rattle.semantics.specs.Live.{Set, is, ◌∪◌, among}
use Rattle.plain_rows.specs.Plain.{placed, atoms_at, meant}
use Rattle.kinds.specs.declared.Atom.{Atom}

pub pred_suc : (n : ℕ) → 0 < n → n ≡ suc (n - 1)
pred_suc zero h = absurd (let f : ⊥ = omega arith in f)
pred_suc (suc n) h = omega arith

module _ (w rows : List ℕ) where
  -- the atoms from the one before the i-th on
  pub atoms_more : (at i m : ℕ) → 0 < i → i ≤ m →
      atoms_at w rows (at + (i - 1)) (m - (i - 1))
      ≡ meant (placed w (get_or rows (at + (i - 1)) 0)) ∷ atoms_at w rows (at + i) (m - i)
  unfolding atoms_at
  atoms_more at i m g h =
      ap (λ (j : ℕ). atoms_at w rows (at + (i - 1)) j) (let e : m - (i - 1) ≡ suc (m - i) = omega arith in e)
      ∙ go (m - i) (at + (i - 1))
      ∙ ap (λ (j : ℕ). meant (placed w (get_or rows (at + (i - 1)) 0)) ∷ atoms_at w rows j (m - i))
      (let e : at + (i - 1) + 1 ≡ at + i = omega arith in e)
    where
      go : (j b : ℕ) → atoms_at w rows b (suc j) ≡ meant (placed w (get_or rows b 0)) ∷ atoms_at w rows (b + 1) j
      go j b = refl

  pub atoms_none : (at m : ℕ) → atoms_at w rows at (m - m) ≡ []
  unfolding atoms_at
  atoms_none at m = ap (atoms_at w rows at) (let e : m - m ≡ 0 = omega arith in e)

  pub atoms_all : (at i m : ℕ) → i ≡ 0 → atoms_at w rows (at + i) (m - i) ≡ atoms_at w rows at m
  atoms_all at i m h =
      let f : at + i ≡ at = omega arith in
      let g : m - i ≡ m = omega arith in
      rw (f, g)

  pub length_atoms : (at m : ℕ) → length (atoms_at w rows at m) ≡ m
  unfolding atoms_at
  length_atoms at zero = refl
  length_atoms at (suc m) = ap suc (length_atoms (at + 1) m)

-- ---- atoms that are joined to a set

module _ (w rows : List ℕ) (at : ℕ) where
  pub among_none : (m : ℕ) (A : Set) → A ≡ among (atoms_at w rows (at + m) (m - m)) A
  unfolding among
  among_none m A = sym (ap (λ (us : List C.Atom). among us A) (atoms_none w rows (at + m) m))

  pub among_more : (i m v : ℕ) (A B R : Set) (a : Atom) → 0 < i → i ≤ m → B ≡ among (atoms_at w rows (at + i)
      (m - i)) A →
      v ≡ get_or rows (at + (i - 1)) 0 → a ≡ placed w v → R ≡ is (meant a) ∪ B →
      R ≡ among (atoms_at w rows (at + (i - 1)) (m - (i - 1))) A
  unfolding among
  among_more i m v A B R a g h b e f r =
      r ∙ rw (f, e, b) (sym (ap (λ (us : List C.Atom). among us A) (atoms_more w rows at i m g h)))

  pub among_all : (i m : ℕ) (A R : Set) → i ≤ 0 → R ≡ among (atoms_at w rows (at + i) (m - i)) A →
      R ≡ among (atoms_at w rows at m) A
  among_all i m A R h r = r ∙ ap (λ (us : List C.Atom). among us A) (atoms_all w rows at i m (omega arith))
