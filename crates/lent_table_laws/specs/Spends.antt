-- Where the atoms of a line stand, the names that their rows spend are those at the places that are handed over.
use Rattle.std.specs.Prelude.{ℕ, ◌+◌, suc, ◌%◌, true, false, Bool, ◌||◌, ◌≡◌, refl, List, [], ◌∷◌, map, eqb, ℤ}
use Rattle.std.specs.Prelude.{length, get_or}
use Rattle.prelude.specs.Kit.{arith, or_assoc, ◌∙◌, sym, ap, ne_eqb, eq-eqb}
use Rattle.semantics.specs.Basics.{with_if}
use Rattle.semantics.specs.Kinds.{Borrowing, picked}
use Rattle.semantics.specs.Code as C
use Rattle.semantics.specs.Code.{atom_row}
use Rattle.semantics.specs.Live.{Set, empty, ◌∪◌, among}
use Rattle.machine_code.specs.Reading.{low_bits, name_at}
use Rattle.machine_code.specs.Rows.{At}
use Rattle.lent_spent.specs.Scan.{second_at, is_handed, is_named, name_if, spent_from}
use Rattle.lent_passing.specs.Reading.{SmallAtoms}

module _ (kinds : List ℕ) (operands : List ℤ) (β : Borrowing) where
  abbrev pub S : ℕ → ℕ → ℕ → ℕ → ℕ → Set
  S n p k g i = spent_from kinds operands β n p k g i

  -- the atoms of a line, of which those at the places that b says are handed over
  abbrev pub handed_of : (ℕ → Bool) → ℕ → List C.Atom → Set
  handed_of b i [] = empty
  handed_of b i (C.number z ∷ us) = handed_of b (i + 1) us
  handed_of b i (C.name x ∷ us) = name_if (b i) x ∪ handed_of b (i + 1) us

  pub atoms_spend : (us : List C.Atom) (n p k g i : ℕ) → SmallAtoms us → At kinds operands p (map atom_row us)
      → (m : ℕ) →
      S (length us + n) p k g i m ≡ (handed_of (is_handed β k g) i us m || S n (p + length us) k g (i + length us) m)
  unfolding spent_from
  atoms_spend [] n p k g i h s m =
      let a : p ≡ p + 0 = omega arith in
      let b : i ≡ i + 0 = omega arith in
      let c : 0 + n ≡ n = omega arith in
      ap (λ (r : ℕ). S r p k g i m) c ∙ ap (λ (q : ℕ). S n q k g i m) a ∙ ap (λ (j : ℕ). S n (p + 0) k g j m) b
  atoms_spend (C.number z ∷ us) n p k g i h s m =
      let a : p + 1 + length us ≡ p + suc (length us) = omega arith in
      let b : i + 1 + length us ≡ i + suc (length us) = omega arith in
      let c : suc (length us) + n ≡ suc (length us + n) = omega arith in
      ap (λ (r : ℕ). S r p k g i m) c
      ∙ ap (λ (X : Set). X m) (number_row (length us + n) p k g i s.0.kind)
      ∙ atoms_spend us n (p + 1) k g (i + 1) h.1 s.1 m
      ∙ ap (λ (q : ℕ). handed_of (is_handed β k g) (i + 1) us m || S n q k g (i + 1 + length us) m) a
      ∙ ap (λ (j : ℕ). handed_of (is_handed β k g) (i + 1) us m || S n (p + suc (length us)) k g j m) b
    where
      number_row : (n p k g i : ℕ) → get_or kinds p 0 ≡ 2 → S (suc n) p k g i ≡ S n (p + 1) k g (i + 1)
      number_row n p k g i e = rw (eq-eqb (get_or kinds p 0) 2 e, spent_from) refl
  atoms_spend (C.name x ∷ us) n p k g i h s m =
      let a : p + 1 + length us ≡ p + suc (length us) = omega arith in
      let b : i + 1 + length us ≡ i + suc (length us) = omega arith in
      let c : suc (length us) + n ≡ suc (length us + n) = omega arith in
      ap (λ (r : ℕ). S r p k g i m) c
      ∙ ap (λ (X : Set). X m) (name_row (length us + n) p k g i s.0.kind)
      ∙ ap (λ (y : ℕ). name_if (is_handed β k g i) y m || S (length us + n) (p + 1) k g (i + 1) m)
      (ap (λ (z : ℤ). low_bits z % 256) s.0.operand ∙ (let z : x % 16777216 % 256 ≡ x = omega (arith, h.0) in z))
      ∙ ap (λ (t : Bool). name_if (is_handed β k g i) x m || t) (atoms_spend us n (p + 1) k g (i + 1) h.1 s.1 m)
      ∙ sym (or_assoc (name_if (is_handed β k g i) x m) (handed_of (is_handed β k g) (i + 1) us m) _)
      ∙ ap (λ (q : ℕ). (name_if (is_handed β k g i) x m || handed_of (is_handed β k g) (i + 1) us m)
      || S n q k g (i + 1 + length us) m) a
      ∙ ap (λ (j : ℕ). (name_if (is_handed β k g i) x m || handed_of (is_handed β k g) (i + 1) us m)
      || S n (p + suc (length us)) k g j m) b
    where
      name_row : (n p k g i : ℕ) → get_or kinds p 0 ≡ 3 →
          S (suc n) p k g i ≡ name_if (is_handed β k g i) (name_at operands p) ∪ S n (p + 1) k g (i + 1)
      name_row n p k g i e =
          rw (ne_eqb (get_or kinds p 0) 2 (λ z. no_two (sym e ∙ z)), eq-eqb (get_or kinds p 0) 3 e, spent_from) refl
        where
          no_two : ◌≡◌ {A = ℕ} 3 2 → ⊥
          no_two z = omega (arith, z)

  -- a line's row: what came before it does not matter
  pub line_row : (n p k g i : ℕ) → (get_or kinds p 0 ≡ 2 → ⊥) → (get_or kinds p 0 ≡ 3 → ⊥) →
      S (suc n) p k g i
      ≡ name_if (is_named (get_or kinds p 0)) (name_at operands p) ∪ S n (p + 1) (get_or kinds p 0) (second_at operands p) 0
  unfolding spent_from
  line_row n p k g i a b = rw (ne_eqb (get_or kinds p 0) 2 a, ne_eqb (get_or kinds p 0) 3 b, spent_from) refl

  -- the same as atoms that are picked
  pub handed_picked : (b : ℕ → Bool) (us : List C.Atom) (i m : ℕ) → handed_of b i us m ≡ among (picked b i us) empty m
  unfolding among
  handed_picked b [] i m = refl
  handed_picked b (C.number z ∷ us) i m =
      go (b i) (handed_picked b us (i + 1) m
      ∙ ap (λ (j : ℕ). among (picked b j us) empty m) (let z : i + 1 ≡ suc i = omega arith in z))
    where
      go : (t : Bool) → handed_of b (i + 1) us m ≡ among (picked b (suc i) us) empty m →
          handed_of b (i + 1) us m ≡ among (with_if t (C.number z) (picked b (suc i) us)) empty m
      go true h = h
      go false h = h
  handed_picked b (C.name x ∷ us) i m =
      go (b i) (handed_picked b us (i + 1) m
      ∙ ap (λ (j : ℕ). among (picked b j us) empty m) (let z : i + 1 ≡ suc i = omega arith in z))
    where
      go : (t : Bool) → handed_of b (i + 1) us m ≡ among (picked b (suc i) us) empty m →
          (name_if t x m || handed_of b (i + 1) us m) ≡ among (with_if t (C.name x) (picked b (suc i) us)) empty m
      go true h = ap (λ (t : Bool). eqb x m || t) h
      go false h = h
