-- What the second walk reads where rows stand: atoms, and the parts of an operand.
use Rattle.std.specs.Prelude.{ℕ, ◌+◌, ◌<◌, ◌*◌, ◌%◌, ◌/◌, ◌≡◌, refl, List, [], ◌∷◌, map, ℤ, pos, length, get_or}
use Rattle.prelude.specs.Kit.{arith, ◌∙◌, ap}
use Rattle.semantics.specs.Code as C
use Rattle.semantics.specs.Code.{atom_row}
use Rattle.lent_passing.specs.Reading.{SmallAtom, SmallAtoms}
use Rattle.machine_code.specs.Reading.{atom_at}
use Rattle.machine_code.specs.Rows as R
use Rattle.machine_code.specs.Rows.{Here, At, coded}
use Rattle.lent_fit_lines.specs.Walk.{meant, first_at, second_at, third_at, atoms_from}

-- an atom that is read is the one that stands there
meant_is : (a : C.Atom) → meant (coded a) ≡ a
meant_is (C.number z) = refl
meant_is (C.name x) = refl

fits_byte : (a : C.Atom) → SmallAtom a → R.SmallAtom a
fits_byte (C.number z) h = tt
fits_byte (C.name x) h = h

module _ (K : List ℕ) (O : List ℤ) where
  pub atom_here : (p : ℕ) (a : C.Atom) → SmallAtom a → Here K O p (atom_row a) → meant (atom_at K O p) ≡ a
  atom_here p a s h = ap meant (R.atom_here K O p a (fits_byte a s) h) ∙ meant_is a

  pub atoms_here : (p : ℕ) (us : List C.Atom) → SmallAtoms us → At K O p (map atom_row us) →
      atoms_from K O (length us) p ≡ us
  unfolding atoms_from
  atoms_here p [] s h = refl
  atoms_here p (a ∷ us) s h =
      λ i. atom_here p a s.0 h.0 i ∷ atoms_here (p + 1) us s.1 h.1 i

-- the parts of an operand
module _ (O : List ℤ) (p a b c : ℕ) (x : a < 256) (y : b < 256) (z : c < 256)
    (e : get_or O p (pos 0) ≡ pos (a + 256 * b + 65536 * c)) where
  pub first_read : first_at O p ≡ a
  unfolding first_at
  first_read = rw e (let w : (a + 256 * b + 65536 * c) % 16777216 % 256 ≡ a = omega (arith, x, y, z) in w)

  pub second_read : second_at O p ≡ b
  unfolding second_at
  second_read = rw e (let w : (a + 256 * b + 65536 * c) % 16777216 / 256 % 256 ≡ b = omega (arith, x, y, z) in w)

  pub third_read : third_at O p ≡ c
  unfolding third_at
  third_read = rw e (let w : (a + 256 * b + 65536 * c) % 16777216 / 65536 ≡ c = omega (arith, x, y, z) in w)
