-- What the third walk reads where rows stand: they are not more than the code, and the atoms of a line.
use Rattle.std.specs.Prelude.{ℕ, ◌≤◌, ◌+◌, suc, zero, false, ◌≡◌, refl, List, [], ◌∷◌, map, ℤ, length, get_or}
use Rattle.prelude.specs.Kit.{arith, ◌∙◌, sym, ap}
use Rattle.semantics.specs.Code as C
use Rattle.semantics.specs.Code.{Row, atom_row}
use Rattle.machine_code.specs.Reading.{is_atom}
use Rattle.machine_code.specs.Rows.{At, at_end, coded, atom_here, atom_kind}
use Rattle.lent_atoms.specs.Told.{meant}
use Rattle.lent_passing.specs.Reading.{SmallAtoms}
use Rattle.lent_hold_lines.specs.Lines.{atoms_from}

pub at_few : (kinds : List ℕ) (operands : List ℤ) (at : ℕ) (rs : List Row) → At kinds operands at rs →
    length rs ≤ length kinds
at_few kinds operands at [] h = omega arith
at_few kinds operands at (r ∷ rs) h =
    omega (arith, at_end kinds operands at (r ∷ rs) (omega (arith, h.0.within)) h)

pub meant_coded : (a : C.Atom) → meant (coded a) ≡ a
meant_coded (C.number z) = refl
meant_coded (C.name x) = refl

-- the atoms of a line
pub atoms_same : (kinds : List ℕ) (operands : List ℤ) (us : List C.Atom) (n at : ℕ) → length us ≤ n → SmallAtoms us →
    At kinds operands at (map atom_row us) → is_atom (get_or kinds (at + length us) 0) ≡ false →
    atoms_from kinds operands n at ≡ us
unfolding atoms_from
atoms_same kinds operands [] zero at h k r e = refl
atoms_same kinds operands [] (suc n) at h k r e =
    let z : at + 0 ≡ at = omega arith in rw (rw z at e, atoms_from) refl
atoms_same kinds operands (a ∷ us) zero at h k r e = absurd (omega arith)
atoms_same kinds operands (a ∷ us) (suc n) at h k r e =
    let z : at + suc (length us) ≡ at + 1 + length us = omega arith in
    rw (atom_kind kinds operands at a r.0, atoms_from) (λ j. (ap meant (atom_here kinds operands at a k.0 r.0)
    ∙ meant_coded a) j ∷ atoms_same kinds operands us n (at + 1) (omega arith) k.1 r.1
    (ap (λ (q : ℕ). is_atom (get_or kinds q 0)) (sym z) ∙ e) j)
