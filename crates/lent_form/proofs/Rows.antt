-- The rows of two arrays, and the atoms among them.
use Rattle.prelude.specs.Kit.{ℕ, ◌≤◌, ◌+◌, ◌<◌, ◌-◌, suc, zero, ◌%◌, ◌/◌, arith, add-one, true, false, Bool, ◌&&◌, ◌≡◌}
use Rattle.prelude.specs.Kit.{refl, ◌∙◌, sym, ap, some, none, Option, List, [], ◌∷◌, leb, ℤ, pos, length, get_or, drop}
use Rattle.prelude.specs.Kit.{length-drop, drop-cons, ne_eqb, leb-true, le-leb}
use Rattle.semantics.specs.Code.{Atom, number, name, Row, row}
use Rattle.semantics_lent.specs.Form.{paired, atoms_before, and_atom, Seen, as_atom, out_of_range, no_atom, seen_as}
use Rattle.lent_form.specs.Told.{limits_of, natural, within, run_told, run_from}
use Rattle.std.specs.Prelude.{Option as Optional, Some, None}
use Rattle.lent_form.proofs.Operands.{parts_natural}

pub paired_length : (ks : List ℕ) (os : List ℤ) → length ks ≡ length os → length (paired ks os) ≡ length ks
unfolding paired
paired_length [] os e = refl
paired_length (k ∷ ks) [] e = absurd (omega arith)
paired_length (k ∷ ks) (o ∷ os) e = ap suc (paired_length ks os (omega arith))

pub paired_at : (ks : List ℕ) (os : List ℤ) (p : ℕ) → length ks ≡ length os →
    get_or (paired ks os) p (row 0 0) ≡ record { kind = get_or ks p 0; operand = get_or os p (pos 0) }
unfolding paired
paired_at [] [] p e = refl
paired_at [] (o ∷ os) p e = absurd (omega arith)
paired_at (k ∷ ks) [] p e = absurd (omega arith)
paired_at (k ∷ ks) (o ∷ os) zero e = refl
paired_at (k ∷ ks) (o ∷ os) (suc p) e = paired_at ks os p (omega arith)

-- ---- names

pub byte_within : (n : ℕ) → n ≤ 255 → within n (limits_of 3) ≡ true
unfolding limits_of
byte_within n h =
    rw (le-leb (n % 256) 255 (omega arith), le-leb (n / 256 % 256) 0 (omega arith), le-leb (n / 65536) 0 (omega arith))

pub past_byte : (n : ℕ) → 255 < n → within n (limits_of 3) ≡ false
unfolding limits_of
past_byte n h =
    rw (le-leb (n % 256) 255 (omega arith)) (go (leb (n / 256 % 256) 0) refl (leb (n / 65536) 0) refl)
  where
    go : (a : Bool) → leb (n / 256 % 256) 0 ≡ a → (b : Bool) → leb (n / 65536) 0 ≡ b → (a && b) ≡ false
    go true e true f = absurd (omega (arith, leb-true (n / 256 % 256) 0 e, leb-true (n / 65536) 0 f))
    go true e false f = refl
    go false e b f = refl

-- ---- a row as an atom

module _ (k : ℕ) (z : ℤ) where
  abbrev this : Row
  this = record { kind = k; operand = z }

  seen_number : k ≡ 2 → seen_as this ≡ as_atom (number z)
  seen_number e = rw e

  seen_name : k ≡ 3 → natural z ≤ 255 → seen_as this ≡ as_atom (name (natural z % 256))
  seen_name e h = rw (e, parts_natural 3 z, byte_within (natural z) h)

  seen_bad : k ≡ 3 → 255 < natural z → seen_as this ≡ out_of_range
  seen_bad e h = rw (e, parts_natural 3 z, past_byte (natural z) h)

  seen_other : (k ≡ 2 → ⊥) → (k ≡ 3 → ⊥) → seen_as this ≡ no_atom
  seen_other e f = rw (ne_eqb k 2 e, ne_eqb k 3 f)

-- ---- a run of atoms

one_more : (p : ℕ) (a : Atom) (o : Option (List Atom)) → run_told p (and_atom a o) ≡ run_told (p + 1) o
one_more p a (some us) = ap Some (omega arith)
one_more p a none = refl

-- by its first row
abbrev seen_run : ℕ → Seen → List Row → Optional ℕ
seen_run p (as_atom a) rs = run_told (p + 1) (atoms_before rs)
seen_run p out_of_range rs = None
seen_run p no_atom rs = Some p

first_seen : (p : ℕ) (r : Row) (rs : List Row) → run_told p (atoms_before (r ∷ rs)) ≡ seen_run p (seen_as r) rs
unfolding atoms_before
first_seen p r rs = go (seen_as r)
  where
    go : (s : Seen) →
        run_told p (elim s [ as_atom a ↦ and_atom a (atoms_before rs) | out_of_range ↦ none | no_atom ↦ some [] ])
        ≡ seen_run p s rs
    go (as_atom a) = one_more p a (atoms_before rs)
    go out_of_range = refl
    go no_atom = ap Some (omega arith)

module _ (ks : List ℕ) (os : List ℤ) (even : length ks ≡ length os) (p : ℕ) where
  -- past the last row there is no atom
  pub run_past : length ks ≤ p → Some p ≡ run_from (paired ks os) p
  unfolding run_from atoms_before
  run_past h = go (drop p (paired ks os)) (length-drop p (paired ks os))
    where
      go : (rs : List Row) → length rs ≡ length (paired ks os) - p → Some p ≡ run_told p (atoms_before rs)
      go [] e = ap Some (omega arith)
      go (r ∷ rs) e = absurd (omega (arith, e, paired_length ks os even))

  module _ (h : p < length ks) where
    by_row : (s : Seen) → seen_as (record { kind = get_or ks p 0; operand = get_or os p (pos 0) }) ≡ s →
        run_from (paired ks os) p ≡ seen_run p s (drop (p + 1) (paired ks os))
    unfolding run_from
    by_row s e =
        ap (λ (l : List Row). run_told p (atoms_before l))
        (drop-cons (paired ks os) p (row 0 0) (omega (arith, paired_length ks os even)))
        ∙ first_seen p (get_or (paired ks os) p (row 0 0)) (drop (suc p) (paired ks os))
        ∙ rw (paired_at ks os p even, e, add-one p)

    pub run_number : get_or ks p 0 ≡ 2 → run_from (paired ks os) p ≡ run_from (paired ks os) (p + 1)
    unfolding run_from
    run_number e = by_row _ (seen_number (get_or ks p 0) (get_or os p (pos 0)) e)

    pub run_name : get_or ks p 0 ≡ 3 → natural (get_or os p (pos 0)) ≤ 255 →
        run_from (paired ks os) p ≡ run_from (paired ks os) (p + 1)
    unfolding run_from
    run_name e f = by_row _ (seen_name (get_or ks p 0) (get_or os p (pos 0)) e f)

    pub run_bad : get_or ks p 0 ≡ 3 → 255 < natural (get_or os p (pos 0)) → None ≡ run_from (paired ks os) p
    run_bad e f = sym (by_row _ (seen_bad (get_or ks p 0) (get_or os p (pos 0)) e f))

    pub run_other : (get_or ks p 0 ≡ 2 → ⊥) → (get_or ks p 0 ≡ 3 → ⊥) → Some p ≡ run_from (paired ks os) p
    run_other e f = sym (by_row _ (seen_other (get_or ks p 0) (get_or os p (pos 0)) e f))
