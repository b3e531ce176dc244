-- The atoms of a call or a literal, one after the other.
use Rattle.prelude.specs.Kit.{ℕ, ◌≤◌, ◌+◌, ◌<◌, ◌-◌, suc, zero, arith, true, false, Bool, ◌&&◌, not, ◌||◌, ◌≡◌, refl}
use Rattle.prelude.specs.Kit.{◌∙◌, sym, ap, List, [], ◌∷◌, ℤ, length, get_or}
use Rattle.semantics.specs.Outcome.{Outcome, done, stop, onward}
use Rattle.semantics.specs.Kinds.{picked}
use Rattle.semantics.specs.Code as C
use Rattle.semantics.specs.Live.{Set}
use Rattle.semantics.specs.Annotate.{NameDepths, is_array}
use Rattle.semantics_lent.specs.Hold.{Holds, spend, spend_name, readable}
use Rattle.machine_code.specs.Reading.{atom_at, is_atom}
use Rattle.kinds.specs.declared.Atom.{Atom}
use Rattle.lent_counts.specs.Counted.{counted}
use Rattle.lent_atoms.specs.Told.{meant, told}
use Rattle.lent_hold_lines.specs.Lines.{atoms_from}

module _ (kinds : List ℕ) (operands : List ℤ) where
  opened : (n p : ℕ) → is_atom (get_or kinds p 0) ≡ true →
      atoms_from kinds operands (suc n) p ≡ meant (atom_at kinds operands p) ∷ atoms_from kinds operands n (p + 1)
  unfolding atoms_from
  opened n p e = rw (e, atoms_from) refl

  shut : (n p : ℕ) → is_atom (get_or kinds p 0) ≡ false → atoms_from kinds operands n p ≡ []
  unfolding atoms_from
  shut zero p e = refl
  shut (suc n) p e = rw (e, atoms_from) refl

module _ (kinds : List ℕ) (operands : List ℤ) (at i : ℕ) where
  atoms_step : i < 16 → is_atom (get_or kinds (at + i) 0) ≡ true →
      atoms_from kinds operands (16 - i) (at + i)
      ≡ meant (atom_at kinds operands (at + i)) ∷ atoms_from kinds operands (16 - (i + 1)) (at + (i + 1))
  atoms_step h e =
      let m : 16 - i ≡ suc (16 - (i + 1)) = omega arith in
      let q : at + i + 1 ≡ at + (i + 1) = omega arith in
      rw (m, ← q) (opened kinds operands (16 - (i + 1)) (at + i) e)

  atoms_stop : is_atom (get_or kinds (at + i) 0) ≡ false → atoms_from kinds operands (16 - i) (at + i) ≡ []
  atoms_stop e = shut kinds operands (16 - i) (at + i) e

  atoms_out : 16 ≤ i → atoms_from kinds operands (16 - i) (at + i) ≡ []
  unfolding atoms_from
  atoms_out h = let m : 16 - i ≡ 0 = omega arith in rw m refl

-- ---- counted

pub atoms_few : (kinds : List ℕ) (operands : List ℤ) (n p : ℕ) → length (atoms_from kinds operands n p) ≤ n
unfolding atoms_from
atoms_few kinds operands zero p = omega arith
atoms_few kinds operands (suc n) p = go (is_atom (get_or kinds p 0)) (atoms_few kinds operands n (p + 1))
  where
    go : (b : Bool) → length (atoms_from kinds operands n (p + 1)) ≤ n → length {A = C.Atom} (elim b [
      | true ↦ meant (atom_at kinds operands p) ∷ atoms_from kinds operands n (p + 1)
      | false ↦ []
    ]) ≤ suc n
    go true h = omega (arith, h)
    go false h = omega arith

-- i of the atoms are counted
pub record Counting (kinds : List ℕ) (operands : List ℤ) (at i : ℕ) : Type 0 where
  pub same : length (atoms_from kinds operands 16 at) ≡ i + length (atoms_from kinds operands (16 - i) (at + i))

pub counting_none : (kinds : List ℕ) (operands : List ℤ) (at : ℕ) → Counting kinds operands at 0
counting_none kinds operands at = let z : at + 0 ≡ at = omega arith in record { same = rw z (omega arith) }

module _ {kinds : List ℕ} {operands : List ℤ} {at i : ℕ} (s : Counting kinds operands at i) where
  pub counting_more : i < 16 → is_atom (get_or kinds (at + i) 0) ≡ true → Counting kinds operands at (i + 1)
  counting_more h e = record { same = omega (arith, s.same, ap length (atoms_step kinds operands at i h e)) }

  pub counting_stop : is_atom (get_or kinds (at + i) 0) ≡ false → i ≡ length (atoms_from kinds operands 16 at)
  counting_stop e = omega (arith, s.same, ap length (atoms_stop kinds operands at i e))

  pub counting_out : i ≡ 16 → 16 ≡ length (atoms_from kinds operands 16 at)
  counting_out e = omega (arith, e, s.same, ap length (atoms_out kinds operands at i (omega (arith, e))))

-- ---- handed over

pub spend_first : (Γ : NameDepths) (a : C.Atom) (us : List C.Atom) (H : Holds) (p : ℕ) →
    spend Γ (a ∷ us) H p ≡ onward (λ (I : Holds). spend Γ us I) (spend Γ (a ∷ []) H p)
unfolding spend onward
spend_first Γ (C.number z) us H p = refl
spend_first Γ (C.name x) us H p = go (spend_name Γ x H p)
  where
    go : (o : Outcome ℕ Holds) → onward (λ (I : Holds). spend Γ us I) o
        ≡ onward (λ (I : Holds). spend Γ us I) (onward (λ (I : Holds) (q : ℕ). done I q) o)
    go (done I q) = refl
    go (stop n q) = refl

-- those of us that b picks are handed over from the holds H where those that stand from place i on are from the counts l
pub record Handing (kinds : List ℕ) (operands : List ℤ) (Γ : NameDepths) (b : ℕ → Bool) (at : ℕ) (H : Holds) (i : ℕ)
    (l : List ℕ) : Type 0 where
  pub same : (p : ℕ) → spend Γ (picked b 0 (atoms_from kinds operands 16 at)) H p
      ≡ spend Γ (picked b i (atoms_from kinds operands (16 - i) (at + i))) (counted l) p

pub handing_none : (kinds : List ℕ) (operands : List ℤ) (Γ : NameDepths) (b : ℕ → Bool) (at : ℕ) (l : List ℕ) →
    Handing kinds operands Γ b at (counted l) 0 l
handing_none kinds operands Γ b at l = let z : at + 0 ≡ at = omega arith in record { same = λ p. rw z refl }

module _ {kinds : List ℕ} {operands : List ℤ} {Γ : NameDepths} {b : ℕ → Bool} {at : ℕ} {H : Holds} {i : ℕ} {l : List ℕ}
    (s : Handing kinds operands Γ b at H i l) where
  over : atoms_from kinds operands (16 - i) (at + i) ≡ [] →
      spend Γ (picked b 0 (atoms_from kinds operands 16 at)) H ≡ told true l
  unfolding spend
  over e = λ j p. (s.same p ∙ go p) j
    where
      go : (p : ℕ) → spend Γ (picked b i (atoms_from kinds operands (16 - i) (at + i))) (counted l) p
          ≡ done (counted l) p
      go p = rw e refl

  pub handing_out : 16 ≤ i → spend Γ (picked b 0 (atoms_from kinds operands 16 at)) H ≡ told true l
  handing_out h = over (atoms_out kinds operands at i h)

  pub handing_stop : is_atom (get_or kinds (at + i) 0) ≡ false →
      spend Γ (picked b 0 (atoms_from kinds operands 16 at)) H ≡ told true l
  handing_stop e = over (atoms_stop kinds operands at i e)

  module _ (h : i < 16) (e : is_atom (get_or kinds (at + i) 0) ≡ true) where
    pub handing_kept : b i ≡ false → Handing kinds operands Γ b at H (i + 1) l
    handing_kept f = record { same = λ p. s.same p ∙ go p }
      where
        go : (p : ℕ) → spend Γ (picked b i (atoms_from kinds operands (16 - i) (at + i))) (counted l) p
            ≡ spend Γ (picked b (i + 1) (atoms_from kinds operands (16 - (i + 1)) (at + (i + 1)))) (counted l) p
        go p = let z : i + 1 ≡ suc i = omega arith in rw (atoms_step kinds operands at i h e, f, z) refl

    module _ (f : b i ≡ true) {a : Atom} (is : a ≡ atom_at kinds operands (at + i)) where
      first : (p : ℕ) → spend Γ (picked b i (atoms_from kinds operands (16 - i) (at + i))) (counted l) p
          ≡ onward (λ (I : Holds).
          spend Γ (picked b (i + 1) (atoms_from kinds operands (16 - (i + 1)) (at + (i + 1)))) I)
          (spend Γ (meant a ∷ []) (counted l) p)
      first p =
          let z : i + 1 ≡ suc i = omega arith in
          rw (atoms_step kinds operands at i h e, f, is, z)
          (spend_first Γ (meant (atom_at kinds operands (at + i)))
          (picked b (suc i) (atoms_from kinds operands (16 - suc i) (at + suc i))) (counted l) p)

      pub handing_more : {r : Bool} (m : List ℕ) → spend Γ (meant a ∷ []) (counted l) ≡ told r m → r ≡ true →
          Handing kinds operands Γ b at H (i + 1) m
      unfolding onward
      handing_more {r} m g t = record { same = λ p. s.same p ∙ first p ∙ go p }
        where
          go : (p : ℕ) → onward (λ (I : Holds).
              spend Γ (picked b (i + 1) (atoms_from kinds operands (16 - (i + 1)) (at + (i + 1)))) I)
              (spend Γ (meant a ∷ []) (counted l) p)
              ≡ spend Γ (picked b (i + 1) (atoms_from kinds operands (16 - (i + 1)) (at + (i + 1)))) (counted m) p
          go p = rw (g, t) refl

      pub handing_fault : {r : Bool} (m : List ℕ) → spend Γ (meant a ∷ []) (counted l) ≡ told r m → r ≡ false →
          spend Γ (picked b 0 (atoms_from kinds operands 16 at)) H ≡ told false m
      unfolding onward
      handing_fault {r} m g t = λ j p. (s.same p ∙ first p ∙ go p) j
        where
          go : (p : ℕ) → onward (λ (I : Holds).
              spend Γ (picked b (i + 1) (atoms_from kinds operands (16 - (i + 1)) (at + (i + 1)))) I)
              (spend Γ (meant a ∷ []) (counted l) p) ≡ stop 29 p
          go p = rw (g, t) refl

-- ---- read

and_assoc : (a b c : Bool) → ((a && b) && c) ≡ (a && (b && c))
and_assoc true b c = refl
and_assoc false b c = refl

read_first : (Γ : NameDepths) (B : Set) (H : Holds) (a : C.Atom) (us : List C.Atom) →
    readable Γ B H (a ∷ us) ≡ (readable Γ B H (a ∷ []) && readable Γ B H us)
read_first Γ B H (C.number z) us = refl
read_first Γ B H (C.name x) us = sym (and_assoc (not (is_array Γ x) || _) true (readable Γ B H us))

-- those of us that b picks may be read where those that stand from place i on may be
pub record Reading (kinds : List ℕ) (operands : List ℤ) (Γ : NameDepths) (B : Set) (H : Holds) (b : ℕ → Bool) (at i : ℕ)
    : Type 0 where
  pub same : readable Γ B H (picked b 0 (atoms_from kinds operands 16 at))
      ≡ readable Γ B H (picked b i (atoms_from kinds operands (16 - i) (at + i)))

pub reading_none : (kinds : List ℕ) (operands : List ℤ) (Γ : NameDepths) (B : Set) (H : Holds) (b : ℕ → Bool)
    (at : ℕ) → Reading kinds operands Γ B H b at 0
reading_none kinds operands Γ B H b at = let z : at + 0 ≡ at = omega arith in record { same = rw z refl }

module _ {kinds : List ℕ} {operands : List ℤ} {Γ : NameDepths} {B : Set} {H : Holds} {b : ℕ → Bool} {at i : ℕ}
    (s : Reading kinds operands Γ B H b at i) where
  pub reading_out : 16 ≤ i → true ≡ readable Γ B H (picked b 0 (atoms_from kinds operands 16 at))
  reading_out h =
      sym (s.same ∙ ap (λ (us : List C.Atom). readable Γ B H (picked b i us))
      (atoms_out kinds operands at i h))

  pub reading_stop : is_atom (get_or kinds (at + i) 0) ≡ false →
      true ≡ readable Γ B H (picked b 0 (atoms_from kinds operands 16 at))
  reading_stop e =
      sym (s.same ∙ ap (λ (us : List C.Atom). readable Γ B H (picked b i us))
      (atoms_stop kinds operands at i e))

  module _ (h : i < 16) (e : is_atom (get_or kinds (at + i) 0) ≡ true) where
    pub reading_kept : b i ≡ false → Reading kinds operands Γ B H b at (i + 1)
    reading_kept f = record { same = s.same ∙ go }
      where
        go : readable Γ B H (picked b i (atoms_from kinds operands (16 - i) (at + i)))
            ≡ readable Γ B H (picked b (i + 1) (atoms_from kinds operands (16 - (i + 1)) (at + (i + 1))))
        go = let z : i + 1 ≡ suc i = omega arith in rw (atoms_step kinds operands at i h e, f, z) refl

    module _ (f : b i ≡ true) {a : Atom} (is : a ≡ atom_at kinds operands (at + i)) {r : Bool}
        (g : r ≡ readable Γ B H (meant a ∷ [])) where
      first_read : readable Γ B H (picked b i (atoms_from kinds operands (16 - i) (at + i)))
          ≡ (r && readable Γ B H (picked b (i + 1) (atoms_from kinds operands (16 - (i + 1)) (at + (i + 1)))))
      first_read =
          let z : i + 1 ≡ suc i = omega arith in
          rw (g, atoms_step kinds operands at i h e, f, is, z)
          (read_first Γ B H (meant (atom_at kinds operands (at + i)))
          (picked b (suc i) (atoms_from kinds operands (16 - suc i) (at + suc i))))

      pub reading_more : r ≡ true → Reading kinds operands Γ B H b at (i + 1)
      reading_more t = record { same = s.same ∙ first_read ∙ rw t refl }

      pub reading_fault : r ≡ false → false ≡ readable Γ B H (picked b 0 (atoms_from kinds operands 16 at))
      reading_fault t = sym (s.same ∙ first_read ∙ rw t refl)
