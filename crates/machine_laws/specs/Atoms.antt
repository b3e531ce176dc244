-- The words of the atoms that follow a line.
use Rattle.std.specs.Prelude.{ℕ, ◌≤◌, ◌+◌, ◌<◌, ◌-◌, suc, zero, false, ◌≡◌, refl, List, [], ◌∷◌, map, ℤ, length}
use Rattle.std.specs.Prelude.{get_or}
use Rattle.prelude.specs.Kit.{arith, ◌∙◌, sym, ap, ap₂, length-map, le-ltb}
use Rattle.semantics.specs.Code as K
use Rattle.semantics.specs.Code.{atom_row}
use Rattle.semantics.specs.Live.{Set}
use Rattle.semantics.specs.Machine.{Frame, word}
use Rattle.semantics.specs.Machine.{argument}
use Rattle.discipline.proofs.machine.Discipline.{AllKnown}
use Rattle.machine_code.specs.Reading.{atom_at, is_atom}
use Rattle.kinds.specs.declared.Atom.{Atom}
use Rattle.machine_frames.specs.Frames.{word_of, words_at, arguments_at, arguments_within}
use Rattle.machine_code.specs.Rows.{At, at_end, atom_here, atom_kind}
use Rattle.machine_laws.specs.Frames.{Bounded, FrameAgrees, small_known, word_same}

module _ (kinds : List ℕ) (operands : List ℤ) (calls : ℕ) (env : List ℤ) (ρ : Frame) (S : Set) (b : Bounded S)
    (g : FrameAgrees calls env ρ S) where
  pub words_same : (us : List K.Atom) (n at : ℕ) → length us ≤ n → AllKnown us S →
      At kinds operands at (map atom_row us) → is_atom (get_or kinds (at + length us) 0) ≡ false →
      words_at n kinds operands calls env at ≡ map (word ρ) us
  unfolding words_at
  words_same [] zero at h k r e = refl
  words_same [] (suc n) at h k r e =
      let z : at + 0 ≡ at = omega arith in rw (rw z at e) refl
  words_same (a ∷ us) zero at h k r e = absurd (omega arith)
  words_same (a ∷ us) (suc n) at h k r e =
      let z : at + suc (length us) ≡ at + 1 + length us = omega arith in
      rw (atom_kind kinds operands at a r.0) (ap₂ {C = List ℤ} ◌∷◌
      (ap (word_of calls env) (atom_here kinds operands at a (small_known a S b k.0) r.0)
      ∙ word_same calls env ρ S g a k.0)
      (words_same us n (at + 1) (omega arith) k.1 r.1
      (ap (λ (q : ℕ). is_atom (get_or kinds q 0)) (sym z) ∙ e)))

  -- as many words as there are atoms
  arguments_same : (us : List K.Atom) (m at : ℕ) → length us ≤ m → AllKnown us S →
      At kinds operands at (map atom_row us) → arguments_at m (length us) kinds operands calls env at ≡ map (word ρ) us
  unfolding arguments_at
  arguments_same [] zero at h k r = refl
  arguments_same [] (suc m) at h k r = refl
  arguments_same (a ∷ us) zero at h k r = absurd (omega arith)
  arguments_same (a ∷ us) (suc m) at h k r = ap₂ {C = List ℤ} ◌∷◌
      (ap (word_of calls env) (atom_here kinds operands at a (small_known a S b k.0) r.0)
      ∙ word_same calls env ρ S g a k.0)
      (arguments_same us m (at + 1) (omega arith) k.1 r.1)

  -- they are all within the code, as the names are
  pub passed_same : (us : List K.Atom) (at names : ℕ) → length us ≤ 8 → at ≤ length kinds →
      names + length us ≤ length kinds → AllKnown us S → At kinds operands at (map atom_row us) →
      arguments_within (length us) names kinds operands calls env at ≡ map (word ρ) us
  unfolding arguments_within
  passed_same us at names h l n k r =
      rw (
        le-ltb (length kinds) (at + length us)
            (omega (arith, at_end kinds operands at (map atom_row us) l r, length-map us atom_row)),
        le-ltb (length kinds) (names + length us) n,
      ) (arguments_same us 8 at h k r)

  -- the i-th of them
  pub word_at : (us : List K.Atom) (at i : ℕ) → AllKnown us S → At kinds operands at (map atom_row us) → i < length
      us →
      word_of calls env (atom_at kinds operands (at + i)) ≡ argument (map (word ρ) us) i
  word_at [] at i k r h = absurd (omega arith)
  word_at (a ∷ us) at zero k r h =
      ap (λ (q : ℕ). word_of calls env (atom_at kinds operands q)) (let z : at + 0 ≡ at = omega arith in z)
      ∙ ap (word_of calls env) (atom_here kinds operands at a (small_known a S b k.0) r.0)
      ∙ word_same calls env ρ S g a k.0
  word_at (a ∷ us) at (suc i) k r h =
      ap (λ (q : ℕ). word_of calls env (atom_at kinds operands q)) (let z : at + suc i ≡ at + 1 + i = omega arith
      in z)
      ∙ word_at us (at + 1) i k.1 r.1 (omega arith)
