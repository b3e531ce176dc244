-- The words of the atoms that follow a line, and the loop that copies them into a frame.
use Rattle.prelude.specs.Kit.{ℕ, ◌≤◌, ◌+◌, ◌<◌, ◌-◌, min, suc, zero, ◌*◌, ◌%◌, arith, true, false, Bool, cond, ◌≡◌, refl}
use Rattle.prelude.specs.Kit.{◌∙◌, sym, ap, ap₂, List, [], ◌∷◌, eqb, ℤ, pos, length, get_or, set}
use Rattle.prelude.specs.Kit.{get_or-set_other, lt-ltb, le-ltb}
use Rattle.machine_code.specs.Reading.{low_bits, name_at, is_atom, atom_at}
use Rattle.kinds.specs.declared.Atom.{Atom}
use Rattle.kinds.specs.declared.Atom.TheVariants.{Number, Name}
use Rattle.machine_frames.specs.Frames.{place, word_of, words_at, arguments_at, arguments_within, put_named}

-- ---- the words that are left after i of them

module _ (kinds : List ℕ) (operands : List ℤ) (calls : ℕ) (env : List ℤ) (at : ℕ) where
  abbrev pub words_left : ℕ → List ℤ
  words_left i = words_at (16 - i) kinds operands calls env (at + i)

  pub words_start : words_at 16 kinds operands calls env at ≡ words_left 0
  words_start = ap (λ (p : ℕ). words_at 16 kinds operands calls env p) (let z : at ≡ at + 0 = omega arith in z)

  pub words_end : (i : ℕ) → is_atom (get_or kinds (at + i) 0) ≡ false → words_left i ≡ []
  unfolding words_at
  words_end i e = go (16 - i)
    where
      go : (n : ℕ) → words_at n kinds operands calls env (at + i) ≡ []
      go zero = refl
      go (suc n) = rw e

  pub words_full : (i : ℕ) → 16 ≤ i → words_left i ≡ []
  unfolding words_at
  words_full i h = ap (λ (n : ℕ). words_at n kinds operands calls env (at + i))
      (let z : 16 - i ≡ 0 = omega arith in z)

  pub words_next : (i : ℕ) → i < 16 → is_atom (get_or kinds (at + i) 0) ≡ true → (a : Atom) (v : ℤ) →
      a ≡ atom_at kinds operands (at + i) → v ≡ word_of calls env a → words_left i ≡ v ∷ words_left (i + 1)
  unfolding words_at
  words_next i h e a v ae ve =
      ap (λ (n : ℕ). words_at n kinds operands calls env (at + i))
      (let z : 16 - i ≡ suc (16 - (i + 1)) = omega arith in z)
      ∙ rw e (ap₂ (λ (w : ℤ) (p : ℕ). w ∷ words_at (16 - (i + 1)) kinds operands calls env p)
      (sym (ve ∙ ap (word_of calls env) ae)) (let z : at + i + 1 ≡ at + (i + 1) = omega arith in z))

-- ---- words written to another frame

-- the words of a frame are as they were after a write before it
module _ (kinds : List ℕ) (operands : List ℤ) (calls : ℕ) (env : List ℤ) (q : ℕ) (v : ℤ)
    (h : q < 256 * calls) where
  word_same : (p : ℕ) → word_of calls (set env q v) (atom_at kinds operands p) ≡ word_of calls env (atom_at kinds
      operands p)
  unfolding atom_at
  word_same p = go (eqb (get_or kinds p 0) 2)
    where
      go : (t : Bool) → word_of calls (set env q v)
          (cond t (Number (get_or operands p (pos 0))) (Name (low_bits (get_or operands p (pos 0)) % 256)))
          ≡ word_of calls env
          (cond t (Number (get_or operands p (pos 0))) (Name (low_bits (get_or operands p (pos 0)) % 256)))
      go true = refl
      go false = get_or-set_other env q (place calls (low_bits (get_or operands p (pos 0)) % 256)) v (pos 0)
          (λ e. omega arith)

  pub arguments_same : (m n p : ℕ) → arguments_at m n kinds operands calls (set env q v) p
      ≡ arguments_at m n kinds operands calls env p
  unfolding arguments_at
  arguments_same zero n p = refl
  arguments_same (suc m) zero p = refl
  arguments_same (suc m) (suc n) p = ap₂ {C = List ℤ} ◌∷◌ (word_same p) (arguments_same m n (p + 1))

-- ---- the arguments

module _ (kinds : List ℕ) (operands : List ℤ) (calls below at names count : ℕ) (env : List ℤ) where
  -- the frames after a call's arguments are put
  abbrev passed : List ℤ
  passed = put_named operands below (arguments_within count names kinds operands calls env at) names env

  pub none_read : length kinds < at + count → env ≡ passed
  unfolding arguments_within put_named
  none_read h = rw (lt-ltb (length kinds) (at + count) h) refl

  pub none_named : at + count ≤ length kinds → length kinds < names + count → env ≡ passed
  unfolding arguments_within put_named
  none_named l h =
      rw (le-ltb (length kinds) (at + count) l, lt-ltb (length kinds) (names + count) h) refl

  pub all_passed : at + count ≤ length kinds → names + count ≤ length kinds →
      passed ≡ put_named operands below (arguments_at 8 count kinds operands calls env at) names env
  unfolding arguments_within
  all_passed l h =
      rw (le-ltb (length kinds) (at + count) l, le-ltb (length kinds) (names + count) h) refl

-- i of the words are copied from the frame of a call to the frame of one below it
pub record Copying (kinds : List ℕ) (operands : List ℤ) (calls below at names count : ℕ) (env₀ env : List ℤ) (i : ℕ) :
    Type 0 where
  pub same : put_named operands below (arguments_within count names kinds operands calls env₀ at) names env₀
      ≡ put_named operands below (arguments_at (8 - i) (count - i) kinds operands calls env (at + i)) (names + i) env
  pub few : i ≤ count

pub copying_none : (kinds : List ℕ) (operands : List ℤ) (calls below at names count : ℕ) (env : List ℤ) →
    at + count ≤ length kinds → names + count ≤ length kinds →
    Copying kinds operands calls below at names count env env 0
copying_none kinds operands calls below at names count env l h = record {
  same = all_passed kinds operands calls below at names count env l h
      ∙ ap₂ (λ (p : ℕ) (q : ℕ). put_named operands below (arguments_at 8 count kinds operands calls env p) q env)
      (let z : at ≡ at + 0 = omega arith in z) (let z : names ≡ names + 0 = omega arith in z)
      ∙ ap (λ (n : ℕ). put_named operands below (arguments_at 8 n kinds operands calls env (at + 0)) (names + 0) env)
      (let z : count ≡ count - 0 = omega arith in z);
  few = omega arith;
}

module _ {kinds : List ℕ} {operands : List ℤ} {calls below at names count : ℕ} {env₀ env : List ℤ} {i : ℕ}
    (inv : Copying kinds operands calls below at names count env₀ env i) where
  -- m of n words more
  abbrev copy_on : ℕ → ℕ → List ℤ
  copy_on m n = put_named operands below (arguments_at m n kinds operands calls env (at + i)) (names + i) env

  pub copied_all : min count 8 ≤ i → env ≡ passed kinds operands calls below at names count env₀
  unfolding put_named arguments_at
  copied_all h = sym (inv.same ∙ go (8 - i) (count - i) (omega arith))
    where
      go : (m n : ℕ) → min m n ≡ 0 → copy_on m n ≡ env
      go zero n e = refl
      go (suc m) zero e = refl
      go (suc m) (suc n) e = absurd (omega arith)

  pub copying_more : i < 8 → i < count → below < calls → calls < 32 →
      (a : Atom) (v : ℤ) → a ≡ atom_at kinds operands (at + i) → v ≡ word_of calls env a → (x p : ℕ) →
      x ≡ name_at operands (names + i) → p ≡ place below x →
      Copying kinds operands calls below at names count env₀ (set env p v) (i + 1)
  unfolding put_named arguments_at
  copying_more h l b d a v ae ve x p xe pe = record {
    same = inv.same
        ∙ ap₂ copy_on (let z : 8 - i ≡ suc (8 - (i + 1)) = omega arith in z)
        (let z : count - i ≡ suc (count - (i + 1)) = omega (arith, inv.few, l) in z)
        ∙ ap₂ (λ (w : ℤ) (q : ℕ). put_named operands below
        (arguments_at (8 - (i + 1)) (count - (i + 1)) kinds operands calls env (at + i + 1)) (names + i + 1)
        (set env q w))
        (sym (ve ∙ ap (word_of calls env) ae)) (sym (pe ∙ ap (place below) xe))
        ∙ ap₂ (λ (q : ℕ) (n : ℕ). put_named operands below
        (arguments_at (8 - (i + 1)) (count - (i + 1)) kinds operands calls env q) n (set env p v))
        (let z : at + i + 1 ≡ at + (i + 1) = omega arith in z) (let z : names + i + 1 ≡ names + (i + 1) = omega arith
        in z)
        ∙ ap (λ (ws : List ℤ). put_named operands below ws (names + (i + 1)) (set env p v))
        (sym (arguments_same kinds operands calls env p v (omega (arith, pe, xe, b)) (8 - (i + 1)) (count - (i + 1))
        (at + (i + 1))));
    few = omega (arith, inv.few, l);
  }
