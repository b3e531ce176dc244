-- Facts of each kind: what the tables of the definitions give for the kinds that the code does not name.
use Rattle.prelude.specs.Kit.{ℕ, ◌≤◌, ◌+◌, ◌<◌, suc, zero, ◌*◌, arith, true, false, Bool, cond, ◌&&◌}
use Rattle.prelude.specs.Kit.{false≢true, ◌||◌, ◌≡◌, refl, ◌∙◌, sym, List, [], ◌∷◌, eqb, ltb, leb, get_or, ne_eqb}
use Rattle.prelude.specs.Kit.{eqb-true, ltb-true, leb-true}
use Rattle.laws.specs.Tests.{both_hold, or_left}
use Rattle.semantics.specs.File.{Place, allowed, low_limits, high_limits, part_counts}
use Rattle.script_read.specs.Told.{limits_at}

-- a table by kind: a test that each entry passes, and that d past its end passes
module _ {A : Type 0} (test : ℕ → A → Bool) (d : A) where
  abbrev pub all_pass : ℕ → List A → Bool
  all_pass i [] = true
  all_pass i (a ∷ t) = test i a && all_pass (suc i) t

  module _ (past : (k : ℕ) → test k d ≡ true) where
    pass_at : (i j k : ℕ) (t : List A) → k ≡ i + j → all_pass i t ≡ true → test k (get_or t j d) ≡ true
    pass_at i j k [] e f = past k
    pass_at i zero k (a ∷ t) e f =
        let g : k ≡ i = omega arith in
        rw g (both_hold (test i a) (all_pass (suc i) t) f).0
    pass_at i (suc j) k (a ∷ t) e f =
        pass_at (suc i) j k t (omega arith) (both_hold (test i a) (all_pass (suc i) t) f).1

    pub entry_passes : (t : List A) → all_pass 0 t ≡ true → (k : ℕ) → test k (get_or t k d) ≡ true
    entry_passes t f k = pass_at 0 k k t (omega arith) f

-- a number is none of those that a list has
abbrev pub NoneOf : List ℕ → ℕ → Type 0
NoneOf [] k = Unit {0}
NoneOf (a ∷ l) k = NoneOf l k × (k ≡ a → ⊥)

abbrev is_in : ℕ → List ℕ → Bool
is_in k [] = false
is_in k (a ∷ l) = eqb k a || is_in k l

not_in : (l : List ℕ) (k : ℕ) → NoneOf l k → is_in k l ≡ false
not_in [] k n = refl
not_in (a ∷ l) k n = rw (ne_eqb k a n.1) (not_in l k n.0)

-- a table whose entries are blank but for some kinds
module _ {A : Type 0} (blank : A → Bool) (d : A) (b : blank d ≡ true) (ks : List ℕ) (t : List A)
    (f : all_pass (λ k v. blank v || is_in k ks) d 0 t ≡ true) where
  others_blank : (k : ℕ) → NoneOf ks k → blank (get_or t k d) ≡ true
  others_blank k n =
      go (blank (get_or t k d)) (entry_passes (λ k v. blank v || is_in k ks) d (λ i. or_left (blank d) _ b) t f k)
    where
      go : (c : Bool) → (c || is_in k ks) ≡ true → c ≡ true
      go true e = refl
      go false e = absurd (false≢true (sym (not_in ks k n) ∙ e))

pub others_zero : (ks t : List ℕ) → all_pass (λ k v. eqb v 0 || is_in k ks) 0 0 t ≡ true → (k : ℕ) → NoneOf ks k →
    0 ≡ get_or t k 0
others_zero ks t f k n = sym (eqb-true (get_or t k 0) 0 (others_blank (λ v. eqb v 0) 0 refl ks t f k n))

-- ---- kinds that may stand at a place

-- both parts of a limit fit a byte
pub low_small : (k : ℕ) → get_or low_limits k 0 < 256
low_small k = ltb-true _ 256 (entry_passes (λ i v. ltb v 256) 0 (λ i. refl) low_limits refl k)

pub high_small : (k : ℕ) → get_or high_limits k 0 < 256
high_small k = ltb-true _ 256 (entry_passes (λ i v. ltb v 256) 0 (λ i. refl) high_limits refl k)

module _ (place : Place) (k : ℕ) where
  pub none_allowed : 65536 ≡ limits_at place k → allowed place k ≡ false
  none_allowed e = go (allowed place k) e
    where
      go : (b : Bool) → 65536 ≡ cond b (get_or low_limits k 0 + 256 * get_or high_limits k 0) 65536 → b ≡ false
      go true g = absurd (omega (arith, g, low_small k, high_small k))
      go false g = refl

  -- a kind that may stand there, with its limits
  pub some_allowed : (low high : ℕ) → low < 256 → high < 256 → low + 256 * high ≡ limits_at place k →
      (allowed place k ≡ true) × (low ≡ get_or low_limits k 0) × (high ≡ get_or high_limits k 0)
  some_allowed low high l h e = go (allowed place k) e
    where
      go : (b : Bool) → low + 256 * high ≡ cond b (get_or low_limits k 0 + 256 * get_or high_limits k 0) 65536 →
          (b ≡ true) × (low ≡ get_or low_limits k 0) × (high ≡ get_or high_limits k 0)
      go true g = (refl, omega (arith, g, low_small k), omega (arith, g, low_small k))
      go false g = absurd (omega arith)

pub few : (k : ℕ) → get_or part_counts k 0 ≤ 3
few k = leb-true _ 3 (entry_passes (λ i v. leb v 3) 0 (λ i. refl) part_counts refl k)
