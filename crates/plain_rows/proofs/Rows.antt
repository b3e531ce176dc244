-- Laws of the reading of rows: one for each way out of a reader.
use Rattle.prelude.specs.Kit.{ℕ, ◌≤◌, ◌+◌, ◌<◌, ◌*◌, arith, true, false, Bool}
use Rattle.prelude.specs.Kit.{cond, ◌≡◌, refl, List, eqb, ℤ, pos, length, ne_eqb}
use Rattle.prelude.specs.Kit.{le-leb, lt-leb}
use Rattle.semantics.specs.Number.{bytes_at, signed}
use Rattle.semantics.specs.Kinds.{Loop, mapping, filtering, reducing, rewriting}
use Rattle.plain_rows.specs.Plain.{number_at, loop_of, loop_size, of_loop}

module _ (w : List ℕ) (p : ℕ) where
  pub number_there : (z : ℤ) → 8 * p + 8 ≤ length w → z ≡ signed (bytes_at 8 w (8 * p)) → z ≡ number_at w p
  unfolding number_at
  number_there z h e = rw (le-leb (8 * p + 8) (length w) h) e

  pub number_missing : length w < 8 * p + 8 → pos 0 ≡ number_at w p
  unfolding number_at
  number_missing h = rw (lt-leb (8 * p + 8) (length w) h)

-- ---- loops

-- what holds of a map, a filter and a map that rewrites holds of each kind but a reduce's
pub no_reduce : (P : Loop → Type 0) (kind : ℕ) → (kind ≡ 20 → ⊥) → P mapping → P filtering → P rewriting →
    P (loop_of kind)
no_reduce P kind n m f r = rw (ne_eqb kind 20 n) (go (eqb kind 19) (eqb kind 21))
  where
    go : (b c : Bool) → P (cond b filtering (cond c rewriting mapping))
    go true c = f
    go false true = r
    go false false = m

-- what holds of a map and a filter holds of each kind but a reduce's and that of a map that rewrites
pub no_hands : (P : Loop → Type 0) (kind : ℕ) → (kind ≡ 20 → ⊥) → (kind ≡ 21 → ⊥) → P mapping → P filtering →
    P (loop_of kind)
no_hands P kind n o m f = rw (ne_eqb kind 20 n, ne_eqb kind 21 o) (go (eqb kind 19))
  where
    go : (b : Bool) → P (cond b filtering mapping)
    go true = f
    go false = m

pub size_few : (k : Loop) → loop_size k ≤ 2
size_few mapping = omega arith
size_few filtering = omega arith
size_few reducing = omega arith
size_few rewriting = omega arith

-- a loop has as many atoms as names of a pass
pub of_size : {A : Type 0} (k : Loop) (a b : A) → length (of_loop k a b) ≡ loop_size k
of_size mapping a b = refl
of_size filtering a b = refl
of_size reducing a b = refl
of_size rewriting a b = refl
