-- The whole file: its sizes and its two parts.
use Rattle.prelude.specs.Kit.{ℕ, ◌≤◌, ◌+◌, ◌<◌, ◌-◌, ◌*◌, arith, true, false, ◌&&◌, ◌≡◌, List, leb, length, take, drop}
use Rattle.prelude.specs.Kit.{length-drop, take_all, ne_eqb, lt-ltb, eq-eqb, le-ltb, leb-true}
use Rattle.laws.specs.Tests.{both_hold}
use Rattle.semantics.specs.File.{script, read_file, between}
use Rattle.script_read.specs.Told.{told}
use Rattle.script_read.specs.Told.{Refused}
use Rattle.semantics.specs.Number.{bytes_at}

pub too_short : (l : List ℕ) → length l < 4 → Refused 1 0 ≡ told (read_file l)
unfolding read_file
too_short l h = rw (lt-ltb (length l) 4 h)

module _ (l : List ℕ) (h : 4 ≤ length l) (f n : ℕ) (fe : f ≡ bytes_at 2 l 0) (ne : n ≡ bytes_at 2 l 2) where
  pub out_of_range : (between 1 32 f && between 1 1024 n) ≡ false → Refused 2 0 ≡ told (read_file l)
  unfolding read_file
  out_of_range e = rw (le-ltb (length l) 4 h, ← fe, ← ne, e)

  module _ (e : (between 1 32 f && between 1 1024 n) ≡ true) where
    pub few_functions : f ≤ 32
    few_functions =
        leb-true f 32 (both_hold (leb 1 f) (leb f 32) (both_hold (between 1 32 f) (between 1 1024 n) e).0).1

    pub other_length : (length l ≡ 4 + 9 * n → ⊥) → Refused 1 0 ≡ told (read_file l)
    unfolding read_file
    other_length g = rw (le-ltb (length l) 4 h, ← fe, ← ne, e, ne_eqb (length l) (4 + 9 * n) g)

    pub whole_file : length l ≡ 4 + 9 * n →
        script (take (4 + n - 4) (drop 4 l)) (take (length l - (4 + n)) (drop (4 + n) l)) f 0 ≡ read_file l
    unfolding read_file
    whole_file g =
        let i : 4 + n - 4 ≡ n = omega arith in
        let j : take (length l - (4 + n)) (drop (4 + n) l) ≡ drop (4 + n) l =
        take_all (length l - (4 + n)) (drop (4 + n) l) (omega (arith, length-drop (4 + n) l)) in
        rw (le-ltb (length l) 4 h, ← fe, ← ne, e, eq-eqb (length l) (4 + 9 * n) g, i, j)
