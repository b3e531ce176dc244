-- Laws of the levels among the frames.
use Rattle.prelude.specs.Kit.{ℕ, ◌≤◌, ◌+◌, ◌<◌, ◌^◌, arith, true, false, Bool, cond, ◌≡◌, refl, ◌∙◌, ap, List, ltb, ℤ}
use Rattle.prelude.specs.Kit.{pos, length, set, length-set, lt-ltb, le-ltb, w64, to_z}
use Rattle.machine_frames.specs.Frames.{level_place, lowest_place, level_of, lowest_of, levelled, noted}
use Rattle.machine_frames.specs.Frames.{raised}

module _ (n least : ℕ) (env : List ℤ) (e : least ≡ lowest_of env) where
  pub noted_lower : n < 2 ^ 63 → n < least →
      set (set env level_place (to_z w64 n)) lowest_place (to_z w64 n) ≡ noted n env
  unfolding noted
  noted_lower b h = rw (lt-ltb n (2 ^ 63) b, lt-ltb n (lowest_of env) (omega (arith, e, h))) refl

  pub noted_higher : n < 2 ^ 63 → least ≤ n → set env level_place (to_z w64 n) ≡ noted n env
  unfolding noted
  noted_higher b h = rw (lt-ltb n (2 ^ 63) b, le-ltb n (lowest_of env) (omega (arith, e, h))) refl

pub raised_by : (n k : ℕ) (env : List ℤ) → n ≡ level_of env → n + k < 2 ^ 63 →
    set env level_place (to_z w64 (n + k)) ≡ raised k env
unfolding raised
raised_by n k env e h =
    rw (lt-ltb (n + k) (2 ^ 63) h) (ap (λ (i : ℕ). set env level_place (pos (i + k))) e)

-- ---- how many words there are

levelled_long : (n : ℕ) (env : List ℤ) → length (levelled n env) ≡ length env
levelled_long n env = length-set (set env level_place (pos n)) lowest_place (pos n) ∙ length-set env level_place (pos n)

pub noted_long : (n : ℕ) (env : List ℤ) → length (noted n env) ≡ length env
unfolding noted
noted_long n env = go (ltb n (lowest_of env))
  where
    go : (t : Bool) → length (cond t (levelled n env) (set env level_place (pos n))) ≡ length env
    go true = levelled_long n env
    go false = length-set env level_place (pos n)

pub raised_long : (k : ℕ) (env : List ℤ) → length (raised k env) ≡ length env
unfolding raised
raised_long k env = length-set env level_place (pos (level_of env + k))
