-- Tables by kind: a test that each entry of a table passes.
use Rattle.prelude.specs.Kit.{ℕ, ◌+◌, suc, zero, arith, true, false, Bool, ◌&&◌, false≢true, ◌≡◌, refl}
use Rattle.prelude.specs.Kit.{List, [], ◌∷◌, get_or}

pub both_hold : (a b : Bool) → (a && b) ≡ true → (a ≡ true) × (b ≡ true)
both_hold true b e = (refl, e)
both_hold false b e = absurd (false≢true e)

-- a table by kind: a test that each entry passes, and that d past its end passes
module _ {A : Type 0} (test : ℕ → A → Bool) (d : A) where
  abbrev pub all_pass : ℕ → List A → Bool
  all_pass i [] = true
  all_pass i (a ∷ t) = test i a && all_pass (suc i) t

  module _ (past : (k : ℕ) → test k d ≡ true) where
    pass_at : (i j k : ℕ) (t : List A) → k ≡ i + j → all_pass i t ≡ true → test k (get_or t j d) ≡ true
    pass_at i j k [] e f = past k
    pass_at i zero k (a ∷ t) e f =
        let g : k ≡ i = omega arith in
        rw g (both_hold (test i a) (all_pass (suc i) t) f).0
    pass_at i (suc j) k (a ∷ t) e f =
        pass_at (suc i) j k t (omega arith) (both_hold (test i a) (all_pass (suc i) t) f).1

    pub entry_passes : (t : List A) → all_pass 0 t ≡ true → (k : ℕ) → test k (get_or t k d) ≡ true
    entry_passes t f k = pass_at 0 k k t (omega arith) f
