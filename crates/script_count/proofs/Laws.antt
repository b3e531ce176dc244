-- The pass over the kinds, in the terms of the code.
use Rattle.prelude.specs.Kit.{ℕ, ◌≤◌, ◌+◌, ◌<◌, ◌-◌, suc, zero, arith, true, false, Bool, cond, ◌&&◌, ◌≡◌, refl, ◌∙◌}
use Rattle.prelude.specs.Kit.{ap, some, none, List, [], ◌∷◌, eqb, ltb, length, get_or, lt-ltb, ltb-true}
use Rattle.script_count.specs.Count.{new_names, crowd_ends, start_after, count_after, counted_on, crowd}
use Rattle.script_read.proofs.Limits.{NoneOf, others_zero}

-- how far a count is over 256 makes no difference
over : (k : List ℕ) (n p s c d : ℕ) → 256 < c → 256 < d → crowd k n p s c ≡ crowd k n p s d
unfolding crowd
over k zero p s c d g h = rw (lt-ltb 256 c g, lt-ltb 256 d h)
over k (suc n) p s c d g h =
    rw (lt-ltb 256 c g, lt-ltb 256 d h)
    (go (eqb (get_or k p 0) 0) (over k n (p + 1) s _ _ (omega arith) (omega arith)))
  where
    go : (b : Bool) →
        crowd k n (p + 1) s (c + get_or new_names (get_or k p 0) 0) ≡
        crowd k n (p + 1) s (d + get_or new_names (get_or k p 0) 0) →
        cond (b && true) (some s) (crowd k n (p + 1) (cond b p s) (cond b 0 (c + get_or new_names (get_or k p 0) 0))) ≡
        cond (b && true) (some s) (crowd k n (p + 1) (cond b p s) (cond b 0 (d + get_or new_names (get_or k p 0) 0)))
    go true e = refl
    go false e = e

stands_still : (k : List ℕ) (kind n p s c : ℕ) → crowd k n p s (count_after kind c) ≡ crowd k n p s (counted_on kind c)
stands_still k kind n p s c = go (eqb kind 0) (ltb 256 c) refl
  where
    go : (b t : Bool) → ltb 256 c ≡ t →
        crowd k n p s (cond b 0 (c + get_or new_names kind 0)) ≡
        crowd k n p s (cond b 0 (cond t c (c + get_or new_names kind 0)))
    go true t e = refl
    go false true e =
        let h = ltb-true 256 c e in
        over k n p s _ _ (omega arith) h
    go false false e = refl

module _ (k : List ℕ) (p s c : ℕ) where
  -- one node more
  pub turn : p < length k →
      crowd k (length k - p) p s c ≡
      cond (crowd_ends (get_or k p 0) c) (some s)
      (crowd k (length k - (p + 1)) (p + 1) (start_after (get_or k p 0) p s) (counted_on (get_or k p 0) c))
  unfolding crowd
  turn h =
      let e : length k - p ≡ suc (length k - (p + 1)) = omega arith in
      ap (λ (n : ℕ). crowd k n p s c) e
      ∙ ap (cond (crowd_ends (get_or k p 0) c) (some s)) (stands_still k (get_or k p 0) _ _ _ c)

  -- no node is left
  pub ended : length k ≤ p → crowd k (length k - p) p s c ≡ cond (ltb 256 c) (some s) none
  unfolding crowd
  ended h = let e : length k - p ≡ 0 = omega arith in rw e

-- what the pass goes by
pub ruleset passing = (turn, ended)

-- the kinds that take new names
abbrev with_names : List ℕ
with_names = 20 ∷ 19 ∷ 18 ∷ 17 ∷ 13 ∷ 12 ∷ 11 ∷ 10 ∷ 9 ∷ 8 ∷ 6 ∷ 5 ∷ 4 ∷ 1 ∷ []

pub no_name : (k : ℕ) → NoneOf with_names k → 0 ≡ get_or new_names k 0
no_name k n = others_zero with_names new_names refl k n
