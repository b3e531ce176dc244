-- What was written backwards, moved to the front: the code of the script, or 9.
use Rattle.prelude.specs.Kit.{ℕ, ◌≤◌, ◌+◌, ◌<◌, ◌-◌, suc, arith, ◌≡◌, refl, ◌∙◌, ap, List, [], ◌∷◌, ◌++◌, ℤ, pos}
use Rattle.prelude.specs.Kit.{length, set, length-set, replicate, take, drop, get_or-set_same}
use Rattle.prelude.specs.Kit.{drop-cons, drop-set-lt, lt-ltb, le-leb, lt-leb}
use Rattle.semantics.specs.Outcome.{done, stop}
use Rattle.semantics.specs.Syntax.{Script}
use Rattle.semantics.specs.Code.{Row}
use Rattle.semantics.specs.Annotate.{code}
use Rattle.semantics.specs.Calls.{room, code_fits}
use Rattle.annotate_rows.specs.Wrote.{before_place, backed, kinds_of, operands_of, Wrote}
use Rattle.annotate_rows.proofs.Rows.{map_length}
use Rattle.translate.specs.Left.{CodeLeft, left_of}
use Rattle.clearing.proofs.Clearing.{take_front}

module _ {A : Type 0} where
  drop_set : (l : List A) (j : ℕ) (v : A) → j < length l → drop j (set l j v) ≡ v ∷ drop (suc j) l
  drop_set l j v h =
      drop-cons (set l j v) j v (omega (arith, length-set l j v))
      ∙ ap (λ (x : A). x ∷ drop (suc j) (set l j v)) (get_or-set_same l j v v h)
      ∙ ap (λ (x : List A). v ∷ x) (drop-set-lt (suc j) l j v (omega arith))

  backed_long : (l : List A) (n : ℕ) (vs : List A) → length vs ≤ n → length (backed l (n + 1) vs) ≡ length l
  unfolding backed before_place
  backed_long l n [] h = refl
  backed_long l n (v ∷ vs) h =
      rw (lt-ltb 1 (n + 1 - length vs) (omega arith))
      (length-set (backed l (n + 1) vs) (n + 1 - length vs - 2) v ∙ backed_long l n vs (omega arith))

  -- what was written so that it ends before position n
  backed_drop : (l : List A) (n : ℕ) (vs : List A) → n ≤ length l → length vs ≤ n →
      drop (n - length vs) (backed l (n + 1) vs) ≡ vs ++ drop n l
  unfolding backed before_place
  backed_drop l n [] h g = ap (λ (i : ℕ). drop i l) (let e : n - 0 ≡ n = omega arith in e)
  backed_drop l n (v ∷ vs) h g =
      let j = n - suc (length vs) in
      let e : n + 1 - length vs - 2 ≡ n - suc (length vs) = omega arith in
      let f : suc (n - suc (length vs)) ≡ n - length vs = omega arith in
      rw (lt-ltb 1 (n + 1 - length vs) (omega arith), e)
      (drop_set (backed l (n + 1) vs) (n - suc (length vs)) v (omega (arith, backed_long l n vs (omega arith)))
      ∙ ap (λ (i : ℕ). v ∷ drop i (backed l (n + 1) vs)) f
      ∙ ap (λ (x : List A). v ∷ x) (backed_drop l n vs h (omega arith)))

  pub written : (l : List A) (n : ℕ) (vs : List A) → n ≤ length l → length vs ≤ n →
      take (length vs) (drop (n - length vs) (backed l (n + 1) vs)) ≡ vs
  written l n vs h g = ap (take (length vs)) (backed_drop l n vs h g) ∙ take_front vs (drop n l)

-- ---- the answer

module _ (fs : Script) (k : List ℕ) (o : List ℤ) (most : ℕ) (e : most ≡ room k o) {k₁ : List ℕ} {o₁ : List ℤ} where
  pub refused_is : Wrote k o k₁ o₁ (most + 1) 0 (code fs) → (k₂ : List ℕ) (o₂ : List ℤ) →
      k₂ ≡ replicate (length k) 0 → o₂ ≡ replicate (length o) (pos 0) →
      ◌≡◌ {A = CodeLeft} (record { answer = stop 9 tt; kinds = k₂; operands = o₂ }) (left_of fs k o)
  unfolding left_of code_fits
  refused_is wrote k₂ o₂ f g = rw (lt-leb (length (code fs)) (room k o) (omega (arith, wrote.at, e)), f, g)

  module _ (p : ℕ) (wrote : Wrote k o k₁ o₁ (most + 1) (p + 1) (code fs)) where
    lines_are : most - p ≡ length (code fs)
    lines_are = omega (arith, wrote.at)

    kinds_are : take (most - p) (drop p k₁) ≡ kinds_of (code fs)
    kinds_are =
        let m = map_length (λ (r : Row). r.kind) (code fs) in
        let a : most - p ≡ length (kinds_of (code fs)) = omega (arith, wrote.at, m) in
        let b : p ≡ most - length (kinds_of (code fs)) = omega (arith, wrote.at, m) in
        rw (a, b, wrote.kinds) (written k most (kinds_of (code fs)) (omega (arith, e)) (omega (arith, wrote.at, m)))

    operands_are : take (most - p) (drop p o₁) ≡ operands_of (code fs)
    operands_are =
        let m = map_length (λ (r : Row). r.operand) (code fs) in
        let a : most - p ≡ length (operands_of (code fs)) = omega (arith, wrote.at, m) in
        let b : p ≡ most - length (operands_of (code fs)) = omega (arith, wrote.at, m) in
        rw (a, b, wrote.operands)
        (written o most (operands_of (code fs)) (omega (arith, e)) (omega (arith, wrote.at, m)))

    pub accepted_is : (k₂ : List ℕ) (o₂ : List ℤ) →
        k₂ ≡ take (most - p) (drop p k₁) ++ replicate (length k₁ - (most - p)) 0 →
        o₂ ≡ take (most - p) (drop p o₁) ++ replicate (length o₁ - (most - p)) (pos 0) →
        ◌≡◌ {A = CodeLeft} (record { answer = done (most - p) tt; kinds = k₂; operands = o₂ }) (left_of fs k o)
    unfolding left_of code_fits
    accepted_is k₂ o₂ f g =
        rw (
          le-leb (length (code fs)) (room k o) (omega (arith, wrote.at, e)),
          f,
          g,
          kinds_are,
          operands_are,
          wrote.long_kinds,
          wrote.long_operands,
          lines_are,
        )
