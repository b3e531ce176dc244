-- The lines that are looked at, as parts of the two arrays.
use Rattle.std.specs.Ordering.{int_eq}
use Rattle.prelude.specs.Kit.{Bool, pos, negsuc, max, eqb}
use Rattle.prelude.specs.Kit.{ℕ, suc, zero, min, arith, ◌≡◌, refl, ◌∙◌, ap, List, [], ◌∷◌, ltb, ℤ, length, take}
use Rattle.semantics.specs.Code.{Row}
use Rattle.semantics.specs.Number.{is_zero}
use Rattle.semantics_lent.specs.Form.{used, paired, code_length, lent_rows, goes_on, arities_of, code_form, form}

-- `==` on words tells the same as the definition
zero_operand : (z : ℤ) → int_eq z (pos 0) ≡ is_zero z
zero_operand (pos zero) = refl
zero_operand (pos (suc n)) = grind arith
zero_operand (negsuc n) = refl

pub all_lines : (ks : List ℕ) (os : List ℤ) →
    max (used (λ k. eqb k 0) ks) (used (λ z. int_eq z (pos 0)) os) ≡ code_length ks os
unfolding code_length
all_lines ks os = ap (λ (f : ℤ → Bool). max (used (λ k. eqb k 0) ks) (used f os)) (λ i z. zero_operand z i)

paired_take : (n : ℕ) (ks : List ℕ) (os : List ℤ) → paired (take n ks) (take n os) ≡ take n (paired ks os)
unfolding paired
paired_take zero ks os = refl
paired_take (suc n) [] os = refl
paired_take (suc n) (k ∷ ks) [] = refl
paired_take (suc n) (k ∷ ks) (o ∷ os) =
    ap (λ (l : List Row). record { kind = k; operand = o } ∷ l) (paired_take n ks os)

paired_min : (ks : List ℕ) (os : List ℤ) → length (paired ks os) ≡ min (length ks) (length os)
unfolding paired
paired_min [] os = omega arith
paired_min (k ∷ ks) [] = omega arith
paired_min (k ∷ ks) (o ∷ os) = omega (arith, paired_min ks os)

take_min : {A : Type 0} (n m : ℕ) (l : List A) → m ≡ min n (length l) → take m l ≡ take n l
take_min zero zero l e = refl
take_min zero (suc m) l e = absurd (omega arith)
take_min (suc n) zero [] e = refl
take_min (suc n) (suc m) [] e = refl
take_min (suc n) zero (a ∷ l) e = absurd (omega arith)
take_min {A} (suc n) (suc m) (a ∷ l) e = ap (λ (r : List A). a ∷ r) (take_min n m l (omega arith))

module _ (ks : List ℕ) (os : List ℤ) (all room lines : ℕ) (e : all ≡ code_length ks os)
    (f : room ≡ min 4096 (min (length ks) (length os))) (g : lines ≡ min room all) where
  pub cut_rows : paired (take lines ks) (take lines os) ≡ lent_rows ks os
  unfolding lent_rows
  cut_rows =
      paired_take lines ks os
      ∙ take_min (min 4096 (code_length ks os)) lines (paired ks os) (omega (arith, paired_min ks os))

  pub cut_form : code_form (paired (take lines ks) (take lines os))
      (arities_of (paired (take lines ks) (take lines os)))
      (ltb room all) 0 ≡ form ks os
  unfolding form goes_on
  cut_form = rw (cut_rows, e, f)
