-- The parameters of a function as it begins, the last one first.
use Rattle.prelude.specs.Kit.{ℕ, ◌≤◌, ◌+◌, ◌<◌, ◌-◌, suc, zero, arith, ℕ_discrete, true, false, Bool, cond, ◌&&◌, ◌||◌}
use Rattle.prelude.specs.Kit.{◌≡◌, refl, ◌∙◌, sym, ap, subst, fun_ext, List, [], ◌∷◌, eqb, ℤ, length, get_or, set}
use Rattle.prelude.specs.Kit.{length-set, replicate, length-replicate, get_or-set_other, get_or-set_same, ne_eqb, eq-eqb}
use Rattle.semantics.specs.Kinds.{picked}
use Rattle.semantics.specs.Live.{just}
use Rattle.semantics.specs.Annotate.{NameDepths, is_array}
use Rattle.semantics_lent.specs.Hold.{Holds, none_held, arrays_in, hold_also, hold_all}
use Rattle.machine_code.specs.Reading.{name_at}
use Rattle.lent_counts.specs.Counted.{counted, set_of}
use Rattle.lent_hold_lines.specs.Lines.{Below}
use Rattle.lent_hold_trees.proofs.Bounds.{Under, under_also}
use Rattle.lent_hold.specs.Functions.{names_from}

pub always : {A : Type 0} (v : A) (k n : ℕ) → get_or (replicate k v) n v ≡ v
always v zero n = refl
always v (suc k) zero = refl
always v (suc k) (suc n) = always v k n

module _ (operands : List ℤ) (at count i : ℕ) where
  pub names_back : 0 < i → i ≤ count → names_from operands (count - (i - 1)) (at + (i - 1))
      ≡ name_at operands (at + (i - 1)) ∷ names_from operands (count - i) (at + i)
  unfolding names_from
  names_back h g =
      let m : count - (i - 1) ≡ suc (count - i) = omega (arith, h, g) in
      let q : at + (i - 1) + 1 ≡ at + i = omega (arith, h) in
      ap (λ (n : ℕ). names_from operands n (at + (i - 1))) m ∙ opened (count - i) (at + (i - 1))
      ∙ ap (λ (r : ℕ). name_at operands (at + (i - 1)) ∷ names_from operands (count - i) r) q
    where
      opened : (n p : ℕ) → names_from operands (suc n) p ≡ name_at operands p ∷ names_from operands n (p + 1)
      opened n p = refl

module _ (Γ : NameDepths) (b : ℕ → Bool) (operands : List ℤ) (at count : ℕ) where
  abbrev pub rest : ℕ → List ℕ
  rest i = picked b i (names_from operands (count - i) (at + i))

  back : (i : ℕ) → 0 < i → i ≤ count → (t : Bool) → b (i - 1) ≡ t →
      rest (i - 1) ≡ cond t (name_at operands (at + (i - 1)) ∷ rest i) (rest i)
  back i h g true e =
      let z : suc (i - 1) ≡ i = omega (arith, h) in
      ap (picked b (i - 1)) (names_back operands at count i h g) ∙ rw (e, z) refl
  back i h g false e =
      let z : suc (i - 1) ≡ i = omega (arith, h) in
      ap (picked b (i - 1)) (names_back operands at count i h g) ∙ rw (e, z) refl

  none_left : rest count ≡ []
  unfolding names_from
  none_left =
      let z : count - count ≡ 0 = omega arith in
      ap (λ (n : ℕ). picked b count (names_from operands n (at + count))) z ∙ shut
    where
      shut : picked b count (names_from operands 0 (at + count)) ≡ []
      shut = refl

  all_left : rest 0 ≡ picked b 0 (names_from operands count at)
  all_left =
      let m : count - 0 ≡ count = omega arith in
      let q : at + 0 ≡ at = omega arith in
      ap (λ (n : ℕ). picked b 0 (names_from operands n (at + 0))) m ∙ ap
      (λ (r : ℕ). picked b 0 (names_from operands count r)) q

  -- ---- lent

  pub record Lending (i : ℕ) (l : List Bool) : Type 0 where
    pub same : set_of l ≡ arrays_in Γ (rest i)
    pub long : length l ≡ 256
    pub few : i ≤ count

  pub lending_none : Lending count (replicate 256 false)
  lending_none = record {
    same = fun_ext (λ n. always false 256 n) ∙ ap (λ (ys : List ℕ). arrays_in Γ ys) (sym none_left);
    long = length-replicate 256 false;
    few = omega arith;
  }

  module _ {i : ℕ} {l : List Bool} (g : Lending i l) (some : 0 < i) where
    pub lending_not : b (i - 1) ≡ false → Lending (i - 1) l
    lending_not e = record {
      same = g.same ∙ ap (λ (ys : List ℕ). arrays_in Γ ys) (sym (back i some g.few false e));
      long = g.long;
      few = omega (arith, g.few);
    }

    module _ (x : ℕ) (name : x ≡ name_at operands (at + (i - 1))) (picked_so : b (i - 1) ≡ true) where
      to : rest (i - 1) ≡ x ∷ rest i
      to = back i some g.few true picked_so ∙ ap (λ (y : ℕ). y ∷ rest i) (sym name)

      pub lending_number : is_array Γ x ≡ false → Lending (i - 1) l
      lending_number e = record {
        same = g.same ∙ fun_ext (λ n. go n (ℕ_discrete x n)) ∙ ap (λ (ys : List ℕ). arrays_in Γ ys) (sym to);
        long = g.long;
        few = omega (arith, g.few);
      }
        where
          and_false : (c : Bool) → (c && false) ≡ false
          and_false true = refl
          and_false false = refl

          go : (n : ℕ) → Dec (x ≡ n) →
              (just (rest i) n && is_array Γ n) ≡ ((eqb x n || just (rest i) n) && is_array Γ n)
          go n (yes p) = rw (← p, e) (and_false (just (rest i) x) ∙ sym (and_false (eqb x x || just (rest i) x)))
          go n (no f) = rw (ne_eqb x n f) refl

      pub lending_array : is_array Γ x ≡ true → x < 256 → Lending (i - 1) (set l x true)
      lending_array e h = record {
        same = fun_ext (λ n. go n (ℕ_discrete x n)) ∙ ap (λ (ys : List ℕ). arrays_in Γ ys) (sym to);
        long = simp length-set g.long;
        few = omega (arith, g.few);
      }
        where
          go : (n : ℕ) → Dec (x ≡ n) →
              get_or (set l x true) n false ≡ ((eqb x n || just (rest i) n) && is_array Γ n)
          go n (yes p) =
              rw (← p, eq-eqb x x refl, e, get_or-set_same l x true false (omega (arith, h, g.long))) refl
          go n (no f) =
              rw (ne_eqb x n f, get_or-set_other l x n true false (λ p. f (sym p))) (ap (λ (h : ℕ → Bool). h n) g.same)

  pub lending_all : {l : List Bool} → Lending 0 l →
      set_of l ≡ arrays_in Γ (picked b 0 (names_from operands count at))
  lending_all g = g.same ∙ ap (λ (ys : List ℕ). arrays_in Γ ys) all_left

  -- ---- held

  pub record Holding (i : ℕ) (l : List ℕ) : Type 0 where
    pub same : counted l ≡ hold_all Γ (rest i) none_held
    pub below : Below (count - i) l
    pub few : i ≤ count

  pub holding_none : Holding count (replicate 256 0)
  holding_none = record {
    same = fun_ext (λ n. always 0 256 n) ∙ ap (λ (ys : List ℕ). hold_all Γ ys none_held) (sym none_left);
    below = record { long = length-replicate {A = ℕ} 256 0; below = λ n. omega (arith, always {A = ℕ} 0 256 n) };
    few = omega arith;
  }

  module _ {i : ℕ} {l : List ℕ} (g : Holding i l) (some : 0 < i) where
    pub holding_not : b (i - 1) ≡ false → Holding (i - 1) l
    holding_not e = record {
      same = g.same ∙ ap (λ (ys : List ℕ). hold_all Γ ys none_held) (sym (back i some g.few false e));
      below = record { long = g.below.long; below = λ n. omega (arith, g.below.below n) };
      few = omega (arith, g.few);
    }

    pub holding_more : (x : ℕ) → x ≡ name_at operands (at + (i - 1)) → b (i - 1) ≡ true → (m : List ℕ) →
        counted m ≡ hold_also Γ x (counted l) → length m ≡ 256 → Holding (i - 1) m
    holding_more x name e m h k = record {
      same = h ∙ ap (hold_also Γ x) g.same ∙ ap (λ (ys : List ℕ). hold_all Γ ys none_held)
          (sym (back i some g.few true e ∙ ap (λ (y : ℕ). y ∷ rest i) (sym name)));
      below = record {
        long = k;
        below = λ n. (let z : counted m n ≤ count - i + 1 =
            under (λ j. under_also Γ (count - i) x (counted l) g.below.below j) n in
            omega (arith, z, g.few, some));
      };
      few = omega (arith, g.few);
    }
      where
        under : Under (count - i + 1) (hold_also Γ x (counted l)) → Under (count - i + 1) (counted m)
        under u =
            λ n. (let z : counted m n ≡ hold_also Γ x (counted l) n = ap (λ (H : Holds). H n) h in omega
            (arith, z, u n))

  pub holding_all : {l : List ℕ} → Holding 0 l →
      (counted l ≡ hold_all Γ (picked b 0 (names_from operands count at)) none_held) × Below count l
  holding_all g = (
    g.same ∙ ap (λ (ys : List ℕ). hold_all Γ ys none_held) all_left,
    record { long = g.below.long; below = λ n. omega (arith, g.below.below n) },
  )

module _ {Γ : NameDepths} {b : ℕ → Bool} {operands : List ℤ} {at count i : ℕ} where
  pub zero_left : {l : List Bool} → Lending Γ b operands at count i l → i ≡ 0 → Lending Γ b operands at count 0 l
  zero_left {l} g e = subst (λ (j : ℕ). Lending Γ b operands at count j l) e g

  pub held_zero : {l : List ℕ} → Holding Γ b operands at count i l → i ≡ 0 → Holding Γ b operands at count 0 l
  held_zero {l} g e = subst (λ (j : ℕ). Holding Γ b operands at count j l) e g
