-- The rows of a function scanned, one after the other.
use Rattle.prelude.specs.Kit.{ℕ, ◌≤◌, ◌+◌, ◌<◌, ◌-◌, suc, zero, arith, ℕ_discrete, true, false, Bool, ◌||◌, ◌≡◌, ◌≢◌, refl}
use Rattle.prelude.specs.Kit.{◌∙◌, sym, ap, fun_ext, List, eqb, ℤ, length, get_or, set, length-set, replicate}
use Rattle.prelude.specs.Kit.{length-replicate, get_or-set_other, get_or-set_same, ne_eqb, eq-eqb}
use Rattle.semantics.specs.Kinds.{Borrowing}
use Rattle.semantics.specs.Live.{Set, ◌∪◌}
use Rattle.machine_code.specs.Reading.{name_at}
use Rattle.lent_spent.specs.Scan.{set_of, second_at, is_handed, is_named, name_if, spent_from}

always : (k n : ℕ) → get_or (replicate k false) n false ≡ false
always zero n = refl
always (suc k) zero = refl
always (suc k) (suc n) = always k n

or_assoc : (a b c : Bool) → ((a || b) || c) ≡ (a || (b || c))
or_assoc true b c = refl
or_assoc false b c = refl

or_false : (a : Bool) → (a || false) ≡ a
or_false true = refl
or_false false = refl

marked : (l : List Bool) (x m : ℕ) → x < length l → get_or (set l x true) m false ≡ (get_or l m false || eqb x m)
marked l x m h = go (ℕ_discrete x m)
  where
    or_true : (a : Bool) → true ≡ (a || true)
    or_true true = refl
    or_true false = refl

    go : Dec (x ≡ m) → get_or (set l x true) m false ≡ (get_or l m false || eqb x m)
    go (yes p) = rw (← p, eq-eqb x x refl, get_or-set_same l x true false h) (or_true (get_or l x false))
    go (no f) = rw (ne_eqb x m f, get_or-set_other l x m true false (λ p. f (sym p))) (sym (or_false (get_or l m false)))

module _ (kinds : List ℕ) (operands : List ℤ) (β : Borrowing) where
  at_number : (n p k g i : ℕ) → get_or kinds p 0 ≡ 2 →
      spent_from kinds operands β (suc n) p k g i ≡ spent_from kinds operands β n (p + 1) k g (i + 1)
  unfolding spent_from
  at_number n p k g i e = rw (eq-eqb (get_or kinds p 0) 2 e, spent_from) refl

  at_name : (n p k g i : ℕ) → (get_or kinds p 0 ≡ 2 → ⊥) → get_or kinds p 0 ≡ 3 → (m : ℕ) →
      spent_from kinds operands β (suc n) p k g i m
      ≡ (name_if (is_handed β k g i) (name_at operands p) m || spent_from kinds operands β n (p + 1) k g (i + 1) m)
  unfolding spent_from
  at_name n p k g i f e m = ap (λ (S : Set). S m) opened
    where
      opened : spent_from kinds operands β (suc n) p k g i
          ≡ name_if (is_handed β k g i) (name_at operands p) ∪ spent_from kinds operands β n (p + 1) k g (i + 1)
      opened = rw (ne_eqb (get_or kinds p 0) 2 f, eq-eqb (get_or kinds p 0) 3 e, spent_from) refl

  at_line : (n p k g i : ℕ) → (get_or kinds p 0 ≡ 2 → ⊥) → (get_or kinds p 0 ≡ 3 → ⊥) → (m : ℕ) →
      spent_from kinds operands β (suc n) p k g i m
      ≡ (name_if (is_named (get_or kinds p 0)) (name_at operands p) m
      || spent_from kinds operands β n (p + 1) (get_or kinds p 0) (second_at operands p) 0 m)
  unfolding spent_from
  at_line n p k g i f e m = ap (λ (S : Set). S m) opened
    where
      opened : spent_from kinds operands β (suc n) p k g i
          ≡ name_if (is_named (get_or kinds p 0)) (name_at operands p)
          ∪ spent_from kinds operands β n (p + 1) (get_or kinds p 0) (second_at operands p) 0
      opened = rw (ne_eqb (get_or kinds p 0) 2 f, ne_eqb (get_or kinds p 0) 3 e, spent_from) refl

  zero_rows : (p k g i m : ℕ) → spent_from kinds operands β 0 p k g i m ≡ false
  unfolding spent_from
  zero_rows p k g i m = refl

  pub record Scanning (from to p k g i : ℕ) (l : List Bool) : Type 0 where
    pub same : (m : ℕ) → (set_of l m || spent_from kinds operands β (to - p) p k g i m)
        ≡ spent_from kinds operands β (to - from) from 0 0 0 m
    pub long : length l ≡ 256
    pub few : i ≤ p

module _ {kinds : List ℕ} {operands : List ℤ} {β : Borrowing} where
  pub scanning_none : (from to : ℕ) → Scanning kinds operands β from to from 0 0 0 (replicate 256 false)
  scanning_none from to = record {
    same = λ m. ap (λ (b : Bool). b || spent_from kinds operands β (to - from) from 0 0 0 m) (always 256 m);
    long = length-replicate 256 false;
    few = omega arith;
  }

  module _ {from to p k g i : ℕ} {l : List Bool} (s : Scanning kinds operands β from to p k g i l) where
    pub scanning_all : to ≤ p → (set_of l ≡ spent_from kinds operands β (to - from) from 0 0 0)
    scanning_all h =
        fun_ext (λ m. sym (or_false (set_of l m)) ∙ ap (λ (b : Bool). set_of l m || b) (sym (nothing m)) ∙
        s.same m)
      where
        shut : (m : ℕ) → spent_from kinds operands β 0 p k g i m ≡ false
        shut m = zero_rows kinds operands β p k g i m

        nothing : (m : ℕ) → spent_from kinds operands β (to - p) p k g i m ≡ false
        nothing m =
            (let z : to - p ≡ 0 = omega (arith, h) in ap (λ (n : ℕ). spent_from kinds operands β n p k g i m)
            z) ∙ shut m

    module _ (more : p < to) where
      size : to - p ≡ suc (to - (p + 1))
      size = omega (arith, more)

      at_size : (m : ℕ) → spent_from kinds operands β (to - p) p k g i m
          ≡ spent_from kinds operands β (suc (to - (p + 1))) p k g i m
      at_size m = ap (λ (n : ℕ). spent_from kinds operands β n p k g i m) size

      pub scanning_number : get_or kinds p 0 ≡ 2 → Scanning kinds operands β from to (p + 1) k g (i + 1) l
      scanning_number e = record {
        same = λ m. ap (λ (b : Bool). set_of l m || b)
            (sym (at_size m ∙ ap (λ (S : Set). S m) (at_number kinds operands β (to - (p + 1)) p k g i e))) ∙ s.same m;
        long = s.long;
        few = omega (arith, s.few);
      }

      -- a name that is spent, or not
      with_mark : (x : ℕ) (b : Bool) (S : Set) (k' g' i' : ℕ) →
          ((m : ℕ) → spent_from kinds operands β (suc (to - (p + 1))) p k g i m ≡ (name_if b x m || S m)) →
          ((m : ℕ) → S m ≡ spent_from kinds operands β (to - (p + 1)) (p + 1) k' g' i' m) → i' ≤ p + 1 →
          (r : List Bool) → length r ≡ 256 → ((m : ℕ) → set_of r m ≡ (set_of l m || name_if b x m)) →
          Scanning kinds operands β from to (p + 1) k' g' i' r
      with_mark x b S k' g' i' e f w r h q = record {
        same = λ m. ap (λ (t : Bool). t || spent_from kinds operands β (to - (p + 1)) (p + 1) k' g' i' m) (q m)
            ∙ or_assoc (set_of l m) (name_if b x m) _
            ∙ ap (λ (t : Bool). set_of l m || (name_if b x m || t)) (sym (f m))
            ∙ ap (λ (t : Bool). set_of l m || t) (sym (at_size m ∙ e m)) ∙ s.same m;
        long = h;
        few = w;
      }

      module _ (name : get_or kinds p 0 ≡ 3) (b : Bool) (so : b ≡ is_handed β k g i) where
        named : (m : ℕ) → spent_from kinds operands β (suc (to - (p + 1))) p k g i m
            ≡ (name_if b (name_at operands p) m || spent_from kinds operands β (to - (p + 1)) (p + 1) k g (i + 1) m)
        named m = at_name kinds operands β (to - (p + 1)) p k g i (omega (arith, name)) name m
            ∙ ap (λ (t : Bool). name_if t (name_at operands p) m
            || spent_from kinds operands β (to - (p + 1)) (p + 1) k g (i + 1) m) (sym so)

      pub scanning_name : {x : ℕ} → get_or kinds p 0 ≡ 3 → true ≡ is_handed β k g i → x ≡ name_at operands p → x < 256 →
          Scanning kinds operands β from to (p + 1) k g (i + 1) (set l x true)
      scanning_name {x} name so e h =
          with_mark (name_at operands p) true _ k g (i + 1) (named name true so) (λ m. refl) (omega (arith, s.few))
          (set l x true) (simp length-set s.long)
          (λ m. marked l x m (omega (arith, h, s.long)) ∙ rw e refl)

      pub scanning_kept : get_or kinds p 0 ≡ 3 → false ≡ is_handed β k g i →
          Scanning kinds operands β from to (p + 1) k g (i + 1) l
      scanning_kept name so =
          with_mark (name_at operands p) false _ k g (i + 1) (named name false so) (λ m. refl) (omega (arith, s.few))
          l s.long (λ m. sym (or_false (set_of l m)))

      module _ {kind y : ℕ} (is : kind ≡ get_or kinds p 0) (line : kind ≢ 2) (line' : kind ≢ 3)
          (second : y ≡ second_at operands p) where
        lined : (b : Bool) → b ≡ is_named kind → (m : ℕ) →
            spent_from kinds operands β (suc (to - (p + 1))) p k g i m
            ≡ (name_if b (name_at operands p) m || spent_from kinds operands β (to - (p + 1)) (p + 1) kind y 0 m)
        lined b so m =
            at_line kinds operands β (to - (p + 1)) p k g i (omega (arith, is, line)) (omega (arith, is, line')) m
            ∙ rw (← is, ← second, ← so) refl

        pub scanning_line : {x : ℕ} → true ≡ is_named kind → x ≡ name_at operands p → x < 256 →
            Scanning kinds operands β from to (p + 1) kind y 0 (set l x true)
        scanning_line {x} so e h =
            with_mark (name_at operands p) true _ kind y 0 (lined true so) (λ m. refl) (omega arith) (set l x true)
            (simp length-set s.long)
            (λ m. marked l x m (omega (arith, h, s.long)) ∙ rw e refl)

        pub scanning_other : false ≡ is_named kind → Scanning kinds operands β from to (p + 1) kind y 0 l
        scanning_other so =
            with_mark (name_at operands p) false _ kind y 0 (lined false so) (λ m. refl) (omega arith) l s.long
            (λ m. sym (or_false (set_of l m)))
