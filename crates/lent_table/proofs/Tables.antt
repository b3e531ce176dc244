-- Lists that are filled from the front, and the equality of tables.
use Rattle.prelude.specs.Kit.{ℕ, ◌≤◌, ◌+◌, ◌<◌, arith, dec_lt, ℕ_discrete, true, false}
use mathlib.Core.Bool.{beq}
use Rattle.prelude.specs.Kit.{Bool, ◌≡◌, refl, ◌∙◌, sym, ap, List, [], ◌∷◌, length, get_or, set}
use Rattle.prelude.specs.Kit.{length-set, get_or-set_other, get_or-set_same, ext_get_or}
use Rattle.laws.specs.Lists.{tabulate_length, tabulate_at}
use Rattle.semantics.specs.Basics.{tabulate}
use Rattle.semantics.specs.Borrow.{Table, same, same_row, same_table}
use lib.Pointwise.{pointwise}

-- the first i of n places have what they are to have
pub record Filled {A : Type 0} (want : ℕ → A) (d : A) (n i : ℕ) (l : List A) : Type 0 where
  pub long : length l ≡ n
  pub few : i ≤ n
  pub front : (k : ℕ) → k < i → get_or l k d ≡ want k

module _ {A : Type 0} (want : ℕ → A) (d : A) (n : ℕ) where
  pub filled_none : (l : List A) → length l ≡ n → Filled want d n 0 l
  filled_none l h = record { long = h; few = omega arith; front = λ k q. absurd (let z : ⊥ = omega (arith, q) in z) }

  module _ {i : ℕ} {l : List A} (s : Filled want d n i l) where
    pub filled_next : i < n → (v : A) → v ≡ want i → Filled want d n (i + 1) (set l i v)
    filled_next h v e = record {
      long = length-set l i v ∙ s.long;
      few = omega (arith, h);
      front = λ k q. go k q (ℕ_discrete k i);
    }
      where
        go : (k : ℕ) → k < i + 1 → Dec (k ≡ i) → get_or (set l i v) k d ≡ want k
        go k q (yes p) = rw p (get_or-set_same l i v d (omega (arith, h, s.long)) ∙ e)
        go k q (no p) = get_or-set_other l i k v d p ∙ s.front k (omega (arith, q, p))

    pub filled_whole : n ≤ i → l ≡ tabulate 0 n want
    filled_whole h =
        ext_get_or d l (tabulate 0 n want) (s.long ∙ sym (tabulate_length n 0 want)) (λ k q.
        s.front k (omega (arith, q, h, s.long))
        ∙ sym (tabulate_at n 0 want k d (omega (arith, q, s.long)) ∙ ap want (let z : 0 + k ≡ k = omega arith in z)))

-- from place i on a list is as another
pub record Kept {A : Type 0} (d : A) (o : List A) (i : ℕ) (l : List A) : Type 0 where
  pub back : (k : ℕ) → i ≤ k → get_or l k d ≡ get_or o k d

module _ {A : Type 0} (d : A) (o : List A) where
  pub kept_all : Kept d o 0 o
  kept_all = record { back = λ k q. refl }

  pub kept_next : {i : ℕ} {l : List A} → Kept d o i l → (v : A) → Kept d o (i + 1) (set l i v)
  kept_next {i} {l} s v = record {
    back = λ k q. get_or-set_other l i k v d (λ p. omega (arith, p, q)) ∙ s.back k (omega (arith, q));
  }

  -- where the rest is to be as it is in the other
  pub filled_kept : {want : ℕ → A} {n i : ℕ} {l : List A} → Filled want d n i l → Kept d o i l →
      ((k : ℕ) → i ≤ k → k < n → get_or o k d ≡ want k) → l ≡ tabulate 0 n want
  filled_kept {want} {n} {i} {l} s b rest =
      filled_whole want d n {i = n} (record { long = s.long; few = omega arith; front = λ k q. go k q (dec_lt k i) })
      (omega arith)
    where
      go : (k : ℕ) → k < n → Dec (k < i) → get_or l k d ≡ want k
      go k q (yes h) = s.front k h
      go k q (no h) = b.back k (omega (arith, h)) ∙ rest k (omega (arith, h)) q

-- ---- tables that are the same

alike : (a b : Bool) → beq b a ≡ same a b
alike true true = refl
alike true false = refl
alike false true = refl
alike false false = refl

rows_alike : (k l : List Bool) → pointwise beq l k ≡ same_row k l
rows_alike [] [] = refl
rows_alike [] (b ∷ l) = refl
rows_alike (a ∷ k) [] = refl
rows_alike (a ∷ k) (b ∷ l) = rw (alike a b, rows_alike k l) refl

pub tables_alike : (T U : Table) → pointwise (pointwise beq) U T ≡ same_table T U
tables_alike [] [] = refl
tables_alike [] (l ∷ U) = refl
tables_alike (k ∷ T) [] = refl
tables_alike (k ∷ T) (l ∷ U) = rw (rows_alike k l, tables_alike T U) refl
