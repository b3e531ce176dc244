-- The rounds of the table, and the ways out of the functions that work them.
use Rattle.prelude.specs.Kit.{ℕ, ◌≤◌, ◌+◌, ◌<◌, ◌-◌, suc, zero, arith, true, false, Bool, cond, ◌&&◌, not}
use Rattle.prelude.specs.Kit.{and-false, ◌≡◌, ◌≢◌, refl, ◌∙◌, sym, ap, fun_ext, List, [], eqb, ltb, ℤ, length, get_or}
use Rattle.prelude.specs.Kit.{replicate, ne_eqb, lt-ltb, eq-eqb, le-ltb}
use Rattle.laws.specs.Lists.{tabulate_length, tabulate_at}
use Rattle.semantics.specs.Basics.{tabulate}
use Rattle.semantics.specs.Live.{Set}
use Rattle.semantics.specs.Borrow.{Table, borrows, all_borrowed, same_table}
use Rattle.machine_code.specs.Reading.{name_at}
use Rattle.lent_spent.specs.Scan.{set_of, spent_from}
use Rattle.lent_table.specs.Rounds.{Shaped, worked, start_at, end_at, parameter_in, spent_by, stays, reworked_at}
use Rattle.lent_table.specs.Rounds.{table_at}
use Rattle.lent_table.proofs.Tables.{filled_whole}

-- ---- a parameter

stay_main : (b c : Bool) (f : ℕ) → f ≡ 0 → false ≡ (b && (not (eqb f 0) && not c))
stay_main b c f e = rw (eq-eqb f 0 e) (sym (and-false b))

stay_kept : (b c : Bool) (f : ℕ) → f ≢ 0 → c ≡ false → b ≡ (b && (not (eqb f 0) && not c))
stay_kept b c f d e = rw (ne_eqb f 0 d, e) (and_so b)
  where
    and_so : (b : Bool) → b ≡ (b && true)
    and_so true = refl
    and_so false = refl

-- ---- a function

module _ (kinds : List ℕ) (operands : List ℤ) (starts : List ℕ) (functions : ℕ) (T : Table) (f : ℕ) where
  pub spent_none : functions ≤ f → set_of (replicate 256 false) ≡ spent_by kinds operands starts functions T f
  unfolding spent_by
  spent_none h = rw (le-ltb f functions h) (fun_ext (always 256))
    where
      always : (k n : ℕ) → get_or (replicate k false) n false ≡ false
      always zero n = refl
      always (suc k) zero = refl
      always (suc k) (suc n) = always k n

  pub spent_so : f < functions → (at c to : ℕ) → at ≡ start_at starts f → c ≡ name_at operands at →
      to ≡ end_at starts functions (length kinds) f → (S : Set) →
      S ≡ spent_from kinds operands (borrows T) (to - (at + 1 + c)) (at + 1 + c) 0 0 0 →
      S ≡ spent_by kinds operands starts functions T f
  unfolding spent_by
  spent_so h at c to a b e S s = rw (lt-ltb f functions h, ← a, ← b, ← e) s

  past_none : functions ≤ f → (i : ℕ) →
      parameter_in operands (spent_by kinds operands starts functions T f) (start_at starts f) i ≡ false
  unfolding spent_by
  past_none h i = rw (le-ltb f functions h) (and-false (ltb i (name_at operands (start_at starts f))))

  -- the row of a function past the last stays
  pub row_kept : Shaped T → 0 < f → functions ≤ f → f < 32 →
      get_or T f [] ≡ tabulate 0 8 (stays kinds operands starts functions T f)
  row_kept s p h l =
      filled_whole (stays kinds operands starts functions T f) false 8 {i = 8}
      (record {
        long = s.columns f l;
        few = omega arith;
        front = λ i q.
            stay_kept (borrows T f i) (spent i) f (λ e. omega (arith, e, p)) (past_none h i);
      }) (omega arith)
    where
      spent : ℕ → Bool
      spent i = parameter_in operands (spent_by kinds operands starts functions T f) (start_at starts f) i

all_false : replicate 8 false ≡ tabulate 0 8 (λ i. false)
unfolding tabulate
all_false = refl

-- main's row
pub row_main : (kinds : List ℕ) (operands : List ℤ) (starts : List ℕ) (functions : ℕ) (T : Table) →
    replicate 8 false ≡ tabulate 0 8 (stays kinds operands starts functions T 0)
row_main kinds operands starts functions T =
    all_false ∙ ap (tabulate 0 8) (fun_ext (λ i. stay_main (borrows T 0 i)
    (parameter_in operands (spent_by kinds operands starts functions T 0) (start_at starts 0) i) 0 refl))

-- ---- rounds

pub all_true : replicate 32 (replicate 8 true) ≡ all_borrowed
unfolding all_borrowed tabulate
all_true = refl

pub tabled_shaped : (want : ℕ → ℕ → Bool) → Shaped (tabulate 0 32 (λ f. tabulate 0 8 (want f)))
tabled_shaped want = record {
  rows = tabulate_length 32 0 (λ f. tabulate 0 8 (want f));
  columns =
      λ f h. ap length (tabulate_at 32 0 (λ g. tabulate 0 8 (want g)) f [] h) ∙ tabulate_length 8 0
      (want (0 + f));
}

pub all_shaped : Shaped all_borrowed
unfolding all_borrowed
all_shaped = tabled_shaped (λ f i. true)

module _ (kinds : List ℕ) (operands : List ℤ) (starts : List ℕ) (functions : ℕ) where
  abbrev round : Table → Table
  round = reworked_at kinds operands starts functions

  reworked_shaped : (T : Table) → Shaped (round T)
  unfolding reworked_at
  reworked_shaped T = tabled_shaped (stays kinds operands starts functions T)

  -- with so many rounds left a table leads to the one that is sought
  pub record Working (left : ℕ) (T : Table) : Type 0 where
    pub leads : worked round left T ≡ table_at kinds operands starts functions
    pub shaped : Shaped T
    pub few : left ≤ 257

  pub working_first : (T : Table) → T ≡ all_borrowed → Working 257 T
  unfolding table_at
  working_first T e = rw e (record { leads = refl; shaped = all_shaped; few = omega arith })

  module _ {left : ℕ} {T : Table} (w : Working left T) where
    one : worked round (suc (left - 1)) T
        ≡ cond (same_table T (round T)) T (worked round (left - 1) (round T))
    unfolding worked
    one = refl

    at_one : 0 < left → cond (same_table T (round T)) T (worked round (left - 1) (round T))
        ≡ table_at kinds operands starts functions
    at_one h =
        sym one ∙ ap (λ (n : ℕ). worked round n T) (let z : suc (left - 1) ≡ left = omega (arith, h) in z) ∙
        w.leads

    pub working_same : 0 < left → (U : Table) → U ≡ round T → same_table T U ≡ true →
        (T ≡ table_at kinds operands starts functions) × Shaped T
    working_same h U e s = (
      sym (ap (λ (b : Bool). cond b T (worked round (left - 1) (round T))) (sym (ap (same_table T) e) ∙ s))
          ∙ at_one h,
      w.shaped,
    )

    pub working_more : 0 < left → (U : Table) → U ≡ round T → same_table T U ≡ false → Working (left - 1) U
    working_more h U e s = rw e (record {
      leads =
          sym (ap (λ (b : Bool). cond b T (worked round (left - 1) (round T)))
          (sym (ap (same_table T) e) ∙ s)) ∙ at_one h;
      shaped = reworked_shaped T;
      few = omega (arith, w.few);
    })

    pub working_last : left ≡ 0 → (T ≡ table_at kinds operands starts functions) × Shaped T
    unfolding worked
    working_last h = (sym (ap (λ (n : ℕ). worked round n T) h) ∙ w.leads, w.shaped)
