-- The loops over the rows and over the functions.
use Rattle.prelude.specs.Kit.{ℕ, ◌≤◌, ◌+◌, ◌<◌, ◌-◌, suc, zero, ◌*◌, ◌%◌, ◌/◌, arith, ◌≡◌}
use Rattle.prelude.specs.Kit.{refl, ◌∙◌, sym, ap, List, length, get_or, set, length-set, lt-ltb, le-ltb}
use Rattle.machine_code.specs.Reading.{table_bytes, ends_place, starts_place}
use Rattle.machine_code.proofs.Reading.{less_one}
use Rattle.machine_table.specs.Positions.{with_position, with_end, end_of, ends_from}
use Rattle.machine_table.specs.Positions.{with_start, position_of, starts_from, filled}

pub length_position : (table : List ℕ) (place position : ℕ) → length (with_position table place position) ≡ length table
length_position table place position =
    length-set (set table place (position % 256)) (place + 1) (position / 256 % 256)
    ∙ length-set table place (position % 256)

-- ---- the loop over the rows: what is left gives what the whole gives

pub record Ending (kinds : List ℕ) (rows : ℕ) (table₀ table : List ℕ) (at : ℕ) : Type 0 where
  pub same : ends_from rows kinds table₀ ≡ ends_from at kinds table
  pub few : at ≤ rows
  pub long : length table ≡ length table₀

module _ {kinds : List ℕ} {rows : ℕ} {table₀ table : List ℕ} {at : ℕ} (inv : Ending kinds rows table₀ table at) where
  pub ended : at ≡ 0 → table ≡ ends_from rows kinds table₀
  unfolding ends_from
  ended h = sym (inv.same ∙ ap (λ (n : ℕ). ends_from n kinds table) h)

  pub end_more : 0 < at → (end : ℕ) → end ≡ end_of (get_or kinds (at - 1) 0) table (at - 1) → (t : List ℕ) →
      t ≡ with_end table (at - 1) end → Ending kinds rows table₀ t (at - 1)
  unfolding ends_from
  end_more h end e t te = record {
    same = inv.same ∙ ap (λ (n : ℕ). ends_from n kinds table) (less_one at h)
        ∙ ap (ends_from (at - 1) kinds) (ap (with_end table (at - 1)) (sym e) ∙ sym te);
    few = omega (arith, inv.few);
    long = ap length te ∙ length_position table (ends_place + 2 * (at - 1)) end ∙ inv.long;
  }

-- ---- the loop over the functions: f of them are done

pub record Filling (kinds : List ℕ) (functions : ℕ) (places table₀ table : List ℕ) (f : ℕ) : Type 0
  where
    pub same : starts_from functions kinds places 0 table₀
        ≡ starts_from (functions - f) kinds places f table
    pub few : f ≤ functions
    pub long : length table ≡ length table₀

module _ (n : ℕ) (kinds : List ℕ) (places : List ℕ) (f : ℕ) (table : List ℕ) where
  from_none : n ≡ 0 → starts_from n kinds places f table ≡ table
  unfolding starts_from
  from_none e = rw e

  pub from_more : position_of places f < length kinds →
      starts_from (suc n) kinds places f table
      ≡ starts_from n kinds places (f + 1) (with_start table f (position_of places f))
  unfolding starts_from
  from_more h = rw (lt-ltb (position_of places f) (length kinds) h)

from_past : (n : ℕ) (kinds : List ℕ) (places : List ℕ) (f : ℕ) (table : List ℕ) →
    length kinds ≤ position_of places f → starts_from n kinds places f table ≡ table
unfolding starts_from
from_past zero kinds places f table h = refl
from_past (suc n) kinds places f table h = rw (le-ltb (position_of places f) (length kinds) h)

module _ {kinds : List ℕ} {functions : ℕ} {places table₀ table : List ℕ} {f : ℕ}
    (inv : Filling kinds functions places table₀ table f) where
  pub filled_all : functions ≤ f → table ≡ starts_from functions kinds places 0 table₀
  filled_all h = sym (inv.same ∙ from_none (functions - f) kinds places f table (omega arith))

  -- p is where function f begins
  module _ (p : ℕ) (pe : p ≡ position_of places f) where
    pub filled_past : length kinds ≤ p → table ≡ starts_from functions kinds places 0 table₀
    filled_past h = sym (inv.same ∙ from_past (functions - f) kinds places f table (rw pe at h))

    pub fill_more : f < functions → p < length kinds → (t : List ℕ) → t ≡ with_start table f p →
        Filling kinds functions places table₀ t (f + 1)
    fill_more h l t te = record {
      same = inv.same
          ∙ ap (λ (n : ℕ). starts_from n kinds places f table)
          (let z : functions - f ≡ suc (functions - (f + 1)) = omega arith in z)
          ∙ from_more (functions - (f + 1)) kinds places f table (rw pe at l)
          ∙ ap (λ (q : ℕ). starts_from (functions - (f + 1)) kinds places (f + 1) (with_start table f q)) (sym pe)
          ∙ ap (starts_from (functions - (f + 1)) kinds places (f + 1)) (sym te);
      few = omega arith;
      long = ap length te ∙ length_position table (starts_place + 2 * f) p ∙ inv.long;
    }

-- ---- both

pub filled_long : (functions rows : ℕ) (kinds : List ℕ) (places table : List ℕ) → table_bytes ≤ length table →
    (t u : List ℕ) → t ≡ ends_from rows kinds table → u ≡ starts_from functions kinds places 0 t →
    u ≡ filled functions rows kinds places table
unfolding filled
filled_long functions rows kinds places table h t u te ue =
    ue ∙ ap (starts_from functions kinds places 0) te ∙ rw (le-ltb (length table) table_bytes h)
