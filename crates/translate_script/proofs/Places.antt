-- Laws of the table of places: functions one by one, from the last to the first.
use Rattle.prelude.specs.Kit.{ℕ, ◌≤◌, ◌+◌, ◌<◌, ◌-◌, arith, ℕ_discrete, ◌≡◌, refl, ◌∙◌, List, length, get_or, set}
use Rattle.prelude.specs.Kit.{length-set, get_or-set_other, get_or-set_same}
use Rattle.std.specs.Prelude.{Option, Some, None, SomeIff}
use Rattle.semantics.specs.Syntax.{Script}
use Rattle.translate_script.specs.Script.{place_at}
use Rattle.translate_script.specs.Places.{rows_from, PlacesFrom}

-- the position before a place, if there is one
pub place_back : (r : Option ℕ) (v : ℕ) → SomeIff r (1 ≤ v) (v - 1) → place_at r ≡ v
place_back (Some p) v h = omega arith
place_back None v h = omega (arith, h)

module _ {fs : Script} {w : ℕ} {starts : List ℕ} where
  pub places_none : (n : ℕ) → length fs ≤ n → PlacesFrom n fs w starts starts
  places_none n h = record {
    long = refl;
    there = λ g a b. absurd (omega arith);
    before = λ i k. refl;
    after = λ i k. refl;
  }

  -- function n, after those behind it
  pub places_one : {n m : ℕ} {starts' : List ℕ} (u : ℕ) → PlacesFrom m fs w starts starts' → m ≡ n + 1 →
      n < length starts → n < length fs → u ≡ w - length (rows_from fs n) →
      PlacesFrom n fs w starts (set starts' n u)
  places_one {n} {m} {starts'} u h s l few e = record {
    long = length-set starts' n u ∙ h.long;
    there = λ g a b. one g a b (ℕ_discrete g n);
    before = λ i k. get_or-set_other starts' n i u 0 (λ z. omega arith) ∙ h.before i (omega arith);
    after = λ i k. get_or-set_other starts' n i u 0 (λ z. omega arith) ∙ h.after i k;
  }
    where
      one : (g : ℕ) → n ≤ g → g < length fs → Dec (g ≡ n) →
          get_or (set starts' n u) g 0 ≡ w - length (rows_from fs g)
      one g a b (yes z) = rw z (get_or-set_same starts' n u 0 (omega (arith, h.long)) ∙ e)
      one g a b (no f) = get_or-set_other starts' n g u 0 (λ z. f (omega arith)) ∙ h.there g (omega (arith, f)) b
