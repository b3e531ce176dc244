-- The table's positions, from the places of a script's functions, are those of the functions' lines.
use Rattle.std.specs.Prelude.{ℕ, ◌≤◌, ◌+◌, ◌<◌, ◌-◌, suc, zero, ◌*◌, true, false, Bool, cond, ◌≡◌, refl, List, []}
use Rattle.std.specs.Prelude.{◌∷◌, ltb, length, get_or}
use Rattle.prelude.specs.Kit.{arith, ◌∙◌, ap, ap₂, length-append}
use Rattle.semantics.specs.Code.{Row}
use Rattle.machine_code.specs.Reading.{starts_place, start_in, end_in}
use Rattle.machine_table.specs.Positions.{with_start, position_of, starts_from}
use Rattle.machine_table.proofs.Filling.{length_position, from_more}
use Rattle.machine_laws.specs.Functions.{joined, head_of, AllSome}
use Rattle.machine_laws.specs.Ends.{Roomy, position_read, position_other, end_kept}

-- what stands before a function's position stays
start_below : (table : List ℕ) (f start i : ℕ) → i < starts_place + 2 * f →
    get_or (with_start table f start) i 0 ≡ get_or table i 0
start_below table f start i h =
    position_other table (starts_place + 2 * f) start i (λ e. omega (arith, e, h)) (λ e. omega (arith, e, h))

start_read : (table : List ℕ) (f start : ℕ) → Roomy table → f < 32 → start < 65536 →
    start_in (with_start table f start) f ≡ start
unfolding start_in
start_read table f start long h small = position_read table (starts_place + 2 * f) start (omega (arith, long, h)) small

-- the positions after trees stay
start_ends : (table : List ℕ) (f start q : ℕ) → f < 32 → end_in (with_start table f start) q ≡ end_in table q
start_ends table f start q h = end_kept table (starts_place + 2 * f) start q (omega (arith, h))

module _ (kinds : List ℕ) (places : List ℕ) where
  -- what stands before the first position stays
  pub starts_below : (n f : ℕ) (table : List ℕ) (i : ℕ) → i < starts_place + 2 * f →
      get_or (starts_from n kinds places f table) i 0 ≡ get_or table i 0
  unfolding starts_from
  starts_below zero f table i h = refl
  starts_below (suc n) f table i h =
      go (ltb (position_of places f) (length kinds)) (starts_below n (f + 1) after i (omega arith))
    where
      after : List ℕ
      after = with_start table f (position_of places f)

      go : (t : Bool) → get_or (starts_from n kinds places (f + 1) after) i 0 ≡ get_or after i 0 →
          get_or (cond t (starts_from n kinds places (f + 1) after) table) i 0 ≡ get_or table i 0
      go true e = e ∙ start_below table f (position_of places f) i h
      go false e = refl

  -- the positions after trees stay
  pub starts_ends : (n f : ℕ) (table : List ℕ) (q : ℕ) → f + n ≤ 32 →
      end_in (starts_from n kinds places f table) q ≡ end_in table q
  unfolding starts_from
  starts_ends zero f table q h = refl
  starts_ends (suc n) f table q h =
      go (ltb (position_of places f) (length kinds)) (starts_ends n (f + 1) after q (omega arith))
    where
      after : List ℕ
      after = with_start table f (position_of places f)

      go : (t : Bool) → end_in (starts_from n kinds places (f + 1) after) q ≡ end_in after q →
          end_in (cond t (starts_from n kinds places (f + 1) after) table) q ≡ end_in table q
      go true e = e ∙ start_ends table f (position_of places f) q (omega arith)
      go false e = refl

start_same : (a b : List ℕ) (f : ℕ) → ((i : ℕ) → i < starts_place + 2 * (f + 1) → get_or a i 0 ≡ get_or b i 0) →
    start_in a f ≡ start_in b f
unfolding start_in
start_same a b f h =
    ap₂ (λ (x : ℕ) (y : ℕ). x + 256 * y) (h (starts_place + 2 * f) (omega arith))
    (h (starts_place + 2 * f + 1) (omega arith))

-- each of some functions begins where the rows of those before it end; the first has number f and begins at p
abbrev pub Begin : List ℕ → List (List Row) → ℕ → ℕ → Type 0
Begin places [] f p = Unit {0}
Begin places (rs ∷ rss) f p = (position_of places f ≡ p) × Begin places rss (suc f) (p + length rs)

module _ (kinds : List ℕ) where
  -- each position that is written is that of the function's line; the first function has number f
  pub starts_stand : (places : List ℕ) (rss : List (List Row)) (f p : ℕ) (table : List ℕ) → Roomy table →
      f + length rss ≤ 32 → p + length (joined rss) ≤ length kinds → p + length (joined rss) ≤ 4096 →
      AllSome rss → Begin places rss f p → (g : ℕ) → g < length rss →
      start_in (starts_from (length rss) kinds places f table) (f + g) ≡ p + head_of rss g
  unfolding joined head_of
  starts_stand places [] f p table long room there short some begin g l = absurd (omega arith)
  starts_stand places (rs ∷ rss) f p table long room there short some begin g l =
      ap (λ (t : List ℕ). start_in t (f + g))
      (from_more (length rss) kinds places f table
      (omega (arith, begin.0, there, some.0, length-append rs (joined rss)))
      ∙ ap₂ (λ (m : ℕ) (q : ℕ). starts_from (length rss) kinds places m (with_start table f q))
      (let z : f + 1 ≡ suc f = omega arith in z) begin.0)
      ∙ by g l
      (λ j m. starts_stand places rss (suc f) (p + length rs) after
      (omega (arith, long, length_position table (starts_place + 2 * f) p)) (omega arith)
      (omega (arith, length-append rs (joined rss), there)) (omega (arith, length-append rs (joined rss), short))
      some.1 begin.1 j m)
    where
      after : List ℕ
      after = with_start table f p

      whole : List ℕ
      whole = starts_from (length rss) kinds places (suc f) after

      by : (g : ℕ) → g < length (rs ∷ rss) →
          ((j : ℕ) → j < length rss → start_in whole (suc f + j) ≡ p + length rs + head_of rss j) →
          start_in whole (f + g) ≡ p + head_of (rs ∷ rss) g
      by zero l more =
          ap (start_in whole) (let z : f + 0 ≡ f = omega arith in z)
          ∙ start_same whole after f
          (λ i m. starts_below kinds places (length rss) (suc f) after i (omega (arith, m)))
          ∙ start_read table f p long (omega (arith, room)) (omega (arith, short))
          ∙ (let z : p ≡ p + 0 = omega arith in z)
      by (suc j) l more =
          ap (start_in whole) (let z : f + suc j ≡ suc f + j = omega arith in z)
          ∙ more j (omega arith)
          ∙ (let z : p + length rs + head_of rss j ≡ p + (length rs + head_of rss j) = omega arith in z)
