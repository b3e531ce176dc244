-- Laws of the arrays of a count of elements.
use Rattle.prelude.specs.Kit.{ℕ, ◌≤◌, ◌+◌, ◌<◌, ◌-◌, suc, zero, arith, true, false, Bool, cond, ◌≡◌, refl, ◌∙◌, sym, ap}
use Rattle.prelude.specs.Kit.{ap₂, List, T, ℤ, pos, negsuc, nat_abs, non_neg, length, get_or, length-replicate}
use Rattle.prelude.specs.Kit.{ne_eqb, ltb-true, w64, Fits}
use Rattle.semantics.specs.Outcome.{Outcome, done, stop}
use Rattle.semantics.specs.Machine.{is_count}
use Rattle.semantics.specs.Store.{Store, has_free, acquired, retained}
use Rattle.laws.specs.Lists.{tabulate_length, tabulate_at}
use Rattle.store.specs.declared.Gained.{Gained}
use Rattle.store.specs.Acquiring.{gained, acquired_outcome, next_cell}
use Rattle.std.specs.Prelude.{Option, Some, None}
use Rattle.machine_code.proofs.Reading.{no_bool, less_one}
use Rattle.machine_frames.specs.Work.{Out}
use Rattle.machine_frames.specs.Frames.{level_of, noted}
use Rattle.machine_frames.specs.Work.{Memory, memory, Ran, ran, left, out, with_store, stepping, bound_result}
use Rattle.machine_lines.specs.Lines.{Given, given, gave, acquired_given, elements_by, retained_times}
use Rattle.machine_lines.specs.Lines.{retained_copies, made_memory, array_memory, counted_given, array_given}
use Rattle.machine_lines.specs.Lines.{cell_from, array_made, giving_line, array_line}

-- ---- the elements

pub elements_length : (counting : Bool) (w : ℤ) (n : ℕ) → length (elements_by counting w n) ≡ n
elements_length true w n = tabulate_length n 0 (λ i. pos i)
elements_length false w n = length-replicate n w

module _ (w : ℤ) (n i : ℕ) (h : i < n) where
  pub element_counts : (counting : Bool) → counting ≡ true → pos i ≡ get_or (elements_by counting w n) i (pos 0)
  element_counts counting e = rw e (sym (tabulate_at n 0 (λ j. pos j) i (pos 0) h ∙ ap pos (omega arith)))

-- ---- references more

pub times_more : (n i c : ℕ) (σ : Store) → i < n →
    retained_times (n - i) c σ ≡ retained_times (n - (i + 1)) c (retained c σ)
unfolding retained_times
times_more n i c σ h = ap (λ (k : ℕ). retained_times k c σ) (let z : n - i ≡ suc (n - (i + 1)) = omega arith in z)

pub times_end : (n i c : ℕ) (σ : Store) → n ≤ i → retained_times (n - i) c σ ≡ σ
unfolding retained_times
times_end n i c σ h = ap (λ (k : ℕ). retained_times k c σ) (let z : n - i ≡ 0 = omega arith in z)

-- ---- counts

pub count_fits : (n : ℤ) → is_count n ≡ true → (T (non_neg n) × Fits w64 (nat_abs n)) × (nat_abs n < 17)
count_fits (pos n) e =
    let few : n < 17 = ltb-true n 17 e in ((tt, record { fits = omega (arith, few) }), few)
count_fits (negsuc n) e = no_bool (sym e)

-- a count out of range gives 26, whether a cell is free or not
pub counted_bad : (o : Outcome (Unit {0}) Gained) → counted_given false o ≡ stop 26 tt
counted_bad (done g u) = refl
counted_bad (stop n u) = refl

-- ---- the ways out

module _ (counting : Bool) (w : ℤ) (d : ℕ) (n : ℤ) (steps : ℕ) (m : Memory) where
  abbrev made : Ran
  made = array_made counting w d n steps m

  pub array_spent : (r : Out) → steps ≡ 0 → r ≡ out 21 (pos 0) 0 steps → ran r m ≡ made
  unfolding array_made stepping
  array_spent r z e = rw (e, z)

  module _ (some : steps ≡ 0 → ⊥) where
    array_is : made ≡ gave (steps - 1) (array_memory counting w d n m) (array_given n m)
    unfolding array_made stepping
    array_is = ap (λ (k : ℕ). array_made counting w d n k m) (less_one steps (omega arith))

    pub array_bad : is_count n ≡ false → (r : Out) → r ≡ out 26 (pos 0) 0 (steps - 1) → ran r m ≡ made
    array_bad e r q = ap (λ (y : Out). ran y m) q
        ∙ sym (array_is ∙ rw e (ap (gave (steps - 1) m) (counted_bad (cell_from m))))

    module _ (e : is_count n ≡ true) (a : Option Gained) (ae : acquired_outcome a ≡ cell_from m) where
      array_in : made ≡ gave (steps - 1) (made_memory counting w d (nat_abs n) m (acquired_outcome a))
          (acquired_given (acquired_outcome a))
      array_in = array_is ∙ rw (e, ae) refl

      pub array_cell : (g : Gained) → a ≡ Some g → (env' : List ℤ) → env' ≡ noted g.left m.env → (τ : Store) →
          τ ≡ retained_copies d w (nat_abs n) (acquired d (elements_by counting w (nat_abs n)) m.store) → (z : ℤ) →
          z ≡ pos g.cell → (r : Out) → r ≡ out 0 z 0 (steps - 1) → ran r (memory τ env') ≡ made
      array_cell g h env' f τ τe z ze r q =
          ap₂ ran (q ∙ ap (λ (y : ℤ). out 0 y 0 (steps - 1)) ze) (ap₂ memory τe f) ∙ sym (array_in ∙ rw h refl)

      pub array_none : a ≡ None → (τ : Store) →
          τ ≡ acquired d (elements_by counting w (nat_abs n)) m.store → (r : Out) →
          r ≡ out 25 (pos 0) 0 (steps - 1) → ran r (memory τ m.env) ≡ made
      array_none h τ τe r q = ap₂ (λ (y : Out) (ρ : Store). ran y (memory ρ m.env)) q τe ∙ sym (array_in ∙ rw h refl)

-- ---- the array bound to a name

-- a stop has a number
abbrev Real : Given → Type 0
Real (done w u) = Unit {0}
Real (stop n u) = n ≡ 0 → ⊥

array_real : (n : ℤ) (m : Memory) → Real (array_given n m)
unfolding next_cell
array_real n m = go (is_count n) (has_free m.store)
  where
    go : (t f : Bool) → Real (counted_given t
        (cond f (done (gained m.store.first (level_of m.env - 1)) tt) (stop 25 tt)))
    go true true = tt
    go true false = λ e. omega arith
    go false true = λ e. omega arith
    go false false = λ e. omega arith

-- a stop is not bound
bound_stop : (calls x next : ℕ) (r : Out) (env : List ℤ) → (r.stop ≡ 0 → ⊥) →
    left r env ≡ bound_result calls x next r env
bound_stop calls x next r env h = rw (ne_eqb r.stop 0 h)

module _ (calls x next : ℕ) (env : List ℤ) (r : Out) (τ : Store) (q : Out) (env' : List ℤ)
    (bound : left q env' ≡ bound_result calls x next r env) where
  given_bound : (s : ℕ) (m : Memory) (g : Given) → Real g → ran r (memory τ env) ≡ gave s m g →
      ran q (memory τ env') ≡ with_store m.store (given calls x next s m.env g)
  given_bound s m (done w u) h e =
      ap₂ (λ (l : _) (ρ : Store). with_store ρ l)
      (bound ∙ ap (λ (y : Ran). bound_result calls x next y.out y.memory.env) e)
      (ap (λ (y : Ran). y.memory.store) e)
  given_bound s m (stop n u) h e =
      ap₂ (λ (l : _) (ρ : Store). with_store ρ l)
      (bound ∙ sym (bound_stop calls x next r env (λ z. h (sym (ap (λ (y : Ran). y.out.stop) e) ∙ z)))
      ∙ ap (λ (y : Ran). left y.out y.memory.env) e)
      (ap (λ (y : Ran). y.memory.store) e)

  pub array_bound : (counting : Bool) (w : ℤ) (d : ℕ) (n : ℤ) (steps : ℕ) (m : Memory) →
      ran r (memory τ env) ≡ array_made counting w d n steps m →
      ran q (memory τ env') ≡ array_line calls x next counting w d n steps m
  unfolding array_made giving_line stepping
  array_bound counting w d n zero m e = given_bound 0 m (stop 21 tt) (λ z. omega arith) e
  array_bound counting w d n (suc s) m e =
      given_bound s (array_memory counting w d n m) (array_given n m) (array_real n m) e
