-- What work goes on with, and the invariants of the two loops.
use Rattle.std.specs.Prelude.{◌≡◌, refl, true, false, List, ℕ, suc, ◌+◌, ◌-◌, ◌<◌, ◌≤◌, ℤ, pos, length}
use Rattle.std.proofs.Common.{sym, ap₂, ◌∙◌, arith, eq-eqb, ne_eqb}
use Rattle.std.proofs.Math.Path.{ap}
use Rattle.semantics.specs.Store.{Store, cell_of, appended, overwritten}
use Rattle.semantics.specs.Words.{store_of}
use Rattle.machine_code.proofs.Reading.{less_one}
use Rattle.machine_frames.specs.Work.{Out}
use Rattle.machine_frames.specs.Work.{Memory, memory, Ran, ran, out, halted}
use Rattle.machine_loops.specs.declared.Way.{Way}
use Rattle.machine_loops.specs.declared.Way.TheVariants.{Fill, Keep, Hand, Overwrite}
use Rattle.machine_loops.specs.Loops.{is_taken, carried_word, kept, carried_store}
use Rattle.machine_spec.specs.Machine.{and_then, Looped, entered, carry_by, carry_on, passes_on}
use Rattle.machine_spec.specs.Machine.{Ended}

pub then_stop : (w : Ran) (f : Ran → Ran) → (w.out.stop ≡ 0 → ⊥) → and_then w f ≡ w
then_stop w f h = rw (ne_eqb w.out.stop 0 h)

pub then_go : (w : Ran) (f : Ran → Ran) → w.out.stop ≡ 0 → and_then w f ≡ f w
then_go w f h = rw (eq-eqb w.out.stop 0 h)

-- the lent arrays keep their lengths
pub record Sized (slots : List ℤ) (heads : List ℕ) (env slots₀ : List ℤ) (heads₀ : List ℕ) (env₀ : List ℤ) : Type 0
  where
    pub slots_long : length slots ≡ length slots₀
    pub heads_long : length heads ≡ length heads₀
    pub env_long : length env ≡ length env₀

-- work X that goes on with F after a part that ended with r
module _ (X : Ran) (steps : ℕ) (r : Out) (sl : List ℤ) (he : List ℕ) (en : List ℤ) (F : Ran → Ran)
    (is : X ≡ and_then (ran r (memory (store_of sl he) en)) F) (fewer : r.steps ≤ steps) where
  pub part_stops : (r.stop ≡ 0 → ⊥) → Ended X steps r sl he en
  part_stops h = record { is = sym (is ∙ then_stop (ran r (memory (store_of sl he) en)) F h); fewer = fewer }

  pub part_goes : r.stop ≡ 0 → (q : Out) (en' : List ℤ) →
      F (ran r (memory (store_of sl he) en)) ≡ ran q (memory (store_of sl he) en') → q.steps ≡ r.steps →
      Ended X steps q sl he en'
  part_goes h q en' e t =
      record { is = sym (is ∙ then_go (ran r (memory (store_of sl he) en)) F h ∙ e); fewer = rw t fewer }

-- ---- the passes of a loop

-- i passes are done, and v is carried; what is left gives what the whole gives
pub record Passing (l : Looped) (count steps : ℕ) (v₀ : ℤ) (slots₀ : List ℤ) (heads₀ : List ℕ) (env₀ : List ℤ)
    (v : ℤ) (s i : ℕ) (slots : List ℤ) (heads : List ℕ) (env : List ℤ) : Type 0 where
  pub same : passes_on l count v₀ 0 steps (memory (store_of slots₀ heads₀) env₀)
      ≡ passes_on l (count - i) v i s (memory (store_of slots heads) env)
  pub fewer : s ≤ steps
  pub few : i ≤ count
  pub sized : Sized slots heads env slots₀ heads₀ env₀

module _ (l : Looped) (n : ℕ) (v : ℤ) (i s : ℕ) (m : Memory) where
  passes_dry : 0 < n → s ≡ 0 → passes_on l n v i s m ≡ halted 21 s m
  unfolding passes_on
  passes_dry h e = rw (less_one n h, e)

  passes_end : n ≡ 0 → passes_on l n v i s m ≡ ran (out 0 v 0 s) m
  unfolding passes_on
  passes_end e = rw e

  -- what follows the tree of a pass
  abbrev carrying : Ran → Ran
  carrying w = and_then (carry_on l v i w)
      (λ u. passes_on l (n - 1) u.out.value (i + 1) u.out.steps u.memory)

  passes_step : 0 < n → 0 < s →
      passes_on l n v i s m ≡ and_then (l.body (s - 1) (memory m.store (entered l v i m))) carrying
  unfolding passes_on
  passes_step h f = ap (λ (k : ℕ). passes_on l k v i s m) (less_one n h)
      ∙ ap (λ (k : ℕ). passes_on l (suc (n - 1)) v i k m) (less_one s f)

module _ {l : Looped} {count steps : ℕ} {v₀ : ℤ} {slots₀ : List ℤ} {heads₀ : List ℕ} {env₀ : List ℤ} {v : ℤ} {s i : ℕ}
    {slots : List ℤ} {heads : List ℕ} {env : List ℤ}
    (inv : Passing l count steps v₀ slots₀ heads₀ env₀ v s i slots heads env) where
  abbrev whole : Ran
  whole = passes_on l count v₀ 0 steps (memory (store_of slots₀ heads₀) env₀)

  abbrev here : Memory
  here = memory (store_of slots heads) env

  pub pass_dry : i < count → s ≡ 0 → (r : Out) → r ≡ out 21 (pos 0) 0 s → Ended whole steps r slots heads env
  pass_dry h z r e = record {
    is = ap (λ (y : Out). ran y here) e ∙ sym (inv.same ∙ passes_dry l (count - i) v i s here (omega arith) z);
    fewer = rw e inv.fewer;
  }

  pub pass_end : count ≤ i → (r : Out) → r ≡ out 0 v 0 s → Ended whole steps r slots heads env
  pass_end h r e = record {
    is = ap (λ (y : Out). ran y here) e ∙ sym (inv.same ∙ passes_end l (count - i) v i s here (omega arith));
    fewer = rw e inv.fewer;
  }

  module _ (h : i < count) (f : s ≡ 0 → ⊥) (env₁ : List ℤ) (ee : env₁ ≡ entered l v i here) (r : Out) (sl : List ℤ)
      (he : List ℕ) (en : List ℤ)
      (done : Ended (l.body (s - 1) (memory (store_of slots heads) env₁)) (s - 1) r sl he en)
    where
      abbrev after : Ran → Ran
      after = carrying l (count - i) v i s here

      pass_part : whole ≡ and_then (ran r (memory (store_of sl he) en)) after
      pass_part = inv.same ∙ passes_step l (count - i) v i s here (omega arith) (omega arith)
          ∙ ap (λ (y : List ℤ). and_then (l.body (s - 1) (memory (store_of slots heads) y)) after) (sym ee)
          ∙ ap (λ (w : Ran). and_then w after) (sym done.is)

      pub pass_stops : (r.stop ≡ 0 → ⊥) → Ended whole steps r sl he en
      pass_stops g =
          part_stops _ steps r sl he en after pass_part (omega (arith, done.fewer, inv.fewer)) g

      pub pass_doubts : r.stop ≡ 0 → is_taken l.way r.value ≡ false → (sl' : List ℤ) (he' : List ℕ) →
          store_of sl' he' ≡ store_of sl he → (q : Out) → q ≡ out 28 (pos 0) 0 r.steps →
          Ended whole steps q sl' he' en
      pass_doubts g doubt sl' he' se q e = record {
        is = ap₂ (λ (y : Out) (σ : Store). ran y (memory σ en)) e se
            ∙ sym (pass_part ∙ then_go (ran r (memory (store_of sl he) en)) after g ∙ rw doubt);
        fewer = rw e (omega (arith, done.fewer, inv.fewer));
      }

      pub pass_goes : r.stop ≡ 0 → (u : ℤ) (sl' : List ℤ) (he' : List ℕ) →
          carry_on l v i (ran r (memory (store_of sl he) en))
          ≡ ran (out 0 u 0 r.steps) (memory (store_of sl' he') en) →
          Sized sl' he' en slots heads env →
          Passing l count steps v₀ slots₀ heads₀ env₀ u r.steps (i + 1) sl' he' en
      pass_goes g u sl' he' ce z = record {
        same = pass_part ∙ then_go (ran r (memory (store_of sl he) en)) after g
            ∙ ap (λ (w : Ran). and_then w
            (λ u. passes_on l (count - i - 1) u.out.value (i + 1) u.out.steps u.memory)) ce
            ∙ ap (λ (n : ℕ). passes_on l n u (i + 1) r.steps (memory (store_of sl' he') en))
            (let q : count - i - 1 ≡ count - (i + 1) = omega arith in q);
        fewer = omega (arith, done.fewer, inv.fewer);
        few = omega arith;
        sized = record {
          slots_long = z.slots_long ∙ inv.sized.slots_long;
          heads_long = z.heads_long ∙ inv.sized.heads_long;
          env_long = z.env_long ∙ inv.sized.env_long;
        };
      }

pub passing_starts : (l : Looped) (count steps : ℕ) (v : ℤ) (slots : List ℤ) (heads : List ℕ) (env : List ℤ) →
    Passing l count steps v slots heads env v steps 0 slots heads env
passing_starts l count steps v slots heads env = record {
  same = ap (λ (n : ℕ). passes_on l n v 0 steps (memory (store_of slots heads) env))
      (let z : count ≡ count - 0 = omega arith in z);
  fewer = omega arith;
  few = omega arith;
  sized = record { slots_long = refl; heads_long = refl; env_long = refl };
}

-- What stays the same from pass to pass: the word of the result's cell, where there is one.
abbrev pub Stays : Way → ℤ → ℤ → Type 0
Stays (Fill releases) v₀ v = v ≡ v₀
Stays (Keep arrays) v₀ v = v ≡ v₀
Stays Hand v₀ v = Unit {0}
Stays Overwrite v₀ v = v ≡ v₀

pub stays_first : (way : Way) (v : ℤ) → Stays way v v
stays_first (Fill releases) v = refl
stays_first (Keep arrays) v = refl
stays_first Hand v = tt
stays_first Overwrite v = refl

pub stays_on : (way : Way) (v₀ v r u : ℤ) → Stays way v₀ v → u ≡ carried_word way v r → Stays way v₀ u
stays_on (Fill releases) v₀ v r u h e = e ∙ h
stays_on (Keep arrays) v₀ v r u h e = e ∙ h
stays_on Hand v₀ v r u h e = tt
stays_on Overwrite v₀ v r u h e = e ∙ h

-- what the end of a pass leaves is what it carries on, if it takes what its tree gave
pub carries_on : (way : Way) (v₀ v : ℤ) (i : ℕ) (e : ℤ) → Stays way v₀ v → (r : Out) (σ τ : Store) (env : List ℤ)
    (u : ℤ) → is_taken way r.value ≡ true → u ≡ carried_word way v r.value →
    τ ≡ carried_store way (cell_of v₀) i e r.value σ →
    carry_by way v i e (ran r (memory σ env)) ≡ ran (out 0 u 0 r.steps) (memory τ env)
carries_on way v₀ v i e h r σ τ env u taken ue τe =
    rw taken (ap₂ (λ (y : ℤ) (ρ : Store). ran (out 0 y 0 r.steps) (memory ρ env)) (sym ue) (sym (τe ∙ go way h)))
  where
    go : (y : Way) → Stays y v₀ v →
        carried_store y (cell_of v₀) i e r.value σ ≡ carried_store y (cell_of v) i e r.value σ
    go (Fill releases) g = ap (λ (z : ℤ). appended (cell_of z) r.value σ) (sym g)
    go (Keep arrays) g = ap (λ (z : ℤ). kept arrays (cell_of z) e r.value σ) (sym g)
    go Hand g = refl
    go Overwrite g = ap (λ (z : ℤ). overwritten (cell_of z) i r.value σ) (sym g)
