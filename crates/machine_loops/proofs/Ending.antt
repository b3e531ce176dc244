-- Laws of what a pass carries on, and of what a loop ends with.
use Rattle.prelude.specs.Kit.{ℕ, ◌-◌, arith, true, false, Bool, cond, ◌≡◌, refl, ◌∙◌, sym, ap, subst, ap₂, List, []}
use Rattle.prelude.specs.Kit.{◌∷◌, ℤ, length, ne_eqb, eq-eqb, tag_of, w64, of_z, SFits, OneOf, miss}
use Rattle.std.specs.Prelude.{Option, Some, None}
use Rattle.semantics.specs.Outcome.{done, stop}
use Rattle.semantics.specs.Number.{is_answer}
use Rattle.semantics.specs.Store.{Store, cell_of, appended, overwritten, retained, cells_taken}
use Rattle.semantics.specs.Words.{store_of}
use Rattle.store_release.specs.Releasing.{Releases}
use Rattle.machine_frames.specs.Work.{Out}
use Rattle.machine_frames.specs.Frames.{raised}
use Rattle.machine_frames.specs.Work.{Memory, memory, ran, out, bound}
use Rattle.machine_frames.proofs.Levels.{raised_long}
use Rattle.machine_frames.proofs.Tests.{guard_zero, guard_not}
use Rattle.machine_loops.specs.declared.Way.{Way}
use Rattle.machine_loops.specs.declared.Way.TheVariants.{Fill, Keep, Hand, Overwrite}
use Rattle.machine_loops.specs.contracts.Way.{the_type}
use Rattle.machine_loops.specs.Loops.{retained_if, kept, loop_ended, loop_bound, Within, ResultWithin}
use Rattle.machine_loops.specs.Loops.{is_taken, carried_word, carried_store, CarriesOn}

module _ (arrays : Bool) (c : ℕ) (σ : Store) where
  pub retained_asked : arrays ≡ true → retained c σ ≡ retained_if arrays c σ
  retained_asked e = ap (λ (t : Bool). retained_if t c σ) (sym e)

  pub retained_not : arrays ≡ false → σ ≡ retained_if arrays c σ
  retained_not e = ap (λ (t : Bool). retained_if t c σ) (sym e)

module _ (arrays : Bool) (c : ℕ) (w r : ℤ) (σ : Store) (fits : SFits w64 r) where
  pub keeps_none : of_z w64 r ≡ 0 → σ ≡ kept arrays c w r σ
  keeps_none e = rw (guard_zero r fits.sfits e) refl

  pub keeps : (of_z w64 r ≡ 0 → ⊥) → (τ : Store) → τ ≡ retained_if arrays (cell_of w) σ →
      (υ : Store) → υ ≡ appended c w τ → υ ≡ kept arrays c w r σ
  keeps f τ t υ u = u ∙ ap (appended c w) t ∙ rw (guard_not r f) refl

-- ---- the ways that a pass ends

module _ (way : Way) (into : ℕ) (carried : ℤ) (ce : into ≡ cell_of carried) (v : ℤ) (i : ℕ) (w r : ℤ) (σ τ : Store)
  where
    abbrev Ended : Option ℤ → Way → Type 0
    Ended n y = CarriesOn y (cell_of carried) v i w r σ τ n

    pub fills : (releases : Bool) → way ≡ Fill releases → τ ≡ appended into r σ → Ended (Some v) way
    fills releases e h =
        subst (Ended (Some v)) (sym e) (record { is = ap (done v) (h ∙ ap (λ (c : ℕ). appended c r σ) ce) })

    module _ (arrays : Bool) (g : way ≡ Keep arrays) where
      pub keeps_on : is_answer r ≡ true → (e : ℤ) → e ≡ w → τ ≡ kept arrays into e r σ → Ended (Some v) way
      keeps_on answer e we h = subst (Ended (Some v)) (sym g)
          (record { is = rw answer (ap (done v) (h ∙ ap₂ (λ (c : ℕ) (y : ℤ). kept arrays c y r σ) ce we)) })

      pub doubts : is_answer r ≡ false → τ ≡ σ → Ended None way
      doubts none h = subst (Ended None) (sym g) (record { is = rw none (ap (stop 28) h) })

    pub hands : way ≡ Hand → τ ≡ σ → Ended (Some r) way
    hands e h = subst (Ended (Some r)) (sym e) (record { is = ap (done r) h })

    pub overwrites : way ≡ Overwrite → τ ≡ overwritten into i r σ → Ended (Some v) way
    overwrites e h =
        subst (Ended (Some v)) (sym e) (record { is = ap (done v) (h ∙ ap (λ (c : ℕ). overwritten c i r σ) ce) })

-- what the answer says of what the tree gave
module _ {way : Way} {c : ℕ} {v : ℤ} {i : ℕ} {w r : ℤ} {σ τ : Store} where
  pub taken : {u : ℤ} → CarriesOn way c v i w r σ τ (Some u) →
      (is_taken way r ≡ true) × (u ≡ carried_word way v r) × (τ ≡ carried_store way c i w r σ)
  taken {u} h = go (is_taken way r) refl h.is
    where
      go : (t : Bool) → is_taken way r ≡ t →
          done u τ ≡ cond t (done (carried_word way v r) (carried_store way c i w r σ)) (stop 28 σ) →
          (is_taken way r ≡ true) × (u ≡ carried_word way v r) × (τ ≡ carried_store way c i w r σ)
      go true e g = (e, cc, cc)
      go false e g = absurd (let z : ◌≡◌ {A = ℕ} 0 1 = cc in omega arith)

  pub not_taken : CarriesOn way c v i w r σ τ None → (is_taken way r ≡ false) × (τ ≡ σ)
  not_taken h = go (is_taken way r) refl h.is
    where
      go : (t : Bool) → is_taken way r ≡ t →
          stop 28 τ ≡ cond t (done (carried_word way v r) (carried_store way c i w r σ)) (stop 28 σ) →
          (is_taken way r ≡ false) × (τ ≡ σ)
      go true e g = absurd (let z : ◌≡◌ {A = ℕ} 0 1 = cc in omega arith)
      go false e g = (e, cc)

-- the cell of the result is there
module _ (way : Way) (slots : List ℤ) (heads : List ℕ) (into : ℕ) (carried : ℤ) (ce : into ≡ cell_of carried)
    (within : ResultWithin way slots heads (cell_of carried)) where
  pub fills_within : (releases : Bool) → way ≡ Fill releases → Within slots heads into
  fills_within releases e = subst (Within slots heads) (sym ce)
      (subst (λ (y : Way). ResultWithin y slots heads (cell_of carried)) e within)

  pub keeps_within : (arrays : Bool) → way ≡ Keep arrays → Within slots heads into
  keeps_within arrays e = subst (Within slots heads) (sym ce)
      (subst (λ (y : Way). ResultWithin y slots heads (cell_of carried)) e within)

  pub overwrites_within : way ≡ Overwrite → Within slots heads into
  overwrites_within e = subst (Within slots heads) (sym ce)
      (subst (λ (y : Way). ResultWithin y slots heads (cell_of carried)) e within)

-- ---- the end of a loop

-- the array is released, if the way says so
module _ (way : Way) (c : ℕ) (slots : List ℤ) (heads : List ℕ) (env : List ℤ) where
  abbrev before : Memory
  before = memory (store_of slots heads) env

  pub releases_array : (releases : Bool) → way ≡ Fill releases → releases ≡ true → (slots' : List ℤ) (heads' : List ℕ)
      (freed : ℕ) → Releases 4 c (store_of slots heads) (store_of slots' heads') freed → (env' : List ℤ) →
      env' ≡ raised freed env → memory (store_of slots' heads') env' ≡ loop_ended way c before
  releases_array releases e t slots' heads' freed h env' f =
      subst (λ (y : Way). memory (store_of slots' heads') env' ≡ loop_ended y c before) (sym (e ∙ ap Fill t))
      (ap₂ (λ (σ : Store) (l : List ℤ). memory σ l) h.store
      (f ∙ ap (λ (n : ℕ). raised n env)
      (let z : freed ≡ cells_taken (store_of slots heads) - cells_taken (store_of slots' heads') =
      omega (arith, h.freed) in z)
      ∙ ap (λ (σ : Store). raised (cells_taken (store_of slots heads) - cells_taken σ) env) h.store))

  pub releases_not : (releases : Bool) → way ≡ Fill releases → releases ≡ false → before ≡ loop_ended way c before
  releases_not releases e t =
      subst (λ (y : Way). before ≡ loop_ended y c before) (sym (e ∙ ap Fill t)) refl

-- the ways that release nothing
abbrev keeping : List ℕ
keeping = 1 ∷ 2 ∷ 3 ∷ []

pub releases_none : (way : Way) (c : ℕ) (slots : List ℤ) (heads : List ℕ) (env : List ℤ) →
    OneOf keeping (tag_of the_type way) →
    memory (store_of slots heads) env ≡ loop_ended way c (memory (store_of slots heads) env)
releases_none (Fill releases) c slots heads env h = absurd (miss keeping 0 tt h)
releases_none (Keep arrays) c slots heads env h = refl
releases_none Hand c slots heads env h = refl
releases_none Overwrite c slots heads env h = refl

-- the frames keep their length
pub ended_long : (way : Way) (c : ℕ) (m : Memory) → length (loop_ended way c m).env ≡ length m.env
ended_long (Fill true) c m = raised_long _ m.env
ended_long (Fill false) c m = refl
ended_long (Keep arrays) c m = refl
ended_long Hand c m = refl
ended_long Overwrite c m = refl

-- what the passes gave is bound, unless they were stopped
module _ (way : Way) (c calls x next : ℕ) (r : Out) (m : Memory) where
  pub loop_stopped : (r.stop ≡ 0 → ⊥) → ran r m ≡ loop_bound way c calls x next r m
  loop_stopped h = rw (ne_eqb r.stop 0 h)

  pub loop_given : r.stop ≡ 0 → (m' : Memory) → m' ≡ loop_ended way c m → (env : List ℤ) →
      env ≡ bound calls x r.value m'.env → (q : Out) → q ≡ out 0 r.value next r.steps →
      ran q (memory m'.store env) ≡ loop_bound way c calls x next r m
  loop_given h m' me env ee q qe = rw (eq-eqb r.stop 0 h, qe, ee, me) refl
