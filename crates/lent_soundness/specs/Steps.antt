-- One delivery on a store that stands: what is to be shown of it, whether it is by lent code or by a script.
use Rattle.std.specs.Prelude.{ℕ, ◌<◌, ◌-◌, suc, zero, ◌^◌, true, false, ◌≡◌, refl, ◌≢◌, List, [], eqb, leb, ℤ, length}
use Rattle.prelude.specs.Kit.{arith, false≢true, ◌∙◌, sym, subst, ne_eqb, leb-true}
use Rattle.semantics.specs.Basics.{occurrences}
use Rattle.semantics.specs.Value.{Value}
use Rattle.semantics.specs.Store.{Store, cell_of, cells_taken, free_cells}
use Rattle.semantics.specs.Words.{store_of, slot_words, head_words}
use Rattle.semantics.specs.Sound.{sound_words}
use Rattle.semantics.specs.Machine.{State, lowest_level}
use Rattle.semantics.specs.Calls.{StoreReply, request_fits}
use Rattle.semantics.specs.Ledger.{Delivery, dry_steps}
use Rattle.semantics.specs.Demands.{value_of}
use Rattle.laws.specs.Tests.{both_hold}
use Rattle.laws.specs.Lists.{occurs_first}
use Rattle.laws.specs.Levels.{lowest_most}
use Rattle.discipline.proofs.store.Rest.{Rests}
use Rattle.soundness.proofs.Settled.{Settled, sound_settles, settled_sound, settled_words, settled_rests}
use Rattle.semantics_lent.specs.Demands.{By, Admitted, lent, admission, entry, value_after, answer_of, Job, Owed}
use Rattle.semantics_lent.specs.Demands.{CodeLeft, Agrees, entered}

-- ---- a store in two arrays that stands

-- it is sound for totals of depth d, and their value is v
pub record StandsAt (d : ℕ) (slots : List ℤ) (heads : List ℕ) (v : Value) : Type 0 where
  pub sound : sound_words d slots heads ≡ true
  pub value : value_of (store_of slots heads) d (store_of slots heads).totals ≡ v

pub settled_at : {d : ℕ} {slots : List ℤ} {heads : List ℕ} {v : Value} → StandsAt d slots heads v →
    Settled d (store_of slots heads) v
settled_at {d} {slots} {heads} s =
    subst (λ w. Settled d (store_of slots heads) w) s.value (sound_settles d slots heads s.sound)

pub stands_at : {d : ℕ} {σ : Store} {v : Value} → Settled d σ v → StandsAt d (slot_words σ) (head_words σ) v
stands_at s = record { sound = settled_sound s; value = rw (settled_words s) s.value }

-- a store at rest is so for one depth of its totals
rests_once : (σ : Store) (d e : ℕ) → Rests d σ → Rests e σ → e ≡ d
unfolding occurrences
rests_once σ zero zero a b = refl
rests_once σ zero (suc e) a b =
    let c = cell_of σ.totals in
    absurd (omega (arith, a.holds.counts c, b.holds.counts c, occurs_first c []))
rests_once σ (suc d) zero a b =
    let c = cell_of σ.totals in
    absurd (omega (arith, a.holds.counts c, b.holds.counts c, occurs_first c []))
rests_once σ (suc d) (suc e) a b =
    let c = cell_of σ.totals in
    b.fits c (occurs_first c []) ∙ sym (a.fits c (occurs_first c []))

-- ---- one delivery

-- before which the totals have the value v
module _ (d : ℕ) (slots : List ℤ) (heads : List ℕ) (v : Value) (stood : StandsAt d slots heads v) (δ : Delivery) where
  abbrev pub before : Store
  before = store_of slots heads

  abbrev pub job : By → StoreReply → Job
  job by r = record { by = by; lent = δ; reply = r }

  -- a delivery that was admitted so agrees with its entry, and the store stands again
  pub record Stepped (by : By) (a : Admitted) (r : StoreReply) : Type 0 where
    pub lowest : ℕ
    pub answered : r.answer ≡ answer_of (entry d v a δ (dry_steps r.answer)) lowest
        (cells_taken (store_of r.slots r.heads))
    pub owed : Owed slots heads v (job by r) a lowest (entry d v a δ (dry_steps r.answer))
    pub code_left : CodeLeft slots heads v (job by r) by
    pub stands : StandsAt d r.slots r.heads (value_after v (entry d v a δ (dry_steps r.answer)))

  pub stepped_agrees : (by : By) (r : StoreReply) → Stepped by (admission by δ) r →
      Agrees slots heads v (job by r) d (entered d v (job by r))
  stepped_agrees by r s = record {
    lowest = s.lowest;
    answered = s.answered;
    rests = settled_rests (settled_at s.stands);
    owed = s.owed;
    code_left = s.code_left;
  }

  -- no other depth is sound
  pub same_depth : (e : ℕ) → sound_words e slots heads ≡ true → e ≡ d
  same_depth e s = rests_once before d e (settled_at stood).rests (sound_settles e slots heads s).rests

  pub other_depth : (e : ℕ) → sound_words e slots heads ≡ false → eqb e d ≡ false
  other_depth e s = ne_eqb e d (λ q. false≢true (sym s ∙ subst (λ n. sound_words n slots heads ≡ true) (sym q)
      stood.sound))

  pub few_steps : request_fits δ.readings δ.budget ≡ true → (k : ℕ) → δ.budget - k < 2 ^ 24
  unfolding request_fits
  few_steps asked k =
      let e = (both_hold (leb (length δ.readings) 16) (leb δ.budget 1000000) asked).1 in
      omega (arith, leb-true δ.budget 1000000 e)

  -- there are no more than 256 cells
  pub few_free : (s : State) → lowest_level before s < 2 ^ 16
  few_free s = omega (arith, lowest_most s.log (free_cells before), (settled_at stood).rests.holds.few)
