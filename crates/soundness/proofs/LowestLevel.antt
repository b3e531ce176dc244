-- Order 2: the lowest level in the answer of a delivery that is not refused is that of the machine's run, and the true
-- least on every sound store.
use Rattle.prelude.specs.Kit.{ℕ, ◌<◌, ◌^◌, arith, ◌≡◌, refl, ◌∙◌, sym, subst, List, ℤ}
use Rattle.semantics.specs.Outcome.{Outcome, done, stop}
use Rattle.semantics.specs.Syntax.{Script, main_depth}
use Rattle.semantics.specs.Value.{Value}
use Rattle.semantics.specs.Meaning.{Meter}
use Rattle.semantics.specs.Store.{Store, cells_taken}
use Rattle.semantics.specs.Words.{store_of}
use Rattle.semantics.specs.Sound.{free_list}
use Rattle.semantics.specs.Machine.{State, program, delivery, starting, delivered_by, Delivered, delivered, state_of}
use Rattle.semantics.specs.Machine.{lowest_level}
use Rattle.semantics.specs.Calls.{lowest_of, room, StoreReply, answering, deliver_for, engine_deliver}
use Rattle.semantics.specs.Ledger.{Delivery, meant}
use Rattle.semantics.specs.Demands.{value_of, Least, defined, Unrefused, TrueLeast}
use Rattle.discipline.proofs.machine.Agreement.{Start}
use Rattle.discipline.proofs.machine.Delivery.{Delivers, finishes, stops, runs_dry, delivers_clean}
use Rattle.soundness.proofs.Answers.{lowest_packed}
use Rattle.soundness.proofs.Settled.{Settled, sound_settles}
use Rattle.soundness.proofs.Delivering.{start_of, few_lines, run_least, few_free, delivers}
use Rattle.soundness.proofs.Demand3.{admitted_is}

small_number : {start : Start} {d : ℕ} {o : Outcome State (Unit {0})} {p : Outcome Meter Value} (budget : ℕ)
    (σ : Store) → Delivers start d o p → (delivered_by budget σ o).number < 256
small_number budget σ (finishes q) = omega arith
small_number budget σ (stops q) = q.stops.high
small_number budget σ (runs_dry empty out clean wants) = omega arith

-- the lowest level that is shown is that of the state where the run ended
pub shown_level : (budget : ℕ) (σ : Store) (o : Outcome State (Unit {0})) →
    (delivered_by budget σ o).lowest ≡ lowest_level σ (state_of o)
shown_level budget σ (done u s) = refl
shown_level budget σ (stop n s) = refl

module _ (file : List ℕ) (slots : List ℤ) (heads : List ℕ) (δ : Delivery) (fs : Script)
    (u : Unrefused file slots heads δ fs) where
  abbrev σ : Store
  σ = store_of slots heads

  abbrev run : Outcome State (Unit {0})
  run = delivery (program fs) δ.readings (starting δ.budget σ)

  settled : Settled (main_depth fs) σ (value_of σ (main_depth fs) σ.totals)
  settled = sound_settles (main_depth fs) slots heads u.is_sound

  delivered_so : Delivers (start_of δ.budget σ) (main_depth fs) run
      (meant fs (value_of σ (main_depth fs) σ.totals) δ)
  delivered_so = delivers file fs u.is_accepted (few_lines fs _ (omega arith) u.code_stands) settled
      δ.readings δ.budget u.requested

  -- the lowest level in the answer is the machine's
  pub lowest_told : (r : StoreReply) → defined.delivers file slots heads δ r →
      lowest_of r.answer ≡ (delivered (program fs) δ.readings δ.budget σ).lowest
  unfolding defined engine_deliver deliver_for answering delivered
  lowest_told r called =
      let D : Delivered = delivered_by δ.budget σ run in
      let few : D.lowest < 2 ^ 16 = omega (arith, shown_level δ.budget σ run, few_free settled (state_of run)) in
      let told = lowest_packed D.number D.lowest D.steps (cells_taken D.store)
      (small_number δ.budget σ delivered_so) few in
      subst (λ (q : StoreReply). lowest_of q.answer ≡ D.lowest) (sym called)
      (rw (
        admitted_is file fs u.is_accepted (room δ.kinds δ.operands),
        u.code_stands,
        u.requested,
        u.is_sound,
      ) told)

  -- and the least
  least_told : (r : StoreReply) → defined.delivers file slots heads δ r →
      Least (state_of run).log (free_list σ) (lowest_of r.answer)
  unfolding delivered
  least_told r called =
      subst (λ n. Least (state_of run).log (free_list σ) n)
      (sym (lowest_told r called ∙ shown_level δ.budget σ run))
      (run_least settled (state_of run) δ.budget (delivers_clean delivered_so))

pub true_least : TrueLeast defined
true_least = least_told
