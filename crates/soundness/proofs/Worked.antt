-- One worked delivery: the reply to its run, however it ends, with the entry that the ledger makes of it.
use Rattle.prelude.specs.Kit.{ℕ, ◌-◌, arith, true, ◌≡◌, refl, sym, List, ℤ}
use Rattle.semantics.specs.Outcome.{Outcome}
use Rattle.semantics.specs.Syntax.{Script, main_depth}
use Rattle.semantics.specs.Value.{Value}
use Rattle.semantics.specs.Meaning.{Meter}
use Rattle.semantics.specs.Store.{Store, cells_taken, relinked}
use Rattle.semantics.specs.Words.{store_of}
use Rattle.semantics.specs.Machine.{State, program, delivery, starting, delivered_by, lowest_level}
use Rattle.semantics.specs.Calls.{StoreReply, request_fits, answering, deliver_in}
use Rattle.semantics.specs.Ledger.{Delivery, meant, entry_by, dry_steps}
use Rattle.soundness.proofs.Answers.{not_dry, dry_packed}
use Rattle.discipline.proofs.machine.Agreement.{Start}
use Rattle.discipline.proofs.machine.Delivery.{Delivers, finishes, stops, runs_dry}
use Rattle.soundness.proofs.Delivering.{start_of, few_free, finished_settled}
use Rattle.soundness.proofs.Step.{Standing, Stepped, finished_step, stopped_step, standing_settled, few_steps}

-- over a store and a ledger that agree, and the next delivery
module _ (fs : Script) (slots : List ℤ) (heads : List ℕ) (v : Value) (δ : Delivery) where
  abbrev before : Store
  before = store_of slots heads

  abbrev start : Start
  start = start_of δ.budget before

  abbrev run : Outcome State (Unit {0})
  run = delivery (program fs) δ.readings (starting δ.budget before)

  module _ (stood : Standing fs slots heads v) (kinds : List ℕ) (operands : List ℤ) where
    abbrev replied : Outcome State (Unit {0}) → StoreReply
    replied o = deliver_in kinds operands slots heads fs (delivered_by δ.budget before o)

    -- the reply, with the entry that the ledger makes of it
    pub worked_step : request_fits δ.readings δ.budget ≡ true → (o : Outcome State (Unit {0})) →
        (p : Outcome Meter Value) → run ≡ o → meant fs v δ ≡ p → Delivers start (main_depth fs) o p →
        Stepped fs slots heads v δ (replied o) (entry_by fs v δ (dry_steps (replied o).answer))
    unfolding answering
    worked_step requested o p e m (finishes {u} {s} {v = w} q) =
        let none = not_dry 0 (lowest_level before s) (δ.budget - s.left) (cells_taken s.store) (omega arith)
        (λ z. absurd (omega arith)) in
        rw (none, m, sym q.left)
        (finished_step fs slots heads v δ stood kinds operands requested u s w e q.clean
        (finished_settled (standing_settled stood) q))
    worked_step requested o p e m (stops {k} {n} {s} q) =
        let none = not_dry k (lowest_level before s) (δ.budget - s.left) (cells_taken (relinked before))
        q.stops.high q.stops.other in
        rw (none, m, sym q.left, sym q.number)
        (stopped_step fs slots heads v δ stood kinds operands requested k s (omega (arith, q.stops.low))
        q.stops.high e q.clean (λ z. absurd (q.stops.other z)) (λ z. absurd (q.stops.other z)))
    worked_step requested o p e m (runs_dry {s} none_free out clean wants) =
        rw (dry_packed (lowest_level before s) (δ.budget - s.left) (cells_taken (relinked before))
        (few_free (standing_settled stood) s) (few_steps fs slots heads v δ stood kinds operands requested s.left))
        (stopped_step fs slots heads v δ stood kinds operands requested 25 s (omega arith) (omega arith)
        e clean (λ z. rw m wants) (λ z. out.in_use refl))
