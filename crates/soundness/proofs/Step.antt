-- One delivery, from a store that the ledger agrees with to the next: refused, finished or stopped.
use Rattle.prelude.specs.Kit.{ℕ, ◌<◌, ◌-◌, ◌^◌, arith, true, ◌≡◌, refl, subst, List, leb, ℤ, length, leb-true}
use Rattle.semantics.specs.Outcome.{Outcome, done, stop}
use Rattle.semantics.specs.Syntax.{Script, main_depth}
use Rattle.semantics.specs.Value.{Value}
use Rattle.semantics.specs.Store.{Store, cells_taken, relinked}
use Rattle.semantics.specs.Words.{store_of, slot_words, head_words}
use Rattle.semantics.specs.Sound.{sound_words}
use Rattle.semantics.specs.Machine.{State, program, delivery, starting, delivered_by, lowest_level}
use Rattle.semantics.specs.Calls.{number_of, steps_of, StoreReply, request_fits, refusing, answering, deliver_in}
use Rattle.semantics.specs.Ledger as L
use Rattle.semantics.specs.Ledger.{Delivery, Entry, worked, meant, wants_cell, value_after}
use Rattle.semantics.specs.Demands.{value_of, Agrees, OutOfCells}
use Rattle.laws.specs.Tests.{both_hold}
use Rattle.soundness.proofs.Answers.{number_packed, steps_packed}
use Rattle.soundness.proofs.Settled.{Settled, sound_settles, settled_sound, settled_words, settled_rests}
use Rattle.soundness.proofs.Settled.{relinked_settles, relinked_alone}
use Rattle.discipline.proofs.machine.Agreement.{Start, Clean}
use Rattle.soundness.proofs.Delivering.{start_of, run_least, few_free}

-- the store in two arrays is sound, and its totals have the ledger's value
pub record Standing (fs : Script) (slots : List ℤ) (heads : List ℕ) (v : Value) : Type 0 where
  pub sound : sound_words (main_depth fs) slots heads ≡ true
  pub value : value_of (store_of slots heads) (main_depth fs) (store_of slots heads).totals ≡ v

pub standing_settled : {fs : Script} {slots : List ℤ} {heads : List ℕ} {v : Value} →
    Standing fs slots heads v → Settled (main_depth fs) (store_of slots heads) v
standing_settled {fs} {slots} {heads} s =
    subst (λ w. Settled (main_depth fs) (store_of slots heads) w) s.value
    (sound_settles (main_depth fs) slots heads s.sound)

-- a settled store stands in its words
pub settled_standing : {fs : Script} {σ : Store} {v : Value} →
    Settled (main_depth fs) σ v → Standing fs (slot_words σ) (head_words σ) v
settled_standing s = record { sound = settled_sound s; value = rw (settled_words s) s.value }

-- the number and the steps of an entry, as its answer tells them
abbrev pub entry_number : Entry → ℕ
entry_number (L.refused n) = n
entry_number (worked n steps w) = n

abbrev pub entry_steps : Entry → ℕ
entry_steps (L.refused n) = 0
entry_steps (worked n steps w) = steps

-- over a store and a ledger that agree, and the next delivery
module _ (fs : Script) (slots : List ℤ) (heads : List ℕ) (v : Value) (δ : Delivery) where
  abbrev before : Store
  before = store_of slots heads

  abbrev start : Start
  start = start_of δ.budget before

  abbrev run : Outcome State (Unit {0})
  run = delivery (program fs) δ.readings (starting δ.budget before)

  -- a reply and an entry that agree, and stand again
  pub record Stepped (r : StoreReply) (e : Entry) : Type 0 where
    pub agrees : Agrees fs (store_of slots heads) (store_of r.slots r.heads) v δ r.answer e
    pub stands : Standing fs r.slots r.heads (value_after v e)
    -- the entry's number and steps have room in the answer
    pub number : number_of r.answer ≡ entry_number e
    pub steps : steps_of r.answer ≡ entry_steps e

  module _ (stood : Standing fs slots heads v) (kinds : List ℕ) (operands : List ℤ) where
    -- a refusal changes nothing
    pub refused_step : (n : ℕ) → n < 256 → Stepped (refusing kinds operands slots heads n 0) (L.refused n)
    unfolding refusing
    refused_step n small = record {
      agrees = record { lowest = 0; answered = refl; rests = settled_rests (standing_settled stood); owed = refl };
      stands = stood;
      number = number_packed n 0 0 0 small;
      steps = steps_packed n 0 0 0 small (omega arith) (omega arith);
    }

    abbrev replied : Outcome State (Unit {0}) → StoreReply
    replied o = deliver_in kinds operands slots heads fs (delivered_by δ.budget before o)

    pub few_steps : request_fits δ.readings δ.budget ≡ true → (k : ℕ) → δ.budget - k < 2 ^ 24
    unfolding request_fits
    few_steps requested k =
        let e = (both_hold (leb (length δ.readings) 16) (leb δ.budget 1000000) requested).1 in
        omega (arith, leb-true δ.budget 1000000 e)

    -- a result replaces the totals
    pub finished_step : request_fits δ.readings δ.budget ≡ true → (u : Unit {0}) (s : State) (w : Value) →
        run ≡ done u s → Clean start s → Settled (main_depth fs) s.store w →
        Stepped (replied (done u s)) (worked 0 (δ.budget - s.left) w)
    unfolding answering
    finished_step requested u s w e clean settled =
        let back = settled_words settled in
        record {
          agrees = record {
            lowest = lowest_level before s;
            answered = rw back;
            rests = rw back (settled_rests settled);
            owed = rw back (record {
              end = done u s;
              ran = e;
              shows = refl;
              least = run_least (standing_settled stood) s δ.budget clean;
              untouched = clean.untouched;
              unswept = λ z. clean.replays;
              left_alone = λ f. absurd (f refl);
              wanted = λ z. absurd (omega (arith, z));
              dry = λ z. absurd (omega (arith, z));
            });
          };
          stands = settled_standing settled;
          number = number_packed 0 (lowest_level before s) (δ.budget - s.left) (cells_taken s.store) (omega arith);
          steps = steps_packed 0 (lowest_level before s) (δ.budget - s.left) (cells_taken s.store) (omega arith)
              (few_free (standing_settled stood) s) (few_steps requested s.left);
        }

    -- a stop leaves them
    pub stopped_step : request_fits δ.readings δ.budget ≡ true → (n : ℕ) (s : State) → 0 < n → n < 256 →
        run ≡ stop n s → Clean start s →
        (n ≡ 25 → wants_cell (δ.budget - s.left) (meant fs v δ) ≡ true) → (n ≡ 25 → OutOfCells s) →
        Stepped (replied (stop n s)) (worked n (δ.budget - s.left) v)
    unfolding answering
    stopped_step requested n s positive small e clean wanted out =
        let settled = relinked_settles (standing_settled stood) in
        let back = settled_words settled in
        record {
          agrees = record {
            lowest = lowest_level before s;
            answered = rw back;
            rests = rw back (settled_rests settled);
            owed = rw back (record {
              end = stop n s;
              ran = e;
              shows = refl;
              least = run_least (standing_settled stood) s δ.budget clean;
              untouched = clean.untouched;
              unswept = λ z. absurd (omega (arith, z, positive));
              left_alone = λ f. relinked_alone (standing_settled stood);
              wanted = wanted;
              dry = out;
            });
          };
          stands = settled_standing settled;
          number = number_packed n (lowest_level before s) (δ.budget - s.left) (cells_taken (relinked before)) small;
          steps = steps_packed n (lowest_level before s) (δ.budget - s.left) (cells_taken (relinked before)) small
              (few_free (standing_settled stood) s) (few_steps requested s.left);
        }
