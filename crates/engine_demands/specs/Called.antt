-- The compiled calls as an engine of the definitions: of a call no more is known than its own contract (`Reads.Post`),
-- which holds of what it was lent, what it answered and what it left; and of a save, that the words of the lent slots
-- are of 64 bits.
use Rattle.std.specs.Prelude.{ℕ, List, ℤ}
use contract.Lifetimes.{Lfts}
use borrow.Fn.Kinds.{Dens, res_t, ended_of}
use denote.Triple.Clauses.{AtExit}
use Rattle.semantics.specs.Calls.{StoreReply}
use Rattle.semantics.specs.Ledger.{Delivery}
use Rattle.semantics.specs.Demands.{Engine}
use Rattle.semantics.specs.SaveCalls.{SaveReply}
use Rattle.semantics.specs.Swap.{SavingEngine, Words64}
use Rattle.engine.proofs.engine_open.Kinds as O
use Rattle.engine.proofs.engine_open.Reads as opening
use Rattle.engine.proofs.engine_deliver.Kinds as D
use Rattle.engine.proofs.engine_deliver.Reads as deliver
use Rattle.engine.proofs.engine_save.Kinds as S
use Rattle.engine.proofs.engine_save.Reads as saving
use Rattle.engine.proofs.engine_restore.Kinds as R
use Rattle.engine.proofs.engine_restore.Reads as restoring

-- a call of `engine_open`: file, two code arrays and two store arrays as they were lent; the answer, and the four
-- arrays as they were left
pub data OpenCall : List ℕ → List ℕ → List ℤ → List ℤ → List ℕ → StoreReply → Type 0 where
  opens : (κs : Lfts 5) (a : Dens κs O.ps) (r : (res_t O.r κs).Denot) (s : AtExit (ended_of 5 O.ps O.r) κs) →
      opening.Post κs a r s →
      OpenCall a.0.now a.1.0.now a.1.1.0.now a.1.1.1.0.now a.1.1.1.1.0.now
      (record {
        answer = r;
        kinds = s.1.0.now;
        operands = s.1.1.0.now;
        slots = s.1.1.1.0.now;
        heads = s.1.1.1.1.0.now;
      })

-- a call of `engine_deliver`: the same, with readings and a budget
pub data DeliverCall : List ℕ → List ℤ → List ℕ → Delivery → StoreReply → Type 0 where
  delivers : (κs : Lfts 6) (a : Dens κs D.ps) (r : (res_t D.r κs).Denot) (s : AtExit (ended_of 6 D.ps D.r) κs) →
      deliver.Post κs a r s →
      DeliverCall a.0.now a.1.1.1.0.now a.1.1.1.1.0.now
      (record {
        kinds = a.1.0.now;
        operands = a.1.1.0.now;
        readings = a.1.1.1.1.1.0.now;
        budget = a.1.1.1.1.1.1.0;
      })
      (record {
        answer = r;
        kinds = s.1.0.now;
        operands = s.1.1.0.now;
        slots = s.1.1.1.0.now;
        heads = s.1.1.1.1.0.now;
      })

abbrev pub compiled : Engine
compiled = record { opens = OpenCall; delivers = DeliverCall }

-- ---- save and restore

-- a call of `engine_save`: file, two code arrays, two store arrays and a buffer as they were lent; the answer, and the
-- arrays as they were left. The lent slots are an array of i64, of which the contract has no more than their numbers.
pub data SaveCall : List ℕ → List ℕ → List ℤ → List ℤ → List ℕ → List ℕ → SaveReply → Type 0 where
  saves : (κs : Lfts 6) (a : Dens κs S.ps) (r : (res_t S.r κs).Denot) (s : AtExit (ended_of 6 S.ps S.r) κs) →
      saving.Post κs a r s → Words64 a.1.1.1.0.now →
      SaveCall a.0.now a.1.0.now a.1.1.0.now a.1.1.1.0.now a.1.1.1.1.0.now
      a.1.1.1.1.1.0.now
      (record {
        answer = r;
        kinds = s.1.0.now;
        operands = s.1.1.0.now;
        slots = a.1.1.1.0.now;
        heads = a.1.1.1.1.0.now;
        saved = s.1.1.1.1.1.0.now;
      })

-- a call of `engine_restore`: the same, with a saved file
pub data RestoreCall : List ℕ → List ℕ → List ℤ → List ℤ → List ℕ → List ℕ → StoreReply → Type 0 where
  restores : (κs : Lfts 6) (a : Dens κs R.ps) (r : (res_t R.r κs).Denot) (s : AtExit (ended_of 6 R.ps R.r) κs) →
      restoring.Post κs a r s →
      RestoreCall a.0.now a.1.0.now a.1.1.0.now a.1.1.1.0.now a.1.1.1.1.0.now
      a.1.1.1.1.1.0.now
      (record {
        answer = r;
        kinds = s.1.0.now;
        operands = s.1.1.0.now;
        slots = s.1.1.1.0.now;
        heads = s.1.1.1.1.0.now;
      })

abbrev pub compiled_saving : SavingEngine
compiled_saving = record { engine = compiled; saves = SaveCall; restores = RestoreCall }
