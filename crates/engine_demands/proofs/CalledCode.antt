-- Document 02, order 10, of the compiled calls: every list of deliveries by lent code and by scripts, and that all code
-- from the translator passes. Of a call no more is known than its own contract.
use Rattle.std.specs.Prelude.{ℕ, List, [], ◌∷◌, ℤ}
use contract.Lifetimes.{Lfts}
use borrow.Fn.Kinds.{Dens, res_t, ended_of}
use denote.Triple.Clauses.{AtExit}
use Rattle.semantics.specs.Calls.{Reply, StoreReply}
use Rattle.semantics.specs.Ledger.{Delivery}
use Rattle.semantics.specs.Swap.{defined_saving}
use Rattle.semantics_lent.specs.Demands.{By, by_file, by_code, Job, LentEngine, Calls, InTurn, WorksLent}
use Rattle.semantics_lent.specs.Demands.{TranslatedPasses, defined_lent}
use Rattle.lent_passing.specs.Order10.{lent_works, translated_passes}
use Rattle.engine.proofs.engine_translate.Kinds as T
use Rattle.engine.proofs.engine_translate.Reads as translating
use Rattle.engine.proofs.engine_check_code.Kinds as K
use Rattle.engine.proofs.engine_check_code.Reads as checking
use Rattle.engine.proofs.engine_deliver_code.Kinds as D
use Rattle.engine.proofs.engine_deliver_code.Reads as deliver
use Rattle.engine_demands.specs.Called.{compiled_saving}
use Rattle.engine_demands.proofs.Called.{opens_defined, delivers_defined, restores_defined}

-- a call of `engine_translate`: file and two code arrays as they were lent; the answer, and the arrays as they were
-- left
pub data TranslateCall : List ℕ → List ℕ → List ℤ → Reply → Type 0 where
  translates : (κs : Lfts 3) (a : Dens κs T.ps) (r : (res_t T.r κs).Denot) (s : AtExit (ended_of 3 T.ps T.r) κs) →
      translating.Post κs a r s →
      TranslateCall a.0.now a.1.0.now a.1.1.0.now
      (record { answer = r; kinds = s.1.0.now; operands = s.1.1.0.now })

-- a call of `engine_check_code`: lent code and a depth; the answer, and the code, which is lent to be read alone
pub data CheckCodeCall : List ℕ → List ℤ → ℕ → Reply → Type 0 where
  checks : (κs : Lfts 2) (a : Dens κs K.ps) (r : (res_t K.r κs).Denot) (s : AtExit (ended_of 2 K.ps K.r) κs) →
      checking.Post κs a r s →
      CheckCodeCall a.0.now a.1.0.now a.1.1.0
      (record { answer = r; kinds = a.0.now; operands = a.1.0.now })

-- a call of `engine_deliver_code`: the same, with two store arrays, readings and a budget
pub data DeliverCodeCall : ℕ → List ℤ → List ℕ → Delivery → StoreReply → Type 0 where
  delivers : (κs : Lfts 5) (a : Dens κs D.ps) (r : (res_t D.r κs).Denot) (s : AtExit (ended_of 5 D.ps D.r) κs) →
      deliver.Post κs a r s →
      DeliverCodeCall a.1.1.0 a.1.1.1.0.now a.1.1.1.1.0.now
      (record {
        kinds = a.0.now;
        operands = a.1.0.now;
        readings = a.1.1.1.1.1.0.now;
        budget = a.1.1.1.1.1.1.0;
      })
      (record {
        answer = r;
        kinds = a.0.now;
        operands = a.1.0.now;
        slots = s.1.1.1.0.now;
        heads = s.1.1.1.1.0.now;
      })

abbrev pub compiled_lent : LentEngine
compiled_lent = record {
  saving = compiled_saving;
  translates = TranslateCall;
  checks_code = CheckCodeCall;
  delivers_code = DeliverCodeCall;
}

-- each is a call of the definitions

translates_defined : (file kinds : List ℕ) (operands : List ℤ) (r : Reply) → TranslateCall file kinds operands r →
    defined_lent.translates file kinds operands r
unfolding defined_lent
translates_defined file kinds operands r (translates κs a q s h) = h

checks_defined : (kinds : List ℕ) (operands : List ℤ) (d : ℕ) (r : Reply) → CheckCodeCall kinds operands d r →
    defined_lent.checks_code kinds operands d r
unfolding defined_lent
checks_defined kinds operands d r (checks κs a q s h) = h

delivers_code_defined : (d : ℕ) (slots : List ℤ) (heads : List ℕ) (δ : Delivery) (r : StoreReply) →
    DeliverCodeCall d slots heads δ r → defined_lent.delivers_code d slots heads δ r
unfolding defined_lent
delivers_code_defined d slots heads δ r (delivers κs a q s h) = h

calls_defined : (b : By) (slots : List ℤ) (heads : List ℕ) (δ : Delivery) (r : StoreReply) →
    Calls compiled_lent b slots heads δ r → Calls defined_lent b slots heads δ r
unfolding defined_lent defined_saving
calls_defined (by_file file) slots heads δ r h = delivers_defined file slots heads δ r h
calls_defined (by_code d) slots heads δ r h = delivers_code_defined d slots heads δ r h

in_turn_defined : (slots : List ℤ) (heads : List ℕ) (js : List Job) → InTurn compiled_lent slots heads js →
    InTurn defined_lent slots heads js
in_turn_defined slots heads [] h = tt
in_turn_defined slots heads (j ∷ js) h = (
  calls_defined j.by slots heads j.lent j.reply h.0,
  in_turn_defined j.reply.slots j.reply.heads js h.1,
)

-- For every opening and every restore that answered 0, and every list of calls of `engine_deliver` and
-- `engine_deliver_code` after it, on its store.
pub lent_works_of_calls : WorksLent compiled_lent
unfolding defined_lent defined_saving
lent_works_of_calls = (
  λ file kinds operands slots heads opening called zero.
      let w = lent_works.0 file kinds operands slots heads opening
      (opens_defined file kinds operands slots heads opening called) zero in
      record {
        by = w.by;
        is_accepted = w.is_accepted;
        keeps = λ js turn. w.keeps js (in_turn_defined opening.slots opening.heads js turn);
      },
  λ file kinds operands slots heads saved restoring called zero.
      let w = lent_works.1 file kinds operands slots heads saved restoring
      (restores_defined file kinds operands slots heads saved restoring called) zero in
      record {
        by = w.by;
        is_accepted = w.is_accepted;
        value = w.value;
        is_read = w.is_read;
        keeps = λ js turn. w.keeps js (in_turn_defined restoring.slots restoring.heads js turn);
      },
)

-- For every call of `engine_translate` that answered 0, and every call of `engine_check_code` on what it left, for the
-- depth of the script's main.
pub translated_passes_of_calls : TranslatedPasses compiled_lent
translated_passes_of_calls file kinds operands r called zero =
    let p = translated_passes file kinds operands r (translates_defined file kinds operands r called) zero in
    record {
      by = p.by;
      is_accepted = p.is_accepted;
      passes = λ c checked. p.passes c (checks_defined r.kinds r.operands _ c checked);
    }
