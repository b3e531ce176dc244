-- Document 02, order 10, as types: what lent code that passes does, over every list of deliveries by it and by scripts
-- in turn; and that all code from the translator passes.
use Rattle.std.specs.Prelude.{ℕ, ◌-◌, ◌<◌, true, false, cond, ◌≡◌, ◌≢◌, List, [], ◌∷◌, ℤ, eqb}
use Rattle.std.proofs.Math.Option.{Option, none, some}
use Rattle.semantics.specs.Outcome.{Outcome, done, stop}
use Rattle.semantics.specs.Syntax.{Script, main_depth}
use Rattle.semantics.specs.Value.{Value, numbers, first_totals}
use Rattle.semantics.specs.Meaning.{Meter}
use Rattle.semantics.specs.Store.{Store, cell_count, has_free, cells_taken}
use Rattle.semantics.specs.Words.{store_of}
use Rattle.semantics.specs.Sound.{free_list}
use Rattle.semantics.specs.Machine.{State, Program, delivery, delivered_by, starting, state_of}
use Rattle.semantics.specs.Plain.{main_running}
use Rattle.semantics.specs.Calls.{packed, Verdict, accepted, refused, judged, admitted, room, number_of}
use Rattle.semantics.specs.Calls.{request_fits, Reply, StoreReply, engine_translate}
use Rattle.semantics.specs.Ledger.{Delivery, meant, dry_steps, wants_cell}
use Rattle.semantics.specs.Demands.{AtRest, Taken, touched, replayed, Least, LeftAlone, Worked}
use Rattle.semantics.specs.Saved.{read_saved}
use Rattle.semantics.specs.Swap.{SavingEngine, defined_saving}
use Rattle.semantics_lent.specs.Calls.{judged_code, engine_check_code, engine_deliver_code}

-- ---- one delivery, by a script or by lent code

-- what is worked: the code of a script's file, or code that is lent in the code arrays, for a stated main depth
pub data By : Type 0 where
  by_file : List ℕ → By
  by_code : ℕ → By

-- what passes, or the number of a refusal with its node or line
pub data Admitted : Type 0 where
  script : Script → Admitted
  lent : Program → Admitted
  turned_away : ℕ → ℕ → Admitted

abbrev pub of_verdict : Verdict → Admitted
of_verdict (accepted fs) = script fs
of_verdict (refused n p) = turned_away n p

abbrev pub of_code : Outcome ℕ Program → Admitted
of_code (done P lines) = lent P
of_code (stop n p) = turned_away n p

-- refusals 1 to 9 of a file, and 29 of lent code
abbrev pub admission : By → Delivery → Admitted
admission (by_file file) δ = of_verdict (admitted file (room δ.kinds δ.operands))
admission (by_code d) δ = of_code (judged_code δ.kinds δ.operands d)

-- ---- the ledger

-- what lent code means, with retains and releases ignored
abbrev pub code_meant : Program → Value → Delivery → Outcome Meter Value
code_meant P v δ = main_running P v (numbers δ.readings) δ.budget

-- what the ledger holds of a delivery: a refusal with its node or line, or the number, the steps and the totals' value
pub data Entry : Type 0 where
  refusal : ℕ → ℕ → Entry
  worked : ℕ → ℕ → Value → Entry

abbrev pub entry_of : ℕ → Value → Outcome Meter Value → Entry
entry_of budget v (done w m) = worked 0 (budget - m.left) w
entry_of budget v (stop n m) = worked n (budget - m.left) v

-- by the steps of a 25, if that was answered
abbrev pub entry_by : ℕ → Value → Outcome Meter Value → Option ℕ → Entry
entry_by budget v o none = entry_of budget v o
entry_by budget v o (some steps) = worked 25 steps v

-- 10, then 11: no store at rest with totals of depth d is sound for another depth
abbrev pub entry_for : ℕ → ℕ → Value → Delivery → Outcome Meter Value → Option ℕ → Entry
entry_for d e v δ o dry =
    cond (request_fits δ.readings δ.budget)
    (cond (eqb e d) (entry_by δ.budget v o dry) (refusal 11 0))
    (refusal 10 0)

-- The entry for a delivery, before which the totals of depth d have the value v: of the answer the ledger is fed only a
-- 25 with its steps.
abbrev pub entry : ℕ → Value → Admitted → Delivery → Option ℕ → Entry
entry d v (script fs) δ dry = entry_for d (main_depth fs) v δ (meant fs v δ) dry
entry d v (lent P) δ dry = entry_for d P.depth v δ (code_meant P v δ) dry
entry d v (turned_away n p) δ dry = refusal n p

abbrev pub value_after : Value → Entry → Value
value_after v (refusal n p) = v
value_after v (worked n steps w) = w

abbrev pub answer_of : Entry → ℕ → ℕ → ℕ
answer_of (refusal n p) lowest cells = packed n p 0 0
answer_of (worked n steps w) lowest cells = packed n lowest steps cells

-- ---- what a delivery does

-- a stop 25 under lent code: no cell is free, so that each is taken (not each need be in use)
pub record NoneFree (s : State) : Type 0 where
  pub none_free : has_free s.store ≡ false
  pub all_taken : (c : ℕ) → c < cell_count s.store → Taken s.store c

-- What a run of lent code did, from the store σ to σ', while the ledger held v: as `Worked` of a script, but for what
-- is in use when no cell is free.
pub record WorkedLent (P : Program) (σ σ' : Store) (v : Value) (δ : Delivery) (number lowest steps : ℕ) : Type 0 where
  pub end : Outcome State (Unit {0})
  pub ran : delivery P δ.readings (starting δ.budget σ) ≡ end
  pub shows : delivered_by δ.budget σ end ≡ record { number = number; lowest = lowest; steps = steps; store = σ' }
  -- the true least number of free cells over the run, the one before it began included
  pub least : Least (state_of end).log (free_list σ) lowest
  -- it touches no free cell
  pub untouched : touched (state_of end).log ≡ []
  -- no sweep in a finished delivery
  pub unswept : number ≡ 0 → some (free_list σ') ≡ replayed (state_of end).log (some (free_list σ))
  -- a stop leaves the totals alone
  pub left_alone : number ≢ 0 → LeftAlone σ σ'
  -- 25 means only that a cell was wanted, by what the code means too, and none was free
  pub wanted : number ≡ 25 → wants_cell steps (code_meant P v δ) ≡ true
  pub dry : number ≡ 25 → NoneFree (state_of end)

-- a delivery with its reply
pub record Job : Type 0 where
  pub by : By
  pub lent : Delivery
  pub reply : StoreReply

-- over the words of the store before a delivery, and what the ledger then holds
module _ (slots : List ℤ) (heads : List ℕ) (v : Value) (j : Job) where
  abbrev pub before : Store
  before = store_of slots heads

  abbrev pub after : Store
  after = store_of j.reply.slots j.reply.heads

  -- a refusal leaves every word of the store
  abbrev pub Owed : Admitted → ℕ → Entry → Type 0
  Owed a lowest (refusal n p) = (j.reply.slots ≡ slots) × (j.reply.heads ≡ heads)
  Owed (script fs) lowest (worked n steps w) = Worked fs before after v j.lent n lowest steps
  Owed (lent P) lowest (worked n steps w) = WorkedLent P before after v j.lent n lowest steps
  Owed (turned_away n p) lowest (worked _ steps w) = ⊥

  -- lent code is left as found, whatever the answer
  abbrev pub CodeLeft : By → Type 0
  CodeLeft (by_file file) = Unit {0}
  CodeLeft (by_code d) = (j.reply.kinds ≡ j.lent.kinds) × (j.reply.operands ≡ j.lent.operands)

  -- a delivery with totals of depth d agrees with its entry
  pub record Agrees (d : ℕ) (e : Entry) : Type 0 where
    pub lowest : ℕ
    pub answered : j.reply.answer ≡ answer_of e lowest (cells_taken after)
    -- it leaves no cells but the totals', whose value is the ledger's
    pub rests : AtRest d after (value_after v e)
    pub owed : Owed (admission j.by j.lent) lowest e
    pub code_left : CodeLeft j.by

-- ---- the claim

-- How an engine answers that takes lent code: a translation; a check of lent code for a stated depth; and a delivery by
-- lent code, which stands in the delivery's code arrays.
pub record LentEngine : Type 1 where
  pub saving : SavingEngine
  pub translates : List ℕ → List ℕ → List ℤ → Reply → Type 0
  pub checks_code : List ℕ → List ℤ → ℕ → Reply → Type 0
  pub delivers_code : ℕ → List ℤ → List ℕ → Delivery → StoreReply → Type 0

-- the call of a delivery
abbrev pub Calls : LentEngine → By → List ℤ → List ℕ → Delivery → StoreReply → Type 0
Calls E (by_file file) slots heads δ r = E.saving.engine.delivers file slots heads δ r
Calls E (by_code d) slots heads δ r = E.delivers_code d slots heads δ r

-- calls in turn, each on the store that the one before left
abbrev pub InTurn : LentEngine → List ℤ → List ℕ → List Job → Type 0
InTurn E slots heads [] = Unit {0}
InTurn E slots heads (j ∷ js) =
    Calls E j.by slots heads j.lent j.reply × InTurn E j.reply.slots j.reply.heads js

-- the ledger's entry for a delivery, before which it holds v
abbrev pub entered : ℕ → Value → Job → Entry
entered d v j = entry d v (admission j.by j.lent) j.lent (dry_steps j.reply.answer)

-- each delivery agrees with the ledger, and the store rests after the last
abbrev pub Kept : ℕ → List ℤ → List ℕ → Value → List Job → Type 0
Kept d slots heads v [] = AtRest d (store_of slots heads) v
Kept d slots heads v (j ∷ js) =
    Agrees slots heads v j d (entered d v j)
    × Kept d j.reply.slots j.reply.heads (value_after v (entered d v j)) js

-- every list of deliveries, by lent code and by scripts as they come, from a store with totals of depth d and value v
abbrev pub KeepsFrom : LentEngine → ℕ → Value → StoreReply → Type 0
KeepsFrom E d v r =
    (js : List Job) → InTurn E r.slots r.heads js → Kept d r.slots r.heads v js

-- the script of an accepted file, by which a store was opened
pub record FromOpened (E : LentEngine) (file : List ℕ) (opening : StoreReply) : Type 0 where
  pub by : Script
  pub is_accepted : judged file ≡ accepted by
  pub keeps : KeepsFrom E (main_depth by) (first_totals (main_depth by)) opening

-- or restored with the value of a saved file
pub record FromRestored (E : LentEngine) (file saved : List ℕ) (restoring : StoreReply) : Type 0 where
  pub by : Script
  pub is_accepted : judged file ≡ accepted by
  pub value : Value
  pub is_read : read_saved (main_depth by) saved ≡ some value
  pub keeps : KeepsFrom E (main_depth by) value restoring

-- What it accepts touches no free cell, leaves none but the totals', and computes what it means with retains and
-- releases ignored: after every opening and every restore that answered 0.
abbrev pub WorksLent : LentEngine → Type 0
WorksLent E =
    ((file kinds : List ℕ) (operands slots : List ℤ) (heads : List ℕ) (opening : StoreReply) →
    E.saving.engine.opens file kinds operands slots heads opening → number_of opening.answer ≡ 0 →
    FromOpened E file opening)
    × ((file kinds : List ℕ) (operands slots : List ℤ) (heads saved : List ℕ) (restoring : StoreReply) →
    E.saving.restores file kinds operands slots heads saved restoring → number_of restoring.answer ≡ 0 →
    FromRestored E file saved restoring)

-- the script of an accepted file, and the check of its code for its depth: it passes with all its lines, and stays
pub record Passes (E : LentEngine) (file : List ℕ) (r : Reply) : Type 0 where
  pub by : Script
  pub is_accepted : judged file ≡ accepted by
  pub passes : (c : Reply) → E.checks_code r.kinds r.operands (main_depth by) c → c ≡ r

-- All code from the translator passes: every translation that answered 0. The check answers what the translation did:
-- 0 and the lines.
abbrev pub TranslatedPasses : LentEngine → Type 0
TranslatedPasses E =
    (file kinds : List ℕ) (operands : List ℤ) (r : Reply) → E.translates file kinds operands r →
    number_of r.answer ≡ 0 → Passes E file r

-- the calls of the definitions
unfoldable pub defined_lent : LentEngine
defined_lent = record {
  saving = defined_saving;
  translates = λ file kinds operands r. r ≡ engine_translate file kinds operands;
  checks_code = λ kinds operands d r. r ≡ engine_check_code kinds operands d;
  delivers_code = λ d slots heads δ r.
      r ≡ engine_deliver_code δ.kinds δ.operands d slots heads δ.readings δ.budget;
}
