-- Document 02, order 4, as types: the ledger after a restore, and sites whose controllers are swapped.
use Rattle.std.specs.Prelude.{ℕ, true, ◌≡◌, ◌≢◌, List, [], ◌∷◌, ℤ, pos, get_or, take}
use Rattle.std.proofs.Math.Option.{some}
use Rattle.semantics.specs.Number.{fits}
use Rattle.semantics.specs.Syntax.{Script, main_depth}
use Rattle.semantics.specs.Value.{Value}
use Rattle.semantics.specs.Words.{store_of}
use Rattle.semantics.specs.Calls.{accepted, judged, number_of, steps_of, StoreReply}
use Rattle.semantics.specs.Ledger.{Delivery}
use Rattle.semantics.specs.Demands.{Engine, Call, InTurn, Kept, defined}
use Rattle.semantics.specs.Saved.{saved_length, stated_count, read_saved}
use Rattle.semantics.specs.SaveCalls.{SaveReply, totals_value, engine_save, engine_restore}

-- ---- an engine that saves and restores

-- What a save lent the file, two code arrays, the two arrays of a store and a buffer, and a restore lent the file,
-- those four arrays and a saved file, answer and leave.
pub record SavingEngine : Type 1 where
  pub engine : Engine
  pub saves : List ℕ → List ℕ → List ℤ → List ℤ → List ℕ → List ℕ → SaveReply → Type 0
  pub restores : List ℕ → List ℕ → List ℤ → List ℤ → List ℕ → List ℕ → StoreReply → Type 0

-- the words of an array are of 64 bits, as those of every lent array are
abbrev pub Words64 : List ℤ → Type 0
Words64 words = (i : ℕ) → fits (get_or words i (pos 0)) ≡ true

-- the calls of the definitions
unfoldable pub defined_saving : SavingEngine
defined_saving = record {
  engine = defined;
  saves = λ file kinds operands slots heads buffer r. Words64 slots ×
      (r ≡ engine_save file kinds operands slots heads buffer);
  restores = λ file kinds operands slots heads saved r.
      r ≡ engine_restore file kinds operands slots heads saved;
}

-- ---- demand 3 from a restored store

-- the script of an accepted file, the value in a saved one, and the ledger, which begins with that value, over every
-- list of deliveries from the store that a restore left
pub record Continues (delivers : List ℤ → List ℕ → Delivery → StoreReply → Type 0) (file saved : List ℕ)
    (restoring : StoreReply) : Type 0 where
  pub script : Script
  pub is_accepted : judged file ≡ accepted script
  pub value : Value
  pub is_read : read_saved (main_depth script) saved ≡ some value
  pub keeps : (cs : List Call) → InTurn delivers restoring.slots restoring.heads cs →
      Kept script restoring.slots restoring.heads value cs

-- For every restore that answered 0, and every list of deliveries after it, on its file and store.
abbrev pub Restored : SavingEngine → Type 0
Restored E =
    (file kinds : List ℕ) (operands slots : List ℤ) (heads saved : List ℕ) (restoring : StoreReply) →
    E.restores file kinds operands slots heads saved restoring → number_of restoring.answer ≡ 0 →
    Continues (E.engine.delivers file) file saved restoring

-- ---- a site

-- a site begins with a store that was opened or restored with answer 0
pub data Begins (E : SavingEngine) (file : List ℕ) (r : StoreReply) : Type 0 where
  by_open : (kinds : List ℕ) (operands slots : List ℤ) (heads : List ℕ) →
      E.engine.opens file kinds operands slots heads r → number_of r.answer ≡ 0 → Begins E file r
  by_restore : (kinds : List ℕ) (operands slots : List ℤ) (heads saved : List ℕ) →
      E.restores file kinds operands slots heads saved r → number_of r.answer ≡ 0 → Begins E file r

-- the file in a buffer that a save left
abbrev pub file_in : List ℕ → List ℕ
file_in buffer = take (saved_length (stated_count buffer)) buffer

-- a swap: a store is saved with answer 0, and the file restored with answer 0 into other arrays
pub record Swapped (E : SavingEngine) (file : List ℕ) (old new : StoreReply) : Type 0 where
  -- what the save was lent beside the store, and its reply
  pub kinds : List ℕ
  pub operands : List ℤ
  pub buffer : List ℕ
  pub saving : SaveReply
  pub saves : E.saves file kinds operands old.slots old.heads buffer saving
  pub saved : number_of saving.answer ≡ 0
  -- what the restore was lent beside the file
  pub kinds' : List ℕ
  pub operands' : List ℤ
  pub slots' : List ℤ
  pub heads' : List ℕ
  pub restores : E.restores file kinds' operands' slots' heads' (file_in saving.saved) new
  pub restored : number_of new.answer ≡ 0

-- A site, from one reply to another: deliveries in turn, each on the store that was left, and before, between and after
-- them any number of swaps.
pub data Site (E : SavingEngine) (file : List ℕ) : StoreReply → List Call → StoreReply → Type 0 where
  rests : {r : StoreReply} → Site E file r [] r
  works : {r last : StoreReply} {c : Call} {cs : List Call} →
      E.engine.delivers file r.slots r.heads c.lent c.reply → Site E file c.reply cs last →
      Site E file r (c ∷ cs) last
  swaps : {r new last : StoreReply} {cs : List Call} → Swapped E file r new → Site E file new cs last →
      Site E file r cs last

-- a site that began, and came to this reply by any deliveries and swaps
pub record Running (E : SavingEngine) (file : List ℕ) (r : StoreReply) : Type 0 where
  pub start : StoreReply
  pub begins : Begins E file start
  pub before : List Call
  pub ran : Site E file start before r

-- ---- two sites beside each other

-- one delivery at two sites, lent the same but for the store
pub record Pair : Type 0 where
  pub lent : Delivery
  pub reply : StoreReply
  pub other : StoreReply

-- the calls at the one site
abbrev pub calls_here : List Pair → List Call
calls_here [] = []
calls_here (p ∷ ps) = record { lent = p.lent; reply = p.reply } ∷ calls_here ps

-- and at the other
abbrev pub calls_there : List Pair → List Call
calls_there [] = []
calls_there (p ∷ ps) = record { lent = p.lent; reply = p.other } ∷ calls_there ps

-- no call answers 25
abbrev pub NeverDry : List Call → Type 0
NeverDry [] = Unit {0}
NeverDry (c ∷ cs) = (number_of c.reply.answer ≢ 25) × NeverDry cs

-- the totals' value in the store that a call left
abbrev pub value_in : Script → StoreReply → Value
value_in fs r = totals_value (main_depth fs) (store_of r.slots r.heads)

-- from two replies on, two sites answer with the same numbers and steps, and have the same value after each delivery
abbrev pub SameStory : Script → StoreReply → StoreReply → List Pair → Type 0
SameStory fs r q [] = value_in fs q ≡ value_in fs r
SameStory fs r q (p ∷ ps) =
    (value_in fs q ≡ value_in fs r)
    × ((number_of p.other.answer ≡ number_of p.reply.answer)
    × ((steps_of p.other.answer ≡ steps_of p.reply.answer)
    × SameStory fs p.reply p.other ps))

-- ---- the swap

-- The script of an accepted file, and the same story at two sites that go on from two replies, if their totals have the
-- same value there: over every list of deliveries in which no answer is 25, lent the same but for the store, whatever
-- swaps each site has. They end with the same value, after the last swap too.
pub record Alike (E : SavingEngine) (file : List ℕ) (old new : StoreReply) : Type 0 where
  pub script : Script
  pub is_accepted : judged file ≡ accepted script
  pub same : value_in script new ≡ value_in script old → (ps : List Pair) (here there : StoreReply) →
      Site E file old (calls_here ps) here → Site E file new (calls_there ps) there →
      NeverDry (calls_here ps) → NeverDry (calls_there ps) →
      SameStory script old new ps × (value_in script there ≡ value_in script here)

-- For every two running sites of one file. They may be one site till then, with one store: a site that is swapped after
-- any of its deliveries, beside itself never swapped.
abbrev pub Swap : SavingEngine → Type 0
Swap E = (file : List ℕ) (old new : StoreReply) → Running E file old → Running E file new → Alike E file old new
