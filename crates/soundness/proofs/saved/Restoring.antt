-- A restore that answers 0 leaves a store at rest with the value of the file, from which demand 3 holds. It ends in 25
-- just where the value has more arrays than there are cells.
use Rattle.prelude.specs.Kit.{ℕ, arith, true, false, Bool, cond, ◌≡◌, refl, sym, ap, subst, ap₂}
use Rattle.prelude.specs.Kit.{some, none, Option, List, leb, ℤ}
use Rattle.prelude.specs.Kit.{le-leb, lt-leb}
use Rattle.semantics.specs.Outcome.{Outcome, done, stop}
use Rattle.semantics.specs.Syntax.{Script, main_depth}
use Rattle.semantics.specs.Value.{Value}
use Rattle.semantics.specs.Store.{Store, zeroed}
use Rattle.semantics.specs.Store.{cells_taken}
use Rattle.semantics.specs.Words.{cells_in, shaped}
use Rattle.semantics.specs.Calls.{number_of, accepted, judged, room, code_fits, StoreReply, refusing, answering, packed}
use Rattle.semantics.specs.Saved.{read_saved, loaded}
use Rattle.semantics.specs.SaveCalls.{restore_in, restore_value, restore_for, engine_restore}
use Rattle.semantics.specs.Swap.{Restored, defined_saving}
use Rattle.laws.specs.Levels.{none_taken}
use Rattle.soundness.proofs.annotation.Accepting.{main_shape_of}
use Rattle.soundness.proofs.Step.{Standing, settled_standing}
use Rattle.soundness.proofs.Demand3.{few_cells, some_cells, no_refusal, admitted_is, Accepts, answer_accepts, kept}
use Rattle.soundness.proofs.saved.Shape.{arrays_in}
use Rattle.soundness.proofs.saved.Reading.{read_of_depth}
use Rattle.soundness.proofs.saved.Filled.{Ends, loaded_ends}

-- ---- the call

-- what was read, and the store at rest with it
pub record Stood (fs : Script) (saved : List ℕ) (r : StoreReply) : Type 0 where
  pub value : Value
  pub is_read : read_saved (main_depth fs) saved ≡ some value
  pub stands : Standing fs r.slots r.heads value

module _ (file : List ℕ) (fs : Script) (ok : judged file ≡ accepted fs)
    (kinds : List ℕ) (operands slots : List ℤ) (heads saved : List ℕ) where
  abbrev d : ℕ
  d = main_depth fs

  abbrev n : ℕ
  n = cells_in slots heads

  abbrev reply : StoreReply
  reply = engine_restore file kinds operands slots heads saved

  abbrev StoodAt0 : StoreReply → Type 0
  StoodAt0 r = number_of r.answer ≡ 0 → Stood fs saved r

  value_ends : shaped slots heads ≡ true → (v : Value) → read_saved d saved ≡ some v → Ends n d v (loaded n d v)
  value_ends f v e =
      loaded_ends n d (some_cells slots heads f) (few_cells slots heads) (main_shape_of file fs ok).1 v
      (read_of_depth d saved v e)

  loaded_stands : (v : Value) → read_saved d saved ≡ some v → (o : Outcome Store (Unit {0})) → Ends n d v o →
      StoodAt0 (restore_in kinds operands slots heads fs o)
  unfolding answering
  loaded_stands v e (done u σ) s z = record { value = v; is_read = e; stands = settled_standing s.0.settled }
  loaded_stands v e (stop k σ) s z =
      let answered : number_of (packed 25 0 0 (cells_taken (zeroed n))) ≡ 0 =
      subst (λ (j : ℕ). number_of (packed j 0 0 (cells_taken (zeroed n))) ≡ 0) s.0.0 z in
      no_refusal 25 (cells_taken (zeroed n)) (omega arith) (omega arith) answered

  value_stands : shaped slots heads ≡ true → (o : Option Value) → read_saved d saved ≡ o →
      StoodAt0 (restore_value kinds operands slots heads fs o)
  unfolding refusing
  value_stands f none e z = no_refusal 27 0 (omega arith) (omega arith) z
  value_stands f (some v) e z = loaded_stands v e (loaded n d v) (value_ends f v e) z

  pub restore_stands : StoodAt0 reply
  unfolding engine_restore restore_for refusing
  restore_stands = by (code_fits fs (room kinds operands)) refl (shaped slots heads) refl
    where
      by : (a : Bool) → code_fits fs (room kinds operands) ≡ a → (b : Bool) → shaped slots heads ≡ b → StoodAt0 reply
      by false e b f = rw (admitted_is file fs ok (room kinds operands), e)
          (λ z. no_refusal 9 0 (omega arith) (omega arith) z)
      by true e false f = rw (admitted_is file fs ok (room kinds operands), e, f)
          (λ z. no_refusal 11 0 (omega arith) (omega arith) z)
      by true e true f = rw (admitted_is file fs ok (room kinds operands), e, f)
          (value_stands f (read_saved d saved) refl)

-- what is answered of a file that can be read, into arrays that fit
module _ (file : List ℕ) (fs : Script) (ok : judged file ≡ accepted fs)
    (kinds : List ℕ) (operands slots : List ℤ) (heads saved : List ℕ) (v : Value)
    (code : code_fits fs (room kinds operands) ≡ true) (shape : shaped slots heads ≡ true)
    (file_read : read_saved (main_depth fs) saved ≡ some v) where
  abbrev answer : StoreReply → ℕ
  answer r = r.answer

  -- by how the loading ended
  told : (o : Outcome Store (Unit {0})) → Ends (cells_in slots heads) (main_depth fs) v o →
      answer (restore_in kinds operands slots heads fs o) ≡
      cond (leb (arrays_in v) (cells_in slots heads)) (packed 0 0 0 (arrays_in v)) (packed 25 0 0 0)
  unfolding answering
  told (done u σ) s =
      rw (le-leb (arrays_in v) (cells_in slots heads) s.1) (ap (λ (k : ℕ). packed 0 0 0 k) s.0.taken)
  told (stop k σ) s =
      rw (lt-leb (arrays_in v) (cells_in slots heads) s.1)
      (ap₂ (λ (j c : ℕ). packed j 0 0 c) s.0.0 (none_taken (cells_in slots heads)))

  -- 25 just where the value has more arrays than there are cells; else 0, with as many cells taken
  pub restore_answers : answer (engine_restore file kinds operands slots heads saved) ≡
      cond (leb (arrays_in v) (cells_in slots heads)) (packed 0 0 0 (arrays_in v)) (packed 25 0 0 0)
  unfolding engine_restore restore_for
  restore_answers = rw (admitted_is file fs ok (room kinds operands), code, shape, file_read)
      (told (loaded (cells_in slots heads) (main_depth fs) v)
      (value_ends file fs ok kinds operands slots heads saved shape v file_read))

pub restore_accepts : (file kinds : List ℕ) (operands slots : List ℤ) (heads saved : List ℕ) →
    number_of (engine_restore file kinds operands slots heads saved).answer ≡ 0 → Accepts file
unfolding engine_restore restore_for refusing
restore_accepts file kinds operands slots heads saved =
    answer_accepts file (room kinds operands) (λ v. (restore_for kinds operands slots heads saved v).answer)
    (λ n p. refl)

-- ---- demand 3

-- the script of an accepted file, and the store with the value of a saved file
pub record RestoredFrom (file saved : List ℕ) (r : StoreReply) : Type 0 where
  pub script : Script
  pub is_accepted : judged file ≡ accepted script
  pub stood : Stood script saved r

pub restored_from : (file kinds : List ℕ) (operands slots : List ℤ) (heads saved : List ℕ) (restoring : StoreReply) →
    defined_saving.restores file kinds operands slots heads saved restoring → number_of restoring.answer ≡ 0 →
    RestoredFrom file saved restoring
unfolding defined_saving
restored_from file kinds operands slots heads saved restoring called answered =
    let z = subst (λ r. number_of r.answer ≡ 0) called answered in
    let a = restore_accepts file kinds operands slots heads saved z in
    record {
      script = a.script;
      is_accepted = a.so;
      stood = subst (λ r. Stood a.script saved r) (sym called)
          (restore_stands file a.script a.so kinds operands slots heads saved z);
    }

-- Demand 3 from a restored store.
pub restored : Restored defined_saving
unfolding defined_saving
restored file kinds operands slots heads saved restoring called answered =
    let s = restored_from file kinds operands slots heads saved restoring called answered in
    let v = s.stood.value in
    record {
      script = s.script;
      is_accepted = s.is_accepted;
      value = v;
      is_read = s.stood.is_read;
      keeps = λ cs turn. kept file s.script s.is_accepted cs restoring.slots restoring.heads v
          s.stood.stands turn;
    }
