-- Document 02, order 4: the calls `engine_save` and `engine_restore` as functions of all lent words.
-- Both answer their number and the cells taken. A save changes no word of the store.
use Rattle.std.specs.Prelude.{ℕ, ◌+◌, ◌-◌, cond, List, ◌++◌, ℤ, pos, length, replicate}
use Rattle.std.proofs.Math.Option.{Option, none, some}
use Rattle.semantics.specs.Outcome.{Outcome, done, stop}
use Rattle.semantics.specs.Syntax.{Script, main_depth}
use Rattle.semantics.specs.Value.{Value}
use Rattle.semantics.specs.Store.{Store, zeroed, cells_taken}
use Rattle.semantics.specs.Words.{cells_in, store_of, shaped}
use Rattle.semantics.specs.Sound.{sound_words}
use Rattle.semantics.specs.Calls.{packed, Verdict, accepted, refused, admitted, room, code_kinds, code_operands}
use Rattle.semantics.specs.Calls.{StoreReply, refusing, answering}
use Rattle.semantics.specs.Demands.{value_of}
use Rattle.semantics.specs.Saved.{entry_count, saved_bytes, save_fits, read_saved, loaded}

-- ---- save

-- what a save answers and leaves in the code arrays, the store and the buffer
pub record SaveReply : Type 0 where
  pub answer : ℕ
  pub kinds : List ℕ
  pub operands : List ℤ
  pub slots : List ℤ
  pub heads : List ℕ
  pub saved : List ℕ

-- the value of the totals of depth d
abbrev pub totals_value : ℕ → Store → Value
totals_value d σ = value_of σ d σ.totals

-- a file at the front of a buffer, and zero past it
abbrev pub in_buffer : List ℕ → List ℕ → List ℕ
in_buffer file buffer = file ++ replicate (length buffer - length file) 0

-- over the lent arrays
module _ (kinds : List ℕ) (operands : List ℤ) (slots : List ℤ) (heads : List ℕ) (buffer : List ℕ) where
  -- a refusal: the code arrays and the buffer all zero
  unfoldable pub refusing_save : ℕ → ℕ → SaveReply
  refusing_save n p = record {
    answer = packed n p 0 0;
    kinds = replicate (length kinds) 0;
    operands = replicate (length operands) (pos 0);
    slots = slots;
    heads = heads;
    saved = replicate (length buffer) 0;
  }

  -- the code, and the file of the totals of a store
  unfoldable pub answering_save : Script → Store → SaveReply
  answering_save fs σ = record {
    answer = packed 0 0 0 (cells_taken σ);
    kinds = code_kinds fs kinds;
    operands = code_operands fs operands;
    slots = slots;
    heads = heads;
    saved = in_buffer (saved_bytes (main_depth fs) (totals_value (main_depth fs) σ)) buffer;
  }

  -- saving, by the verdict on the script's file: all of 11, then 27
  unfoldable pub save_for : Verdict → SaveReply
  save_for (accepted fs) =
      let σ = store_of slots heads in
      cond (sound_words (main_depth fs) slots heads)
      (cond (save_fits (entry_count (totals_value (main_depth fs) σ)) (length buffer))
      (answering_save fs σ)
      (refusing_save 27 0))
      (refusing_save 11 0)
  save_for (refused n p) = refusing_save n p

unfoldable pub engine_save : List ℕ → List ℕ → List ℤ → List ℤ → List ℕ → List ℕ → SaveReply
engine_save file kinds operands slots heads buffer =
    save_for kinds operands slots heads buffer (admitted file (room kinds operands))

-- ---- restore

module _ (kinds : List ℕ) (operands : List ℤ) (slots : List ℤ) (heads : List ℕ) where
  -- a value loaded, or 25: the code stands, and all words of the store are zero
  abbrev pub restore_in : Script → Outcome Store (Unit {0}) → StoreReply
  restore_in fs (done _ σ) = answering kinds operands slots heads fs 0 0 0 σ
  restore_in fs (stop n _) = answering kinds operands slots heads fs n 0 0 (zeroed (cells_in slots heads))

  -- the value of a file, or 27
  abbrev pub restore_value : Script → Option Value → StoreReply
  restore_value fs (some v) = restore_in fs (loaded (cells_in slots heads) (main_depth fs) v)
  restore_value fs none = refusing kinds operands slots heads 27 0

  -- restoring, by the verdict on the script's file: the lengths of 11, then 27, then 25
  unfoldable pub restore_for : List ℕ → Verdict → StoreReply
  restore_for saved (accepted fs) =
      cond (shaped slots heads)
      (restore_value fs (read_saved (main_depth fs) saved))
      (refusing kinds operands slots heads 11 0)
  restore_for saved (refused n p) = refusing kinds operands slots heads n p

unfoldable pub engine_restore : List ℕ → List ℕ → List ℤ → List ℤ → List ℕ → List ℕ → StoreReply
engine_restore file kinds operands slots heads saved =
    restore_for kinds operands slots heads saved (admitted file (room kinds operands))
