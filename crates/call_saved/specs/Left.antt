-- What the store's part of a restore answers and leaves in the two arrays, and that of a save in the buffer.
use Rattle.std.specs.Prelude.{ℕ, cond, List, ℤ, length, replicate}
use Rattle.std.proofs.Math.Option.{Option, none, some}
use Rattle.semantics.specs.Outcome.{Outcome, done, stop}
use Rattle.semantics.specs.Value.{Value}
use Rattle.semantics.specs.Store.{Store, zeroed, cells_taken}
use Rattle.semantics.specs.Words.{cells_in, store_of, shaped}
use Rattle.semantics.specs.Sound.{sound_words}
use Rattle.semantics.specs.Saved.{read_saved, loaded}
use Rattle.answers.specs.declared.Refusal.TheVariants.{UnsoundStore, BadSaveFile}
use Rattle.call_store.specs.Left.{Ended, StoreLeft, answered, refused, left, left_by}
use Rattle.saved_write.specs.Writing.{Saving, totals_saved}

-- ---- restore

-- a value loaded into n cells, or 25 and all words zero
abbrev pub restored_by : ℕ → Outcome Store (Unit {0}) → StoreLeft
restored_by n (done _ σ) = left_by 0 0 0 σ
restored_by n (stop k _) = left_by k 0 0 (zeroed n)

-- the value of a file, or 27
abbrev pub restored_value : ℕ → List ℤ → List ℕ → Option Value → StoreLeft
restored_value d slots heads (some v) = restored_by (cells_in slots heads) (loaded (cells_in slots heads) d v)
restored_value d slots heads none = left (refused BadSaveFile) slots heads

unfoldable pub restored_left : ℕ → List ℕ → List ℤ → List ℕ → StoreLeft
restored_left d saved slots heads =
    cond (shaped slots heads) (restored_value d slots heads (read_saved d saved)) (left (refused UnsoundStore) slots heads)

-- ---- save

pub record SaveLeft : Type 0 where
  pub answer : Ended
  pub buffer : List ℕ

abbrev pub save_left : Ended → List ℕ → SaveLeft
save_left answer buffer = record { answer = answer; buffer = buffer }

-- the cells taken and the file, or 27 and zeros
abbrev pub save_left_by : ℕ → Saving → SaveLeft
save_left_by cells s = save_left (cond s.fits (answered 0 0 0 cells) (refused BadSaveFile)) s.buffer

unfoldable pub saved_left : ℕ → List ℤ → List ℕ → List ℕ → SaveLeft
saved_left d slots heads buffer =
    cond (sound_words d slots heads)
    (save_left_by (cells_taken (store_of slots heads)) (totals_saved d (store_of slots heads) buffer))
    (save_left (refused UnsoundStore) (replicate (length buffer) 0))
