-- Document 02, order 4, as computed rows: totals saved and restored, and files and buffers that are refused.
use Rattle.std.specs.Prelude.{ℕ, ◌+◌, ◌*◌, ◌≡◌, true, false, List, [], ◌∷◌, ◌++◌, map, ℤ, pos, negsuc, replicate}
use Rattle.std.proofs.Math.Option.{none, some}
use Rattle.semantics.specs.Value.{Value, num, list, numbers}
use Rattle.semantics.specs.Code.{row}
use Rattle.semantics.specs.Words.{store_of}
use Rattle.semantics.specs.Calls.{packed, number_of, StoreReply, engine_open, engine_check, engine_deliver}
use Rattle.semantics.specs.Saved.{Entry, file_bytes, save_fits, labelled, read_saved}
use Rattle.semantics.specs.SaveCalls.{SaveReply, totals_value, engine_save, engine_restore}
use Rattle.semantics.specs.Swap.{file_in}
use Rattle.semantics.specs.Slips.{file_of}

-- ---- a swap, seen

-- main(t: 2, r: 1): 2 = {r, r}
unfoldable pub twice_named : List ℕ
twice_named = file_of 1 (row 0 514 ∷ row 1 512 ∷ row 1 257 ∷ row 9 258 ∷ row 3 1 ∷ row 3 1 ∷ [])

-- main(t: d, r: 1): d = t
unfoldable pub unchanged : ℕ → List ℕ
unchanged d = file_of 1 (row 0 (2 + 256 * d) ∷ row 1 (256 * d) ∷ row 1 257 ∷ row 3 0 ∷ [])

abbrev pub code_kinds : List ℕ
code_kinds = replicate 12 7

abbrev pub code_operands : List ℤ
code_operands = replicate 12 (pos 7)

-- arrays for n cells, with old words in them
abbrev pub old_slots : ℕ → List ℤ
old_slots n = replicate (1 + 16 * n) (pos 7)

abbrev pub old_heads : ℕ → List ℕ
old_heads n = replicate (1 + 4 * n) 7

-- the save's answer and the buffer, the restore's answer, the value restored and a check of the store
pub record Carried : Type 0 where
  pub save : ℕ
  pub buffer : List ℕ
  pub restore : ℕ
  pub totals : Value
  pub check : ℕ

abbrev pub carried_by : List ℕ → ℕ → SaveReply → StoreReply → Carried
carried_by file d s r = record {
  save = s.answer;
  buffer = s.saved;
  restore = r.answer;
  totals = totals_value d (store_of r.slots r.heads);
  check = number_of (engine_check file code_kinds code_operands r.slots r.heads).answer;
}

-- opened with 4 cells and delivered these readings, saved in a buffer, and restored into n cells
unfoldable pub carrying : List ℕ → ℕ → List ℤ → ℕ → ℕ → Carried
carrying file d readings bytes n =
    let o = engine_open file code_kinds code_operands (old_slots 4) (old_heads 4) in
    let r = engine_deliver file code_kinds code_operands o.slots o.heads readings 1000 in
    let s = engine_save file code_kinds code_operands r.slots r.heads (replicate bytes 7) in
    carried_by file d s
    (engine_restore file code_kinds code_operands (old_slots n) (old_heads n) (file_in s.saved))

-- the file of {{5, -1}, {5, -1}}: the array that two places name is written at each
unfoldable pub twice_bytes : List ℕ
twice_bytes =
    2 ∷ 7 ∷ 0 ∷ 3 ∷ 3 ∷ 0 ∷ 0 ∷ 3 ∷ 0 ∷ 0 ∷
    0 ∷ 0 ∷ 0 ∷ 0 ∷ 0 ∷ 0 ∷ 0 ∷ 0 ∷ 0 ∷ 0 ∷ 0 ∷ 0 ∷ 0 ∷ 0 ∷ 0 ∷ 0 ∷
    5 ∷ 0 ∷ 0 ∷ 0 ∷ 0 ∷ 0 ∷ 0 ∷ 0 ∷ 255 ∷ 255 ∷ 255 ∷ 255 ∷ 255 ∷ 255 ∷ 255 ∷ 255 ∷
    0 ∷ 0 ∷ 0 ∷ 0 ∷ 0 ∷ 0 ∷ 0 ∷ 0 ∷
    5 ∷ 0 ∷ 0 ∷ 0 ∷ 0 ∷ 0 ∷ 0 ∷ 0 ∷ 255 ∷ 255 ∷ 255 ∷ 255 ∷ 255 ∷ 255 ∷ 255 ∷ 255 ∷ []

unfoldable pub twice_value : Value
twice_value = list (numbers (pos 5 ∷ negsuc 0 ∷ []) ∷ numbers (pos 5 ∷ negsuc 0 ∷ []) ∷ [])

-- what is carried into n cells: the store passes its check; else it is all zero, or as it was, and does not
abbrev pub arrived : ℕ → List ℕ → ℕ → Value → Carried
arrived taken buffer n v = record {
  save = packed 0 0 0 taken;
  buffer = buffer;
  restore = packed 0 0 0 n;
  totals = v;
  check = 0;
}

abbrev pub lost : ℕ → ℕ → List ℕ → ℕ → Carried
lost number taken buffer restore = record {
  save = packed number 0 0 taken;
  buffer = buffer;
  restore = packed restore 0 0 0;
  totals = list [];
  check = 11;
}

-- Saved from 2 cells and restored into 3; the same into 2, where no cell is free for the third array; and into a buffer
-- with one byte too few. Empty totals of depth 1 and of depth 4, and the number 0.
unfoldable pub carries : Type 0
carries =
    carrying twice_named 2 (pos 5 ∷ negsuc 0 ∷ []) 68 3 ∷
    carrying twice_named 2 (pos 5 ∷ negsuc 0 ∷ []) 66 2 ∷
    carrying twice_named 2 (pos 5 ∷ negsuc 0 ∷ []) 65 3 ∷
    carrying (unchanged 1) 1 [] 13 1 ∷
    carrying (unchanged 4) 4 [] 12 1 ∷
    carrying (unchanged 0) 0 [] 12 1 ∷ []
    ≡
    arrived 2 (twice_bytes ++ (0 ∷ 0 ∷ [])) 3 twice_value ∷
    lost 0 2 twice_bytes 25 ∷
    lost 27 0 (replicate 65 0) 27 ∷
    arrived 1 (1 ∷ 1 ∷ 0 ∷ 1 ∷ replicate 9 0) 1 (list []) ∷
    arrived 1 (4 ∷ 1 ∷ 0 ∷ 1 ∷ replicate 8 0) 1 (list []) ∷
    arrived 0 (0 ∷ 1 ∷ 0 ∷ 0 ∷ replicate 8 0) 0 (num (pos 0)) ∷ []

-- ---- words after a restore

-- cells 0, 1 and 2 in prefix order, each of count 1, though the saved arrays were one; the rest is linked upwards
unfoldable pub restored_words : Type 0
restored_words =
    engine_restore (unchanged 2) code_kinds code_operands (old_slots 5) (old_heads 5) twice_bytes
    ≡ record {
      answer = packed 0 0 0 3;
      kinds = 0 ∷ 1 ∷ 1 ∷ 15 ∷ 16 ∷ 3 ∷ replicate 6 0;
      operands = pos 514 ∷ pos 512 ∷ pos 257 ∷ pos 1 ∷ pos 0 ∷ pos 0 ∷ replicate 6 (pos 0);
      slots =
          pos 0 ∷ pos 1 ∷ pos 2 ∷ (replicate 14 (pos 0) ++ (pos 5 ∷ negsuc 0 ∷ (replicate 14 (pos 0)
          ++ (pos 5 ∷ negsuc 0 ∷ replicate 46 (pos 0)))));
      heads =
          3 ∷ 1 ∷ 2 ∷ 1 ∷ 0 ∷ 1 ∷ 2 ∷ 0 ∷ 0 ∷ 1 ∷ 2 ∷ 0 ∷ 0 ∷ 0 ∷ 0 ∷ 0 ∷ 4 ∷ 0 ∷ 0 ∷ 0 ∷ 5 ∷ [];
    }

-- where no cell is left all words of the store are zero, and the code stands
unfoldable pub dry_restore : Type 0
dry_restore =
    engine_restore (unchanged 2) code_kinds code_operands (old_slots 2) (old_heads 2) twice_bytes
    ≡ record {
      answer = packed 25 0 0 0;
      kinds = 0 ∷ 1 ∷ 1 ∷ 15 ∷ 16 ∷ 3 ∷ replicate 6 0;
      operands = pos 514 ∷ pos 512 ∷ pos 257 ∷ pos 1 ∷ pos 0 ∷ pos 0 ∷ replicate 6 (pos 0);
      slots = replicate 33 (pos 0);
      heads = replicate 9 0;
    }

-- ---- files refused

abbrev pub entry : ℕ → ℕ → Entry
entry m n = record { mark = m; number = pos n }

-- the array {3}, first well formed. Then: no bytes, no entry, two bytes, another depth, a byte more, an entry more, an
-- entry less than the mark says, a mark of 18, a number where an array is due, an array where a number is due, a number
-- other than 0 at an array.
unfoldable pub refused_files : Type 0
refused_files =
    map (read_saved 1) (
    file_bytes 1 (entry 2 0 ∷ entry 0 3 ∷ []) ∷
    [] ∷
    file_bytes 1 [] ∷
    (1 ∷ 1 ∷ []) ∷
    file_bytes 2 (entry 2 0 ∷ entry 0 3 ∷ []) ∷
    (file_bytes 1 (entry 2 0 ∷ entry 0 3 ∷ []) ++ (0 ∷ [])) ∷
    file_bytes 1 (entry 2 0 ∷ entry 0 3 ∷ entry 0 3 ∷ []) ∷
    file_bytes 1 (entry 3 0 ∷ entry 0 3 ∷ []) ∷
    file_bytes 1 (entry 18 0 ∷ replicate 17 (entry 0 3)) ∷
    file_bytes 1 (entry 0 0 ∷ []) ∷
    file_bytes 1 (entry 2 0 ∷ entry 1 0 ∷ []) ∷
    file_bytes 1 (entry 2 1 ∷ entry 0 3 ∷ []) ∷ [])
    ≡ some (numbers (pos 3 ∷ [])) ∷ replicate 11 none

-- ---- limits and the order of tests

-- Files of 4,096 and of 4,097 entries; buffers for 4,096 with just enough bytes and with one too few; and 4,097
-- entries, whatever the buffer.
unfoldable pub limits : Type 0
limits =
    labelled 1 (1 ∷ 0 ∷ 16 ∷ replicate 36864 0) ∷ labelled 1 (1 ∷ 1 ∷ 16 ∷ replicate 36873 0) ∷
    save_fits 4096 36867 ∷ save_fits 4096 36866 ∷ save_fits 4097 100000 ∷ []
    ≡ true ∷ false ∷ true ∷ false ∷ false ∷ []

-- the number of a save, and the buffer after it
abbrev pub save_told : SaveReply → ℕ × List ℕ
save_told r = (number_of r.answer, r.saved)

-- Code that does not fit before an unsound store, and that before a buffer too short: both zero it.
unfoldable pub refused_saves : Type 0
refused_saves =
    save_told (engine_save (unchanged 1) [] [] (old_slots 2) (old_heads 2) (7 ∷ [])) ∷
    save_told (engine_save (unchanged 1) code_kinds code_operands (old_slots 2) (old_heads 2) (7 ∷ [])) ∷ []
    ≡ (9, 0 ∷ []) ∷ (11, 0 ∷ []) ∷ []

-- Code that does not fit before lengths that do not, and those before a file of another depth; that before a cell too
-- few.
unfoldable pub refused_restores : Type 0
refused_restores =
    map (λ r. number_of r.answer) (
    engine_restore (unchanged 2) [] [] (old_slots 1) (old_heads 2) [] ∷
    engine_restore (unchanged 2) code_kinds code_operands (old_slots 1) (old_heads 2) [] ∷
    engine_restore (unchanged 1) code_kinds code_operands (old_slots 1) (old_heads 1) twice_bytes ∷
    engine_restore (unchanged 2) code_kinds code_operands (old_slots 1) (old_heads 1) twice_bytes ∷ [])
    ≡ 9 ∷ 11 ∷ 27 ∷ 25 ∷ []

-- a refusal leaves the store as it was
unfoldable pub store_left : Type 0
store_left =
    engine_restore (unchanged 1) code_kinds code_operands (old_slots 1) (old_heads 1) twice_bytes
    ≡ record {
      answer = packed 27 0 0 0;
      kinds = replicate 12 0;
      operands = replicate 12 (pos 0);
      slots = old_slots 1;
      heads = old_heads 1;
    }
