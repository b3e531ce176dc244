-- The entries of a word in a store, and the file that they are put into one after another.
use Rattle.std.specs.Prelude.{ℕ, zero, suc, ◌+◌, ◌*◌, Bool, true, false, cond, List, [], ◌∷◌, ◌++◌, ℤ, pos, length}
use Rattle.std.specs.Prelude.{set, replicate, ltb, leb, Option, Some, None}
use Rattle.std.proofs.lemmas.List.Edits.{sets}
use Rattle.semantics.specs.Store.{Store, cell, cell_of, elements}
use Rattle.semantics.specs.Saved.{Entry, unsigned, low_bytes, entry_count, saved_bytes, save_fits}
use Rattle.semantics.specs.SaveCalls.{totals_value, in_buffer}

abbrev pub entry : ℕ → ℤ → Entry
entry m z = record { mark = m; number = z }

-- f's entries for each word, one after another
unfoldable pub gather : (ℤ → List Entry) → List ℤ → List Entry
gather f [] = []
gather f (w ∷ ws) = f w ++ gather f ws

-- the entries of a word of a depth
unfoldable pub entries_at : Store → ℕ → ℤ → List Entry
entries_at σ zero w = entry 0 w ∷ []
entries_at σ (suc d) w =
    entry (suc (length (elements (cell σ (cell_of w))))) (pos 0)
    ∷ gather (entries_at σ d) (elements (cell σ (cell_of w)))

-- so many entries, if a file has as many
unfoldable pub counted : ℕ → Option ℕ
counted k = cond (leb k 4096) (Some k) None

-- the next entry's number, and the bytes
pub record Written : Type 0 where
  pub next : ℕ
  pub bytes : List ℕ

abbrev pub written : ℕ → List ℕ → Written
written p bytes = record { next = p; bytes = bytes }

-- an entry of k, if it is one: its mark, and the eight bytes of its number
unfoldable pub put_entry : ℕ → Entry → Written → Written
put_entry k e s =
    cond (ltb s.next k)
    (written (s.next + 1)
    (sets (set s.bytes (3 + s.next) e.mark) (3 + k + 8 * s.next) (low_bytes 8 (unsigned e.number))))
    s

unfoldable pub put_entries : ℕ → List Entry → Written → Written
put_entries k [] s = s
put_entries k (e ∷ es) s = put_entries k es (put_entry k e s)

-- whether totals are saved, and what the buffer has then
pub record Saving : Type 0 where
  pub fits : Bool
  pub buffer : List ℕ

abbrev pub saving : Bool → List ℕ → Saving
saving fits buffer = record { fits = fits; buffer = buffer }

-- the totals of depth d of a store, in a buffer
unfoldable pub totals_saved : ℕ → Store → List ℕ → Saving
totals_saved d σ buffer =
    cond (save_fits (entry_count (totals_value d σ)) (length buffer))
    (saving true (in_buffer (saved_bytes d (totals_value d σ)) buffer))
    (saving false (replicate (length buffer) 0))
