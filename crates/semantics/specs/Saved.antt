-- Document 02, order 4: a value in a saved file, read back, and loaded into a store.
-- The file: the depth (1 byte), the number K of entries (2 bytes), K marks of 1 byte, K signed numbers of 8 bytes, low
-- byte first. The entries stand in prefix order; an array that several places name is written at each.
use Rattle.std.specs.Prelude.{ℕ, zero, suc, ◌+◌, ◌-◌, ◌*◌, ◌/◌, ◌%◌, ◌^◌, Bool, cond, ◌&&◌, List, [], ◌∷◌, ◌++◌, ℤ, pos, negsuc, length, get_or, eqb, ltb, leb}
use Rattle.std.proofs.Math.Option.{Option, none, some}
use Rattle.semantics.specs.Outcome.{Outcome, done, stop, Run, ◌>>=◌, ◌>>◌, give, times, passes}
use Rattle.semantics.specs.Number.{bytes_at, signed, is_zero}
use Rattle.semantics.specs.Value.{Value, num, array, Values, nil, cons, list, items, number_in}
use Rattle.semantics.specs.Store.{Store, has_free, acquired, appended, with_totals, relinked, zeroed}

-- ---- writing

-- the mark is 0 for a number, and an array's length + 1; an array's number is 0
pub record Entry : Type 0 where
  pub mark : ℕ
  pub number : ℤ

abbrev pub size_of : Values → ℕ
size_of nil = 0
size_of (cons v vs) = suc (size_of vs)

unfoldable mutual
  -- a value's entries, an array's before those of its elements
  pub entries : Value → List Entry
  entries (num z) = record { mark = 0; number = z } ∷ []
  entries (array vs) = record { mark = suc (size_of vs); number = pos 0 } ∷ entries_all vs

  pub entries_all : Values → List Entry
  entries_all nil = []
  entries_all (cons v vs) = entries v ++ entries_all vs

abbrev pub entry_count : Value → ℕ
entry_count v = length (entries v)

-- a signed number as an unsigned one with the same 64 bits
abbrev pub unsigned : ℤ → ℕ
unsigned (pos n) = n
unsigned (negsuc n) = 2 ^ 64 - suc n

-- so many bytes of a number, low byte first
unfoldable pub low_bytes : ℕ → ℕ → List ℕ
low_bytes zero n = []
low_bytes (suc k) n = (n % 256) ∷ low_bytes k (n / 256)

unfoldable pub marks : List Entry → List ℕ
marks [] = []
marks (e ∷ es) = e.mark ∷ marks es

unfoldable pub number_bytes : List Entry → List ℕ
number_bytes [] = []
number_bytes (e ∷ es) = low_bytes 8 (unsigned e.number) ++ number_bytes es

-- the length of a file with so many entries
abbrev pub saved_length : ℕ → ℕ
saved_length k = 3 + 9 * k

-- the file of entries, for totals of depth d
unfoldable pub file_bytes : ℕ → List Entry → List ℕ
file_bytes d es = d ∷ (low_bytes 2 (length es) ++ (marks es ++ number_bytes es))

-- the file of a value of depth d
unfoldable pub saved_bytes : ℕ → Value → List ℕ
saved_bytes d v = file_bytes d (entries v)

-- 27 on saving, unless this holds: at most 4,096 entries, and a buffer of so many bytes has room for the file
unfoldable pub save_fits : ℕ → ℕ → Bool
save_fits k room = leb k 4096 && leb (saved_length k) room

-- ---- reading: the state is the next entry's number

-- over a file of k entries
module _ (file : List ℕ) (k : ℕ) where
  abbrev pub mark_at : ℕ → ℕ
  mark_at p = get_or file (3 + p) 0

  abbrev pub number_at : ℕ → ℤ
  number_at p = signed (bytes_at 8 file (3 + k + 8 * p))

  -- a number's entry
  abbrev pub is_number : ℕ → Bool
  is_number p = ltb p k && eqb (mark_at p) 0

  -- an array's
  abbrev pub is_array : ℕ → Bool
  is_array p = ltb p k && (ltb 0 (mark_at p) && (leb (mark_at p) 17 && is_zero (number_at p)))

  -- the value of a depth, from the next entry on
  unfoldable pub value_at : ℕ → Run ℕ Value
  value_at zero p = cond (is_number p) (done (num (number_at p)) (suc p)) (stop 27 p)
  value_at (suc d) p =
      cond (is_array p) ((times (mark_at p - 1) (value_at d) >>= λ vs. give (list vs)) (suc p)) (stop 27 p)

  -- all entries belong to the value
  abbrev pub all_read : Outcome ℕ Value → Option Value
  all_read (done v p) = cond (eqb p k) (some v) none
  all_read (stop n p) = none

-- the number of entries that a file states
abbrev pub stated_count : List ℕ → ℕ
stated_count file = bytes_at 2 file 1

-- depth, count and length are right
unfoldable pub labelled : ℕ → List ℕ → Bool
labelled d file =
    let k = stated_count file in
    leb 3 (length file) && (eqb (get_or file 0 0) d && (leb k 4096 && eqb (length file) (saved_length k)))

-- the value of depth d in a file; none where it breaks the form, which is 27
unfoldable pub read_saved : ℕ → List ℕ → Option Value
read_saved d file =
    let k = stated_count file in
    cond (labelled d file) (all_read file k (value_at file k d 0)) none

-- ---- loading

-- the free list's first cell acquired, empty
unfoldable pub acquire_cell : ℕ → Run Store ℕ
acquire_cell d σ = cond (has_free σ) (done σ.first (acquired d [] σ)) (stop 25 σ)

-- an element loaded, and put behind the others
unfoldable pub load_element : (Value → Run Store ℤ) → ℕ → Unit {0} → Value → Run Store (Unit {0})
load_element load c _ v = load v >>= λ w σ. done tt (appended c w σ)

-- a value of a depth as a word; an array's cell is acquired before those of its elements, each with the count 1
unfoldable pub load_value : ℕ → Value → Run Store ℤ
load_value zero v = give (number_in v)
load_value (suc d) v = do
  c ← acquire_cell d
  passes (load_element (load_value d) c) tt (items v)
  give (pos c)

-- a value as the totals
unfoldable pub load_totals : ℕ → Value → Run Store (Unit {0})
load_totals d v = load_value d v >>= λ w σ. done tt (with_totals σ w)

-- into n cells, all of them free
unfoldable pub loaded : ℕ → ℕ → Value → Outcome Store (Unit {0})
loaded n d v = load_totals d v (relinked (zeroed n))
