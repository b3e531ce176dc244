-- The rounds of the table of borrowed parameters, over links. A link whose place is not borrowed takes its name's entry
-- away; what is taken away is in no table that the links leave as it is.
use Rattle.std.specs.Prelude.{ℕ, ◌+◌, ◌*◌, ◌/◌, ◌%◌, ◌<◌, ◌≤◌, ◌≡◌, Bool, true, false, cond, not, ◌&&◌}
use Rattle.std.specs.Prelude.{List, [], ◌∷◌, eqb, get_or, set}
use Rattle.semantics.specs.Borrow.{Table, borrows}
use Rattle.soundness.proofs.borrowing.Rounds.{Shaped}
use Rattle.borrow_table.specs.Gathered.{passed}

-- how many entries are true
unfoldable pub row_entries : List Bool → ℕ
row_entries [] = 0
row_entries (b ∷ l) = cond b 1 0 + row_entries l

unfoldable pub entries : Table → ℕ
unfolding row_entries
entries [] = 0
entries (r ∷ T) = row_entries r + entries T

-- every entry of the first is in the second
abbrev pub Within : Table → Table → Type 0
Within U T = (f i : ℕ) → borrows U f i ≡ true → borrows T f i ≡ true

-- whether a link takes name i of function f away
abbrev pub takes_away : ℕ → Table → ℕ → ℕ → Bool
takes_away l T f i = eqb (l % 65536) (f + 256 * i) && not (borrows T (l / 65536 % 256) (l / 16777216))

-- a link that takes no entry of a table away
pub record Quiet (l : ℕ) (T : Table) : Type 0 where
  pub at : (f i : ℕ) → f < 32 → i < 8 → borrows T f i ≡ true → takes_away l T f i ≡ false

-- links that take none away
pub record Kept (links : List ℕ) (T : Table) : Type 0 where
  pub at : (f i : ℕ) → borrows T f i ≡ true → passed links T f i ≡ false

-- a link took its name's entry away
pub record Taken (l : ℕ) (T U : Table) : Type 0 where
  pub function : l % 256 < 32
  pub name : l / 256 % 256 < 8
  pub had : borrows T (l % 256) (l / 256 % 256) ≡ true
  pub owned : borrows T (l / 65536 % 256) (l / 16777216) ≡ false
  pub is : U ≡ set T (l % 256) (set (get_or T (l % 256) []) (l / 256 % 256) false)

-- it did not
pub record Spared (l : ℕ) (T U : Table) : Type 0 where
  pub quiet : Quiet l T
  pub is : U ≡ T

abbrev pub Followed : ℕ → Table → Table → Bool → Type 0
Followed l T U true = Taken l T U
Followed l T U false = Spared l T U

-- a table without some entries that the links leave in none within it
pub record Reduced (links : List ℕ) (T U : Table) : Type 0 where
  pub shaped : Shaped U
  pub within : Within U T
  pub keeps : (X : Table) → Within X T → Kept links X → Within X U

-- one round was done; whether it changed something
pub record Reworked (links : List ℕ) (T U : Table) (changed : Bool) : Type 0 where
  pub reduced : Reduced links T U
  pub fewer : entries U + cond changed 1 0 ≤ entries T
  pub kept : changed ≡ false → Kept links U

-- all rounds were done
pub record Settled (links : List ℕ) (T U : Table) : Type 0 where
  pub reduced : Reduced links T U
  pub kept : Kept links U
