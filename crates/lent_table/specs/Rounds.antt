-- The table of borrowed parameters by positions, for rows of any content. Where the rows of functions stand it is
-- `lent_table`.
use Rattle.std.specs.Prelude.{◌≡◌, Bool, cond, not, ◌&&◌, List, [], ℕ, zero, suc, ◌+◌, ◌-◌, ◌<◌, min, ℤ, eqb, ltb}
use Rattle.std.specs.Prelude.{get_or, length}
use Rattle.semantics.specs.Basics.{tabulate}
use Rattle.semantics.specs.Live.{Set, empty}
use Rattle.semantics.specs.Borrow.{Table, borrows, all_borrowed, same_table}
use Rattle.machine_code.specs.Reading.{name_at}
use Rattle.lent_spent.specs.Scan.{spent_from}

-- thirty-two rows of eight entries
pub record Shaped (T : Table) : Type 0 where
  pub rows : length T ≡ 32
  pub columns : (f : ℕ) → f < 32 → length (get_or T f []) ≡ 8

-- at most n rounds, until one changes nothing
unfoldable pub worked : (Table → Table) → ℕ → Table → Table
worked round zero T = T
worked round (suc n) T = let U = round T in cond (same_table T U) T (worked round n U)

-- the line of function f, by a table of them; code has at most 4,096 lines
abbrev pub start_at : List ℕ → ℕ → ℕ
start_at starts f = min 4096 (get_or starts f 4096)

-- the line behind function f, of so many functions in so many lines
abbrev pub end_at : List ℕ → ℕ → ℕ → ℕ → ℕ
end_at starts functions lines f = cond (ltb (f + 1) functions) (start_at starts (f + 1)) lines

-- whether the parameter at place i of a function, whose line is at a position, is in a set; past the last there is none
abbrev pub parameter_in : List ℤ → Set → ℕ → ℕ → Bool
parameter_in operands S at i = ltb i (name_at operands at) && S (name_at operands (at + 1 + i))

module _ (kinds : List ℕ) (operands : List ℤ) (starts : List ℕ) (functions : ℕ) where
  -- the names that the tree of function f spends or retains; past the last function there are none
  unfoldable pub spent_by : Table → ℕ → Set
  spent_by T f =
      let at = start_at starts f in
      let from = at + 1 + name_at operands at in
      cond (ltb f functions)
      (spent_from kinds operands (borrows T) (end_at starts functions (length kinds) f - from) from 0 0 0) empty

  -- an entry stays if it is not main's and its function does not spend or retain that parameter
  abbrev pub stays : Table → ℕ → ℕ → Bool
  stays T f i = borrows T f i && (not (eqb f 0) && not (parameter_in operands (spent_by T f) (start_at starts f) i))

  -- one round
  unfoldable pub reworked_at : Table → Table
  reworked_at T = tabulate 0 32 (λ f. tabulate 0 8 (stays T f))

  unfoldable pub table_at : Table
  table_at = worked reworked_at 257 all_borrowed
