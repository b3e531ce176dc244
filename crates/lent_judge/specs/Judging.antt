-- What judging lent code tells, and what the table then has.
use Rattle.std.specs.Prelude.{ℕ, ◌≤◌, ◌≡◌, List, ℤ, length, take, Result, Ok, Err}
use Rattle.semantics.specs.Outcome.{Outcome, done, stop}
use Rattle.semantics.specs.Machine.{Program}
use Rattle.semantics_lent.specs.Calls.{judged_code}
use Rattle.machine_code.specs.Reading.{Cut, table_bytes}
use Rattle.lent_form.specs.declared.Fault.{Fault}
use Rattle.machine_spec.specs.Machine as M
use Rattle.machine_spec.specs.Delivery.{Performs}

-- a refusal is document 02's number 29
abbrev pub judged_outcome : Result ℕ Fault → Outcome ℕ (Unit {0})
judged_outcome (Ok lines) = done tt lines
judged_outcome (Err fault) = stop 29 fault.line

-- a judgement without its program
abbrev pub lines_of : Outcome ℕ Program → Outcome ℕ (Unit {0})
lines_of (done P lines) = done tt lines
lines_of (stop n line) = stop n line

-- the lines are within both arrays, which can be cut to them
pub record LinesFit (kinds : List ℕ) (operands : List ℤ) (lines : ℕ) : Type 0 where
  pub kinds_long : lines ≤ length kinds
  pub operands_long : lines ≤ length operands
  pub few : lines ≤ 4096
  pub cut : Cut (take lines kinds) (take lines operands)

-- the judgement for main of depth d; of code that passes, the lines with a table that has room for it are its program's
pub record JudgesCode (kinds : List ℕ) (operands : List ℤ) (d : ℕ) (table : List ℕ) (r : Result ℕ Fault)
    (table' : List ℕ) : Type 0 where
  pub is : judged_outcome r ≡ lines_of (judged_code kinds operands d)
  pub fit : (P : Program) (lines : ℕ) → judged_code kinds operands d ≡ done P lines → LinesFit kinds operands lines
  pub depth : (P : Program) (lines : ℕ) → judged_code kinds operands d ≡ done P lines → (d ≡ P.depth) × (d ≤ 4)
  pub performs : (P : Program) (lines : ℕ) → judged_code kinds operands d ≡ done P lines →
      table_bytes ≤ length table → Performs P (M.code (take lines kinds) (take lines operands) table')
