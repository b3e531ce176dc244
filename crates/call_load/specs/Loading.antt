-- What loading a script leaves: the code and its lines, or a refusal 1 to 9 with both code arrays zero.
use Rattle.std.specs.Prelude.{ℕ, ◌≤◌, ◌≡◌, List, ℤ, pos, length, replicate, Result, Ok, Err}
use Rattle.machine_code.specs.Reading.{table_bytes}
use Rattle.semantics.specs.Syntax.{Script, main_depth}
use Rattle.semantics.specs.Annotate.{code}
use Rattle.semantics.specs.Calls.{Verdict, accepted, refused, packed, admitted, room, code_kinds, code_operands}
use Rattle.machine_spec.specs.Machine as M
use Rattle.machine_laws.specs.Script.{Coded}
use Rattle.call_load.specs.declared.Ready.{Ready}

-- a script that is ready: how many lines its code has, and main's depth
abbrev pub ready_with : ℕ → ℕ → Result Ready ℕ
ready_with lines depth = Ok (record { lines = lines; depth = depth })

-- the lines of the code and main's depth, or the packed answer
abbrev pub told_load : Verdict → Result Ready ℕ
told_load (accepted fs) = ready_with (length (code fs)) (main_depth fs)
told_load (refused n p) = Err (packed n p 0 0)

abbrev pub kinds_after : Verdict → List ℕ → List ℕ
kinds_after (accepted fs) kinds = code_kinds fs kinds
kinds_after (refused n p) kinds = replicate (length kinds) 0

abbrev pub operands_after : Verdict → List ℤ → List ℤ
operands_after (accepted fs) operands = code_operands fs operands
operands_after (refused n p) operands = replicate (length operands) (pos 0)

-- the verdict on a file with refusal 9
pub record Loads (file kinds : List ℕ) (operands : List ℤ) (r : Result Ready ℕ) (kinds' : List ℕ) (operands' : List ℤ)
    : Type 0 where
  pub is : r ≡ told_load (admitted file (room kinds operands))
  pub kinds_are : kinds' ≡ kinds_after (admitted file (room kinds operands)) kinds
  pub operands_are : operands' ≡ operands_after (admitted file (room kinds operands)) operands

-- and where the script is ready, code and table are what the machine needs; the table has 256 depths for each of 32
-- functions, and then two bytes for the position of each and for that after the tree at each of 4,096 rows
pub record LoadsWith (file kinds : List ℕ) (operands : List ℤ) (table : List ℕ) (r : Result Ready ℕ) (kinds' : List ℕ)
    (operands' : List ℤ) (table' : List ℕ) : Type 0 where
  pub loads : Loads file kinds operands r kinds' operands'
  pub coded : (fs : Script) → admitted file (room kinds operands) ≡ accepted fs →
      table_bytes ≤ length table → (length fs ≤ 32) × Coded fs (M.code kinds' operands' table')
