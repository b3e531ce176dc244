-- What the translation of an accepted script leaves.
use Rattle.std.specs.Prelude.{◌≡◌, cond, List, ℕ, ℤ, pos, length, replicate, Option, Some, None}
use Rattle.semantics.specs.Outcome.{Outcome, done, stop}
use Rattle.semantics.specs.Syntax.{Script}
use Rattle.semantics.specs.Annotate.{code}
use Rattle.semantics.specs.Calls.{room, code_fits, code_kinds, code_operands}

-- document 01's number and value for each case: how many lines, or 9
abbrev pub laid_outcome : Option ℕ → Outcome (Unit {0}) ℕ
laid_outcome (Some n) = done n tt
laid_outcome None = stop 9 tt

pub record CodeLeft : Type 0 where
  pub answer : Outcome (Unit {0}) ℕ
  pub kinds : List ℕ
  pub operands : List ℤ

-- all zero, where the code does not fit
abbrev pub cleared : List ℕ → List ℤ → CodeLeft
cleared kinds operands = record {
  answer = stop 9 tt;
  kinds = replicate (length kinds) 0;
  operands = replicate (length operands) (pos 0);
}

-- the code and zeros past it, or 9
unfoldable pub left_of : Script → List ℕ → List ℤ → CodeLeft
left_of fs kinds operands =
    cond (code_fits fs (room kinds operands))
    (record {
      answer = done (length (code fs)) tt;
      kinds = code_kinds fs kinds;
      operands = code_operands fs
          operands;
    })
    (cleared kinds operands)

abbrev pub Leaves : Outcome ℕ Script → List ℕ → List ℤ → CodeLeft → Type 0
Leaves (done fs q) kinds operands l = l ≡ left_of fs kinds operands
Leaves (stop n p) kinds operands l = Unit {0}
