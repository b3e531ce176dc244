-- The names that rows spend or retain, by positions. Where the rows of a tree stand, these are its `spent` names.
use Rattle.std.specs.Prelude.{Bool, true, false, cond, not, List, ℕ, zero, suc, ◌+◌, ◌/◌, ◌%◌, ℤ, pos, eqb, get_or}
use Rattle.semantics.specs.Kinds.{Borrowing}
use Rattle.semantics.specs.Live.{Set, empty, ◌∪◌}
use Rattle.machine_code.specs.Reading.{low_bits, name_at}

abbrev pub set_of : List Bool → Set
set_of l = λ n. get_or l n false

-- the second byte of the operand at a position
abbrev pub second_at : List ℤ → ℕ → ℕ
second_at operands at = low_bits (get_or operands at (pos 0)) / 256 % 256

-- whether the atom at place i of a line is handed over, by the line's kind and, of a call, its function
abbrev pub is_handed : Borrowing → ℕ → ℕ → ℕ → Bool
is_handed β kind g i =
    cond (eqb kind 8) (not (β g i))
    (cond (eqb kind 9) true
    (cond (eqb kind 16) true
    (cond (eqb kind 20) (eqb i 0)
    (cond (eqb kind 21) true false))))

-- whether a line retains or releases the name of its operand
abbrev pub is_named : ℕ → Bool
is_named kind = cond (eqb kind 14) true (cond (eqb kind 15) true false)

-- a name, if it is so
abbrev pub name_if : Bool → ℕ → Set
name_if b x = λ n. cond b (eqb x n) false

module _ (kinds : List ℕ) (operands : List ℤ) (β : Borrowing) where
  -- n rows from p on, where the line before them has the kind k and the callee g, and i of its atoms have passed
  unfoldable pub spent_from : ℕ → ℕ → ℕ → ℕ → ℕ → Set
  spent_from zero p k g i = empty
  spent_from (suc n) p k g i = elim (eqb (get_or kinds p 0) 2) [
    | true ↦ spent_from n (p + 1) k g (i + 1)
    | false ↦ elim (eqb (get_or kinds p 0) 3) [
      | true ↦ name_if (is_handed β k g i) (name_at operands p) ∪ spent_from n (p + 1) k g (i + 1)
      | false ↦ name_if (is_named (get_or kinds p 0)) (name_at operands p)
          ∪ spent_from n (p + 1) (get_or kinds p 0) (second_at operands p) 0
    ]
  ]
