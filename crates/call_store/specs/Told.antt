-- The packed answer to how the store's part of a call ended, and the code arrays then; of what is refused, the number.
use Rattle.std.specs.Prelude.{ℕ, ◌^◌, ◌%◌, ◌≡◌, List, ℤ, pos, length, replicate, Result, Ok, Err}
use Rattle.semantics.specs.Calls.{packed}
use Rattle.call_store.specs.declared.Answered.{Answered}

abbrev pub answer_to : {R : Type 0} → (R → ℕ) → Result Answered R → ℕ
answer_to told (Ok a) = packed a.number (a.lowest % 2 ^ 16) (a.steps % 2 ^ 24) (a.cells % 2 ^ 16)
answer_to told (Err refusal) = packed (told refusal) 0 0 0

-- with the code arrays
abbrev pub Tells : {R : Type 0} → (R → ℕ) → Result Answered R → List ℕ → List ℤ → ℕ → List ℕ → List ℤ → Type 0
Tells told (Ok a) kinds operands r kinds' operands' =
    (r ≡ packed a.number (a.lowest % 2 ^ 16) (a.steps % 2 ^ 24) (a.cells % 2 ^ 16))
    × ((kinds' ≡ kinds) × (operands' ≡ operands))
Tells told (Err refusal) kinds operands r kinds' operands' =
    (r ≡ packed (told refusal) 0 0 0)
    × ((kinds' ≡ replicate (length kinds) 0) × (operands' ≡ replicate (length operands) (pos 0)))
