-- What a delivery by lent code promises: the answer and every lent word, as the definition gives them.
use Rattle.std.specs.Prelude.{ℕ, ◌%◌, ◌^◌, ◌≡◌, List, ℤ}
use Rattle.semantics.specs.Calls.{packed, StoreReply}

-- the answer of 29 with a line
abbrev pub fault_at : ℕ → ℕ
fault_at line = packed 29 (line % 2 ^ 16) 0 0

abbrev pub Delivers : StoreReply → ℕ → List ℕ → List ℤ → List ℤ → List ℕ → Type 0
Delivers reply answer kinds operands slots' heads' =
    record { answer = answer; kinds = kinds; operands = operands; slots = slots'; heads = heads' } ≡ reply
