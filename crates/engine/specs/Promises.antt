-- What the calls promise: the answer and every lent word, as the definition gives them.
use Rattle.std.specs.Prelude.{ℕ, ◌≡◌, List, ℤ}
use Rattle.semantics.specs.Calls.{Reply, StoreReply}
use Rattle.semantics.specs.SaveCalls.{SaveReply}

-- a translation, and the reply that the definition gives
abbrev pub Translates : Reply → ℕ → List ℕ → List ℤ → Type 0
Translates reply answer kinds' operands' = record { answer = answer; kinds = kinds'; operands = operands' } ≡ reply

-- the same of a call on a store
abbrev pub Replies : StoreReply → ℕ → List ℕ → List ℤ → List ℤ → List ℕ → Type 0
Replies reply answer kinds' operands' slots' heads' =
    record { answer = answer; kinds = kinds'; operands = operands'; slots = slots'; heads = heads' } ≡ reply

-- the same of a save
abbrev pub Saves : SaveReply → ℕ → List ℕ → List ℤ → List ℤ → List ℕ → List ℕ → Type 0
Saves reply answer kinds' operands' slots' heads' saved' =
    record {
      answer = answer;
      kinds = kinds';
      operands = operands';
      slots = slots';
      heads = heads';
      saved = saved';
    } ≡ reply
