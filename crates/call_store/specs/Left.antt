-- What the store's part of a call answers and leaves in the two arrays.
use Rattle.std.specs.Prelude.{ℕ, ◌≤◌, cond, List, ℤ, Result, Ok, Err}
use Rattle.semantics.specs.Store.{Store, opened, cells_taken}
use Rattle.semantics.specs.Words.{cells_in, store_of, shaped, slot_words, head_words}
use Rattle.semantics.specs.Sound.{sound_words}
use Rattle.answers.specs.declared.Refusal.{Refusal}
use Rattle.answers.specs.declared.Refusal.TheVariants.{UnsoundStore}
use Rattle.call_store.specs.declared.Answered.{Answered}

-- how the store's part of a call ends
abbrev pub Ended : Type 0
Ended = Result Answered Refusal

abbrev pub answered : ℕ → ℕ → ℕ → ℕ → Ended
answered number lowest steps cells = Ok (record { number = number; lowest = lowest; steps = steps; cells = cells })

abbrev pub refused : Refusal → Ended
refused refusal = Err refusal

pub record StoreLeft : Type 0 where
  pub answer : Ended
  pub slots : List ℤ
  pub heads : List ℕ

abbrev pub left : Ended → List ℤ → List ℕ → StoreLeft
left answer slots heads = record { answer = answer; slots = slots; heads = heads }

-- an answer with the words of a store, and the cells taken there
abbrev pub left_by : ℕ → ℕ → ℕ → Store → StoreLeft
left_by number lowest steps σ = left (answered number lowest steps (cells_taken σ)) (slot_words σ) (head_words σ)

unfoldable pub opened_left : ℕ → List ℤ → List ℕ → StoreLeft
opened_left d slots heads =
    cond (shaped slots heads) (left_by 0 0 0 (opened (cells_in slots heads) d)) (left (refused UnsoundStore) slots heads)

unfoldable pub checked_left : ℕ → List ℤ → List ℕ → StoreLeft
checked_left d slots heads =
    cond (sound_words d slots heads) (left_by 0 0 0 (store_of slots heads)) (left (refused UnsoundStore) slots heads)

-- the level, the steps and the cells have room in an answer
abbrev pub SmallAnswer : Ended → Type 0
SmallAnswer (Ok a) = (a.lowest ≤ 256) × (a.steps ≤ 1000000) × (a.cells ≤ 256)
SmallAnswer (Err refusal) = Unit {0}
