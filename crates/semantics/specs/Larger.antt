-- Document 02, order 9, as a type: a larger store and larger budgets tell the same story.
use Rattle.std.specs.Prelude.{ℕ, ◌≤◌, ◌≡◌, ◌≢◌, List, [], ◌∷◌, ℤ}
use Rattle.semantics.specs.Syntax.{Script}
use Rattle.semantics.specs.Words.{cells_in}
use Rattle.semantics.specs.Calls.{accepted, judged, number_of, StoreReply}
use Rattle.semantics.specs.Ledger.{Delivery}
use Rattle.semantics.specs.Demands.{Engine, Call, InTurn}
use Rattle.semantics.specs.Swap.{Pair, calls_here, NeverDry, SameStory}

-- one delivery on two stores, lent the same but for the store and the budget: that on the second is given here
pub record Twice : Type 0 where
  pub pair : Pair
  pub budget : ℕ

-- the deliveries, as if they were lent the same budget
abbrev pub pairs_of : List Twice → List Pair
pairs_of [] = []
pairs_of (t ∷ ts) = t.pair ∷ pairs_of ts

-- a delivery with another budget
abbrev pub with_budget : Delivery → ℕ → Delivery
with_budget δ n = record { kinds = δ.kinds; operands = δ.operands; readings = δ.readings; budget = n }

-- the calls on the first store
abbrev pub calls_first : List Twice → List Call
calls_first ts = calls_here (pairs_of ts)

-- and on the second
abbrev pub calls_second : List Twice → List Call
calls_second [] = []
calls_second (t ∷ ts) =
    record { lent = with_budget t.pair.lent t.budget; reply = t.pair.other } ∷ calls_second ts

-- each second budget is at least the first, and at most 1,000,000
abbrev pub BudgetsGrow : List Twice → Type 0
BudgetsGrow [] = Unit {0}
BudgetsGrow (t ∷ ts) = (t.pair.lent.budget ≤ t.budget) × ((t.budget ≤ 1000000) × BudgetsGrow ts)

-- no call answers 21
abbrev pub NeverSpent : List Call → Type 0
NeverSpent [] = Unit {0}
NeverSpent (c ∷ cs) = (number_of c.reply.answer ≢ 21) × NeverSpent cs

-- the script of an accepted file, and the same story over every list of deliveries in which the first store never
-- answers 25, and its budgets never 21
pub record SameOnBoth (delivers : List ℤ → List ℕ → Delivery → StoreReply → Type 0) (file : List ℕ)
    (first second : StoreReply) : Type 0 where
  pub script : Script
  pub is_accepted : judged file ≡ accepted script
  pub same : (ts : List Twice) → InTurn delivers first.slots first.heads (calls_first ts) →
      InTurn delivers second.slots second.heads (calls_second ts) → BudgetsGrow ts →
      NeverDry (calls_first ts) → NeverSpent (calls_first ts) → SameStory script first second (pairs_of ts)

-- For every two openings that answered 0, of one file, the second on a store of at least as many cells, and every list
-- of deliveries after them.
abbrev pub Larger : Engine → Type 0
Larger E =
    (file kinds : List ℕ) (operands slots : List ℤ) (heads : List ℕ) (first : StoreReply) →
    E.opens file kinds operands slots heads first → number_of first.answer ≡ 0 →
    (kinds' : List ℕ) (operands' slots' : List ℤ) (heads' : List ℕ) (second : StoreReply) →
    E.opens file kinds' operands' slots' heads' second → number_of second.answer ≡ 0 →
    cells_in slots heads ≤ cells_in slots' heads' → SameOnBoth (E.delivers file) file first second
