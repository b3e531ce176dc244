-- What the theorems of the store's operations ask of a cell and of a depth, and what they claim of the free list.
use Rattle.prelude.specs.Kit.{ℕ, ◌≤◌, ◌≡◌, some, List}
use Rattle.semantics.specs.Store.{Store, cell}
use Rattle.semantics.specs.Sound.{free_list}
use Rattle.semantics.specs.Machine.{Event}
use Rattle.semantics.specs.Demands.{replayed}

-- an array of numbers, whose elements are no references
abbrev pub OfNumbers : Store → ℕ → Type 0
OfNumbers σ c = (cell σ c).depth ≡ 0

-- an element depth that a cell may have
abbrev pub Shallow : ℕ → Type 0
Shallow d = d ≤ 3

-- from σ to τ the free list moved by the events of the log alone
abbrev pub Replays : Store → Store → List Event → Type 0
Replays σ τ log = some (free_list τ) ≡ replayed log (some (free_list σ))
