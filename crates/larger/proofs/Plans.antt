-- Deliveries planned for two stores: readings, and a budget on each.
use Rattle.prelude.specs.Kit.{ℕ, ◌≤◌, List, [], ◌∷◌, ℤ}

-- a delivery to be worked on both stores: its readings, and its budget on the first and on the second
pub record Planned : Type 0 where
  pub readings : List ℤ
  pub budget : ℕ
  pub more : ℕ

abbrev pub PlanGrows : List Planned → Type 0
PlanGrows [] = Unit {0}
PlanGrows (x ∷ xs) = (x.budget ≤ x.more) × ((x.more ≤ 1000000) × PlanGrows xs)

-- deliveries of these readings
unfoldable pub plan : List (List ℤ) → List Planned
plan [] = []
plan (l ∷ ls) = record { readings = l; budget = 50; more = 1000 } ∷ plan ls
