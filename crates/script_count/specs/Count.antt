-- Refusal 8, found in one pass over the kinds: the same walk as the code's.
use Rattle.std.specs.Prelude.{Bool, cond, ◌&&◌, List, [], ◌∷◌, ℕ, zero, suc, ◌+◌, eqb, ltb, get_or, Some, None}
use Rattle.std.specs.Prelude as R
use Rattle.std.proofs.Math.Option.{Option, none, some}
use Rattle.semantics.specs.Outcome.{Outcome, done, stop}

-- new names by kind: a parameter and a compound node take one, a loop one more for each name of a pass
abbrev pub new_names : List ℕ
new_names = 0 ∷ 1 ∷ 0 ∷ 0 ∷ 1 ∷ 1 ∷ 1 ∷ 0 ∷ 1 ∷ 1 ∷ 1 ∷ 1 ∷ 1 ∷ 2 ∷ 0 ∷ 0 ∷ 0 ∷ 1 ∷ 1 ∷ 2 ∷ 3 ∷ []

-- a function node ends the function before it
abbrev pub crowd_ends : ℕ → ℕ → Bool
crowd_ends kind count = eqb kind 0 && ltb 256 count

abbrev pub start_after : ℕ → ℕ → ℕ → ℕ
start_after kind p start = cond (eqb kind 0) p start

abbrev pub count_after : ℕ → ℕ → ℕ
count_after kind count = cond (eqb kind 0) 0 (count + get_or new_names kind 0)

-- the same, but a count over 256 stands still: how far it is over makes no difference
abbrev pub counted_on : ℕ → ℕ → ℕ
counted_on kind count = cond (eqb kind 0) 0 (cond (ltb 256 count) count (count + get_or new_names kind 0))

-- so many nodes from p on, in the function at start that has so many new names already
unfoldable pub crowd : List ℕ → ℕ → ℕ → ℕ → ℕ → Option ℕ
crowd kinds zero p start count = cond (ltb 256 count) (some start) none
crowd kinds (suc n) p start count =
    let kind = get_or kinds p 0 in
    cond (crowd_ends kind count) (some start) (crowd kinds n (p + 1) (start_after kind p start)
    (count_after kind count))

-- document 01's number and node for each case: none, or 8 with the function's node
abbrev pub counted_outcome : R.Option ℕ → Outcome ℕ (Unit {0})
counted_outcome None = done tt 0
counted_outcome (Some p) = stop 8 p

-- 8 with the node of a function that has too many names, if there is one
abbrev pub crowd_outcome : Option ℕ → Outcome ℕ (Unit {0})
crowd_outcome (some p) = stop 8 p
crowd_outcome none = done tt 0
