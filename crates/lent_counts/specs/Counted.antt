-- Counts by name in an array of 256.
use Rattle.std.specs.Prelude.{ℕ, Bool, false, ◌||◌, List, get_or, eqb, ltb}
use Rattle.semantics.specs.Live.{Set}
use Rattle.semantics_lent.specs.Hold.{Holds}

abbrev pub counted : List ℕ → Holds
counted l = λ n. get_or l n 0

abbrev pub set_of : List Bool → Set
set_of l = λ n. get_or l n false

abbrev pub kept_out : Bool → ℕ → ℕ → Bool
kept_out lent before after = eqb after 0 || (lent || ltb 0 before)
