-- Document 02, order 2: the lowest level, as computed rows: of some logs, and in the answers of first deliveries.
use Rattle.std.specs.Prelude.{◌≡◌, List, [], ◌∷◌, pos}
use Rattle.semantics.specs.Code.{Row, row}
use Rattle.semantics.specs.Machine.{acquires, frees, touches, level_after, lowest_over}
use Rattle.semantics.specs.Calls.{packed}
use Rattle.semantics.specs.Slips.{file_of}
use Rattle.semantics.specs.Second.{answer_on}

-- ---- logs

-- The level before a log counts, and so does each one inside it; what is freed counts again, and a touch changes none.
unfoldable pub levels_of_logs : Type 0
levels_of_logs =
    lowest_over [] 5 ∷ lowest_over (frees 1 ∷ []) 2 ∷ lowest_over (touches 1 ∷ []) 2 ∷
    lowest_over (acquires 0 ∷ acquires 1 ∷ frees 0 ∷ []) 5 ∷ level_after (acquires 0 ∷ acquires 1 ∷ frees 0 ∷ []) 5 ∷
    lowest_over (acquires 0 ∷ frees 0 ∷ acquires 0 ∷ frees 0 ∷ []) 1 ∷ []
    ≡ 5 ∷ 2 ∷ 2 ∷ 3 ∷ 4 ∷ 0 ∷ []

-- ---- the scripts

-- main(t: 1, r: 1): 1 = t
unfoldable pub keeping : List Row
keeping = row 0 258 ∷ row 1 256 ∷ row 1 257 ∷ row 3 0 ∷ []

-- main(t: 0, r: 1): 0 = length(r)
unfoldable pub measuring : List Row
measuring = row 0 2 ∷ row 1 0 ∷ row 1 257 ∷ row 11 0 ∷ row 3 1 ∷ []

-- main(t: 1, r: 1): 1 = let y = {7} in r
unfoldable pub forgetting : List Row
forgetting = row 0 258 ∷ row 1 256 ∷ row 1 257 ∷ row 7 2 ∷ row 9 1 ∷ row 2 7 ∷ row 3 1 ∷ []

-- main(t: 1, r: 1): 1 = let y = {7} in {r[0]}
unfoldable pub indexing : List Row
indexing =
    row 0 258 ∷ row 1 256 ∷ row 1 257 ∷ row 7 2 ∷ row 9 1 ∷ row 2 7 ∷ row 9 1 ∷ row 10 0 ∷ row 3 1 ∷ row 2 0 ∷ []

-- main(t: 1, r: 1): 1 = let y = {{1}, {2}} in {length(y)}
unfoldable pub nesting : List Row
nesting =
    row 0 258 ∷ row 1 256 ∷ row 1 257 ∷ row 7 2 ∷ row 9 258 ∷ row 9 1 ∷ row 2 1 ∷ row 9 1 ∷ row 2 2 ∷
    row 9 1 ∷ row 11 0 ∷ row 3 2 ∷ []

-- ---- their deliveries

-- The least is there while the readings have their cell, for totals that are an array and that are a number; inside,
-- before a release brings one cell back, or three; it is 0 at a stop 25, for the readings and later; and at an index
-- off the end it is what it was before a release.
unfoldable pub lowest_levels : Type 0
lowest_levels =
    answer_on 3 (file_of 1 keeping) (pos 5 ∷ []) ∷ answer_on 2 (file_of 1 measuring) (pos 5 ∷ []) ∷
    answer_on 4 (file_of 1 forgetting) (pos 5 ∷ []) ∷ answer_on 6 (file_of 1 nesting) (pos 5 ∷ []) ∷
    answer_on 1 (file_of 1 forgetting) (pos 5 ∷ []) ∷ answer_on 2 (file_of 1 forgetting) (pos 5 ∷ []) ∷
    answer_on 4 (file_of 1 indexing) [] ∷ []
    ≡
    packed 0 1 0 1 ∷ packed 0 1 1 0 ∷ packed 0 1 1 1 ∷ packed 0 2 5 1 ∷ packed 25 0 0 1 ∷ packed 25 0 1 1 ∷
    packed 23 1 2 1 ∷ []
