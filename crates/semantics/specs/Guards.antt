-- Document 02, order 5: a guard is 1 or 0, as computed rows: an if's guard, a filter's, and a cell wanted in the body
-- of a filter whose guard is neither.
use Rattle.std.specs.Prelude.{true, false, ◌≡◌, List, [], ◌∷◌, pos, negsuc}
use Rattle.semantics.specs.Value.{list, numbers}
use Rattle.semantics.specs.Code.{Row, row}
use Rattle.semantics.specs.Calls.{packed}
use Rattle.semantics.specs.Slips.{file_of, seeing, as_told}
use Rattle.semantics.specs.Second.{answer_on, dry_at}

-- ---- the scripts

-- main(t: 1, r: 1): 1 = if r[0] then {9} else if 5 then {r[1]} else {}
unfoldable pub deciding : List Row
deciding =
    row 0 258 ∷ row 1 256 ∷ row 1 257 ∷ row 12 0 ∷ row 10 0 ∷ row 3 1 ∷ row 2 0 ∷ row 9 1 ∷ row 2 9 ∷
    row 12 0 ∷ row 2 5 ∷ row 9 1 ∷ row 10 0 ∷ row 3 1 ∷ row 2 1 ∷ row 9 0 ∷ []

-- main(t: 1, r: 1): 1 = filter x over r: x
unfoldable pub keeping_itself : List Row
keeping_itself = row 0 258 ∷ row 1 256 ∷ row 1 257 ∷ row 19 2 ∷ row 3 1 ∷ row 3 2 ∷ []

-- main(t: 1, r: 1): 1 = filter x over r: r[x]
unfoldable pub pointing : List Row
pointing =
    row 0 258 ∷ row 1 256 ∷ row 1 257 ∷ row 19 2 ∷ row 3 1 ∷ row 10 0 ∷ row 3 1 ∷ row 3 2 ∷ []

-- main(t: 2, r: 1): 2 = filter x over {r, {2}}: x[0]
unfoldable pub sorting_out : List Row
sorting_out =
    row 0 514 ∷ row 1 512 ∷ row 1 257 ∷ row 19 2 ∷ row 9 258 ∷ row 3 1 ∷ row 9 1 ∷ row 2 2 ∷
    row 10 0 ∷ row 3 2 ∷ row 2 0 ∷ []

-- main(t: 1, r: 1): 1 = filter y over r: let x = {} in 5
unfoldable pub wanting : List Row
wanting =
    row 0 258 ∷ row 1 256 ∷ row 1 257 ∷ row 19 2 ∷ row 3 1 ∷ row 7 3 ∷ row 9 0 ∷ row 2 5 ∷ []

-- ---- their deliveries

-- 1 takes the then part, whatever guard the other part has; 2, -1 and the greatest number of 64 bits are 28 after the
-- if's step; 0 takes the else part, whose own guard is then looked at.
unfoldable pub guard_of_an_if : Type 0
guard_of_an_if =
    seeing 1 deciding
    ((pos 1 ∷ []) ∷ (pos 2 ∷ []) ∷ (negsuc 0 ∷ []) ∷ (pos 9223372036854775807 ∷ []) ∷ (pos 0 ∷ []) ∷ []) ∷ []
    ≡
    as_told (packed 0 6 3 1 ∷ packed 28 6 2 1 ∷ packed 28 6 2 1 ∷ packed 28 6 2 1 ∷ packed 28 6 3 1 ∷ [])
    (numbers (pos 9 ∷ [])) ∷ []

-- 1 keeps an element and 0 leaves it out; another number is 28 with the steps so far, and a stop in the body comes
-- first. What was kept before a 28 is given back.
unfoldable pub guard_of_a_filter : Type 0
guard_of_a_filter =
    seeing 1 keeping_itself
    ((pos 1 ∷ pos 0 ∷ pos 1 ∷ []) ∷ (pos 0 ∷ pos 1 ∷ pos 2 ∷ pos 1 ∷ []) ∷ (negsuc 0 ∷ []) ∷ [] ∷ []) ∷
    seeing 1 pointing ((pos 1 ∷ pos 0 ∷ []) ∷ (pos 0 ∷ pos 2 ∷ pos 3 ∷ []) ∷ (pos 5 ∷ []) ∷ []) ∷
    seeing 1 sorting_out ((pos 1 ∷ []) ∷ (pos 0 ∷ []) ∷ []) ∷ []
    ≡
    as_told (packed 0 5 4 1 ∷ packed 28 5 4 1 ∷ packed 28 5 2 1 ∷ packed 0 5 1 1 ∷ []) (numbers []) ∷
    as_told (packed 0 5 5 1 ∷ packed 28 5 5 1 ∷ packed 23 5 3 1 ∷ []) (numbers (pos 0 ∷ [])) ∷
    as_told (packed 28 3 7 1 ∷ packed 28 3 7 1 ∷ []) (list []) ∷ []

-- ---- a cell wanted in the body

-- With three cells the third step's literal finds none free, with four the guard is then 28 at the same steps; the
-- ledger lets the 25 be there, but not at the pass. An if's guard is 28 where its parts would find no cell free.
unfoldable pub guard_and_cell : Type 0
guard_and_cell =
    answer_on 3 (file_of 1 wanting) (pos 7 ∷ []) ∷ answer_on 4 (file_of 1 wanting) (pos 7 ∷ []) ∷
    answer_on 2 (file_of 1 deciding) (pos 1 ∷ []) ∷ answer_on 2 (file_of 1 deciding) (pos 2 ∷ []) ∷ []
    ≡ packed 25 0 3 1 ∷ packed 28 0 3 1 ∷ packed 0 0 3 1 ∷ packed 28 0 2 1 ∷ []

unfoldable pub dry_before_the_guard : Type 0
dry_before_the_guard =
    dry_at wanting (numbers []) (pos 7 ∷ []) 3 ∷ dry_at wanting (numbers []) (pos 7 ∷ []) 2 ∷
    dry_at deciding (numbers []) (pos 2 ∷ []) 2 ∷ []
    ≡ true ∷ false ∷ false ∷ []
