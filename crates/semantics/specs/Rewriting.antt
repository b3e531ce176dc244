-- Document 02, order 8: maps that rewrite their array, as computed rows: the code of some scripts, what is seen of
-- their deliveries, their lowest levels with and without rewriting, and what stops 25 leave in the cells.
use Rattle.std.specs.Prelude.{ℕ, Bool, true, false, ◌≡◌, List, [], ◌∷◌, map, ℤ, pos}
use Rattle.semantics.specs.Value.{list, numbers}
use Rattle.semantics.specs.Syntax.{main_depth}
use Rattle.semantics.specs.Code.{Row, row}
use Rattle.semantics.specs.Store.{Store, cell, elements, opened}
use Rattle.semantics.specs.Machine.{Program, program, program_in, delivery, starting, delivered}
use Rattle.semantics.specs.Machine.{state_of}
use Rattle.semantics.specs.Calls.{packed, Verdict, accepted, refused, judged}
use Rattle.semantics.specs.Slips.{file_of, seeing, as_told}
use Rattle.semantics.specs.Borrows.{code_in}

-- ---- code

-- main(t: 1, r: 1): 1 = map x over r: x + 1
unfoldable pub dying_array : List Row
dying_array = row 0 258 ∷ row 1 256 ∷ row 1 257 ∷ row 13 2 ∷ row 3 1 ∷ row 4 0 ∷ row 3 2 ∷ row 2 1 ∷ []

-- main(t: 1, r: 1): 1 = map x over map x over r: x + 1: x + x
unfoldable pub map_of_a_map : List Row
map_of_a_map =
    row 0 258 ∷ row 1 256 ∷ row 1 257 ∷ row 13 2 ∷ row 13 2 ∷ row 3 1 ∷ row 4 0 ∷ row 3 2 ∷ row 2 1 ∷ row 4 0 ∷
    row 3 2 ∷ row 3 2 ∷ []

-- main(t: 1, r: 1): 1 = map x over {}: x + 1
unfoldable pub empty_array : List Row
empty_array = row 0 258 ∷ row 1 256 ∷ row 1 257 ∷ row 13 2 ∷ row 9 0 ∷ row 4 0 ∷ row 3 2 ∷ row 2 1 ∷ []

-- main(t: 1, r: 1): 1 = map x over if 0 < length(t) then t else r: x + 1
unfoldable pub totals_or_readings : List Row
totals_or_readings =
    row 0 258 ∷ row 1 256 ∷ row 1 257 ∷ row 13 2 ∷ row 12 0 ∷ row 6 0 ∷ row 2 0 ∷ row 11 0 ∷ row 3 0 ∷ row 3 0 ∷
    row 3 1 ∷ row 4 0 ∷ row 3 2 ∷ row 2 1 ∷ []

-- main(t: 2, r: 1): 2 = let y = {r} in {map x over y[0]: x + 1, y[0]}
unfoldable pub kept_beside : List Row
kept_beside =
    row 0 514 ∷ row 1 512 ∷ row 1 257 ∷ row 7 4 ∷ row 9 257 ∷ row 3 1 ∷ row 9 258 ∷ row 13 2 ∷ row 10 0 ∷ row 3 4 ∷
    row 2 0 ∷ row 4 0 ∷ row 3 2 ∷ row 2 1 ∷ row 10 0 ∷ row 3 4 ∷ row 2 0 ∷ []

-- main(t: 2, r: 1): 2 = let y = map x over r: x + 1 in {y, r}
unfoldable pub live_afterwards : List Row
live_afterwards =
    row 0 514 ∷ row 1 512 ∷ row 1 257 ∷ row 7 3 ∷ row 13 2 ∷ row 3 1 ∷ row 4 0 ∷ row 3 2 ∷ row 2 1 ∷ row 9 258 ∷
    row 3 3 ∷ row 3 1 ∷ []

-- main(t: 1, r: 1): 1 = map x over r: x + length(r)
unfoldable pub in_its_own_tree : List Row
in_its_own_tree = row 0 258 ∷ row 1 256 ∷ row 1 257 ∷ row 13 2 ∷ row 3 1 ∷ row 4 0 ∷ row 3 2 ∷ row 11 0 ∷ row 3 1 ∷ []

-- main(t: 1, r: 1): 1 = f(r); f(a: 1): 1 = map x over a: x + 1
unfoldable pub borrowed_array : List Row
borrowed_array =
    row 0 258 ∷ row 1 256 ∷ row 1 257 ∷ row 8 257 ∷ row 3 1 ∷ row 0 257 ∷ row 1 256 ∷ row 13 2 ∷ row 3 0 ∷ row 4 0 ∷
    row 3 2 ∷ row 2 1 ∷ []

-- main(t: 2, r: 1): 2 = map y over iota(2): map x over r: x + y
unfoldable pub outer_array_of_passes : List Row
outer_array_of_passes =
    row 0 514 ∷ row 1 512 ∷ row 1 257 ∷ row 13 3 ∷ row 17 0 ∷ row 2 2 ∷ row 13 2 ∷ row 3 1 ∷ row 4 0 ∷ row 3 2 ∷
    row 3 3 ∷ []

-- An array that dies at a map of numbers is rewritten, and no release follows: the readings, the result of another map,
-- an empty literal, an if's result, an index result. One that is live afterwards, is used in the map's tree, is
-- borrowed or is an outer array of a pass is not.
unfoldable pub rewritten_code : Type 0
rewritten_code =
    code_in 1 dying_array ∷ code_in 1 map_of_a_map ∷ code_in 1 empty_array ∷ code_in 1 totals_or_readings ∷
    code_in 1 kept_beside ∷ code_in 1 live_afterwards ∷ code_in 1 in_its_own_tree ∷ code_in 2 borrowed_array ∷
    code_in 1 outer_array_of_passes ∷ []
    ≡
    (row 0 258 ∷ row 1 256 ∷ row 1 257 ∷ row 15 0 ∷ row 21 770 ∷ row 3 1 ∷ row 4 4 ∷ row 3 3 ∷ row 2 1 ∷ row 16 0 ∷
    row 3 4 ∷ row 16 0 ∷ row 3 2 ∷ []) ∷
    (row 0 258 ∷ row 1 256 ∷ row 1 257 ∷ row 15 0 ∷ row 21 770 ∷ row 3 1 ∷ row 4 4 ∷ row 3 3 ∷ row 2 1 ∷ row 16 0 ∷
    row 3 4 ∷ row 21 1541 ∷ row 3 2 ∷ row 4 7 ∷ row 3 6 ∷ row 3 6 ∷ row 16 0 ∷ row 3 7 ∷ row 16 0 ∷ row 3 5 ∷ []) ∷
    (row 0 258 ∷ row 1 256 ∷ row 1 257 ∷ row 15 0 ∷ row 15 1 ∷ row 9 2 ∷ row 21 1027 ∷ row 3 2 ∷ row 4 5 ∷ row 3 4 ∷
    row 2 1 ∷ row 16 0 ∷ row 3 5 ∷ row 16 0 ∷ row 3 3 ∷ []) ∷
    (row 0 258 ∷ row 1 256 ∷ row 1 257 ∷ row 11 2 ∷ row 3 0 ∷ row 6 3 ∷ row 2 0 ∷ row 3 2 ∷ row 12 4 ∷ row 3 3 ∷
    row 15 1 ∷ row 16 0 ∷ row 3 0 ∷ row 15 0 ∷ row 16 0 ∷ row 3 1 ∷ row 21 1541 ∷ row 3 4 ∷ row 4 7 ∷ row 3 6 ∷
    row 2 1 ∷ row 16 0 ∷ row 3 7 ∷ row 16 0 ∷ row 3 5 ∷ []) ∷
    (row 0 514 ∷ row 1 512 ∷ row 1 257 ∷ row 15 0 ∷ row 9 65794 ∷ row 3 1 ∷ row 10 3 ∷ row 3 2 ∷ row 2 0 ∷ row 14 3 ∷
    row 21 1284 ∷ row 3 3 ∷ row 4 6 ∷ row 3 5 ∷ row 2 1 ∷ row 16 0 ∷ row 3 6 ∷ row 10 7 ∷ row 3 2 ∷ row 2 0 ∷
    row 14 7 ∷ row 15 2 ∷ row 9 66056 ∷ row 3 4 ∷ row 3 7 ∷ row 16 0 ∷ row 3 8 ∷ []) ∷
    (row 0 514 ∷ row 1 512 ∷ row 1 257 ∷ row 15 0 ∷ row 13 770 ∷ row 3 1 ∷ row 4 4 ∷ row 3 3 ∷ row 2 1 ∷ row 16 0 ∷
    row 3 4 ∷ row 9 66053 ∷ row 3 2 ∷ row 3 1 ∷ row 16 0 ∷ row 3 5 ∷ []) ∷
    (row 0 258 ∷ row 1 256 ∷ row 1 257 ∷ row 15 0 ∷ row 13 770 ∷ row 3 1 ∷ row 11 4 ∷ row 3 1 ∷ row 4 5 ∷ row 3 3 ∷
    row 3 4 ∷ row 16 0 ∷ row 3 5 ∷ row 15 1 ∷ row 16 0 ∷ row 3 2 ∷ []) ∷
    (row 0 258 ∷ row 1 256 ∷ row 1 257 ∷ row 15 0 ∷ row 8 258 ∷ row 3 1 ∷ row 15 1 ∷ row 16 0 ∷ row 3 2 ∷ row 0 257 ∷
    row 1 256 ∷ row 13 513 ∷ row 3 0 ∷ row 4 3 ∷ row 3 2 ∷ row 2 1 ∷ row 16 0 ∷ row 3 3 ∷ row 16 0 ∷ row 3 1 ∷ []) ∷
    (row 0 514 ∷ row 1 512 ∷ row 1 257 ∷ row 15 0 ∷ row 17 2 ∷ row 2 2 ∷ row 13 1027 ∷ row 3 2 ∷ row 13 1541 ∷
    row 3 1 ∷ row 4 7 ∷ row 3 6 ∷ row 3 4 ∷ row 16 0 ∷ row 3 7 ∷ row 16 0 ∷ row 3 5 ∷ row 15 1 ∷ row 15 2 ∷
    row 16 0 ∷ row 3 3 ∷ []) ∷ []

-- ---- deliveries

-- The readings are rewritten, by two maps too, and their cell becomes the totals'. Totals that were delivered before
-- have two references, the store's and the parameter's, so a new cell is taken; so has an array that an element names,
-- and it stays as it was.
unfoldable pub rewritten_deliveries : Type 0
rewritten_deliveries =
    seeing 1 dying_array ((pos 1 ∷ pos 2 ∷ pos 3 ∷ []) ∷ (pos 7 ∷ pos 8 ∷ []) ∷ []) ∷
    seeing 1 map_of_a_map ((pos 1 ∷ pos 2 ∷ []) ∷ []) ∷ seeing 1 empty_array ((pos 1 ∷ []) ∷ []) ∷
    seeing 1 totals_or_readings ((pos 1 ∷ pos 2 ∷ []) ∷ (pos 9 ∷ []) ∷ []) ∷
    seeing 1 kept_beside ((pos 5 ∷ pos 6 ∷ []) ∷ (pos 7 ∷ []) ∷ []) ∷
    seeing 1 in_its_own_tree ((pos 5 ∷ pos 6 ∷ []) ∷ []) ∷ []
    ≡
    as_told (packed 0 6 7 1 ∷ packed 0 6 5 1 ∷ []) (numbers (pos 8 ∷ pos 9 ∷ [])) ∷
    as_told (packed 0 6 10 1 ∷ []) (numbers (pos 4 ∷ pos 6 ∷ [])) ∷ as_told (packed 0 6 2 1 ∷ []) (numbers []) ∷
    as_told (packed 0 6 8 1 ∷ packed 0 6 8 1 ∷ []) (numbers (pos 3 ∷ pos 4 ∷ [])) ∷
    as_told (packed 0 4 9 3 ∷ packed 0 2 7 3 ∷ []) (list (numbers (pos 8 ∷ []) ∷ numbers (pos 7 ∷ []) ∷ [])) ∷
    as_told (packed 0 5 7 1 ∷ []) (numbers (pos 7 ∷ pos 8 ∷ [])) ∷ []

-- ---- lowest levels

-- number, lowest level and steps of a first delivery on so many cells, by code whose maps rewrite or do not
unfoldable pub levels_by : Bool → ℕ → List ℤ → Verdict → List ℕ
levels_by rewrites cells readings (accepted fs) =
    let p = program_in (record { rewrites = rewrites }) fs in
    let r = delivered p readings 1000 (opened cells (main_depth fs)) in
    r.number ∷ r.lowest ∷ r.steps ∷ []
levels_by rewrites cells readings (refused n p) = n ∷ []

unfoldable pub both_levels : ℕ → List ℤ → List Row → List (List ℕ)
both_levels cells readings nodes =
    let v = judged (file_of 1 nodes) in
    levels_by true cells readings v ∷ levels_by false cells readings v ∷ []

-- Rewriting saves the cell of a result, for an empty array too, and may save a delivery from a stop 25; it saves one
-- cell for two maps, of which one result is there at a time. Where the array has two references, or the map does not
-- rewrite, the level is the same.
unfoldable pub rewritten_levels : Type 0
rewritten_levels =
    both_levels 4 (pos 1 ∷ pos 2 ∷ []) dying_array ∷ both_levels 2 (pos 1 ∷ pos 2 ∷ []) dying_array ∷
    both_levels 4 [] empty_array ∷ both_levels 4 (pos 1 ∷ pos 2 ∷ []) map_of_a_map ∷
    both_levels 6 (pos 5 ∷ []) kept_beside ∷ both_levels 8 (pos 5 ∷ []) outer_array_of_passes ∷ []
    ≡
    ((0 ∷ 2 ∷ 5 ∷ []) ∷ (0 ∷ 1 ∷ 5 ∷ []) ∷ []) ∷ ((0 ∷ 0 ∷ 5 ∷ []) ∷ (25 ∷ 0 ∷ 1 ∷ []) ∷ []) ∷
    ((0 ∷ 2 ∷ 2 ∷ []) ∷ (0 ∷ 1 ∷ 2 ∷ []) ∷ []) ∷ ((0 ∷ 2 ∷ 10 ∷ []) ∷ (0 ∷ 1 ∷ 10 ∷ []) ∷ []) ∷
    ((0 ∷ 2 ∷ 7 ∷ []) ∷ (0 ∷ 2 ∷ 7 ∷ []) ∷ []) ∷ ((0 ∷ 2 ∷ 10 ∷ []) ∷ (0 ∷ 2 ∷ 10 ∷ []) ∷ []) ∷ []

-- ---- a stop 25 in the tree

-- main(t: 1, r: 1): 1 = map x over r: x + length(map y over iota(x): {y})
unfoldable pub cells_in_the_tree : List Row
cells_in_the_tree =
    row 0 258 ∷ row 1 256 ∷ row 1 257 ∷ row 13 2 ∷ row 3 1 ∷ row 4 0 ∷ row 3 2 ∷ row 11 0 ∷ row 13 3 ∷ row 17 0 ∷
    row 3 2 ∷ row 9 1 ∷ row 3 3 ∷ []

-- main(t: 1, r: 1): 1 = map x over if 0 < length(t) then t else r: x + length(map y over iota(x): {y})
unfoldable pub cells_beside_the_totals : List Row
cells_beside_the_totals =
    row 0 258 ∷ row 1 256 ∷ row 1 257 ∷ row 13 2 ∷ row 12 0 ∷ row 6 0 ∷ row 2 0 ∷ row 11 0 ∷ row 3 0 ∷ row 3 0 ∷
    row 3 1 ∷ row 4 0 ∷ row 3 2 ∷ row 11 0 ∷ row 13 3 ∷ row 17 0 ∷ row 3 2 ∷ row 9 1 ∷ row 3 3 ∷ []

unfoldable pub store_after : Program → List (List ℤ) → Store → Store
store_after p [] σ = σ
store_after p (readings ∷ rest) σ = store_after p rest (delivered p readings 1000 σ).store

-- some cells at the end of a delivery, before a stop puts the store back, after others on a store of 8 cells
unfoldable pub cells_left : List ℕ → List (List ℤ) → List ℤ → Verdict → List (List ℤ)
cells_left cs before readings (accepted fs) =
    let p = program fs in
    let s = state_of (delivery p readings (starting 1000 (store_after p before (opened 8 (main_depth fs))))) in
    map (λ c. elements (cell s.store c)) cs
cells_left cs before readings (refused n p) = []

-- Both stop in the second pass. The readings (cell 0) are rewritten so far, and the totals (1) are as they were; or the
-- totals (0) are mapped, and the results so far stand in a new cell (1).
unfoldable pub rewritten_stops : Type 0
rewritten_stops =
    seeing 1 cells_in_the_tree ((pos 1 ∷ pos 2 ∷ []) ∷ (pos 1 ∷ pos 5 ∷ []) ∷ []) ∷
    seeing 1 cells_beside_the_totals ((pos 1 ∷ pos 2 ∷ []) ∷ (pos 9 ∷ []) ∷ (pos 9 ∷ []) ∷ []) ∷ []
    ≡
    as_told (packed 0 2 17 1 ∷ packed 25 0 21 1 ∷ []) (numbers (pos 2 ∷ pos 4 ∷ [])) ∷
    as_told (packed 0 2 20 1 ∷ packed 0 0 26 1 ∷ packed 25 0 30 1 ∷ []) (numbers (pos 4 ∷ pos 8 ∷ [])) ∷ []

unfoldable pub rewritten_so_far : Type 0
rewritten_so_far =
    cells_left (0 ∷ 1 ∷ []) ((pos 1 ∷ pos 2 ∷ []) ∷ []) (pos 1 ∷ pos 5 ∷ []) (judged (file_of 1 cells_in_the_tree)) ∷
    cells_left (0 ∷ 1 ∷ []) ((pos 1 ∷ pos 2 ∷ []) ∷ (pos 9 ∷ []) ∷ []) (pos 9 ∷ [])
    (judged (file_of 1 cells_beside_the_totals)) ∷ []
    ≡
    ((pos 2 ∷ pos 5 ∷ []) ∷ (pos 2 ∷ pos 4 ∷ []) ∷ []) ∷ ((pos 4 ∷ pos 8 ∷ []) ∷ (pos 8 ∷ []) ∷ []) ∷ []
