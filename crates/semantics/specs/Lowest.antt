-- Document 02, order 3: the lowest faulty node, as computed rows: the least number of a list, whatever its order, and
-- the verdicts on scripts with several faults.
use Rattle.std.specs.Prelude.{◌+◌, ◌*◌, ◌≡◌, List, [], ◌∷◌}
use Rattle.semantics.specs.Basics.{least}
use Rattle.semantics.specs.Code.{Row, row}
use Rattle.semantics.specs.Calls.{Verdict, refused, judged}
use Rattle.semantics.specs.Slips.{file_of}

unfoldable pub least_of_any_order : Type 0
least_of_any_order =
    least 4 [] ∷ least 3 (4 ∷ 5 ∷ []) ∷ least 5 (3 ∷ 4 ∷ []) ∷ least 5 (4 ∷ 3 ∷ []) ∷ least 4 (3 ∷ 3 ∷ 5 ∷ []) ∷ []
    ≡ 4 ∷ 3 ∷ 3 ∷ 3 ∷ 3 ∷ []

-- the verdict on these nodes after a main of depth 0, which has nodes 0 to 2
unfoldable pub verdict_on : List Row → Verdict
verdict_on nodes = judged (file_of 1 (row 0 2 ∷ row 1 0 ∷ row 1 257 ∷ nodes))

-- 6: a call of no function, before its unknown argument; unknown names in the bound part and the body of a let; the
-- second of three equal parameters, before an unknown name in the body; an unknown name, though the sum above breaks 7.
unfoldable pub lowest_unknown : Type 0
lowest_unknown =
    verdict_on (row 8 (5 + 256) ∷ row 3 7 ∷ []) ∷
    verdict_on (row 7 2 ∷ row 3 7 ∷ row 3 8 ∷ []) ∷
    judged (file_of 1 (row 0 3 ∷ row 1 0 ∷ row 1 0 ∷ row 1 0 ∷ row 3 9 ∷ [])) ∷
    verdict_on (row 4 0 ∷ row 9 0 ∷ row 3 9 ∷ []) ∷ []
    ≡ refused 6 3 ∷ refused 6 4 ∷ refused 6 2 ∷ refused 6 5 ∷ []

-- 7: of two lengths of a number the first; a map, a filter and a reduce over a number, before a fault in the body; a
-- fault in the array of a map, which has no depth then, before one in the body; a fault in the start of a reduce over a
-- number, which has none either; main's shape, before a fault in the body; of two functions the first.
unfoldable pub lowest_mismatch : Type 0
lowest_mismatch =
    verdict_on (row 4 0 ∷ row 11 0 ∷ row 2 0 ∷ row 11 0 ∷ row 2 0 ∷ []) ∷
    verdict_on (row 11 0 ∷ row 13 5 ∷ row 2 1 ∷ row 11 0 ∷ row 2 0 ∷ []) ∷
    verdict_on (row 11 0 ∷ row 19 5 ∷ row 2 1 ∷ row 11 0 ∷ row 2 0 ∷ []) ∷
    verdict_on (row 20 (5 + 256 * 6) ∷ row 2 0 ∷ row 2 1 ∷ row 11 0 ∷ row 2 0 ∷ []) ∷
    verdict_on (row 11 0 ∷ row 13 5 ∷ row 11 0 ∷ row 2 1 ∷ row 11 0 ∷ row 2 0 ∷ []) ∷
    verdict_on (row 20 (5 + 256 * 2) ∷ row 11 0 ∷ row 2 1 ∷ row 2 1 ∷ row 2 0 ∷ []) ∷
    judged (file_of 1 (row 0 1 ∷ row 1 0 ∷ row 11 0 ∷ row 2 0 ∷ [])) ∷
    judged (file_of 2 (row 0 2 ∷ row 1 0 ∷ row 1 257 ∷ row 3 1 ∷ row 0 0 ∷ row 11 0 ∷ row 2 0 ∷ [])) ∷ []
    ≡
    refused 7 4 ∷ refused 7 4 ∷ refused 7 4 ∷ refused 7 3 ∷ refused 7 5 ∷ refused 7 4 ∷ refused 7 0 ∷ refused 7 0 ∷ []
