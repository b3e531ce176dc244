-- Document 02, order 1: iota, replicate, filter and reduce, as computed rows: the code of some scripts, what is seen of
-- their deliveries, where a cell is wanted, and refusals.
use Rattle.std.specs.Prelude.{ℕ, ◌+◌, ◌*◌, Bool, true, false, ◌≡◌, List, [], ◌∷◌, ℤ, pos, replicate}
use Rattle.semantics.specs.Outcome.{Outcome, done, stop}
use Rattle.semantics.specs.Value.{Value, num, list, numbers}
use Rattle.semantics.specs.Syntax.{Script}
use Rattle.semantics.specs.File.{read_file}
use Rattle.semantics.specs.Names.{name_faults}
use Rattle.semantics.specs.Types.{type_faults}
use Rattle.semantics.specs.Code.{Row, row}
use Rattle.semantics.specs.Annotate.{code}
use Rattle.semantics.specs.Meaning.{main_meaning}
use Rattle.semantics.specs.Calls.{packed, Verdict, accepted, refused, judged, engine_open, engine_deliver}
use Rattle.semantics.specs.Ledger.{wants_cell}
use Rattle.semantics.specs.Slips.{file_of, seeing, as_told}

-- ---- the scripts

-- main(t: 1, r: 1): 1 = iota(r[0])
unfoldable pub counting : List Row
counting =
    row 0 258 ∷ row 1 256 ∷ row 1 257 ∷ row 17 0 ∷ row 10 0 ∷ row 3 1 ∷ row 2 0 ∷ []

-- main(t: 1, r: 1): 1 = let y = iota(r[0]) in r
unfoldable pub counting_beside : List Row
counting_beside =
    row 0 258 ∷ row 1 256 ∷ row 1 257 ∷ row 7 2 ∷ row 17 0 ∷ row 10 0 ∷ row 3 1 ∷ row 2 0 ∷ row 3 1 ∷ []

-- main(t: 2, r: 1): 2 = replicate(r[0], r)
unfoldable pub repeating : List Row
repeating =
    row 0 514 ∷ row 1 512 ∷ row 1 257 ∷ row 18 0 ∷ row 10 0 ∷ row 3 1 ∷ row 2 0 ∷ row 3 1 ∷ []

-- main(t: 2, r: 1): 2 = filter x over replicate(2, r): x[0] < 6
unfoldable pub sieving : List Row
sieving =
    row 0 514 ∷ row 1 512 ∷ row 1 257 ∷ row 19 5 ∷ row 18 0 ∷ row 2 2 ∷ row 3 1 ∷
    row 6 0 ∷ row 10 0 ∷ row 3 5 ∷ row 2 0 ∷ row 2 6 ∷ []

-- main(t: 0, r: 1): 0 = reduce a, b from t over r: a + b
unfoldable pub summing : List Row
summing =
    row 0 2 ∷ row 1 0 ∷ row 1 257 ∷ row 20 (2 + 256 * 3) ∷ row 3 0 ∷ row 3 1 ∷ row 4 0 ∷ row 3 2 ∷ row 3 3 ∷ []

-- main(t: 2, r: 1): 2 = let y = {r} in reduce a, b from y over y: if length(b) then {b} else a
unfoldable pub folding : List Row
folding =
    row 0 514 ∷ row 1 512 ∷ row 1 257 ∷ row 7 2 ∷ row 9 257 ∷ row 3 1 ∷
    row 20 (3 + 256 * 4) ∷ row 3 2 ∷ row 3 2 ∷ row 12 0 ∷ row 11 0 ∷ row 3 4 ∷ row 9 257 ∷ row 3 4 ∷ row 3 3 ∷ []

-- main(t: 1, r: 1): 1 = reduce a, b from r over {t, t}: r
unfoldable pub start_in_the_tree : List Row
start_in_the_tree =
    row 0 258 ∷ row 1 256 ∷ row 1 257 ∷ row 20 (2 + 256 * 3) ∷ row 3 1 ∷ row 9 258 ∷ row 3 0 ∷ row 3 0 ∷ row 3 1 ∷ []

-- main(t: 1, r: 1): 1 = reduce x, x from t over {r}: x; the second x hides the first
unfoldable pub hidden_first : List Row
hidden_first =
    row 0 258 ∷ row 1 256 ∷ row 1 257 ∷ row 20 (2 + 256 * 2) ∷ row 3 0 ∷ row 9 257 ∷ row 3 1 ∷ row 3 2 ∷ []

-- main(t: 1, r: 1): 1 = filter x over map x over iota(3): reduce a, x from x over r: a + x: x < 7
unfoldable pub nested : List Row
nested =
    row 0 258 ∷ row 1 256 ∷ row 1 257 ∷ row 19 2 ∷ row 13 2 ∷ row 17 0 ∷ row 2 3 ∷
    row 20 (3 + 256 * 2) ∷ row 3 2 ∷ row 3 1 ∷ row 4 0 ∷ row 3 3 ∷ row 3 2 ∷ row 6 0 ∷ row 3 2 ∷ row 2 7 ∷ []

-- ---- their code

unfoldable pub code_of : Verdict → List Row
code_of (accepted fs) = code fs
code_of (refused n p) = row n p ∷ []

unfoldable pub coded : List Row → List Row
coded nodes = code_of (judged (file_of 1 nodes))

unfoldable pub second_code : Type 0
second_code =
    coded repeating ∷ coded folding ∷ coded start_in_the_tree ∷ coded hidden_first ∷ coded nested ∷ []
    ≡
    (row 0 514 ∷ row 1 512 ∷ row 1 257 ∷ row 15 0 ∷ row 10 2 ∷ row 3 1 ∷ row 2 0 ∷ row 18 3 ∷ row 3 2 ∷ row 3 1 ∷
    row 15 1 ∷ row 16 0 ∷ row 3 3 ∷ []) ∷
    (row 0 514 ∷ row 1 512 ∷ row 1 257 ∷ row 15 0 ∷ row 9 65794 ∷ row 3 1 ∷ row 14 2 ∷ row 20 328707 ∷ row 3 2 ∷
    row 3 2 ∷ row 14 5 ∷ row 11 6 ∷ row 3 5 ∷ row 12 7 ∷ row 3 6 ∷ row 15 4 ∷ row 9 65800 ∷ row 3 5 ∷ row 16 0 ∷
    row 3 8 ∷ row 15 5 ∷ row 16 0 ∷ row 3 4 ∷ row 16 0 ∷ row 3 7 ∷ row 15 2 ∷ row 16 0 ∷ row 3 3 ∷ []) ∷
    (row 0 258 ∷ row 1 256 ∷ row 1 257 ∷ row 14 0 ∷ row 9 66050 ∷ row 3 0 ∷ row 3 0 ∷ row 14 1 ∷ row 20 328707 ∷
    row 3 1 ∷ row 3 2 ∷ row 14 5 ∷ row 15 4 ∷ row 15 5 ∷ row 14 1 ∷ row 16 0 ∷ row 3 1 ∷ row 15 1 ∷ row 15 2 ∷
    row 16 0 ∷ row 3 3 ∷ []) ∷
    (row 0 258 ∷ row 1 256 ∷ row 1 257 ∷ row 9 65794 ∷ row 3 1 ∷ row 20 328707 ∷ row 3 0 ∷ row 3 2 ∷ row 14 5 ∷
    row 15 4 ∷ row 16 0 ∷ row 3 5 ∷ row 15 2 ∷ row 16 0 ∷ row 3 3 ∷ []) ∷
    (row 0 258 ∷ row 1 256 ∷ row 1 257 ∷ row 15 0 ∷ row 17 2 ∷ row 2 3 ∷ row 21 1027 ∷ row 3 2 ∷ row 20 460293 ∷
    row 3 4 ∷ row 3 1 ∷ row 4 8 ∷ row 3 6 ∷ row 3 7 ∷ row 16 0 ∷ row 3 8 ∷ row 16 0 ∷ row 3 5 ∷ row 15 1 ∷
    row 19 2569 ∷ row 3 3 ∷ row 6 11 ∷ row 3 10 ∷ row 2 7 ∷ row 16 0 ∷ row 3 11 ∷ row 15 3 ∷ row 16 0 ∷ row 3 9 ∷ [])
    ∷ []

-- ---- their deliveries

unfoldable pub second : Type 0
second =
    seeing 1 counting ((pos 3 ∷ []) ∷ (pos 17 ∷ []) ∷ (pos 0 ∷ []) ∷ []) ∷
    seeing 1 repeating ((pos 2 ∷ []) ∷ (pos 0 ∷ []) ∷ (pos 3 ∷ []) ∷ []) ∷
    seeing 1 sieving ((pos 2 ∷ []) ∷ (pos 7 ∷ []) ∷ (pos 3 ∷ []) ∷ []) ∷
    seeing 1 summing ((pos 2 ∷ pos 3 ∷ []) ∷ (pos 7 ∷ []) ∷ []) ∷
    seeing 1 folding ((pos 2 ∷ []) ∷ [] ∷ (pos 7 ∷ []) ∷ []) ∷
    seeing 1 start_in_the_tree ((pos 4 ∷ []) ∷ (pos 5 ∷ []) ∷ []) ∷
    seeing 1 hidden_first ((pos 4 ∷ []) ∷ (pos 5 ∷ []) ∷ []) ∷
    seeing 1 nested ((pos 4 ∷ []) ∷ (pos 2 ∷ pos 4 ∷ []) ∷ []) ∷ []
    ≡
    as_told (packed 0 6 2 1 ∷ packed 26 6 2 1 ∷ packed 0 6 2 1 ∷ []) (numbers []) ∷
    as_told (packed 0 5 2 2 ∷ packed 0 4 2 1 ∷ packed 0 5 2 2 ∷ [])
    (list (numbers (pos 3 ∷ []) ∷ numbers (pos 3 ∷ []) ∷ numbers (pos 3 ∷ []) ∷ [])) ∷
    as_told (packed 0 4 8 2 ∷ packed 0 3 8 1 ∷ packed 0 4 8 2 ∷ [])
    (list (numbers (pos 3 ∷ []) ∷ numbers (pos 3 ∷ []) ∷ [])) ∷
    as_told (packed 0 7 5 0 ∷ packed 0 7 3 0 ∷ []) (num (pos 12)) ∷
    as_told (packed 0 4 6 2 ∷ packed 0 4 5 2 ∷ packed 0 3 6 2 ∷ []) (list (numbers (pos 7 ∷ []) ∷ [])) ∷
    as_told (packed 0 5 4 1 ∷ packed 0 5 4 1 ∷ []) (numbers (pos 5 ∷ [])) ∷
    as_told (packed 0 5 3 1 ∷ packed 0 5 3 1 ∷ []) (numbers (pos 5 ∷ [])) ∷
    as_told (packed 0 5 21 1 ∷ packed 0 5 27 1 ∷ []) (numbers (pos 6 ∷ [])) ∷ []

-- ---- where a cell is wanted

-- the answer of a first delivery on a store of so many cells, just opened
unfoldable pub answer_on : ℕ → List ℕ → List ℤ → ℕ
answer_on cells file readings =
    let kinds : List ℕ = replicate 64 0 in
    let operands : List ℤ = replicate 64 (pos 0) in
    let r = engine_open file kinds operands (replicate (1 + 16 * cells) (pos 0)) (replicate (1 + 4 * cells) 0) in
    (engine_deliver file kinds operands r.slots r.heads readings 1000).answer

-- whether the ledger lets a first delivery on the totals v be dry after so many steps
unfoldable pub may_be_dry : Verdict → Value → List ℤ → ℕ → Bool
may_be_dry (accepted fs) v readings steps = wants_cell steps (main_meaning fs v (numbers readings) 1000)
may_be_dry (refused n p) v readings steps = false

unfoldable pub dry_at : List Row → Value → List ℤ → ℕ → Bool
dry_at nodes v readings steps = may_be_dry (judged (file_of 1 nodes)) v readings steps

-- With no cell free a count out of range is 26, and one in range 25; a filter wants its cell after its array's; a
-- reduce wants none.
unfoldable pub second_dry : Type 0
second_dry =
    answer_on 2 (file_of 1 counting_beside) (pos 17 ∷ []) ∷ answer_on 2 (file_of 1 counting_beside) (pos 3 ∷ []) ∷
    answer_on 2 (file_of 1 repeating) (pos 17 ∷ []) ∷ answer_on 2 (file_of 1 repeating) (pos 16 ∷ []) ∷
    answer_on 3 (file_of 1 sieving) (pos 3 ∷ []) ∷ answer_on 1 (file_of 1 summing) (pos 3 ∷ []) ∷ []
    ≡
    packed 26 0 2 1 ∷ packed 25 0 2 1 ∷ packed 26 0 2 1 ∷ packed 25 0 2 1 ∷ packed 25 0 2 1 ∷ packed 0 0 3 0 ∷ []

-- The own steps of an iota and a replicate with a count in range and of a filter want a cell; not so with another
-- count, at a pass, and at a reduce.
unfoldable pub second_wants : Type 0
second_wants =
    dry_at counting (numbers []) (pos 3 ∷ []) 2 ∷ dry_at counting (numbers []) (pos 17 ∷ []) 2 ∷
    dry_at repeating (list []) (pos 3 ∷ []) 2 ∷ dry_at repeating (list []) (pos 17 ∷ []) 2 ∷
    dry_at sieving (list []) (pos 3 ∷ []) 2 ∷ dry_at sieving (list []) (pos 3 ∷ []) 3 ∷
    dry_at summing (num (pos 0)) (pos 3 ∷ []) 1 ∷ []
    ≡ true ∷ false ∷ true ∷ false ∷ true ∷ false ∷ false ∷ []

-- ---- refusals

-- what is found of the nodes after a main of depth 0: a refusal with its node, or the nodes that break 6 and those that
-- break 7
pub data Found : Type 0 where
  unread : ℕ → ℕ → Found
  faulty : List ℕ → List ℕ → Found

unfoldable pub found_in : Outcome ℕ Script → Found
found_in (done fs p) = faulty (name_faults fs) (type_faults fs)
found_in (stop n p) = unread n p

unfoldable pub found : List Row → Found
found nodes = found_in (read_file (file_of 1 (row 0 2 ∷ row 1 0 ∷ row 1 257 ∷ nodes)))

-- Kinds 16 and 21 are no parts; an iota has no operand, a filter one name. The names of a reduce do not reach its
-- start. A replicate of depth 4, a guard that is an array, a body of another depth than the start's and a reduce over
-- a number break 7, the last whatever its body; but it is not judged where its start has no depth.
unfoldable pub second_refusals : Type 0
second_refusals =
    found (row 16 0 ∷ []) ∷ found (row 21 0 ∷ []) ∷ found (row 17 1 ∷ row 2 0 ∷ []) ∷
    found (row 19 256 ∷ row 3 1 ∷ row 2 0 ∷ []) ∷
    found (row 20 (5 + 256 * 6) ∷ row 3 5 ∷ row 3 1 ∷ row 3 6 ∷ []) ∷
    found (row 11 0 ∷ row 18 0 ∷ row 2 1 ∷ row 9 768 ∷ []) ∷
    found (row 11 0 ∷ row 19 5 ∷ row 3 1 ∷ row 3 1 ∷ []) ∷
    found (row 20 (5 + 256 * 6) ∷ row 2 0 ∷ row 3 1 ∷ row 3 1 ∷ []) ∷
    found (row 20 (5 + 256 * 6) ∷ row 2 0 ∷ row 2 1 ∷ row 11 0 ∷ row 2 0 ∷ []) ∷
    found (row 20 (5 + 256 * 6) ∷ row 11 0 ∷ row 2 1 ∷ row 2 1 ∷ row 2 0 ∷ []) ∷ []
    ≡
    unread 3 3 ∷ unread 3 3 ∷ unread 4 3 ∷ unread 4 3 ∷ faulty (4 ∷ []) [] ∷ faulty [] (4 ∷ []) ∷ faulty [] (4 ∷ []) ∷
    faulty [] (3 ∷ []) ∷ faulty [] (3 ∷ 6 ∷ []) ∷ faulty [] (4 ∷ []) ∷ []
