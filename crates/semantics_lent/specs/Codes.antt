-- Document 02, order 10: what the checker answers to codes with one fault each, and to the code of scripts, as computed
-- rows.
use Rattle.std.specs.Prelude.{ℕ, zero, suc, ◌+◌, ◌≡◌, true, false, List, [], ◌∷◌, ◌++◌, map, ℤ, pos, length, replicate, take}
use Rattle.semantics.specs.Code.{Row, row}
use Rattle.semantics.specs.Calls.{packed, judged}
use Rattle.semantics.specs.Trials.{printed_file}
use Rattle.semantics.specs.Slips.{same_argument_twice, outer_array_in_map, index_of_arrays, used_in_one_branch}
use Rattle.semantics.specs.Slips.{shadowed_name, unused_index, arrays_in_maps}
use Rattle.semantics.specs.Second.{counting, repeating, sieving, summing, folding, start_in_the_tree, hidden_first}
use Rattle.semantics.specs.Second.{nested, code_of}
use Rattle.semantics.specs.Borrows.{to_and_fro, handing_over, calling_main, owned_and_borrowed, both_borrowed}
use Rattle.semantics.specs.Borrows.{own_literal, five_down, code_in}
use Rattle.semantics.specs.Rewriting.{dying_array, map_of_a_map, empty_array, totals_or_readings, kept_beside}
use Rattle.semantics.specs.Rewriting.{live_afterwards, in_its_own_tree, borrowed_array, outer_array_of_passes}
use Rattle.semantics_lent.specs.Form.{lent_rows, goes_on}
use Rattle.semantics_lent.specs.Calls.{engine_check_code}

-- ---- the checker

abbrev pub kinds_of : List Row → List ℕ
kinds_of rs = map (λ r. r.kind) rs

abbrev pub operands_of : List Row → List ℤ
operands_of rs = map (λ r. r.operand) rs

-- what the checker answers to the lines of some code, for main of depth d
abbrev pub on_code : ℕ → List Row → ℕ
on_code d rs = (engine_check_code (kinds_of rs) (operands_of rs) d).answer

-- to lines after a main of depth 0, which has lines 0 to 2
abbrev pub on_main : ℕ → List Row → ℕ
on_main d rs = on_code d (row 0 2 ∷ row 1 0 ∷ row 1 257 ∷ rs)

abbrev pub lines : ℕ → ℕ
lines n = packed 0 0 n 0

abbrev pub at_line : ℕ → ℕ
at_line n = packed 29 n 0 0

-- main of depth 0 that gives its totals again
abbrev pub least_main : List Row
least_main = row 0 2 ∷ row 1 0 ∷ row 1 257 ∷ row 15 1 ∷ row 16 0 ∷ row 3 0 ∷ []

-- Too few atoms, also where the code ends there; surplus atoms of a release, a parameter, a function and an end; an
-- atom at line 0. Lines that are wanted: a parameter, one too many, a line of a tree, a function. Operands out of
-- range: a release's name, an end's, an atom's name, a literal's length and element depth, a function's number. Kinds
-- that no line has. A call of no function; a call of one whose line is out of range is not at fault itself.
unfoldable pub forms : Type 0
forms =
    on_main 0 (row 15 1 ∷ row 16 0 ∷ row 3 0 ∷ []) ∷
    on_main 0 (row 15 1 ∷ row 16 0 ∷ []) ∷
    on_main 0 (row 4 2 ∷ row 3 0 ∷ row 15 1 ∷ row 16 0 ∷ row 3 2 ∷ []) ∷
    on_main 0 (row 15 1 ∷ row 3 1 ∷ row 16 0 ∷ row 3 0 ∷ []) ∷
    on_main 0 (row 3 1 ∷ row 15 1 ∷ row 16 0 ∷ row 3 0 ∷ []) ∷
    on_code 0 (row 0 2 ∷ row 2 0 ∷ row 1 0 ∷ row 1 257 ∷ row 15 1 ∷ row 16 0 ∷ row 3 0 ∷ []) ∷
    on_main 0 (row 15 1 ∷ row 16 0 ∷ row 3 0 ∷ row 2 1 ∷ []) ∷
    on_code 0 (row 2 5 ∷ row 0 2 ∷ row 1 0 ∷ row 1 257 ∷ row 15 1 ∷ row 16 0 ∷ row 3 0 ∷ []) ∷
    on_code 0 (row 0 2 ∷ row 1 0 ∷ row 15 1 ∷ row 16 0 ∷ row 3 0 ∷ []) ∷
    on_main 0 (row 1 2 ∷ row 15 1 ∷ row 16 0 ∷ row 3 0 ∷ []) ∷
    on_main 0 (row 15 1 ∷ []) ∷
    on_main 0 (row 15 1 ∷ row 16 0 ∷ row 3 0 ∷ row 15 0 ∷ []) ∷
    on_code 0 (row 0 2 ∷ []) ∷
    on_main 0 (row 15 256 ∷ row 16 0 ∷ row 3 0 ∷ []) ∷
    on_main 0 (row 15 1 ∷ row 16 1 ∷ row 3 0 ∷ []) ∷
    on_main 0 (row 15 1 ∷ row 16 0 ∷ row 3 256 ∷ []) ∷
    on_main 0 (row 9 4354 ∷ row 16 0 ∷ row 3 0 ∷ []) ∷
    on_main 0 (row 9 262146 ∷ row 15 1 ∷ row 16 0 ∷ row 3 0 ∷ []) ∷
    on_main 0 (row 8 8194 ∷ row 16 0 ∷ row 3 0 ∷ []) ∷
    on_main 0 (row 7 2 ∷ row 3 0 ∷ row 16 0 ∷ row 3 0 ∷ []) ∷
    on_main 0 (row 22 2 ∷ row 16 0 ∷ row 3 0 ∷ []) ∷
    on_main 0 (row 8 258 ∷ row 16 0 ∷ row 3 0 ∷ []) ∷
    on_main 0 (row 8 258 ∷ row 15 1 ∷ row 16 0 ∷ row 3 2 ∷ row 0 9 ∷ row 16 0 ∷ row 2 0 ∷ []) ∷
    on_main 0 (row 8 258 ∷ row 3 0 ∷ row 15 1 ∷ row 16 0 ∷ row 3 2 ∷ row 0 9 ∷ row 16 0 ∷ row 2 0 ∷ []) ∷ []
    ≡
    lines 6 ∷ at_line 4 ∷ at_line 3 ∷ at_line 3 ∷ at_line 2 ∷ at_line 0 ∷ at_line 4 ∷ at_line 0 ∷ at_line 2 ∷
    at_line 3 ∷ at_line 4 ∷ at_line 6 ∷ at_line 1 ∷ at_line 3 ∷ at_line 4 ∷ at_line 4 ∷ at_line 3 ∷ at_line 3 ∷
    at_line 3 ∷ at_line 3 ∷ at_line 3 ∷ at_line 3 ∷ at_line 7 ∷ at_line 8 ∷ []

-- Main's shape and a stated depth above 4. A sum of an array, a number released and retained, a name that is not bound,
-- one bound twice, a line's own name; a parameter, a reduce's second name and a name of the other branch bound again. A
-- name of a branch outside it, of a pass outside it, a line's own in its tree. A body's depth, the branches', a
-- filter's and a reduce's tree's, a map's of depth 4, an array of depth 2 that is to be rewritten. Parameters may have
-- any names.
unfoldable pub depths : Type 0
depths =
    on_main 1 (row 15 1 ∷ row 16 0 ∷ row 3 0 ∷ []) ∷
    on_main 5 (row 15 1 ∷ row 16 0 ∷ row 3 0 ∷ []) ∷
    on_code 0 (row 0 1 ∷ row 1 0 ∷ row 16 0 ∷ row 3 0 ∷ []) ∷
    on_main 0 (row 4 2 ∷ row 3 0 ∷ row 3 1 ∷ row 15 1 ∷ row 16 0 ∷ row 3 0 ∷ []) ∷
    on_main 0 (row 15 0 ∷ row 15 1 ∷ row 16 0 ∷ row 3 0 ∷ []) ∷
    on_main 0 (row 14 0 ∷ row 15 1 ∷ row 16 0 ∷ row 3 0 ∷ []) ∷
    on_main 0 (row 15 9 ∷ row 15 1 ∷ row 16 0 ∷ row 3 0 ∷ []) ∷
    on_main 0 (row 4 0 ∷ row 3 0 ∷ row 3 0 ∷ row 15 1 ∷ row 16 0 ∷ row 3 0 ∷ []) ∷
    on_main 0 (row 4 2 ∷ row 3 0 ∷ row 3 2 ∷ row 15 1 ∷ row 16 0 ∷ row 3 0 ∷ []) ∷
    on_code 0 (row 0 2 ∷ row 1 0 ∷ row 1 256 ∷ row 16 0 ∷ row 3 0 ∷ []) ∷
    on_code 0 (row 0 2 ∷ row 1 1 ∷ row 1 257 ∷ row 16 0 ∷ row 3 0 ∷ []) ∷
    on_code 1 (
    row 0 258 ∷ row 1 256 ∷ row 1 257 ∷ row 20 197378 ∷ row 3 0 ∷ row 3 1 ∷ row 16 0 ∷ row 3 3 ∷ row 15 1 ∷
    row 16 0 ∷ row 3 2 ∷ []) ∷
    on_main 0 (
    row 12 2 ∷ row 3 0 ∷ row 4 3 ∷ row 3 0 ∷ row 3 0 ∷ row 16 0 ∷ row 3 3 ∷ row 4 3 ∷ row 3 0 ∷ row 3 0 ∷ row 16 0 ∷
    row 3 3 ∷ row 15 1 ∷ row 16 0 ∷ row 3 2 ∷ []) ∷
    on_main 0 (
    row 12 2 ∷ row 3 0 ∷ row 4 3 ∷ row 3 0 ∷ row 3 0 ∷ row 16 0 ∷ row 3 3 ∷ row 16 0 ∷ row 3 0 ∷ row 15 1 ∷
    row 16 0 ∷ row 3 3 ∷ []) ∷
    on_main 0 (row 13 770 ∷ row 3 1 ∷ row 16 0 ∷ row 3 3 ∷ row 15 2 ∷ row 15 1 ∷ row 16 0 ∷ row 3 3 ∷ []) ∷
    on_main 0 (row 12 2 ∷ row 3 0 ∷ row 16 0 ∷ row 3 2 ∷ row 16 0 ∷ row 3 0 ∷ row 15 1 ∷ row 16 0 ∷ row 3 2 ∷ []) ∷
    on_main 0 (row 15 1 ∷ row 16 0 ∷ row 3 1 ∷ []) ∷
    on_main 0 (row 12 2 ∷ row 3 0 ∷ row 16 0 ∷ row 3 0 ∷ row 16 0 ∷ row 3 1 ∷ row 15 1 ∷ row 16 0 ∷ row 3 2 ∷ []) ∷
    on_main 0 (row 19 770 ∷ row 3 1 ∷ row 16 0 ∷ row 3 1 ∷ row 15 1 ∷ row 15 2 ∷ row 16 0 ∷ row 3 0 ∷ []) ∷
    on_main 0 (row 20 262914 ∷ row 3 0 ∷ row 3 1 ∷ row 16 0 ∷ row 3 1 ∷ row 15 1 ∷ row 16 0 ∷ row 3 2 ∷ []) ∷
    on_code 4 (
    row 0 1026 ∷ row 1 1024 ∷ row 1 257 ∷ row 13 770 ∷ row 3 1 ∷ row 14 0 ∷ row 16 0 ∷ row 3 0 ∷ row 15 2 ∷
    row 15 1 ∷ row 16 0 ∷ row 3 0 ∷ []) ∷
    on_main 0 (
    row 9 65794 ∷ row 3 1 ∷ row 21 1027 ∷ row 3 2 ∷ row 16 0 ∷ row 2 0 ∷ row 15 3 ∷ row 16 0 ∷ row 3 0 ∷ []) ∷
    on_main 0 (row 15 1 ∷ row 16 0 ∷ row 3 0 ∷ row 0 1 ∷ row 1 263 ∷ row 11 3 ∷ row 3 7 ∷ row 16 0 ∷ row 3 3 ∷ []) ∷
    on_main 0 (
    row 15 1 ∷ row 16 0 ∷ row 3 0 ∷ row 0 2 ∷ row 1 263 ∷ row 1 7 ∷ row 11 3 ∷ row 3 7 ∷ row 16 0 ∷ row 3 3 ∷ []) ∷ []
    ≡
    at_line 0 ∷ at_line 0 ∷ at_line 0 ∷ at_line 3 ∷ at_line 3 ∷ at_line 3 ∷ at_line 3 ∷ at_line 3 ∷ at_line 3 ∷
    at_line 2 ∷ at_line 2 ∷ at_line 3 ∷ at_line 10 ∷ at_line 13 ∷ at_line 9 ∷ at_line 5 ∷ at_line 4 ∷ at_line 7 ∷
    at_line 5 ∷ at_line 6 ∷ at_line 6 ∷ at_line 5 ∷ lines 12 ∷ at_line 8 ∷ []

-- The readings kept over the end, released twice, read after their release; retained and then released twice. The
-- branches differ. A name at an owned and a borrowed place of one call wants two holds. A pass that spends its array's
-- last hold, one that keeps a hold more, and passes within passes over one array. A map that rewrites spends its array
-- before its tree. An element that is retained straight after, never, and too late; a reduce's second name after its
-- first. A reduce's first name holds one and none at the end. A branch may retain the array of a pass around it. A name
-- of a branch that holds at its end; a parameter that is released is owned by then, one that is retained too.
unfoldable pub holds : Type 0
holds =
    on_main 0 (row 16 0 ∷ row 3 0 ∷ []) ∷
    on_main 0 (row 15 1 ∷ row 15 1 ∷ row 16 0 ∷ row 3 0 ∷ []) ∷
    on_main 0 (row 15 1 ∷ row 11 2 ∷ row 3 1 ∷ row 16 0 ∷ row 3 2 ∷ []) ∷
    on_main 0 (row 14 1 ∷ row 15 1 ∷ row 11 2 ∷ row 3 1 ∷ row 15 1 ∷ row 16 0 ∷ row 3 2 ∷ []) ∷
    on_main 0 (row 12 2 ∷ row 3 0 ∷ row 16 0 ∷ row 3 0 ∷ row 15 1 ∷ row 16 0 ∷ row 3 0 ∷ row 16 0 ∷ row 3 2 ∷ []) ∷
    on_main 0 (
    row 14 1 ∷ row 8 258 ∷ row 3 1 ∷ row 3 1 ∷ row 15 1 ∷ row 16 0 ∷ row 3 2 ∷ row 0 2 ∷ row 1 256 ∷ row 1 257 ∷
    row 11 2 ∷ row 3 0 ∷ row 15 1 ∷ row 16 0 ∷ row 3 2 ∷ []) ∷
    on_main 0 (
    row 8 258 ∷ row 3 1 ∷ row 3 1 ∷ row 16 0 ∷ row 3 2 ∷ row 0 2 ∷ row 1 256 ∷ row 1 257 ∷ row 11 2 ∷ row 3 0 ∷
    row 15 1 ∷ row 16 0 ∷ row 3 2 ∷ []) ∷
    on_main 0 (row 13 770 ∷ row 3 1 ∷ row 15 1 ∷ row 16 0 ∷ row 3 3 ∷ row 15 2 ∷ row 16 0 ∷ row 3 0 ∷ []) ∷
    on_main 0 (
    row 13 770 ∷ row 3 1 ∷ row 14 1 ∷ row 16 0 ∷ row 3 3 ∷ row 15 1 ∷ row 15 1 ∷ row 15 2 ∷ row 16 0 ∷ row 3 0 ∷ []) ∷
    on_main 0 (
    row 13 770 ∷ row 3 1 ∷ row 13 1284 ∷ row 3 1 ∷ row 16 0 ∷ row 3 5 ∷ row 15 4 ∷ row 16 0 ∷ row 3 3 ∷ row 15 1 ∷
    row 15 2 ∷ row 16 0 ∷ row 3 0 ∷ []) ∷
    on_main 0 (row 21 770 ∷ row 3 1 ∷ row 16 0 ∷ row 3 3 ∷ row 15 2 ∷ row 16 0 ∷ row 3 0 ∷ []) ∷
    on_main 0 (row 21 770 ∷ row 3 1 ∷ row 16 0 ∷ row 3 3 ∷ row 15 1 ∷ row 15 2 ∷ row 16 0 ∷ row 3 0 ∷ []) ∷
    on_main 0 (row 21 770 ∷ row 3 1 ∷ row 11 4 ∷ row 3 1 ∷ row 16 0 ∷ row 3 3 ∷ row 15 2 ∷ row 16 0 ∷ row 3 0 ∷ []) ∷
    on_main 0 (
    row 9 65794 ∷ row 3 1 ∷ row 10 3 ∷ row 3 2 ∷ row 2 0 ∷ row 14 3 ∷ row 15 2 ∷ row 11 4 ∷ row 3 3 ∷ row 15 3 ∷
    row 16 0 ∷ row 3 0 ∷ []) ∷
    on_main 0 (row 9 65794 ∷ row 3 1 ∷ row 10 3 ∷ row 3 2 ∷ row 2 0 ∷ row 15 2 ∷ row 16 0 ∷ row 3 0 ∷ []) ∷
    on_main 0 (
    row 9 65794 ∷ row 3 1 ∷ row 10 3 ∷ row 3 2 ∷ row 2 0 ∷ row 15 2 ∷ row 14 3 ∷ row 15 3 ∷ row 16 0 ∷ row 3 0 ∷ []) ∷
    on_code 2 (
    row 0 514 ∷ row 1 512 ∷ row 1 257 ∷ row 9 65794 ∷ row 3 1 ∷ row 20 328707 ∷ row 3 0 ∷ row 3 2 ∷ row 14 5 ∷
    row 15 5 ∷ row 16 0 ∷ row 3 4 ∷ row 15 2 ∷ row 16 0 ∷ row 3 3 ∷ []) ∷
    on_code 2 (
    row 0 514 ∷ row 1 512 ∷ row 1 257 ∷ row 9 65794 ∷ row 3 1 ∷ row 20 328707 ∷ row 3 0 ∷ row 3 2 ∷ row 14 4 ∷
    row 14 5 ∷ row 15 4 ∷ row 15 5 ∷ row 16 0 ∷ row 3 4 ∷ row 15 2 ∷ row 16 0 ∷ row 3 3 ∷ []) ∷
    on_code 1 (
    row 0 258 ∷ row 1 256 ∷ row 1 257 ∷ row 20 262914 ∷ row 3 0 ∷ row 3 1 ∷ row 9 5 ∷ row 16 0 ∷ row 3 5 ∷ row 15 1 ∷
    row 16 0 ∷ row 3 2 ∷ []) ∷
    on_main 0 (
    row 13 770 ∷ row 3 1 ∷ row 12 4 ∷ row 2 0 ∷ row 14 1 ∷ row 16 0 ∷ row 2 0 ∷ row 14 1 ∷ row 16 0 ∷ row 2 0 ∷
    row 15 1 ∷ row 16 0 ∷ row 3 4 ∷ row 15 1 ∷ row 15 2 ∷ row 16 0 ∷ row 3 0 ∷ []) ∷
    on_main 0 (
    row 12 2 ∷ row 3 0 ∷ row 9 3 ∷ row 16 0 ∷ row 3 0 ∷ row 16 0 ∷ row 3 0 ∷ row 15 1 ∷ row 16 0 ∷ row 3 2 ∷ []) ∷
    on_main 0 (
    row 8 258 ∷ row 3 1 ∷ row 15 1 ∷ row 16 0 ∷ row 3 2 ∷ row 0 1 ∷ row 1 256 ∷ row 11 1 ∷ row 3 0 ∷ row 16 0 ∷
    row 3 1 ∷ []) ∷
    on_main 0 (
    row 8 258 ∷ row 3 1 ∷ row 16 0 ∷ row 3 2 ∷ row 0 1 ∷ row 1 256 ∷ row 11 1 ∷ row 3 0 ∷ row 15 0 ∷ row 16 0 ∷
    row 3 1 ∷ []) ∷
    on_main 0 (
    row 8 258 ∷ row 3 1 ∷ row 15 1 ∷ row 16 0 ∷ row 3 2 ∷ row 0 1 ∷ row 1 256 ∷ row 14 0 ∷ row 15 0 ∷ row 15 0 ∷
    row 16 0 ∷ row 2 1 ∷ []) ∷ []
    ≡
    at_line 3 ∷ at_line 4 ∷ at_line 4 ∷ lines 10 ∷ at_line 8 ∷ lines 18 ∷ at_line 3 ∷ at_line 5 ∷ at_line 6 ∷
    lines 16 ∷ lines 10 ∷ at_line 7 ∷ at_line 5 ∷ lines 15 ∷ lines 11 ∷ at_line 9 ∷ lines 15 ∷ at_line 9 ∷
    at_line 7 ∷ lines 20 ∷ at_line 6 ∷ lines 14 ∷ lines 14 ∷ at_line 5 ∷ []

-- Form before depth before holds, wherever the faults stand; main's shape, at line 0, is of the second test too.
unfoldable pub in_order : Type 0
in_order =
    on_main 0 (row 15 0 ∷ row 15 1 ∷ row 15 1 ∷ row 99 0 ∷ row 16 0 ∷ row 3 0 ∷ []) ∷
    on_code 0 (row 0 1 ∷ row 1 0 ∷ row 16 0 ∷ row 3 0 ∷ row 99 0 ∷ []) ∷
    on_main 0 (row 15 1 ∷ row 15 1 ∷ row 15 0 ∷ row 16 0 ∷ row 3 0 ∷ []) ∷
    on_main 0 (row 15 1 ∷ row 15 1 ∷ row 14 1 ∷ row 16 0 ∷ row 3 0 ∷ []) ∷ []
    ≡
    at_line 6 ∷ at_line 4 ∷ at_line 5 ∷ at_line 4 ∷ []

-- Closing zeros are no code, and a last line 3/0 is. No line at all. Arrays of two lengths: what is past the shorter is
-- not looked at, and code that goes on there is at fault at the first line past it, if no line before it is.
unfoldable pub closing : Type 0
closing =
    (engine_check_code (0 ∷ 1 ∷ 1 ∷ 15 ∷ 16 ∷ 3 ∷ 0 ∷ 0 ∷ []) (operands_of least_main ++ (pos 0 ∷ [])) 0).answer ∷
    on_code 0 [] ∷ (engine_check_code (0 ∷ 0 ∷ []) (pos 0 ∷ []) 0).answer ∷
    (engine_check_code (kinds_of least_main) (take 5 (operands_of least_main)) 0).answer ∷
    (engine_check_code (take 5 (kinds_of least_main)) (take 5 (operands_of least_main) ++ (pos 9 ∷ [])) 0).answer ∷
    (engine_check_code (kinds_of least_main ++ (0 ∷ 3 ∷ [])) (operands_of least_main) 0).answer ∷
    (engine_check_code (kinds_of least_main ++ (2 ∷ [])) (operands_of least_main) 0).answer ∷
    (engine_check_code (0 ∷ 1 ∷ 1 ∷ 15 ∷ 16 ∷ []) (pos 2 ∷ pos 0 ∷ pos 257 ∷ pos 1 ∷ []) 0).answer ∷ []
    ≡
    lines 6 ∷ at_line 0 ∷ at_line 0 ∷ at_line 5 ∷ at_line 5 ∷ at_line 6 ∷ at_line 6 ∷ at_line 4 ∷ []

-- ifs within ifs, so that a tree is n deep below the present one; the name after x is bound next
unfoldable pub ifs : ℕ → ℕ → List Row
ifs zero x = row 16 0 ∷ row 3 0 ∷ []
ifs (suc n) x =
    row 12 x ∷ row 3 0 ∷ (ifs n (x + 1) ++ (row 16 0 ∷ row 3 0 ∷ row 16 0 ∷ row 3 x ∷ []))

-- so many functions that give 0
unfoldable pub functions : ℕ → List Row
functions zero = []
functions (suc n) = row 0 0 ∷ row 16 0 ∷ row 2 0 ∷ functions n

-- 64 trees deep and no more, and 32 functions: the 65th tree at its first line, the 33rd function at its line
unfoldable pub within_limits : Type 0
within_limits =
    on_main 0 (row 15 1 ∷ ifs 63 2) ∷ on_main 0 (row 15 1 ∷ ifs 64 2) ∷
    on_code 0 (least_main ++ functions 31) ∷ on_code 0 (least_main ++ functions 32) ∷ []
    ≡ lines 384 ∷ at_line 132 ∷ lines 99 ∷ at_line 99 ∷ []

-- 4,096 lines are looked at; and a name may hold more references than a byte counts
unfoldable pub at_the_limit : Type 0
at_the_limit =
    (goes_on (replicate 4096 14) (replicate 4096 (pos 1)) ∷ goes_on (replicate 4097 14) (replicate 4097 (pos 1)) ∷ []
    ≡ false ∷ true ∷ [])
    × (length (lent_rows (replicate 4097 14) (replicate 4097 (pos 1))) ∷
    on_main 0 (replicate 300 (row 14 1) ++ (replicate 301 (row 15 1) ++ (row 16 0 ∷ row 3 0 ∷ []))) ∷ []
    ≡ 4096 ∷ lines 606 ∷ [])

-- ---- code from the translator

-- what the checker answers to the code of a script, beside the lines that this has
pub record Passed : Type 0 where
  pub answer : ℕ
  pub lines : ℕ

abbrev pub passed : ℕ → ℕ → List Row → Passed
passed d n nodes = let rs = code_in n nodes in record { answer = on_code d rs; lines = length rs }

abbrev pub passes : ℕ → Passed
passes n = record { answer = lines n; lines = n }

-- the printed script of document 01
unfoldable pub printed_passes : Type 0
printed_passes = on_code 1 (code_of (judged printed_file)) ≡ lines 33

unfoldable pub translated_passes : Type 0
translated_passes =
    passed 2 2 same_argument_twice ∷
    passed 1 1 outer_array_in_map ∷
    passed 2 1 index_of_arrays ∷
    passed 1 1 used_in_one_branch ∷
    passed 1 1 shadowed_name ∷
    passed 1 1 unused_index ∷
    passed 2 1 arrays_in_maps ∷
    passed 1 1 counting ∷
    passed 2 1 repeating ∷
    passed 2 1 sieving ∷
    passed 0 1 summing ∷
    passed 2 1 folding ∷
    passed 1 1 start_in_the_tree ∷
    passed 1 1 hidden_first ∷
    passed 1 1 nested ∷
    passed 1 3 to_and_fro ∷
    passed 1 2 handing_over ∷
    passed 0 2 calling_main ∷
    passed 1 2 owned_and_borrowed ∷
    passed 0 2 both_borrowed ∷
    passed 0 2 own_literal ∷
    passed 0 6 five_down ∷
    passed 1 1 dying_array ∷
    passed 1 1 map_of_a_map ∷
    passed 1 1 empty_array ∷
    passed 1 1 totals_or_readings ∷
    passed 2 1 kept_beside ∷
    passed 2 1 live_afterwards ∷
    passed 1 1 in_its_own_tree ∷
    passed 1 2 borrowed_array ∷
    passed 2 1 outer_array_of_passes ∷ []
    ≡
    passes 18 ∷ passes 19 ∷ passes 15 ∷ passes 21 ∷ passes 13 ∷ passes 11 ∷ passes 30 ∷ passes 12 ∷ passes 13 ∷
    passes 23 ∷ passes 14 ∷ passes 28 ∷ passes 21 ∷ passes 15 ∷ passes 29 ∷ passes 67 ∷ passes 46 ∷ passes 26 ∷
    passes 29 ∷ passes 29 ∷ passes 17 ∷ passes 38 ∷ passes 13 ∷ passes 20 ∷ passes 15 ∷ passes 25 ∷ passes 27 ∷
    passes 16 ∷ passes 16 ∷ passes 20 ∷ passes 21 ∷ []
