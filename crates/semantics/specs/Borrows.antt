-- Document 02, order 7: the parameters that are only read, as computed rows: tables, the code of some scripts, what is
-- seen of their deliveries, and a stop 25 with what a caller keeps.
use Rattle.std.specs.Prelude.{ℕ, true, false, ◌≡◌, List, [], ◌∷◌, pos, length, take}
use Rattle.semantics.specs.Value.{num, numbers}
use Rattle.semantics.specs.Syntax.{Function}
use Rattle.semantics.specs.Code.{Row, row}
use Rattle.semantics.specs.Borrow.{Table, all_borrowed, reworked, borrowed}
use Rattle.semantics.specs.Calls.{packed, Verdict, accepted, refused, judged}
use Rattle.semantics.specs.Slips.{file_of, seeing, as_told}
use Rattle.semantics.specs.Second.{code_of}
use Rattle.semantics.specs.Watched.{dry_in}

-- ---- tables

-- main(t: 1, r: 1): 1 = f(r, t, r, 2)
-- f(a: 1, b: 1, c: 1, n: 0): 1 = if 0 < n then g(b, a, c, n - 1) else {length(c)}
-- g(a: 1, b: 1, c: 1, n: 0): 1 = if 0 < n then f(a, b, c, n - 1) else a
unfoldable pub to_and_fro : List Row
to_and_fro =
    row 0 258 ∷ row 1 256 ∷ row 1 257 ∷ row 8 1025 ∷ row 3 1 ∷ row 3 0 ∷ row 3 1 ∷ row 2 2 ∷
    row 0 260 ∷ row 1 256 ∷ row 1 257 ∷ row 1 258 ∷ row 1 3 ∷ row 12 0 ∷ row 6 0 ∷ row 2 0 ∷ row 3 3 ∷
    row 8 1026 ∷ row 3 1 ∷ row 3 0 ∷ row 3 2 ∷ row 5 0 ∷ row 3 3 ∷ row 2 1 ∷ row 9 1 ∷ row 11 0 ∷ row 3 2 ∷
    row 0 260 ∷ row 1 256 ∷ row 1 257 ∷ row 1 258 ∷ row 1 3 ∷ row 12 0 ∷ row 6 0 ∷ row 2 0 ∷ row 3 3 ∷
    row 8 1025 ∷ row 3 0 ∷ row 3 1 ∷ row 3 2 ∷ row 5 0 ∷ row 3 3 ∷ row 2 1 ∷ row 3 0 ∷ []

-- main(t: 1, r: 1): 1 = f(r, r, r, r, r)
-- f(a: 1, b: 1, c: 1, d: 1, e: 1): 1 = if e[0] then reduce x, y from a over {b}: x else c
unfoldable pub handing_over : List Row
handing_over =
    row 0 258 ∷ row 1 256 ∷ row 1 257 ∷ row 8 1281 ∷ row 3 1 ∷ row 3 1 ∷ row 3 1 ∷ row 3 1 ∷ row 3 1 ∷
    row 0 261 ∷ row 1 256 ∷ row 1 257 ∷ row 1 258 ∷ row 1 259 ∷ row 1 260 ∷
    row 12 0 ∷ row 10 0 ∷ row 3 4 ∷ row 2 0 ∷ row 20 1541 ∷ row 3 0 ∷ row 9 257 ∷ row 3 1 ∷ row 3 5 ∷ row 3 2 ∷ []

-- main(t: 0, r: 1): 0 = if 0 < t then f(r) else length(r); f(a: 1): 0 = main(0, a)
unfoldable pub calling_main : List Row
calling_main =
    row 0 2 ∷ row 1 0 ∷ row 1 257 ∷ row 12 0 ∷ row 6 0 ∷ row 2 0 ∷ row 3 0 ∷ row 8 257 ∷ row 3 1 ∷ row 11 0 ∷ row 3 1 ∷
    row 0 1 ∷ row 1 256 ∷ row 8 512 ∷ row 2 0 ∷ row 3 0 ∷ []

-- of a table the parameters of some functions
unfoldable pub of_parameters : List Function → Table → Table
of_parameters [] T = []
of_parameters (g ∷ gs) [] = []
of_parameters (g ∷ gs) (r ∷ T) = take (length g.parameters) r ∷ of_parameters gs T

-- the table of a script, and the one after a single round
unfoldable pub tables_of : Verdict → List Table
tables_of (accepted fs) = of_parameters fs (borrowed fs) ∷ of_parameters fs (reworked fs all_borrowed) ∷ []
tables_of (refused n p) = []

-- Of f and g only g's a is owned at once; through it f's b, then g's b, then f's a. A reduce's start, a literal's
-- element and an end's atom are owned; what is only read and what is not used are borrowed. Main owns both of its
-- parameters, so what it is called with is owned.
unfoldable pub borrowed_tables : Type 0
borrowed_tables =
    tables_of (judged (file_of 3 to_and_fro)) ∷ tables_of (judged (file_of 2 handing_over)) ∷
    tables_of (judged (file_of 2 calling_main)) ∷ []
    ≡
    (((false ∷ false ∷ []) ∷ (false ∷ false ∷ true ∷ true ∷ []) ∷ (false ∷ false ∷ true ∷ true ∷ []) ∷ []) ∷
    ((false ∷ false ∷ []) ∷ (true ∷ true ∷ true ∷ true ∷ []) ∷ (false ∷ true ∷ true ∷ true ∷ []) ∷ []) ∷ []) ∷
    (((false ∷ false ∷ []) ∷ (false ∷ false ∷ false ∷ true ∷ true ∷ []) ∷ []) ∷
    ((false ∷ false ∷ []) ∷ (false ∷ false ∷ false ∷ true ∷ true ∷ []) ∷ []) ∷ []) ∷
    (((false ∷ false ∷ []) ∷ (false ∷ []) ∷ []) ∷ ((false ∷ false ∷ []) ∷ (true ∷ []) ∷ []) ∷ []) ∷ []

-- ---- code

-- main(t: 0, r: 1): 0 = f(r); f(a: 1): 0 = 0
unfoldable pub not_used : List Row
not_used = row 0 2 ∷ row 1 0 ∷ row 1 257 ∷ row 8 257 ∷ row 3 1 ∷ row 0 1 ∷ row 1 256 ∷ row 2 0 ∷ []

-- main(t: 1, r: 1): 1 = f(r, r); f(a: 1, b: 1): 1 = if length(b) < 2 then a else {}
unfoldable pub owned_and_borrowed : List Row
owned_and_borrowed =
    row 0 258 ∷ row 1 256 ∷ row 1 257 ∷ row 8 513 ∷ row 3 1 ∷ row 3 1 ∷
    row 0 258 ∷ row 1 256 ∷ row 1 257 ∷ row 12 0 ∷ row 6 0 ∷ row 11 0 ∷ row 3 1 ∷ row 2 2 ∷ row 3 0 ∷ row 9 0 ∷ []

-- main(t: 0, r: 1): 0 = f(r, r, t); f(a: 1, b: 1, n: 0): 0 = if 0 < n then length(a) else length(b)
unfoldable pub both_borrowed : List Row
both_borrowed =
    row 0 2 ∷ row 1 0 ∷ row 1 257 ∷ row 8 769 ∷ row 3 1 ∷ row 3 1 ∷ row 3 0 ∷
    row 0 3 ∷ row 1 256 ∷ row 1 257 ∷ row 1 2 ∷ row 12 0 ∷ row 6 0 ∷ row 2 0 ∷ row 3 2 ∷
    row 11 0 ∷ row 3 0 ∷ row 11 0 ∷ row 3 1 ∷ []

-- main(t: 0, r: 1): 0 = f(t); f(a: 0): 0 = length({7})
unfoldable pub own_literal : List Row
own_literal =
    row 0 2 ∷ row 1 0 ∷ row 1 257 ∷ row 8 257 ∷ row 3 0 ∷ row 0 1 ∷ row 1 0 ∷ row 11 0 ∷ row 9 1 ∷ row 2 7 ∷ []

-- main(t: 0, r: 1): 0 = f(r), and so on down to a fifth function, which is the array's length
unfoldable pub five_down : List Row
five_down =
    row 0 2 ∷ row 1 0 ∷ row 1 257 ∷ row 8 257 ∷ row 3 1 ∷ row 0 1 ∷ row 1 256 ∷ row 8 258 ∷ row 3 0 ∷
    row 0 1 ∷ row 1 256 ∷ row 8 259 ∷ row 3 0 ∷ row 0 1 ∷ row 1 256 ∷ row 8 260 ∷ row 3 0 ∷
    row 0 1 ∷ row 1 256 ∷ row 8 261 ∷ row 3 0 ∷ row 0 1 ∷ row 1 256 ∷ row 11 0 ∷ row 3 0 ∷ []

unfoldable pub code_in : ℕ → List Row → List Row
code_in n nodes = code_of (judged (file_of n nodes))

-- A parameter that is not used is not released. A name at both kinds of places is retained for the owned one and
-- released after the call; at borrowed places alone it is not retained, and released once. No branch releases what is
-- borrowed. A name past the parameters is released, whatever the table has at its place. An array that is passed down
-- five calls is nowhere retained.
unfoldable pub borrowed_code : Type 0
borrowed_code =
    code_in 2 not_used ∷ code_in 2 owned_and_borrowed ∷ code_in 2 both_borrowed ∷ code_in 2 own_literal ∷
    code_in 6 five_down ∷ []
    ≡
    (row 0 2 ∷ row 1 0 ∷ row 1 257 ∷ row 8 258 ∷ row 3 1 ∷ row 15 1 ∷ row 16 0 ∷ row 3 2 ∷
    row 0 1 ∷ row 1 256 ∷ row 16 0 ∷ row 2 0 ∷ []) ∷
    (row 0 258 ∷ row 1 256 ∷ row 1 257 ∷ row 15 0 ∷ row 14 1 ∷ row 8 258 ∷ row 3 1 ∷ row 3 1 ∷ row 15 1 ∷ row 16 0 ∷
    row 3 2 ∷
    row 0 258 ∷ row 1 256 ∷ row 1 257 ∷ row 11 2 ∷ row 3 1 ∷ row 6 3 ∷ row 3 2 ∷ row 2 2 ∷ row 12 4 ∷ row 3 3 ∷
    row 16 0 ∷ row 3 0 ∷ row 15 0 ∷ row 9 5 ∷ row 16 0 ∷ row 3 5 ∷ row 16 0 ∷ row 3 4 ∷ []) ∷
    (row 0 2 ∷ row 1 0 ∷ row 1 257 ∷ row 8 258 ∷ row 3 1 ∷ row 3 1 ∷ row 3 0 ∷ row 15 1 ∷ row 16 0 ∷ row 3 2 ∷
    row 0 3 ∷ row 1 256 ∷ row 1 257 ∷ row 1 2 ∷ row 6 3 ∷ row 2 0 ∷ row 3 2 ∷ row 12 4 ∷ row 3 3 ∷
    row 11 5 ∷ row 3 0 ∷ row 16 0 ∷ row 3 5 ∷ row 11 6 ∷ row 3 1 ∷ row 16 0 ∷ row 3 6 ∷ row 16 0 ∷ row 3 4 ∷ []) ∷
    (row 0 2 ∷ row 1 0 ∷ row 1 257 ∷ row 15 1 ∷ row 8 258 ∷ row 3 0 ∷ row 16 0 ∷ row 3 2 ∷
    row 0 1 ∷ row 1 0 ∷ row 9 257 ∷ row 2 7 ∷ row 11 2 ∷ row 3 1 ∷ row 15 1 ∷ row 16 0 ∷ row 3 2 ∷ []) ∷
    (row 0 2 ∷ row 1 0 ∷ row 1 257 ∷ row 8 258 ∷ row 3 1 ∷ row 15 1 ∷ row 16 0 ∷ row 3 2 ∷
    row 0 1 ∷ row 1 256 ∷ row 8 513 ∷ row 3 0 ∷ row 16 0 ∷ row 3 1 ∷
    row 0 1 ∷ row 1 256 ∷ row 8 769 ∷ row 3 0 ∷ row 16 0 ∷ row 3 1 ∷
    row 0 1 ∷ row 1 256 ∷ row 8 1025 ∷ row 3 0 ∷ row 16 0 ∷ row 3 1 ∷
    row 0 1 ∷ row 1 256 ∷ row 8 1281 ∷ row 3 0 ∷ row 16 0 ∷ row 3 1 ∷
    row 0 1 ∷ row 1 256 ∷ row 11 1 ∷ row 3 0 ∷ row 16 0 ∷ row 3 1 ∷ []) ∷ []

-- ---- deliveries

-- The readings are freed after the calls that read them: the literal of the second script's second delivery takes its
-- cell while they are there.
unfoldable pub borrowed_deliveries : Type 0
borrowed_deliveries =
    seeing 6 five_down ((pos 5 ∷ pos 6 ∷ []) ∷ []) ∷
    seeing 2 owned_and_borrowed ((pos 5 ∷ []) ∷ (pos 5 ∷ pos 6 ∷ []) ∷ []) ∷ []
    ≡
    as_told (packed 0 7 6 0 ∷ []) (num (pos 2)) ∷
    as_told (packed 0 6 4 1 ∷ packed 0 5 5 1 ∷ []) (numbers []) ∷ []

-- ---- a stop 25

-- main(t: 1, r: 1): 1 = {length(f({9}))}; f(a: 1): 2 = map x over iota(length(a) + 5): {x}
unfoldable pub kept_by_the_caller : List Row
kept_by_the_caller =
    row 0 258 ∷ row 1 256 ∷ row 1 257 ∷ row 9 1 ∷ row 11 0 ∷ row 8 257 ∷ row 9 1 ∷ row 2 9 ∷
    row 0 513 ∷ row 1 256 ∷ row 13 1 ∷ row 17 0 ∷ row 4 0 ∷ row 11 0 ∷ row 3 0 ∷ row 2 5 ∷ row 9 1 ∷ row 3 1 ∷ []

-- The fourth pass's literal wants a cell. In use are the old totals (cell 0), the map's array (2), its result so far
-- (3, with 4, 5 and 6 below it), and the caller's {9} (1): the function is done with it, and so is the rest of the
-- caller, which only keeps it for the call's time.
unfoldable pub borrowed_dry : Type 0
borrowed_dry =
    dry_in (file_of 2 kept_by_the_caller) (judged (file_of 2 kept_by_the_caller))
    ≡ record {
      number = 25;
      left = 86;
      roots = 0 ∷ 1 ∷ 2 ∷ 3 ∷ [];
      missed = 0;
      missed_without = 1 ∷ 1 ∷ 1 ∷ 4 ∷ 0 ∷ [];
    }
