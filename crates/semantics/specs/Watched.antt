-- Computed rows for the parts of the machine that leave no word in a store: wrong code that touches a free cell, with
-- its log, and stops 25 with their roots: in passes, in branches and in a call, of code made by hand, and inside a map
-- inside a call, of a script.
use Rattle.std.specs.Prelude.{ℕ, zero, suc, ◌+◌, cond, false, ◌≡◌, List, [], ◌∷◌, ◌++◌, pos, replicate, ltb, eqb}
use Rattle.semantics.specs.Basics.{occurrences, updated}
use Rattle.semantics.specs.Outcome.{Outcome, done, stop, halt}
use Rattle.semantics.specs.Kinds.{call, literal, index, length_of, mapping, filtering, reducing, rewriting}
use Rattle.semantics.specs.Code.{Atom, number, name, leaf, if_else, loop, retain, release, Tree, end, line}
use Rattle.semantics.specs.Code.{Row, row}
use Rattle.semantics.specs.Live.{empty}
use Rattle.semantics.specs.Store.{Store, cell, cell_count, inner, opened, filled}
use Rattle.semantics.specs.Words.{store_of}
use Rattle.semantics.specs.Machine.{Frame, State, Callee, acquire, work, starting, state_of, program}
use Rattle.semantics.specs.Machine.{delivery}
use Rattle.semantics.specs.Calls.{Verdict, accepted, refused, judged, engine_open}
use Rattle.semantics.specs.Demands.{touched}
use Rattle.semantics.specs.Slips.{file_of}

-- ---- touches

-- Two cells: cell 0 holds one word, which is 1 too, and cell 1 is free. Name 0 is the array in cell 0, and name 1 has
-- the number of cell 1.
unfoldable pub half_free : Store
half_free = record {
  totals = pos 0;
  first = 1;
  cells = filled 1 (pos 1 ∷ []) ∷ (cell (opened 2 1) 1 ∷ []);
}

unfoldable pub stale : Frame
stale = updated (λ _. pos 0) 1 (pos 1)

-- the cells that a tree touches while they are free
unfoldable pub touched_by : Tree → List ℕ
touched_by t =
    touched (state_of (work (λ _ _ _. halt 22) (λ _ _. false) (λ _. 1) t empty [] stale (starting 9 half_free))).log

abbrev pub then_ends : Tree
then_ends = end (number (pos 0))

-- A length, an index and a map read the free cell; a map that would rewrite it reads it and looks at its count; it is
-- retained; it is released, by its name and as an element of cell 0. A map's tree releases the cell of its own result,
-- which is then filled while free. The tree of a map in place releases its array (cell 0, and with it cell 1 again),
-- which is then overwritten while free.
unfoldable pub touches_logged : Type 0
touches_logged =
    touched_by (line (leaf 2 length_of (name 1 ∷ [])) then_ends) ∷
    touched_by (line (leaf 2 index (name 1 ∷ number (pos 0) ∷ [])) then_ends) ∷
    touched_by (line (loop 2 mapping (3 ∷ []) (name 1 ∷ []) then_ends) then_ends) ∷
    touched_by (line (loop 2 rewriting (3 ∷ []) (name 1 ∷ []) then_ends) then_ends) ∷
    touched_by (line (retain 1) then_ends) ∷
    touched_by (line (release 1) then_ends) ∷
    touched_by (line (release 0) then_ends) ∷
    touched_by (line (loop 2 mapping (3 ∷ []) (name 0 ∷ []) (line (release 1) then_ends)) then_ends) ∷
    touched_by (line (loop 2 rewriting (3 ∷ []) (name 0 ∷ []) (line (release 0) then_ends)) then_ends) ∷
    touched_by (line (retain 0) (line (leaf 2 length_of (name 0 ∷ [])) then_ends)) ∷ []
    ≡
    (1 ∷ []) ∷ (1 ∷ []) ∷ (1 ∷ []) ∷ (1 ∷ 1 ∷ []) ∷ (1 ∷ []) ∷ (1 ∷ []) ∷ (1 ∷ []) ∷ (1 ∷ []) ∷ (1 ∷ 0 ∷ []) ∷ [] ∷ []

-- ---- the roots of a stop 25, of code made by hand

-- Two cells, both taken, each with one word. The names 0 and 1 are these arrays.
unfoldable pub none_free : Store
none_free = record { totals = pos 0; first = 2; cells = filled 0 (pos 7 ∷ []) ∷ (filled 0 (pos 7 ∷ []) ∷ []) }

-- a call that wants a cell at once
abbrev pub wanting_call : Callee
wanting_call R f ws = acquire R 0 ws

-- The roots of the stop 25 of a tree whose names up to 5 are arrays; no other stop has any. A function that it calls
-- borrows its second argument.
unfoldable pub roots_in : Tree → List ℕ
roots_in t =
    let run = work wanting_call (λ f i. eqb i 1) (λ x. cond (ltb x 6) 1 0) t empty [] (λ x. pos x) in
    (state_of (run (starting 9 none_free))).roots

-- a cell is wanted for some atoms
abbrev pub then_wants : List Atom → Tree
then_wants us = line (leaf 5 (literal 0) us) then_ends

-- In a reduce's pass its array (cell 1) is in use, and its start (0), which was handed over, is not.
unfoldable pub roots_in_a_reduce : Type 0
roots_in_a_reduce =
    roots_in (line (loop 2 reducing (3 ∷ 4 ∷ []) (name 0 ∷ name 1 ∷ []) (then_wants [])) then_ends) ≡ 1 ∷ []

-- In a call what the function borrows (1) is in use, and what it was handed (0) is not.
unfoldable pub roots_in_a_call : Type 0
roots_in_a_call = roots_in (line (leaf 2 (call 0) (name 0 ∷ name 1 ∷ [])) then_ends) ≡ 1 ∷ []

-- In both branches of an if what is used after it (1) is in use, and what one branch uses (0) in that one alone.
unfoldable pub roots_in_branches : Type 0
roots_in_branches =
    roots_in (line (if_else 2 (number (pos 1)) (then_wants (name 0 ∷ [])) (then_wants [])) (end (name 1))) ∷
    roots_in (line (if_else 2 (number (pos 0)) (then_wants (name 0 ∷ [])) (then_wants [])) (end (name 1))) ∷ []
    ≡ (0 ∷ 1 ∷ []) ∷ (1 ∷ []) ∷ []

-- In a reduce's pass its running value (0, the start) is in use by its name, 3. In a filter's pass its array (0) is,
-- and its result so far, which has the cell (1) that a release made free. In the pass of a map that rewrites, its
-- array (0) is, once more as the result in place; where the array has two references the result is a new cell (1).
unfoldable pub roots_in_passes : Type 0
roots_in_passes =
    roots_in (line (loop 2 reducing (3 ∷ 4 ∷ []) (name 0 ∷ name 1 ∷ []) (then_wants (name 3 ∷ []))) then_ends) ∷
    roots_in (line (release 1) (line (loop 2 filtering (3 ∷ []) (name 0 ∷ []) (then_wants [])) then_ends)) ∷
    roots_in (line (loop 2 rewriting (3 ∷ []) (name 0 ∷ []) (then_wants [])) then_ends) ∷
    roots_in (line (release 1) (line (retain 0)
    (line (loop 2 rewriting (3 ∷ []) (name 0 ∷ []) (then_wants [])) then_ends))) ∷ []
    ≡ (1 ∷ 0 ∷ []) ∷ (0 ∷ 1 ∷ []) ∷ (0 ∷ 0 ∷ []) ∷ (0 ∷ 1 ∷ []) ∷ []

-- ---- the roots of a stop 25, of a script

-- main(t: 1, r: 1): 1 = let a = {10} in let b = f(r[0]) in {length(b), a[0]}; f(n: 0): 3 = map x over {n, 6}: {{x}}
unfoldable pub map_in_a_call : List Row
map_in_a_call =
    row 0 258 ∷ row 1 256 ∷ row 1 257 ∷ row 7 2 ∷ row 9 1 ∷ row 2 10 ∷ row 7 3 ∷ row 8 257 ∷ row 10 0 ∷
    row 3 1 ∷ row 2 0 ∷ row 9 2 ∷ row 11 0 ∷ row 3 3 ∷ row 10 0 ∷ row 3 2 ∷ row 2 0 ∷
    row 0 769 ∷ row 1 0 ∷ row 13 1 ∷ row 9 2 ∷ row 3 0 ∷ row 2 6 ∷ row 9 257 ∷ row 9 1 ∷ row 3 1 ∷ []

-- cells and what they name, n links down
unfoldable pub reached_from : ℕ → Store → List ℕ → List ℕ
reached_from zero σ cs = cs
reached_from (suc n) σ [] = []
reached_from (suc n) σ (c ∷ cs) = reached_from n σ (c ∷ inner (cell σ c)) ++ reached_from (suc n) σ cs

-- how many of the taken cells up to c are not among some
unfoldable pub unreached_below : Store → List ℕ → ℕ → ℕ
unreached_below σ cs zero = 0
unreached_below σ cs (suc c) =
    cond (ltb 0 (cell σ c).count) (cond (eqb (occurrences c cs) 0) 1 0) 0 + unreached_below σ cs c

-- how many taken cells of a store are not reached from some roots
abbrev pub unreached : Store → List ℕ → ℕ
unreached σ roots = unreached_below σ (reached_from 4 σ roots) (cell_count σ)

-- a list without its element i
unfoldable pub without : ℕ → List ℕ → List ℕ
without i [] = []
without zero (c ∷ cs) = cs
without (suc i) (c ∷ cs) = c ∷ without i cs

pub record Dry : Type 0 where
  pub number : ℕ
  pub left : ℕ
  pub roots : List ℕ
  -- how many taken cells are not reached from the roots, and from the roots without each of them in turn
  pub missed : ℕ
  pub missed_without : List ℕ

unfoldable pub dry_of : Outcome State (Unit {0}) → Dry
dry_of (done _ s) = record { number = 0; left = s.left; roots = s.roots; missed = 0; missed_without = [] }
dry_of (stop n s) =
    let σ = s.store in
    let R = s.roots in
    record {
      number = n;
      left = s.left;
      roots = R;
      missed = unreached σ R;
      missed_without = unreached σ (without 0 R) ∷ unreached σ (without 1 R) ∷ unreached σ (without 2 R) ∷
          unreached σ (without 3 R) ∷ unreached σ (without 4 R) ∷ [];
    }

-- a delivery of two readings on a store of 7 cells just opened
unfoldable pub dry_in : List ℕ → Verdict → Dry
dry_in file (accepted fs) =
    let r = engine_open file (replicate 64 0) (replicate 64 (pos 0)) (replicate 113 (pos 0)) (replicate 29 0) in
    dry_of (delivery (program fs) (pos 5 ∷ pos 6 ∷ []) (starting 100 (store_of r.slots r.heads)))
dry_in file (refused n p) = record { number = n; left = 0; roots = []; missed = 0; missed_without = [] }

-- The eleventh step's literal wants a cell. In use are the old totals (cell 0), the caller's a (2), the map's array
-- (1), its result so far (3, with 4 and 5 below it) and the literal's atom (6); without any one of these starts a taken
-- cell is reached from none.
unfoldable pub dry_roots : Type 0
dry_roots =
    dry_in (file_of 2 map_in_a_call) (judged (file_of 2 map_in_a_call))
    ≡ record {
      number = 25;
      left = 89;
      roots = 0 ∷ 2 ∷ 1 ∷ 3 ∷ 6 ∷ [];
      missed = 0;
      missed_without = 1 ∷ 1 ∷ 1 ∷ 3 ∷ 1 ∷ [];
    }
